-- A move in the tables is `move_step` on their books, also after a crash.
-- Given here: the plan and the write are one step, of both books (`wrote_changes`). The plan holds
-- only over right numbers of tombstones, which the caller has (`found_over_counts`). The number
-- afterwards needs members with different numbers (`own_numbers`): a constraint of the tables,
-- which `conn.schema()` gives. Without that call `found` breaks first.
use Rattle.std.proofs.Common.{rules, ◌≡◌, ◌+◌, IsTrue, IfSome, Result, Ok, Err, sym, ap, subst}
use Rattle.std.specs.FinMap as finite
use Rattle.book_model.specs.Putting.{found_in_book}
use Rattle.store_tables.proofs.FailureLemmas.{outside_later}
use Rattle.store_tables.proofs.SchemaCreationLemmas.{clean_before}
use Rattle.store_rows.specs.TableBooks.{line_row, row_book}
use Rattle.store_lookups.specs.ChangeFaults.{HaveFreeIds}
use Rattle.store_lookups.proofs.StoreFaultLemmas.{passed_cause}
use Rattle.store_removals.proofs.FaultLemmas.{drop_below, moves_live}
use Rattle.sqlite.specs.Effect.{Database}
use Rattle.sqlite.specs.Held.{state}
use Rattle.sqlite.specs.State.{State, HasCleanDisk}
use Rattle.book_model.specs.declared.answers.Moved.{Moved}
use Rattle.book_model.specs.declared.denied.Denied.{Denied}
use Rattle.book_model.specs.declared.refusal.Refusal.{Refusal}
use Rattle.book_model.specs.Books.{Books, book_named, same_name}
use Rattle.book_model.specs.declared.change.Change.TheVariants.{Stores, TakesAway}
use Rattle.book_model.specs.declared.change.RemovalReason.TheVariants.{MoveOut}
use Rattle.book_model.specs.declared.change.StoreReason.TheVariants.{MoveIn}
use Rattle.book_model.specs.BookChanges.{book_after_drop, book_with_row}
use Rattle.book_model.specs.BookQueries.{tombstone_count}
use Rattle.book_model.specs.CallOutcomes.{MatchesStep}
use Rattle.book_model.specs.Counting.{one_if}
use Rattle.book_model.specs.Counts.{AreCountsOf, CountsByName}
use Rattle.book_model.proofs.StoreLemmas.{stored_replace}
use Rattle.book_model.specs.Moving.{books_after_move, move_step}
use Rattle.store_rows.specs.SoundTables.{AreSoundRows}
use Rattle.store_rows.specs.TableBooks.{books_in, books_of}
use Rattle.store_rows.specs.TableRows.{TableRows, HoldsRows}
use Rattle.store_rows.specs.Values.{IsLegalUid}
use Rattle.store_rows.proofs.UidLemmas.{live_legal}
use Rattle.store_writes.specs.TableChanges.{AppliesStep, CommitsOnce, HoldsBooks, IsAtomic}
use Rattle.store_writes.specs.TableChanges.{TreesHold}
use Rattle.store_removals.specs.internal.Moves.{HasBothRows, IsMoveOf, table_books_after_move}
use Rattle.store_removals.specs.internal.Moves.{moving_between_books}
use Rattle.store_lookups.specs.CallResults.{GivenSoundRows}
use Rattle.store_lookups.specs.StoredBooks.{KeepsCounts, stored_books}
use Rattle.store_writes.proofs.CallLemmas.{failed_counts, fault_does, found_over_counts}
use Rattle.store_writes.proofs.CallLemmas.{read_counted, wrote_changes, wrote_commits, wrote_counts}
use Rattle.store_writes.proofs.TransactionFaults.{live_obeys}
use Rattle.store_removals.proofs.CountLemmas.{HaveOwnNumbers, own_numbers, tombstones_left}
use Rattle.store_removals.proofs.RemoveLemmas.{if_known, reads_over_counts}
use Rattle.store_removals.proofs.MoveLemmas.{denied_move, lines_of, moved_does, moved_holds}
use Rattle.store_removals.proofs.move_call.move_in_tables.Given as given
use Rattle.store_removals.proofs.move_call.move_in_tables.Goals as goal
use Rattle.store_removals.proofs.move_call.move_in_tables.Goals.{After-plan_move, After-write_move}

-- ---- what the clauses share once the move is planned

module _ (g : given.Over) (c : After-plan_move g) where
  abbrev old : State
  old = state g.S.Store c.args.conn.now

  abbrev mid : State
  mid = state g.S.Store c.plan_move.new.conn

  abbrev step : Books → Result (Moved × Books) Refusal
  step books = move_step c.args.limits books c.args.from.now c.args.to.now c.args.uid.now
      c.args.expect

-- ---- and once the tables are written

module _ (g : given.Over) (c : After-write_move g) where
  abbrev planning : After-plan_move g
  planning = (goal.at.After-write_move g c).After-plan_move

  abbrev new : State
  new = state g.S.Store c.write_move.new.conn

  abbrev moved : TableRows → Books
  moved rows = table_books_after_move rows c.args.from.now c.in_ok-plan.plan.source c.args.to.now
      c.in_ok-plan.plan.target c.args.uid.now c.in_ok-plan.plan.card c.in_ok-plan.plan.drop

  abbrev made : TableRows → Moved → Database → Type 0
  made rows returned db = HoldsBooks db (moved rows)

  -- the plan, over rows whose members have different numbers, with right numbers of tombstones
  abbrev planned : TableRows → Type 0
  planned rows = IsMoveOf c.args.limits rows c.args.from.now c.args.to.now c.args.uid.now
      c.args.expect c.in_ok-plan.plan × AreCountsOf c.plan_move.new.counts (books_of rows)
      × HaveOwnNumbers rows.members × AreSoundRows rows

  found : GivenSoundRows (old g planning) (mid g planning) planned
  found =
      found_over_counts (old g planning) (mid g planning) c.args.counts.now planned
      c.requires.counts c.assert_no_pending_writes.ensures c.plan_move.ensures.reads_only
      c.in_ok-plan.ensures.was_open
      (λ rows clean holds sound right. (
        c.in_ok-plan.ensures.planned rows clean holds sound right,
        c.plan_move.ensures.counts rows clean holds sound right,
        own_numbers (old g planning).now.trees (live_obeys (old g planning)
            c.schema-tables.ensures.live holds.schema (c.in_ok-plan.ensures.was_open clean))
            rows.members holds.members sound.members,
        sound,
      ))

  both_there : (rows : TableRows) → HoldsRows (mid g planning).now rows → AreSoundRows rows
      → planned rows → HasBothRows (mid g planning).now rows c.args.from.now
      c.in_ok-plan.plan.source c.args.to.now c.in_ok-plan.plan.target
  both_there rows holds sound returned =
      lines_of (mid g planning).now rows c.args.from.now c.args.to.now c.args.uid.now c.args.limits
      c.args.expect c.in_ok-plan.plan holds sound returned.0

  -- the card that moves was live, so its UID is legal
  legal : (rows : TableRows) → planned rows → IsLegalUid c.args.uid.now
  legal rows h =
      let b = line_row c.args.from.now c.in_ok-plan.plan.source in
      let live = moves_live c.args.limits (found_in_book (row_book rows b) c.args.uid.now)
      (found_in_book (row_book rows (line_row c.args.to.now c.in_ok-plan.plan.target))
      c.args.uid.now) c.args.expect _ h.0.moving in
      live_legal rows b c.args.uid.now live.0 h.3 live.1

  written : (r : Result Moved Denied) → ((rows : TableRows) → HasCleanDisk new
      → HasBothRows (mid g planning).now rows c.args.from.now c.in_ok-plan.plan.source c.args.to.now
      c.in_ok-plan.plan.target → IsLegalUid c.args.uid.now
      → IsAtomic (mid g planning) new r (made rows))
      → ((rows : TableRows) → planned rows → IsAtomic (old g planning) new r (made rows)
      → IsTrue new.is_open → MatchesStep r (step g planning (books_of rows))
      (stored_books (old g planning)) (stored_books new))
      → AppliesStep (old g planning) new r (step g planning)
  written r atomic matches_step =
      wrote_changes made (step g planning) (old g planning) (mid g planning) new r
      c.in_ok-plan.ensures.unchanged c.plan_move.ensures.reads_only planned found
      c.write_move.ensures.survives
      c.write_move.ensures.settled c.in_ok-plan.ensures.was_open (λ rows clean holds sound returned.
      atomic rows clean (both_there rows holds sound returned) (legal rows returned))
      (λ rows a h. h.sound) matches_step

  counts : (r : Result Moved Denied) (after : CountsByName) → ((rows : TableRows) → HasCleanDisk new
      → HasBothRows (mid g planning).now rows c.args.from.now c.in_ok-plan.plan.source c.args.to.now
      c.in_ok-plan.plan.target → IsLegalUid c.args.uid.now
      → IsAtomic (mid g planning) new r (made rows))
      → ((rows : TableRows) → planned rows → IsAtomic (old g planning) new r (made rows)
      → IsTrue new.is_open → AreCountsOf c.args.counts.now (stored_books (old g planning))
      → stored_books (old g planning) ≡ books_of rows → AreCountsOf after (stored_books new))
      → KeepsCounts (old g planning) new c.args.counts.now after
  counts r after atomic right =
      wrote_counts made (step g planning) (old g planning) (mid g planning) new r
      c.in_ok-plan.ensures.unchanged c.plan_move.ensures.reads_only planned found
      c.write_move.ensures.survives
      (λ rows clean holds sound returned. atomic rows clean (both_there rows holds sound returned)
      (legal rows returned)) c.args.counts.now after right

  crash : CommitsOnce (old g planning) new (step g planning)
  crash =
      let plan = c.in_ok-plan.plan in
      wrote_commits made (step g planning) (old g planning) (mid g planning) new (Ok plan.moved)
      c.in_ok-plan.ensures.unchanged c.plan_move.ensures.reads_only planned found
      c.write_move.ensures.survives c.in_ok-plan.ensures.was_open
      (λ rows. TreesHold (moved rows)) (λ rows holds sound returned. c.write_move.ensures.crash
      (legal rows returned) rows c.args.from.now c.args.to.now (both_there rows holds sound
      returned))
      (λ rows returned db held. moved_holds c.args.limits rows c.args.from.now c.args.to.now
      c.args.uid.now c.args.expect plan.source plan.target plan.card plan.moved plan.drop
      returned.0.source returned.0.target returned.0.apart returned.0.moving returned.0.drop db
      held)

-- ---- the clauses

pub returns-in_err-plan-clause-changes : goal.returns-in_err-plan-clause-changes
returns-in_err-plan-clause-changes g c =
    let p = (goal.at.returns-in_err-plan-clause-changes g c).After-plan_move in
    let from = c.args.from.now in
    let to = c.args.to.now in
    let uid = c.args.uid.now in
    let said : c.from_residual.result ≡ Err c.in_err-plan.field-0.0 = search rules in
    subst (λ r. AppliesStep (old g p) (mid g p) r (step g p)) (sym said)
    (reads_over_counts (step g p) (old g p) (mid g p) c.args.counts.now c.in_err-plan.field-0.0
    c.requires.settled c.plan_move.ensures.reads_only c.requires.counts
    (λ rows clean holds sound right same. denied_move (book_named (books_of rows) from)
    (book_named (books_of rows) to) (same_name from to) (moving_between_books c.args.limits uid
    c.args.expect)
    (λ source target moving. (
      moving.numbers,
      books_after_move (books_of rows) from to uid source
          target moving.card,
    )) c.in_err-plan.field-0.0 (stored_books (old g p))
    (stored_books (mid g p)) (c.in_err-plan.ensures.planned rows clean holds sound right) same))

pub returns-in_err-write_move-clause-changes : goal.returns-in_err-write_move-clause-changes
returns-in_err-write_move-clause-changes g c =
    let p = (goal.at.returns-in_err-write_move-clause-changes g c).After-write_move in
    let before = old g (planning g p) in
    let said : c.from_residual-in_err-write_move.result ≡ Err c.in_err-write_move.field-0.0 =
    search rules in
    subst (λ r. AppliesStep before (new g p) r (step g (planning g p))) (sym said)
    (written g p (Err c.in_err-write_move.field-0.0)
    (λ rows clean both is. c.in_err-write_move.ensures.atomic is rows c.args.from.now
    c.args.to.now clean both)
    (λ rows returned done up. fault_does (step g (planning g p) (books_of rows))
    c.in_err-write_move.field-0.0 (stored_books before) (stored_books (new g p))
    c.in_err-write_move.ensures.fault (ap (λ (d : Database). books_in d.trees) (done up).0)))

pub returns-clause-changes : goal.returns-clause-changes
returns-clause-changes g c =
    let p = (goal.at.returns-clause-changes g c).After-write_move in
    let plan = c.in_ok-plan.plan in
    written g p (Ok plan.moved) (λ rows clean both is. c.in_ok-write_move.ensures.atomic is rows
    c.args.from.now c.args.to.now clean both)
    (λ rows returned done up. moved_does c.args.limits rows c.args.from.now c.args.to.now
    c.args.uid.now c.args.expect plan.source plan.target plan.card plan.moved plan.drop
    returned.0.source returned.0.target returned.0.apart returned.0.moving returned.0.drop
    (new g p) (stored_books (old g (planning g p))) done.0)

pub returns-in_err-write_move-clause-crash : goal.returns-in_err-write_move-clause-crash
returns-in_err-write_move-clause-crash g c =
    crash g (goal.at.returns-in_err-write_move-clause-crash g c).After-write_move

pub returns-clause-crash : goal.returns-clause-crash
returns-clause-crash g c = crash g (goal.at.returns-clause-crash g c).After-write_move

-- ---- faults

pub returns-in_err-plan-clause-store_fault : goal.returns-in_err-plan-clause-store_fault
returns-in_err-plan-clause-store_fault g c rows clean holds accept free =
    passed_cause c.from_residual.result c.in_err-plan.field-0.0 _ c.from_residual.ensures.1
    (c.in_err-plan.ensures.store_fault rows clean holds accept free)

pub returns-in_err-write_move-clause-store_fault : goal.returns-in_err-write_move-clause-store_fault
returns-in_err-write_move-clause-store_fault g c rows clean holds accept free =
    let p = (goal.at.returns-in_err-write_move-clause-store_fault g c).After-write_move in
    let before = old g (planning g p) in
    let between = mid g (planning g p) in
    let plan = c.in_ok-plan.plan in
    let early : HasCleanDisk between =
    clean_before _ between (new g p) c.write_move.ensures.survives clean in
    let kept = c.in_ok-plan.ensures.unchanged early holds.schema in
    let still = subst (λ (d : Database). HoldsRows d rows) (sym kept.0.now_is) holds in
    let ids = subst (λ (d : Database). HaveFreeIds d.trees) (sym kept.0.now_is) free in
    let over = found g p rows early holds accept.faultless.sound in
    let both = both_there g p rows still accept.faultless.sound over in
    let is = legal g p rows over in
    let fits = c.in_ok-plan.ensures.source_number_fits in
    passed_cause c.from_residual-in_err-write_move.result c.in_err-write_move.field-0.0 _
    c.from_residual-in_err-write_move.ensures.1
    (λ store. outside_later before between (new g p) _ _ c.plan_move.ensures.reads_only.survives
    early c.write_move.ensures.survives
    (c.in_err-write_move.ensures.store_fault fits c.in_ok-plan.ensures.target_number_fits
    (drop_below plan.drop plan.source.number c.in_ok-plan.ensures.drop_fits fits) is rows
    c.args.from.now c.args.to.now clean both accept ids store))

-- ---- the numbers of tombstones

pub returns-in_err-plan-clause-counts : goal.returns-in_err-plan-clause-counts
returns-in_err-plan-clause-counts g c =
    let p = (goal.at.returns-in_err-plan-clause-counts g c).After-plan_move in
    read_counted (old g p) (mid g p) c.args.counts.now c.plan_move.new.counts
    c.plan_move.ensures.reads_only c.plan_move.ensures.counts

pub returns-in_err-write_move-clause-counts : goal.returns-in_err-write_move-clause-counts
returns-in_err-write_move-clause-counts g c =
    let p = (goal.at.returns-in_err-write_move-clause-counts g c).After-write_move in
    let counted = c.plan_move.new.counts in
    counts g p (Err c.in_err-write_move.field-0.0) counted
    (λ rows clean both is. c.in_err-write_move.ensures.atomic is rows c.args.from.now
    c.args.to.now clean both)
    (λ rows h done up right same. failed_counts {A = Moved} (made g p rows) (old g (planning g p))
    (new g p) c.in_err-write_move.field-0.0 counted done up
    (subst (λ (b : Books). AreCountsOf counted b) (sym same) h.1))

pub returns-clause-counts : goal.returns-clause-counts
returns-clause-counts g c =
    let p = (goal.at.returns-clause-counts g c).After-write_move in
    let plan = c.in_ok-plan.plan in
    let from = c.args.from.now in
    let to = c.args.to.now in
    let uid = c.args.uid.now in
    let after = c.set_count.new.counts in
    counts g p (Ok plan.moved) after (λ rows clean both is. c.in_ok-write_move.ensures.atomic is
    rows from to clean both)
    (λ rows h done up right same.
    let source = row_book rows (line_row from plan.source) in
    let target = row_book rows (line_row to plan.target) in
    let left = book_after_drop (book_with_row source uid (TakesAway MoveOut)) plan.drop in
    let joined = book_with_row target uid (Stores plan.card MoveIn) in
    let live = moves_live c.args.limits (found_in_book source uid) (found_in_book target uid)
    c.args.expect _ h.0.moving in
    let number : tombstone_count joined + one_if plan.comes_back ≡ tombstone_count target =
    subst (λ b. tombstone_count joined + one_if b ≡ tombstone_count target) h.0.comes_back
    (stored_replace target uid plan.card MoveIn) in
    let arrived = c.count_stored.ensures (books_of rows) target joined h.1 h.0.target.book number in
    let known : IfSome plan.tombstones (λ n. tombstone_count left ≡ n) =
    if_known (λ n. tombstone_count left ≡ n) plan.tombstones _ h.0.tombstones
    (λ n is. tombstones_left rows from plan.source uid live.0 MoveOut h.3 h.2 live.1 h.0.horizon
    plan.drop n h.0.drop is) in
    subst (λ (b : Books). AreCountsOf after b) (sym done.0.books_are)
    (c.set_count.ensures (finite.insert (books_of rows) to joined) left arrived known))
