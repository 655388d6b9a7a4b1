-- A removal in the tables is `remove_step` on their books, also after a crash.
-- Given here: the plan and the write are one step of the book that was found (`wrote_changes`).
-- The card that goes was live, so its UID is legal.
-- The plan holds only over right numbers of tombstones, which the caller has (`found_over_counts`).
-- The number afterwards (`tombstones_left`) needs members with different numbers: a constraint of
-- the tables, which `conn.schema()` gives. Without that call `found` breaks first.
use Rattle.std.proofs.Common.{rules, ◌≡◌, ℕ, IsTrue, IfSome, Result, Ok, Err, sym, ap, subst}
use Rattle.book_model.specs.Putting.{found_in_book}
use Rattle.store_tables.proofs.SchemaCreationLemmas.{clean_before}
use Rattle.store_lookups.proofs.ChangeFaultLemmas.{then_change_faults}
use Rattle.store_lookups.proofs.StoreFaultLemmas.{passed_cause}
use Rattle.store_removals.proofs.FaultLemmas.{drop_below, removes_live}
use Rattle.std.specs.FinMap as finite
use Rattle.sqlite.specs.Effect.{Database}
use Rattle.sqlite.specs.Held.{state}
use Rattle.sqlite.specs.State.{State, HasCleanDisk}
use Rattle.book_model.specs.declared.change.Change.TheVariants.{TakesAway}
use Rattle.book_model.specs.declared.change.RemovalReason.TheVariants.{Deletion}
use Rattle.book_model.specs.declared.denied.Denied.{Denied}
use Rattle.book_model.specs.declared.refusal.Refusal.{Refusal}
use Rattle.book_model.specs.Books.{Books, book_named}
use Rattle.book_model.specs.BookChanges.{book_after_drop, book_with_row}
use Rattle.book_model.specs.BookQueries.{tombstone_count}
use Rattle.book_model.specs.CallOutcomes.{MatchesStep}
use Rattle.book_model.specs.Counts.{AreCountsOf, CountsByName}
use Rattle.store_rows.specs.SoundTables.{AreSoundRows}
use Rattle.book_model.specs.Removing.{remove_step}
use Rattle.store_rows.specs.TableBooks.{row_book, books_of, books_in, line_row}
use Rattle.store_rows.specs.TableRows.{TableRows, HoldsRows}
use Rattle.store_rows.proofs.UidLemmas.{live_legal}
use Rattle.store_rows.specs.Values.{IsLegalUid}
use Rattle.store_writes.specs.TableChanges.{AppliesStep, CommitsOnce, HasBookRow, HoldsBooks}
use Rattle.store_writes.specs.TableChanges.{IsAtomic, TreesHold}
use Rattle.store_removals.specs.internal.Removals.{IsRemovalOf}
use Rattle.store_lookups.specs.CallResults.{GivenSoundRows}
use Rattle.store_lookups.specs.StoredBooks.{KeepsCounts, stored_books}
use Rattle.store_writes.proofs.CallLemmas.{failed_counts, fault_does, found_over_counts, named_does}
use Rattle.store_writes.proofs.CallLemmas.{named_row_held, read_counted, wrote_changes}
use Rattle.store_writes.proofs.CallLemmas.{wrote_commits, wrote_counts}
use Rattle.store_writes.proofs.TransactionFaults.{live_obeys}
use Rattle.store_removals.proofs.CountLemmas.{HaveOwnNumbers, own_numbers, tombstones_left}
use Rattle.store_removals.proofs.RemoveLemmas.{denied_remove, if_known, reads_over_counts}
use Rattle.store_removals.proofs.RemoveLemmas.{remove_of, removed_does, removed_holds}
use Rattle.store_removals.proofs.remove_call.remove_in_book.Given as given
use Rattle.store_removals.proofs.remove_call.remove_in_book.Goals as goal
use Rattle.store_removals.proofs.remove_call.remove_in_book.Goals.{After-plan_remove}
use Rattle.store_removals.proofs.remove_call.remove_in_book.Goals.{After-write_remove}

-- ---- what the clauses share once the removal is planned

module _ (g : given.Over) (c : After-plan_remove g) where
  abbrev old : State
  old = state g.S.Store c.args.conn.now

  abbrev mid : State
  mid = state g.S.Store c.plan_remove.new.conn

  abbrev step : Books → Result (ℕ × Books) Refusal
  step books = remove_step c.args.limits books c.args.name.now c.args.uid.now c.args.expect

-- ---- and once the tables are written

module _ (g : given.Over) (c : After-write_remove g) where
  abbrev planning : After-plan_remove g
  planning = (goal.at.After-write_remove g c).After-plan_remove

  abbrev new : State
  new = state g.S.Store c.write_remove.new.conn

  abbrev removed : TableRows → Books
  removed rows =
      finite.insert (books_of rows) c.args.name.now
      (book_after_drop (book_with_row (row_book rows
      (line_row c.args.name.now c.in_ok-plan.plan.header)) c.args.uid.now (TakesAway Deletion))
      c.in_ok-plan.plan.drop)

  abbrev made : TableRows → ℕ → Database → Type 0
  made rows returned db = HoldsBooks db (removed rows)

  -- the plan, over rows whose members have different numbers, with right numbers of tombstones
  abbrev planned : TableRows → Type 0
  planned rows = IsRemovalOf c.args.limits rows c.args.name.now c.args.uid.now c.args.expect
      c.in_ok-plan.plan × AreCountsOf c.plan_remove.new.counts (books_of rows)
      × HaveOwnNumbers rows.members × AreSoundRows rows

  found : GivenSoundRows (old g planning) (mid g planning) planned
  found =
      found_over_counts (old g planning) (mid g planning) c.args.counts.now planned
      c.requires.counts c.assert_no_pending_writes.ensures c.plan_remove.ensures.reads_only
      c.in_ok-plan.ensures.was_open
      (λ rows clean holds sound right. (
        c.in_ok-plan.ensures.planned rows clean holds sound right,
        c.plan_remove.ensures.counts rows clean holds sound right,
        own_numbers (old g planning).now.trees (live_obeys (old g planning)
            c.schema-tables.ensures.live holds.schema (c.in_ok-plan.ensures.was_open clean))
            rows.members holds.members sound.members,
        sound,
      ))

  line_of : (rows : TableRows) → HoldsRows (mid g planning).now rows → AreSoundRows rows
      → planned rows → HasBookRow (mid g planning).now rows c.args.name.now c.in_ok-plan.plan.header
  line_of rows holds sound h = record { holds = holds; sound = sound; there = h.0.named.there }

  -- the card that is removed was live, so its UID is legal
  legal : (rows : TableRows) → planned rows → IsLegalUid c.args.uid.now
  legal rows h =
      let b = line_row c.args.name.now c.in_ok-plan.plan.header in
      let live = removes_live c.args.limits (found_in_book (row_book rows b) c.args.uid.now)
      c.args.expect c.in_ok-plan.plan.number h.0.number in
      live_legal rows b c.args.uid.now live.0 h.3 live.1

  written : (r : Result ℕ Denied) → ((rows : TableRows) → HasCleanDisk new
      → HasBookRow (mid g planning).now rows c.args.name.now c.in_ok-plan.plan.header
      → IsLegalUid c.args.uid.now → IsAtomic (mid g planning) new r (made rows))
      → ((rows : TableRows) → planned rows → IsAtomic (old g planning) new r (made rows)
      → IsTrue new.is_open → MatchesStep r (step g planning (books_of rows))
      (stored_books (old g planning)) (stored_books new))
      → AppliesStep (old g planning) new r (step g planning)
  written r atomic matches_step =
      wrote_changes made (step g planning) (old g planning) (mid g planning) new r
      c.in_ok-plan.ensures.unchanged c.plan_remove.ensures.reads_only planned found
      c.write_remove.ensures.survives
      c.write_remove.ensures.settled c.in_ok-plan.ensures.was_open (λ rows clean holds sound h.
      atomic rows clean (line_of rows holds sound h) (legal rows h)) (λ rows a h. h.sound)
      matches_step

  counts : (r : Result ℕ Denied) (after : CountsByName) → ((rows : TableRows) → HasCleanDisk new
      → HasBookRow (mid g planning).now rows c.args.name.now c.in_ok-plan.plan.header
      → IsLegalUid c.args.uid.now → IsAtomic (mid g planning) new r (made rows))
      → ((rows : TableRows) → planned rows → IsAtomic (old g planning) new r (made rows)
      → IsTrue new.is_open → AreCountsOf c.args.counts.now (stored_books (old g planning))
      → stored_books (old g planning) ≡ books_of rows → AreCountsOf after (stored_books new))
      → KeepsCounts (old g planning) new c.args.counts.now after
  counts r after atomic right =
      wrote_counts made (step g planning) (old g planning) (mid g planning) new r
      c.in_ok-plan.ensures.unchanged c.plan_remove.ensures.reads_only planned found
      c.write_remove.ensures.survives
      (λ rows clean holds sound h. atomic rows clean (line_of rows holds sound h) (legal rows h))
      c.args.counts.now after right

  crash : CommitsOnce (old g planning) new (step g planning)
  crash =
      let plan = c.in_ok-plan.plan in
      wrote_commits made (step g planning) (old g planning) (mid g planning) new (Ok plan.number)
      c.in_ok-plan.ensures.unchanged c.plan_remove.ensures.reads_only planned found
      c.write_remove.ensures.survives c.in_ok-plan.ensures.was_open
      (λ rows. TreesHold (removed rows)) (λ rows holds sound h. c.write_remove.ensures.crash
      (legal rows h) rows c.args.name.now (line_of rows holds sound h))
      (λ rows h db held. named_row_held rows c.args.name.now plan.header
      (remove_of c.args.limits (books_of rows) c.args.name.now c.args.uid.now c.args.expect) db
      h.0.named
      (removed_holds rows c.args.name.now plan.header c.args.uid.now c.args.limits c.args.expect
      plan.number plan.drop h.0.number h.0.drop db held))

-- ---- the clauses

pub returns-in_err-plan-clause-changes : goal.returns-in_err-plan-clause-changes
returns-in_err-plan-clause-changes g c =
    let p = (goal.at.returns-in_err-plan-clause-changes g c).After-plan_remove in
    let said : c.from_residual.result ≡ Err c.in_err-plan.field-0.0 = search rules in
    subst (λ r. AppliesStep (old g p) (mid g p) r (step g p)) (sym said)
    (reads_over_counts (step g p) (old g p) (mid g p) c.args.counts.now c.in_err-plan.field-0.0
    c.requires.settled c.plan_remove.ensures.reads_only c.requires.counts
    (λ rows clean holds sound right same. denied_remove c.args.limits (books_of rows)
    c.args.name.now c.args.uid.now c.args.expect (book_named (books_of rows) c.args.name.now)
    c.in_err-plan.field-0.0 (stored_books (old g p)) (stored_books (mid g p))
    (c.in_err-plan.ensures.planned rows clean holds sound right) same))

pub returns-in_err-write_remove-clause-changes : goal.returns-in_err-write_remove-clause-changes
returns-in_err-write_remove-clause-changes g c =
    let p = (goal.at.returns-in_err-write_remove-clause-changes g c).After-write_remove in
    let before = old g (planning g p) in
    let said : c.from_residual-in_err-write_remove.result ≡ Err c.in_err-write_remove.field-0.0 =
    search rules in
    subst (λ r. AppliesStep before (new g p) r (step g (planning g p))) (sym said)
    (written g p (Err c.in_err-write_remove.field-0.0)
    (λ rows clean line is. c.in_err-write_remove.ensures.atomic is rows c.args.name.now clean
    line)
    (λ rows h done up. fault_does (step g (planning g p) (books_of rows))
    c.in_err-write_remove.field-0.0 (stored_books before) (stored_books (new g p))
    c.in_err-write_remove.ensures.fault (ap (λ (d : Database). books_in d.trees) (done up).0)))

pub returns-clause-changes : goal.returns-clause-changes
returns-clause-changes g c =
    let p = (goal.at.returns-clause-changes g c).After-write_remove in
    let before = old g (planning g p) in
    let plan = c.in_ok-plan.plan in
    written g p (Ok plan.number) (λ rows clean line is. c.in_ok-write_remove.ensures.atomic is rows
    c.args.name.now clean line)
    (λ rows h done up. named_does rows c.args.name.now plan.header
    (remove_of c.args.limits (books_of rows) c.args.name.now c.args.uid.now c.args.expect)
    (Ok plan.number) (stored_books before) (stored_books (new g p)) h.0.named
    (removed_does rows c.args.name.now plan.header c.args.uid.now c.args.limits c.args.expect
    plan.number plan.drop h.0.number h.0.drop (new g p) (stored_books before) done.0))

pub returns-in_err-write_remove-clause-crash : goal.returns-in_err-write_remove-clause-crash
returns-in_err-write_remove-clause-crash g c =
    crash g (goal.at.returns-in_err-write_remove-clause-crash g c).After-write_remove

pub returns-clause-crash : goal.returns-clause-crash
returns-clause-crash g c = crash g (goal.at.returns-clause-crash g c).After-write_remove

-- ---- faults

pub returns-in_err-plan-clause-store_fault : goal.returns-in_err-plan-clause-store_fault
returns-in_err-plan-clause-store_fault g c rows clean holds accept free =
    passed_cause c.from_residual.result c.in_err-plan.field-0.0 _ c.from_residual.ensures.1
    (c.in_err-plan.ensures.store_fault rows clean holds accept free)

pub returns-in_err-write_remove-clause-store_fault :
    goal.returns-in_err-write_remove-clause-store_fault
returns-in_err-write_remove-clause-store_fault g c rows clean holds accept free =
    let p = (goal.at.returns-in_err-write_remove-clause-store_fault g c).After-write_remove in
    let before = old g (planning g p) in
    let between = mid g (planning g p) in
    let plan = c.in_ok-plan.plan in
    let name = c.args.name.now in
    let is =
    legal g p rows (found g p rows (clean_before _ between (new g p)
    c.write_remove.ensures.survives clean) holds accept.faultless.sound) in
    let failed : Result ℕ Denied = Err c.in_err-write_remove.field-0.0 in
    passed_cause c.from_residual-in_err-write_remove.result c.in_err-write_remove.field-0.0 _
    c.from_residual-in_err-write_remove.ensures.1
    (then_change_faults before between (new g p) _ _ name plan.header failed
    c.plan_remove.ensures.reads_only.survives c.in_ok-plan.ensures.unchanged
    (λ rows early held sound. (found g p rows early held sound).0.named.there)
    c.write_remove.ensures.survives
    (c.in_err-write_remove.ensures.store_fault c.in_ok-plan.ensures.number_fits
    (drop_below plan.drop plan.header.number c.in_ok-plan.ensures.drop_fits
    c.in_ok-plan.ensures.number_fits) is) rows clean holds accept free)

-- ---- the numbers of tombstones

pub returns-in_err-plan-clause-counts : goal.returns-in_err-plan-clause-counts
returns-in_err-plan-clause-counts g c =
    let p = (goal.at.returns-in_err-plan-clause-counts g c).After-plan_remove in
    read_counted (old g p) (mid g p) c.args.counts.now c.plan_remove.new.counts
    c.plan_remove.ensures.reads_only c.plan_remove.ensures.counts

pub returns-in_err-write_remove-clause-counts : goal.returns-in_err-write_remove-clause-counts
returns-in_err-write_remove-clause-counts g c =
    let p = (goal.at.returns-in_err-write_remove-clause-counts g c).After-write_remove in
    let counted = c.plan_remove.new.counts in
    counts g p (Err c.in_err-write_remove.field-0.0) counted
    (λ rows clean line is. c.in_err-write_remove.ensures.atomic is rows c.args.name.now clean
    line)
    (λ rows h done up right same. failed_counts {A = ℕ} (made g p rows) (old g (planning g p))
    (new g p) c.in_err-write_remove.field-0.0 counted done up
    (subst (λ (b : Books). AreCountsOf counted b) (sym same) h.1))

pub returns-clause-counts : goal.returns-clause-counts
returns-clause-counts g c =
    let p = (goal.at.returns-clause-counts g c).After-write_remove in
    let plan = c.in_ok-plan.plan in
    let name = c.args.name.now in
    let uid = c.args.uid.now in
    let after = c.set_count.new.counts in
    counts g p (Ok plan.number) after (λ rows clean line is. c.in_ok-write_remove.ensures.atomic is
    rows name clean line)
    (λ rows h done up right same.
    let book = row_book rows (line_row name plan.header) in
    let left = book_after_drop (book_with_row book uid (TakesAway Deletion)) plan.drop in
    let live = removes_live c.args.limits (found_in_book book uid) c.args.expect plan.number
    h.0.number in
    let known : IfSome plan.tombstones (λ n. tombstone_count left ≡ n) =
    if_known (λ n. tombstone_count left ≡ n) plan.tombstones _ h.0.tombstones
    (λ n is. tombstones_left rows name plan.header uid live.0 Deletion h.3 h.2 live.1 h.0.horizon
    plan.drop n h.0.drop is) in
    subst (λ (b : Books). AreCountsOf after b) (sym done.0.books_are)
    (c.set_count.ensures (books_of rows) left h.1 known))
