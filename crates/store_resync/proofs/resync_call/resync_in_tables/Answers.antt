-- A resync in the tables is `resync_step` on their books, also after a crash.
-- Given here: the plans and their write are one step (`CallLemmas`, for calls that read and then
-- write). What the plans leave, book by book, are all books after the resync (`resync_holds`), and
-- there are as many plans as books (`plan_count`). No number of tombstones is kept afterwards, so
-- none is wrong. If a resync gets another effect, `resync_holds` breaks first.
use Rattle.std.proofs.Common.{rules, ◌≡◌, IsTrue, List, ℕ, length, Result, Ok, Err, Vec, sym, ap}
use Rattle.std.proofs.Common.{subst, ◌∙◌}
use Rattle.std.specs.FinMap as finite
use Rattle.std.specs.declared.alloc.Global.{Global}
use Rattle.sqlite.specs.Effect.{Database}
use Rattle.sqlite.specs.Held.{state}
use Rattle.sqlite.specs.State.{State, HasCleanDisk}
use Rattle.book_model.specs.declared.denied.Denied.{Denied}
use Rattle.book_model.specs.declared.refusal.Refusal.{Refusal}
use Rattle.book_model.specs.Books.{Books}
use Rattle.book_model.specs.CallOutcomes.{MatchesStep}
use Rattle.book_model.specs.Counts.{AreCountsOf, CountsByName}
use Rattle.book_resync.specs.Resyncing.{accept_books, books_after_resync, resync_step}
use Rattle.store_rows.specs.SoundTables.{AreSoundRows}
use Rattle.store_rows.specs.TableBooks.{books_in, books_of}
use Rattle.store_rows.specs.TableRows.{TableRows, HoldsRows}
use Rattle.store_lookups.specs.CallResults.{FollowsStep, GivenSoundRows}
use Rattle.store_lookups.specs.StoredBooks.{KeepsCounts, stored_books}
use Rattle.store_writes.specs.TableChanges.{AppliesStep, CommitsOnce, HoldsBooks, IsAtomic}
use Rattle.store_writes.proofs.CallLemmas.{failed_counts, fault_does, read_counts, reads_changes}
use Rattle.store_writes.proofs.CallLemmas.{wrote_changes, wrote_commits, wrote_counts}
use Rattle.store_resync.specs.declared.planning.BookPlan.{BookPlan}
use Rattle.store_resync.specs.declared.stages.Stage.TheVariants.{Pairs}
use Rattle.store_resync.specs.internal.Changes.{HasPlannedRows, HoldsResync, TreesHoldResync}
use Rattle.store_resync.specs.internal.Plans.{ArePlans}
use Rattle.store_resync.proofs.BooksLemmas.{plan_count, planned_rows, resync_holds}
use Rattle.store_resync.proofs.PlanLemmas.{answer_of, denied_resync, resync_does, resync_left}
use Rattle.store_resync.proofs.resync_call.resync_in_tables.Given as given
use Rattle.store_resync.proofs.resync_call.resync_in_tables.Goals as goal
use Rattle.store_resync.proofs.resync_call.resync_in_tables.Goals.{After-plan_resync}
use Rattle.store_resync.proofs.resync_call.resync_in_tables.Goals.{After-commit_resync}

-- ---- what the clauses share once the resync is planned

module _ (g : given.Over) (c : After-plan_resync g) where
  abbrev old : State
  old = state g.S.Store c.args.conn.now

  abbrev mid : State
  mid = state g.S.Store c.plan_resync.new.conn

  abbrev step : Books → Result (ℕ × Books) Refusal
  step books = resync_step c.args.limits books c.args.pairs

-- ---- and once the tables are written

module _ (g : given.Over) (c : After-commit_resync g) where
  abbrev planning : After-plan_resync g
  planning = (goal.at.After-commit_resync g c).After-plan_resync

  abbrev new : State
  new = state g.S.Store c.commit_resync.new.conn

  abbrev plans : List BookPlan
  plans = c.in_ok-plans.plans.items

  -- the plan, over sound rows
  record IsPlanned (rows : TableRows) : Type 0 where
    sound : AreSoundRows rows
    accepted : accept_books c.args.limits c.args.pairs (finite.entries (books_of rows)) ≡ Ok tt
    are : ArePlans c.args.limits c.args.pairs rows plans

  found : GivenSoundRows (old g planning) (mid g planning) IsPlanned
  found rows clean holds sound =
      let made = answer_of (λ (_ : Unit {0}) (ps : List BookPlan). ArePlans c.args.limits
      c.args.pairs rows ps) plans (accept_books c.args.limits c.args.pairs
      (finite.entries (books_of rows))) (c.in_ok-plans.ensures.planned rows clean holds
      sound) in
      record { sound = sound; accepted = made.1; are = made.2 }

  abbrev made : TableRows → ℕ → Database → Type 0
  made rows count db = HoldsResync db rows plans

  held : (rows : TableRows) (db : Database) → IsPlanned rows → HoldsResync db rows plans
      → HoldsBooks db (books_after_resync c.args.limits (books_of rows) c.args.pairs)
  held rows db h done = resync_holds c.args.limits c.args.pairs rows plans h.sound h.are db done

  written : (r : Result ℕ Denied) → ((rows : TableRows) → HasCleanDisk new
      → HoldsRows (mid g planning).now rows → AreSoundRows rows → IsPlanned rows
      → IsAtomic (mid g planning) new r (made rows))
      → ((rows : TableRows) → IsPlanned rows → IsAtomic (old g planning) new r (made rows)
      → IsTrue new.is_open → MatchesStep r (step g planning (books_of rows))
      (stored_books (old g planning)) (stored_books new))
      → AppliesStep (old g planning) new r (step g planning)
  written r atomic matches_step =
      wrote_changes made (step g planning) (old g planning) (mid g planning) new r
      c.in_ok-plans.ensures.unchanged c.plan_resync.ensures.reads_only IsPlanned found
      c.commit_resync.ensures.survives
      c.commit_resync.ensures.settled c.in_ok-plans.ensures.was_open atomic
      (λ rows a h. record { rows = h.now; holds = h.holds; sound = h.sound }) matches_step

  counts : (r : Result ℕ Denied) (after : CountsByName) → ((rows : TableRows) → HasCleanDisk new
      → HoldsRows (mid g planning).now rows → AreSoundRows rows → IsPlanned rows
      → IsAtomic (mid g planning) new r (made rows))
      → ((rows : TableRows) → IsPlanned rows → IsAtomic (old g planning) new r (made rows)
      → IsTrue new.is_open → AreCountsOf c.args.counts.now (stored_books (old g planning))
      → stored_books (old g planning) ≡ books_of rows → AreCountsOf after (stored_books new))
      → KeepsCounts (old g planning) new c.args.counts.now after
  counts r after atomic right =
      wrote_counts made (step g planning) (old g planning) (mid g planning) new r
      c.in_ok-plans.ensures.unchanged c.plan_resync.ensures.reads_only IsPlanned found
      c.commit_resync.ensures.survives
      atomic c.args.counts.now after right

  crash : CommitsOnce (old g planning) new (step g planning)
  crash =
      wrote_commits made (step g planning) (old g planning) (mid g planning) new (Ok (length plans))
      c.in_ok-plans.ensures.unchanged c.plan_resync.ensures.reads_only IsPlanned found
      c.commit_resync.ensures.survives c.in_ok-plans.ensures.was_open
      (λ rows. TreesHoldResync rows plans)
      (λ rows holds sound h. rw c.as_slice.ensures.value at (c.commit_resync.ensures.crash rows
      (rw c.as_slice.ensures.value (planned_rows c.args.limits c.args.pairs rows plans h.sound
      h.are (mid g planning).now holds))))
      (λ rows h db done. resync_left c.args.limits (books_of rows) c.args.pairs db h.accepted
      (held rows _ h done))

-- ---- the clauses

pub returns-in_err-plans-clause-changes : goal.returns-in_err-plans-clause-changes
returns-in_err-plans-clause-changes g c =
    let p = (goal.at.returns-in_err-plans-clause-changes g c).After-plan_resync in
    let said : c.from_residual.result ≡ Err c.in_err-plans.field-0.0 = search rules in
    subst (λ r. AppliesStep (old g p) (mid g p) r (step g p)) (sym said)
    (reads_changes (step g p) (old g p) (mid g p) (Err c.in_err-plans.field-0.0) c.requires.settled
    c.plan_resync.ensures.reads_only
    (λ rows clean holds sound same. denied_resync c.args.limits (books_of rows) c.args.pairs
    (λ (_ : Unit {0}) (plans : Vec BookPlan Global). ArePlans c.args.limits c.args.pairs rows
    plans.items) c.in_err-plans.field-0.0 (stored_books (old g p)) (stored_books (mid g p))
    (c.in_err-plans.ensures.planned rows clean holds sound) same) (λ clean stays. tt))

pub returns-in_err-commit_resync-clause-changes : goal.returns-in_err-commit_resync-clause-changes
returns-in_err-commit_resync-clause-changes g c =
    let p = (goal.at.returns-in_err-commit_resync-clause-changes g c).After-commit_resync in
    let before = old g (planning g p) in
    let said : c.from_residual-in_err-commit_resync.result ≡ Err c.in_err-commit_resync.field-0.0 =
    search rules in
    subst (λ r. AppliesStep before (new g p) r (step g (planning g p))) (sym said)
    (written g p (Err c.in_err-commit_resync.field-0.0)
    (λ rows clean holds sound h.
    let written_plans = λ (ps : List BookPlan). IsAtomic {A = Unit {0}} (mid g (planning g p))
    (new g p) (Err c.in_err-commit_resync.field-0.0) (λ _ db. HoldsResync db rows ps) in
    let given = subst (λ ps. HasPlannedRows (mid g (planning g p)).now rows ps Pairs)
    (sym p.as_slice.ensures.value) (planned_rows c.args.limits c.args.pairs rows (plans g p)
    h.sound h.are (mid g (planning g p)).now holds) in
    subst written_plans p.as_slice.ensures.value (c.in_err-commit_resync.ensures.atomic rows clean
    given))
    (λ rows h done up. fault_does (step g (planning g p) (books_of rows))
    c.in_err-commit_resync.field-0.0 (stored_books before) (stored_books (new g p))
    c.in_err-commit_resync.ensures.fault (ap (λ (d : Database). books_in d.trees) (done up).0)))

pub returns-clause-changes : goal.returns-clause-changes
returns-clause-changes g c =
    let p = (goal.at.returns-clause-changes g c).After-commit_resync in
    let count : c.len.result ≡ length (plans g p) = search rules in
    subst (λ n. AppliesStep (old g (planning g p)) (new g p) (Ok n) (step g (planning g p)))
    (sym count)
    (written g p (Ok (length (plans g p)))
    (λ rows clean holds sound h. rw c.as_slice.ensures.value at
    (c.in_ok-commit_resync.ensures.atomic rows clean (rw c.as_slice.ensures.value
    (planned_rows c.args.limits c.args.pairs rows (plans g p) h.sound h.are
    (mid g (planning g p)).now holds))))
    (λ rows h done up. resync_does c.args.limits (books_of rows) c.args.pairs (length (plans g p))
    (stored_books (old g (planning g p))) (stored_books (new g p)) h.accepted
    (plan_count c.args.limits c.args.pairs rows (plans g p) h.sound h.are)
    (held g p rows (new g p).now h done.0).books_are))

pub returns-in_err-commit_resync-clause-crash : goal.returns-in_err-commit_resync-clause-crash
returns-in_err-commit_resync-clause-crash g c =
    crash g (goal.at.returns-in_err-commit_resync-clause-crash g c).After-commit_resync

pub returns-clause-crash : goal.returns-clause-crash
returns-clause-crash g c = crash g (goal.at.returns-clause-crash g c).After-commit_resync

-- ---- the numbers of tombstones

pub returns-in_err-plans-clause-counts : goal.returns-in_err-plans-clause-counts
returns-in_err-plans-clause-counts g c =
    let p = (goal.at.returns-in_err-plans-clause-counts g c).After-plan_resync in
    read_counts (old g p) (mid g p) c.args.counts.now c.plan_resync.ensures.reads_only

pub returns-in_err-commit_resync-clause-counts : goal.returns-in_err-commit_resync-clause-counts
returns-in_err-commit_resync-clause-counts g c =
    let p = (goal.at.returns-in_err-commit_resync-clause-counts g c).After-commit_resync in
    counts g p (Err c.in_err-commit_resync.field-0.0) c.args.counts.now
    (λ rows clean holds sound h.
    let written_plans = λ (ps : List BookPlan). IsAtomic {A = Unit {0}} (mid g (planning g p))
    (new g p) (Err c.in_err-commit_resync.field-0.0) (λ _ db. HoldsResync db rows ps) in
    let given = subst (λ ps. HasPlannedRows (mid g (planning g p)).now rows ps Pairs)
    (sym p.as_slice.ensures.value) (planned_rows c.args.limits c.args.pairs rows (plans g p)
    h.sound h.are (mid g (planning g p)).now holds) in
    subst written_plans p.as_slice.ensures.value (c.in_err-commit_resync.ensures.atomic rows clean
    given))
    (λ rows h done up right same. failed_counts {A = ℕ} (made g p rows) (old g (planning g p))
    (new g p) c.in_err-commit_resync.field-0.0 c.args.counts.now done up right)

pub returns-clause-counts : goal.returns-clause-counts
returns-clause-counts g c =
    let p = (goal.at.returns-clause-counts g c).After-commit_resync in
    counts g p (Ok (length (plans g p))) c.new.result
    (λ rows clean holds sound h. rw c.as_slice.ensures.value at
    (c.in_ok-commit_resync.ensures.atomic rows clean (rw c.as_slice.ensures.value
    (planned_rows c.args.limits c.args.pairs rows (plans g p) h.sound h.are
    (mid g (planning g p)).now holds))))
    (λ rows h done up right same. c.new.ensures.right (stored_books (new g p)))
