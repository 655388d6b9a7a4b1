-- An import in the tables is `import_step` on their books, also after a crash.
-- Given here: the plan and the write are one step (`CallLemmas`, for calls that read and then
-- write). The clauses of `plan_import` are about any decision; `found` and `found_replaces` narrow
-- them to a new plan, which also says how many tombstones the cards replace.
-- If `ImportDecision` gets a third case, that case has no answers here.
use Rattle.std.proofs.Common.{rules, ◌≡◌, IsTrue, Result, Ok, Err, sym, ap, subst, ◌∙◌}
use Rattle.store_tables.proofs.FailureLemmas.{outside_later}
use Rattle.store_tables.proofs.SchemaCreationLemmas.{clean_before}
use Rattle.store_lookups.specs.ChangeFaults.{HaveFreeIds}
use Rattle.store_lookups.proofs.ChangeFaultLemmas.{header_fits}
use Rattle.store_lookups.proofs.StoreFaultLemmas.{passed_cause}
use Rattle.store_writes.proofs.AcceptLemmas.{accepts_header, knows_members}
use Rattle.store_inserts.specs.internal.Importing.{AcceptsImportOf, HasTallyFor}
use Rattle.store_inserts.proofs.ImportFaults.{key_short}
use Rattle.std.specs.FinMap as finite
use Rattle.sqlite.specs.Effect.{Database}
use Rattle.sqlite.specs.Held.{state}
use Rattle.sqlite.specs.State.{State, HasCleanDisk}
use Rattle.book_model.specs.declared.answers.ImportTally.{ImportTally}
use Rattle.book_model.specs.declared.denied.Denied.{Denied}
use Rattle.book_model.specs.declared.refusal.Refusal.{Refusal}
use Rattle.book_model.specs.Books.{Books}
use Rattle.book_model.specs.Importing.{import_step}
use Rattle.book_model.specs.CallOutcomes.{MatchesStep}
use Rattle.store_rows.specs.SoundTables.{AreSoundRows}
use Rattle.store_rows.specs.TableBooks.{row_book, books_of, books_in, line_row}
use Rattle.store_rows.specs.TableRows.{TableRows, HoldsRows}
use Rattle.store_rows.proofs.HeldRows.{books_held}
use Rattle.store_lookups.specs.CallResults.{GivenSoundRows}
use Rattle.store_writes.specs.TableChanges.{AppliesStep, CommitsOnce, HasBookRow, HoldsBooks}
use Rattle.store_writes.specs.TableChanges.{IsAtomic, TreesHold}
use Rattle.store_inserts.specs.internal.Importing.{IsImportPlanned, ReplacesFor, ReplacesTombstones}
use Rattle.store_inserts.specs.internal.Importing.{book_with_import}
use Rattle.book_model.specs.Counts.{AreCountsOf, CountsByName}
use Rattle.store_lookups.specs.StoredBooks.{KeepsCounts, stored_books}
use Rattle.store_inserts.specs.declared.import_plan.ImportDecision.TheVariants.{Kept, New}
use Rattle.store_writes.proofs.CallLemmas.{failed_counts, fault_does, read_counts, read_stays_open}
use Rattle.store_writes.proofs.CallLemmas.{reads_changes, wrote_changes, wrote_commits}
use Rattle.store_writes.proofs.CallLemmas.{wrote_counts}
use Rattle.store_inserts.proofs.ImportLemmas.{answered_does, answered_holds, line_of, refused_does}
use Rattle.store_inserts.proofs.importing.import_in_book.Given as given
use Rattle.store_inserts.proofs.importing.import_in_book.Goals as goal
use Rattle.store_inserts.proofs.importing.import_in_book.Goals.{After-plan_import}
use Rattle.store_inserts.proofs.importing.import_in_book.Goals.{After-commit_import}

-- ---- what the clauses share once the import is planned

module _ (g : given.Over) (c : After-plan_import g) where
  abbrev old : State
  old = state g.S.Store c.args.conn.now

  abbrev mid : State
  mid = state g.S.Store c.plan_import.new.conn

  abbrev step : Books → Result (ImportTally × Books) Refusal
  step books = import_step c.args.limits books c.args.name.now c.args.key.now c.args.cards.now

-- ---- and once the rows are written

module _ (g : given.Over) (c : After-commit_import g) where
  abbrev planning : After-plan_import g
  planning = (goal.at.After-commit_import g c).After-plan_import

  abbrev new : State
  new = state g.S.Store c.commit_import.new.conn

  abbrev whole : TableRows → Books
  whole rows = finite.insert (books_of rows) c.args.name.now
      (book_with_import (row_book rows (line_row c.args.name.now c.in_ok-header.header))
      c.in-New.plan.stored.items c.args.key.now c.in-New.tally)

  abbrev made : TableRows → ImportTally → Database → Type 0
  made rows returned db = HoldsBooks db (whole rows)

  abbrev planned : TableRows → Type 0
  planned rows = IsImportPlanned c.args.limits rows c.args.name.now c.args.key.now c.args.cards.now
      (Ok (c.in_ok-header.header, New c.in-New.plan c.in-New.tally))

  found : GivenSoundRows (old g planning) (mid g planning) planned
  found rows clean holds sound =
      let order : c.in_ok-header.order ≡ New c.in-New.plan c.in-New.tally = search rules in
      subst (λ o. IsImportPlanned c.args.limits rows c.args.name.now c.args.key.now c.args.cards.now
      (Ok (c.in_ok-header.header, o))) order (c.in_ok-header.ensures.planned rows clean holds
      sound)

  line : (rows : TableRows) → HoldsRows (mid g planning).now rows → AreSoundRows rows → planned rows
      → HasBookRow (mid g planning).now rows c.args.name.now c.in_ok-header.header
  line rows holds sound h = line_of (mid g planning).now rows c.args.name.now c.in_ok-header.header
      holds sound h.0

  written : (r : Result ImportTally Denied) → ((rows : TableRows) → HasCleanDisk new
      → HoldsRows (mid g planning).now rows → AreSoundRows rows → planned rows
      → IsAtomic (mid g planning) new r (made rows))
      → ((rows : TableRows) → planned rows → IsAtomic (old g planning) new r (made rows)
      → IsTrue new.is_open → MatchesStep r (step g planning (books_of rows))
      (stored_books (old g planning)) (stored_books new))
      → AppliesStep (old g planning) new r (step g planning)
  written r atomic matches_step =
      wrote_changes made (step g planning) (old g planning) (mid g planning) new r
      c.in_ok-header.ensures.unchanged c.plan_import.ensures.reads_only planned found
      c.commit_import.ensures.survives
      c.commit_import.ensures.settled c.in_ok-header.ensures.was_open atomic (λ rows a h. h.sound)
      matches_step

  abbrev replaces : TableRows → Type 0
  replaces rows = planned rows × ReplacesTombstones
      (row_book rows (line_row c.args.name.now c.in_ok-header.header)) c.in-New.plan

  found_replaces : GivenSoundRows (old g planning) (mid g planning) replaces
  found_replaces rows clean holds sound =
      let order : c.in_ok-header.order ≡ New c.in-New.plan c.in-New.tally = search rules in (
        found rows clean holds sound,
        subst (λ o. ReplacesFor (row_book rows (line_row c.args.name.now c.in_ok-header.header)) o)
            order (c.in_ok-header.ensures.replaced rows clean holds sound),
      )

  counts : (r : Result ImportTally Denied) (after : CountsByName)
      → ((rows : TableRows) → HasCleanDisk new → HoldsRows (mid g planning).now rows
      → AreSoundRows rows → planned rows → IsAtomic (mid g planning) new r (made rows))
      → ((rows : TableRows) → replaces rows → IsAtomic (old g planning) new r (made rows)
      → IsTrue new.is_open → AreCountsOf c.args.counts.now (stored_books (old g planning))
      → stored_books (old g planning) ≡ books_of rows → AreCountsOf after (stored_books new))
      → KeepsCounts (old g planning) new c.args.counts.now after
  counts r after atomic right =
      wrote_counts made (step g planning) (old g planning) (mid g planning) new r
      c.in_ok-header.ensures.unchanged c.plan_import.ensures.reads_only replaces found_replaces
      c.commit_import.ensures.survives
      (λ rows clean holds sound h. atomic rows clean holds sound h.0) c.args.counts.now after right

  crash : CommitsOnce (old g planning) new (step g planning)
  crash =
      wrote_commits made (step g planning) (old g planning) (mid g planning) new (Ok c.in-New.tally)
      c.in_ok-header.ensures.unchanged c.plan_import.ensures.reads_only planned found
      c.commit_import.ensures.survives c.in_ok-header.ensures.was_open
      (λ rows. TreesHold (whole rows)) (λ rows holds sound h. rw c.as_slice.ensures.value at
      (c.commit_import.ensures.crash rows c.args.name.now (line rows holds sound h) h.1))
      (λ rows h db held. answered_holds (step g planning (books_of rows)) c.in-New.tally
      (whole rows) db h.2 held)

-- ---- the clauses

pub returns-in_err-header-clause-changes : goal.returns-in_err-header-clause-changes
returns-in_err-header-clause-changes g c =
    let p = (goal.at.returns-in_err-header-clause-changes g c).After-plan_import in
    let said : c.from_residual.result ≡ Err c.in_err-header.field-0.0 = search rules in
    subst (λ r. AppliesStep (old g p) (mid g p) r (step g p)) (sym said)
    (reads_changes (step g p) (old g p) (mid g p) (Err c.in_err-header.field-0.0) c.requires.settled
    c.plan_import.ensures.reads_only
    (λ rows clean holds sound same. refused_does (step g p (books_of rows))
    c.in_err-header.field-0.0 (stored_books (old g p)) (stored_books (mid g p))
    (c.in_err-header.ensures.planned rows clean holds sound) same) (λ clean stays. tt))

pub returns-in-Kept-clause-changes : goal.returns-in-Kept-clause-changes
returns-in-Kept-clause-changes g c =
    let p = (goal.at.returns-in-Kept-clause-changes g c).After-plan_import in
    let tally = c.in-Kept.tally in
    let order : c.in_ok-header.order ≡ Kept tally = search rules in
    reads_changes (step g p) (old g p) (mid g p) (Ok tally) c.requires.settled
    c.plan_import.ensures.reads_only
    (λ rows clean holds sound same.
    let kept = subst (λ o. IsImportPlanned c.args.limits rows c.args.name.now c.args.key.now
    c.args.cards.now (Ok (c.in_ok-header.header, o))) order (c.in_ok-header.ensures.planned rows
    clean holds sound) in
    answered_does (step g p (books_of rows)) tally (books_of rows) (stored_books (old g p))
    (stored_books (mid g p)) kept.2 (same ∙ books_held (old g p).now rows holds sound))
    (read_stays_open (old g p) (mid g p) c.plan_import.ensures.reads_only
    c.in_ok-header.ensures.was_open c.in_ok-header.ensures.unchanged)

pub returns-in_err-commit_import-clause-changes : goal.returns-in_err-commit_import-clause-changes
returns-in_err-commit_import-clause-changes g c =
    let p = (goal.at.returns-in_err-commit_import-clause-changes g c).After-commit_import in
    let before = old g (planning g p) in
    let said : c.from_residual-in_err-commit_import.result ≡ Err c.in_err-commit_import.field-0.0 =
    search rules in
    subst (λ r. AppliesStep before (new g p) r (step g (planning g p))) (sym said)
    (written g p (Err c.in_err-commit_import.field-0.0) (λ rows clean holds sound h.
    c.in_err-commit_import.ensures.atomic rows c.args.name.now clean
    (line g p rows holds sound h) h.1)
    (λ rows h done up. fault_does (step g (planning g p) (books_of rows))
    c.in_err-commit_import.field-0.0 (stored_books before) (stored_books (new g p))
    c.in_err-commit_import.ensures.fault (ap (λ (d : Database). books_in d.trees) (done up).0)))

pub returns-clause-changes : goal.returns-clause-changes
returns-clause-changes g c =
    let p = (goal.at.returns-clause-changes g c).After-commit_import in
    written g p (Ok c.in-New.tally) (λ rows clean holds sound h. rw c.as_slice.ensures.value at
    (c.in_ok-commit_import.ensures.atomic rows c.args.name.now clean
    (line g p rows holds sound h) h.1))
    (λ rows h done up. answered_does (step g (planning g p) (books_of rows)) c.in-New.tally
    (whole g p rows) (stored_books (old g (planning g p))) (stored_books (new g p)) h.2
    done.0.books_are)

pub returns-in_err-commit_import-clause-crash : goal.returns-in_err-commit_import-clause-crash
returns-in_err-commit_import-clause-crash g c =
    crash g (goal.at.returns-in_err-commit_import-clause-crash g c).After-commit_import

pub returns-clause-crash : goal.returns-clause-crash
returns-clause-crash g c = crash g (goal.at.returns-clause-crash g c).After-commit_import

-- ---- faults

pub returns-in_err-header-clause-store_fault : goal.returns-in_err-header-clause-store_fault
returns-in_err-header-clause-store_fault g c rows clean holds accept free =
    passed_cause c.from_residual.result c.in_err-header.field-0.0 _ c.from_residual.ensures.1
    (c.in_err-header.ensures.store_fault rows clean holds accept.faultless)

pub returns-in_err-commit_import-clause-store_fault :
    goal.returns-in_err-commit_import-clause-store_fault
returns-in_err-commit_import-clause-store_fault g c rows clean holds accept free =
    let p = (goal.at.returns-in_err-commit_import-clause-store_fault g c).After-commit_import in
    let before = old g (planning g p) in
    let between = mid g (planning g p) in
    let name = c.args.name.now in
    let header = c.in_ok-header.header in
    let early : HasCleanDisk between =
    clean_before _ between (new g p) c.commit_import.ensures.survives clean in
    let kept = c.in_ok-header.ensures.unchanged early holds.schema in
    let still = subst (λ (d : Database). HoldsRows d rows) (sym kept.0.now_is) holds in
    let ids = subst (λ (d : Database). HaveFreeIds d.trees) (sym kept.0.now_is) free in
    let order : c.in_ok-header.order ≡ New c.in-New.plan c.in-New.tally = search rules in
    let planned = found g p rows early holds accept.faultless.sound in
    let fits = subst HasTallyFor order c.in_ok-header.ensures.tally_fits in
    let there = planned.0.there in
    let ready : AcceptsImportOf between.now rows name header c.args.key.now = record {
      book = accepts_header between.now rows name header still accept there;
      known = knows_members rows name header accept there;
      unused = planned.1;
      short = key_short c.args.key.now c.in_ok-header.ensures.legal_key;
      free_ids = ids;
      id = (header_fits rows name header accept there).id;
    } in
    passed_cause c.from_residual-in_err-commit_import.result c.in_err-commit_import.field-0.0 _
    c.from_residual-in_err-commit_import.ensures.1
    (λ store. outside_later before between (new g p) _ _ c.plan_import.ensures.reads_only.survives
    early c.commit_import.ensures.survives
    (c.in_err-commit_import.ensures.store_fault fits.0 (rw c.as_slice.ensures.value fits.1) rows
    name clean ready store))

-- ---- the numbers of tombstones

pub returns-in_err-header-clause-counts : goal.returns-in_err-header-clause-counts
returns-in_err-header-clause-counts g c =
    let p = (goal.at.returns-in_err-header-clause-counts g c).After-plan_import in
    read_counts (old g p) (mid g p) c.args.counts.now c.plan_import.ensures.reads_only

pub returns-in-Kept-clause-counts : goal.returns-in-Kept-clause-counts
returns-in-Kept-clause-counts g c =
    let p = (goal.at.returns-in-Kept-clause-counts g c).After-plan_import in
    read_counts (old g p) (mid g p) c.args.counts.now c.plan_import.ensures.reads_only

pub returns-in_err-commit_import-clause-counts : goal.returns-in_err-commit_import-clause-counts
returns-in_err-commit_import-clause-counts g c =
    let p = (goal.at.returns-in_err-commit_import-clause-counts g c).After-commit_import in
    counts g p (Err c.in_err-commit_import.field-0.0) c.args.counts.now (λ rows clean holds sound h.
    c.in_err-commit_import.ensures.atomic rows c.args.name.now clean
    (line g p rows holds sound h) h.1)
    (λ rows h done up right same. failed_counts {A = ImportTally} (made g p rows)
    (old g (planning g p)) (new g p) c.in_err-commit_import.field-0.0 c.args.counts.now done up
    right)

pub returns-clause-counts : goal.returns-clause-counts
returns-clause-counts g c =
    let p = (goal.at.returns-clause-counts g c).After-commit_import in
    let after = c.count_replaced.new.counts in
    counts g p (Ok c.in-New.tally) after (λ rows clean holds sound h. rw c.as_slice.ensures.value at
    (c.in_ok-commit_import.ensures.atomic rows c.args.name.now clean
    (line g p rows holds sound h) h.1))
    (λ rows h done up right same.
    let book = row_book rows (line_row c.args.name.now c.in_ok-header.header) in
    subst (λ (b : Books). AreCountsOf after b) (sym done.0.books_are)
    (c.count_replaced.ensures (books_of rows) book (book_with_import book c.in-New.plan.stored.items
    c.args.key.now c.in-New.tally) (subst (λ (b : Books). AreCountsOf c.args.counts.now b) same
    right) h.0.0.book h.1))
