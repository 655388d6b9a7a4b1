-- A put in the tables is `put_step` on their books, also after a crash.
-- Given here: the plan and the write are one step (`CallLemmas`, for calls that find a book and
-- then write it), and `PlanLemmas` says what that step does for the planned answer. For the numbers
-- of tombstones: a stored card takes the place of at most one (`stored_replace`).
-- If the effect of `put_step` changes, `stored_put` and `put_holds` of `PlanLemmas` break first.
use Rattle.std.proofs.Common.{rules, ◌≡◌, ◌+◌, IsTrue, Some, None, Result, Ok, Err, sym, ap, subst}
use Rattle.std.proofs.Common.{◌∙◌, IsSome, refl}
use Rattle.store_lookups.proofs.ChangeFaultLemmas.{then_change_faults}
use Rattle.store_lookups.proofs.StoreFaultLemmas.{passed_cause}
use Rattle.std.specs.FinMap as finite
use Rattle.sqlite.specs.Effect.{Database}
use Rattle.sqlite.specs.Held.{state}
use Rattle.sqlite.specs.State.{State, HasCleanDisk}
use Rattle.vcard_text.specs.Cards.{uid_of}
use Rattle.book_model.specs.declared.answers.PutAnswer.{PutAnswer}
use Rattle.book_model.specs.declared.change.Change.TheVariants.{Stores}
use Rattle.book_model.specs.declared.denied.Denied.{Denied}
use Rattle.book_model.specs.declared.refusal.Refusal.{Refusal}
use Rattle.book_model.specs.Books.{Books, book_named}
use Rattle.book_model.specs.BookChanges.{book_with_row}
use Rattle.book_model.specs.declared.change.StoreReason.{StoreReason}
use Rattle.book_model.specs.BookQueries.{tombstone_count}
use Rattle.book_model.specs.CallOutcomes.{MatchesStep}
use Rattle.book_model.specs.Counting.{one_if}
use Rattle.book_model.specs.Counts.{AreCountsOf, CountsByName}
use Rattle.book_model.proofs.StoreLemmas.{stored_replace}
use Rattle.book_model.specs.Putting.{put_step, put_store_reason}
use Rattle.store_rows.specs.TableBooks.{row_book, books_of, books_in, line_row}
use Rattle.store_rows.specs.TableRows.{TableRows}
use Rattle.store_rows.proofs.HeldRows.{books_held}
use Rattle.store_writes.specs.TableChanges.{AppliesStep, CommitsOnce, HasBookRow, HoldsBooks}
use Rattle.store_writes.specs.TableChanges.{IsAtomic, TreesHold}
use Rattle.store_writes.specs.internal.PutPlans.{IsPutPlanned}
use Rattle.store_lookups.specs.StoredBooks.{KeepsCounts, stored_books}
use Rattle.store_writes.proofs.CallLemmas.{failed_counts, fault_does, named_does, named_row_held}
use Rattle.store_writes.proofs.CallLemmas.{read_counts, read_stays_open, reads_changes}
use Rattle.store_writes.proofs.CallLemmas.{written_changes, written_commits, written_counts}
use Rattle.store_writes.proofs.PlanLemmas.{denied_put, put_holds, put_of, same_put, stored_put}
use Rattle.store_writes.proofs.put_call.put_in_book.Given as given
use Rattle.store_writes.proofs.put_call.put_in_book.Goals as goal
use Rattle.store_writes.proofs.put_call.put_in_book.Goals.{After-plan_put, After-write_put}

-- ---- what the clauses share once the put is planned

module _ (g : given.Over) (c : After-plan_put g) where
  abbrev old : State
  old = state g.S.Store c.args.conn.now

  abbrev mid : State
  mid = state g.S.Store c.plan_put.new.conn

  abbrev step : Books → Result (PutAnswer × Books) Refusal
  step books = put_step c.args.limits books c.args.name.now c.args.card.now c.args.expect

-- ---- and once the card is written

module _ (g : given.Over) (c : After-write_put g) where
  abbrev plan : After-plan_put g
  plan = (goal.at.After-write_put g c).After-plan_put

  abbrev new : State
  new = state g.S.Store c.write_put.new.conn

  abbrev put : TableRows → Books
  put rows = finite.insert (books_of rows) c.args.name.now
      (book_with_row (row_book rows (line_row c.args.name.now c.in_ok-header.header))
      (uid_of c.args.card.now) (Stores c.args.card.now c.in-Some.reason))

  abbrev made : TableRows → PutAnswer → Database → Type 0
  made rows returned db = HoldsBooks db (put rows)

  abbrev planned : TableRows → Type 0
  planned rows = IsPutPlanned c.args.limits rows c.args.name.now c.args.card.now c.args.expect
      (Ok (c.in_ok-header.header, c.in_ok-header.answer, c.in_ok-header.is_tombstone))

  stores : put_store_reason c.in_ok-header.answer ≡ Some c.in-Some.reason
  stores = search rules

  written : (r : Result PutAnswer Denied) → ((rows : TableRows) → HasCleanDisk new
      → HasBookRow (mid g plan).now rows c.args.name.now c.in_ok-header.header
      → IsAtomic (mid g plan) new r (made rows))
      → ((rows : TableRows) → planned rows → IsAtomic (old g plan) new r (made rows)
      → IsTrue new.is_open → MatchesStep r (step g plan (books_of rows))
      (stored_books (old g plan)) (stored_books new))
      → AppliesStep (old g plan) new r (step g plan)
  written r atomic matches_step =
      written_changes made (step g plan) (old g plan) (mid g plan) new c.args.name.now
      c.in_ok-header.header r
      c.in_ok-header.ensures.unchanged c.plan_put.ensures.reads_only planned
      c.in_ok-header.ensures.planned (λ rows h. h.0) c.write_put.ensures.survives
      c.write_put.ensures.settled c.in_ok-header.ensures.was_open atomic (λ rows a h. h.sound)
      matches_step

  counts : (r : Result PutAnswer Denied) (after : CountsByName)
      → ((rows : TableRows) → HasCleanDisk new → HasBookRow (mid g plan).now rows c.args.name.now
      c.in_ok-header.header → IsAtomic (mid g plan) new r (made rows))
      → ((rows : TableRows) → planned rows → IsAtomic (old g plan) new r (made rows)
      → IsTrue new.is_open → AreCountsOf c.args.counts.now (stored_books (old g plan))
      → stored_books (old g plan) ≡ books_of rows → AreCountsOf after (stored_books new))
      → KeepsCounts (old g plan) new c.args.counts.now after
  counts r after atomic right =
      written_counts made (step g plan) (old g plan) (mid g plan) new c.args.name.now
      c.in_ok-header.header r
      c.in_ok-header.ensures.unchanged c.plan_put.ensures.reads_only planned
      c.in_ok-header.ensures.planned (λ rows h. h.0) c.write_put.ensures.survives
      atomic c.args.counts.now after right

  crash : CommitsOnce (old g plan) new (step g plan)
  crash =
      written_commits made (step g plan) (old g plan) (mid g plan) new c.args.name.now
      c.in_ok-header.header (Ok c.in_ok-header.answer)
      c.in_ok-header.ensures.unchanged c.plan_put.ensures.reads_only planned
      c.in_ok-header.ensures.planned (λ rows h. h.0) c.write_put.ensures.survives
      c.in_ok-header.ensures.was_open
      (λ rows. TreesHold (put rows)) (λ rows line. c.write_put.ensures.crash rows c.args.name.now
      line)
      (λ rows h db held. named_row_held rows c.args.name.now c.in_ok-header.header
      (put_of c.args.limits (books_of rows) c.args.name.now c.args.card.now c.args.expect) db
      h.0
      (put_holds rows c.args.name.now c.in_ok-header.header c.args.limits c.args.card.now
      c.args.expect c.in_ok-header.answer c.in-Some.reason h.1 stores db held))

-- ---- the clauses

pub returns-in_err-header-clause-changes : goal.returns-in_err-header-clause-changes
returns-in_err-header-clause-changes g c =
    let p = (goal.at.returns-in_err-header-clause-changes g c).After-plan_put in
    let said : c.from_residual.result ≡ Err c.in_err-header.field-0.0 = search rules in
    subst (λ r. AppliesStep (old g p) (mid g p) r (step g p)) (sym said)
    (reads_changes (step g p) (old g p) (mid g p) (Err c.in_err-header.field-0.0) c.requires
    c.plan_put.ensures.reads_only
    (λ rows clean holds sound same. denied_put c.args.limits (books_of rows) c.args.name.now
    c.args.card.now c.args.expect (book_named (books_of rows) c.args.name.now)
    c.in_err-header.field-0.0 (stored_books (old g p)) (stored_books (mid g p))
    (c.in_err-header.ensures.planned rows clean holds sound) same) (λ clean stays. tt))

pub returns-in_default-clause-changes : goal.returns-in_default-clause-changes
returns-in_default-clause-changes g c =
    let p = (goal.at.returns-in_default-clause-changes g c).After-plan_put in
    let header = c.in_ok-header.header in
    let answer = c.in_ok-header.answer in
    let none : put_store_reason answer ≡ None = search rules in
    reads_changes (step g p) (old g p) (mid g p) (Ok answer) c.requires
    c.plan_put.ensures.reads_only
    (λ rows clean holds sound same.
    let planned_put = c.in_ok-header.ensures.planned rows clean holds sound in
    let held : stored_books (old g p) ≡ books_of rows = books_held (old g p).now rows holds sound in
    subst (λ (b : Books). MatchesStep (Ok answer) (step g p (books_of rows)) b
    (stored_books (mid g p))) (sym held)
    (named_does rows c.args.name.now header (put_of c.args.limits (books_of rows) c.args.name.now
    c.args.card.now c.args.expect) (Ok answer) (books_of rows) (stored_books (mid g p))
    planned_put.0
    (same_put c.args.limits (books_of rows) c.args.name.now c.args.card.now c.args.expect
    (row_book rows (line_row c.args.name.now header)) answer (stored_books (mid g p))
    planned_put.1 none (same ∙ held))))
    (read_stays_open (old g p) (mid g p) c.plan_put.ensures.reads_only
    c.in_ok-header.ensures.was_open c.in_ok-header.ensures.unchanged)

pub returns-in_err-write_put-clause-changes : goal.returns-in_err-write_put-clause-changes
returns-in_err-write_put-clause-changes g c =
    let p = (goal.at.returns-in_err-write_put-clause-changes g c).After-write_put in
    let said : c.from_residual-in_err-write_put.result ≡ Err c.in_err-write_put.field-0.0 =
    search rules in
    subst (λ r. AppliesStep (old g (plan g p)) (new g p) r (step g (plan g p))) (sym said)
    (written g p (Err c.in_err-write_put.field-0.0)
    (λ rows clean line. c.in_err-write_put.ensures.atomic rows c.args.name.now clean line)
    (λ rows h done up. fault_does (step g (plan g p) (books_of rows)) c.in_err-write_put.field-0.0
    (stored_books (old g (plan g p))) (stored_books (new g p)) c.in_err-write_put.ensures.fault
    (ap (λ (d : Database). books_in d.trees) (done up).0)))

pub returns-clause-changes : goal.returns-clause-changes
returns-clause-changes g c =
    let p = (goal.at.returns-clause-changes g c).After-write_put in
    let header = c.in_ok-header.header in
    let answer = c.in_ok-header.answer in
    written g p (Ok answer) (λ rows clean line. c.in_ok-write_put.ensures.atomic rows
    c.args.name.now clean line)
    (λ rows h done up. named_does rows c.args.name.now header (put_of c.args.limits (books_of rows)
    c.args.name.now c.args.card.now c.args.expect) (Ok answer) (stored_books (old g (plan g p)))
    (stored_books (new g p)) h.0
    (stored_put rows c.args.name.now header c.args.limits c.args.card.now c.args.expect answer
    c.in-Some.reason h.1 (stores g p) (new g p) (stored_books (old g (plan g p))) done.0))

pub returns-in_err-write_put-clause-crash : goal.returns-in_err-write_put-clause-crash
returns-in_err-write_put-clause-crash g c =
    crash g (goal.at.returns-in_err-write_put-clause-crash g c).After-write_put

pub returns-clause-crash : goal.returns-clause-crash
returns-clause-crash g c = crash g (goal.at.returns-clause-crash g c).After-write_put

-- ---- faults

pub returns-in_err-header-clause-store_fault : goal.returns-in_err-header-clause-store_fault
returns-in_err-header-clause-store_fault g c rows clean holds accept free =
    passed_cause c.from_residual.result c.in_err-header.field-0.0 _ c.from_residual.ensures.1
    (c.in_err-header.ensures.store_fault rows clean holds accept.faultless)

pub returns-in_err-write_put-clause-store_fault : goal.returns-in_err-write_put-clause-store_fault
returns-in_err-write_put-clause-store_fault g c rows clean holds accept free =
    let p = (goal.at.returns-in_err-write_put-clause-store_fault g c).After-write_put in
    let some : IsSome (put_store_reason c.in_ok-header.answer) =
    subst (λ o. IsSome o) (sym (stores g p)) refl in
    let failed : Result PutAnswer Denied = Err c.in_err-write_put.field-0.0 in
    passed_cause c.from_residual-in_err-write_put.result c.in_err-write_put.field-0.0 _
    c.from_residual-in_err-write_put.ensures.1
    (then_change_faults (old g (plan g p)) (mid g (plan g p)) (new g p) _ _ c.args.name.now
    c.in_ok-header.header failed c.plan_put.ensures.reads_only.survives
    c.in_ok-header.ensures.unchanged
    (λ rows clean holds sound. (c.in_ok-header.ensures.planned rows clean holds sound).0.there)
    c.write_put.ensures.survives (c.in_err-write_put.ensures.store_fault
    (c.in_ok-header.ensures.number_fits some)) rows clean holds accept free)

-- ---- the numbers of tombstones

pub returns-in_err-header-clause-counts : goal.returns-in_err-header-clause-counts
returns-in_err-header-clause-counts g c =
    let p = (goal.at.returns-in_err-header-clause-counts g c).After-plan_put in
    read_counts (old g p) (mid g p) c.args.counts.now c.plan_put.ensures.reads_only

pub returns-in_default-clause-counts : goal.returns-in_default-clause-counts
returns-in_default-clause-counts g c =
    let p = (goal.at.returns-in_default-clause-counts g c).After-plan_put in
    read_counts (old g p) (mid g p) c.args.counts.now c.plan_put.ensures.reads_only

pub returns-in_err-write_put-clause-counts : goal.returns-in_err-write_put-clause-counts
returns-in_err-write_put-clause-counts g c =
    let p = (goal.at.returns-in_err-write_put-clause-counts g c).After-write_put in
    counts g p (Err c.in_err-write_put.field-0.0) c.args.counts.now
    (λ rows clean line. c.in_err-write_put.ensures.atomic rows c.args.name.now clean line)
    (λ rows h done up right same. failed_counts {A = PutAnswer} (made g p rows) (old g (plan g p))
    (new g p) c.in_err-write_put.field-0.0 c.args.counts.now done up right)

pub returns-clause-counts : goal.returns-clause-counts
returns-clause-counts g c =
    let p = (goal.at.returns-clause-counts g c).After-write_put in
    let after = c.count_stored.new.counts in
    counts g p (Ok c.in_ok-header.answer) after (λ rows clean line. c.in_ok-write_put.ensures.atomic
    rows c.args.name.now clean line)
    (λ rows h done up right same.
    let book = row_book rows (line_row c.args.name.now c.in_ok-header.header) in
    let why : StoreReason = c.in-Some.reason in
    let stored = book_with_row book (uid_of c.args.card.now) (Stores c.args.card.now why) in
    let number : tombstone_count stored + one_if c.in_ok-header.is_tombstone
    ≡ tombstone_count book = subst (λ b. tombstone_count stored + one_if b
    ≡ tombstone_count book) h.2 (stored_replace book (uid_of c.args.card.now) c.args.card.now
    why) in
    subst (λ (b : Books). AreCountsOf after b) (sym done.0.books_are)
    (c.count_stored.ensures (books_of rows) book stored
    (subst (λ (b : Books). AreCountsOf c.args.counts.now b) same right) h.0.book number))
