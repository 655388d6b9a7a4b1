-- Forgetting in the tables is `forget_step` on their books, also after a crash.
-- Given here: the look-up and the write are one step (`CallLemmas`, for calls that find a book and
-- then write it). The test `may_forget` gives two bounds: the number is at most the book's, so that
-- its column fits (`forgets_known`), and at least the horizon, as `count_forgotten` asks
-- (`forgets_later`). If the test allows more, these two break first.
use Rattle.std.proofs.Common.{rules, ◌≡◌, IsTrue, ℕ, true, false, Result, Ok, Err, IfErr, sym}
use Rattle.std.proofs.Common.{subst, ◌≤◌}
use Rattle.store_lookups.proofs.ChangeFaultLemmas.{then_change_faults}
use Rattle.store_lookups.proofs.StoreFaultLemmas.{passed_cause}
use Rattle.store_writes.proofs.ForgetLemmas.{forgets_known, forgets_later}
use Rattle.sqlite.specs.Held.{state}
use Rattle.sqlite.specs.Effect.{Database}
use Rattle.sqlite.specs.State.{State, HasCleanDisk}
use Rattle.book_model.specs.Counts.{AreCountsOf, CountsByName}
use Rattle.book_model.specs.declared.denied.Denied.{Denied}
use Rattle.book_model.specs.declared.denied.Denied.TheVariants.{Refused}
use Rattle.book_model.specs.declared.refusal.Refusal.{Refusal}
use Rattle.book_model.specs.declared.refusal.Refusal.TheVariants.{BadForget}
use Rattle.book_model.specs.Books.{Books}
use Rattle.book_model.specs.Forgetting.{book_after_forget, forget_step, may_forget}
use Rattle.std.specs.FinMap as finite
use Rattle.store_lookups.specs.CallResults.{FindsHeader}
use Rattle.store_lookups.specs.Faults.{IsDeniedFault}
use Rattle.store_rows.specs.TableBooks.{row_book, books_of, line_row}
use Rattle.store_rows.specs.TableRows.{TableRows}
use Rattle.store_writes.specs.TableChanges.{AppliesStep, CommitsOnce, HasBookRow, IsAtomic}
use Rattle.store_writes.specs.TableChanges.{TreesHold}
use Rattle.store_lookups.specs.StoredBooks.{KeepsCounts, stored_books}
use Rattle.store_writes.proofs.CallLemmas.{failed_counts, named_does, named_row_held, read_counts}
use Rattle.store_writes.proofs.CallLemmas.{reads_changes, unnamed_does, written_changes}
use Rattle.store_writes.proofs.CallLemmas.{written_commits, written_counts}
use Rattle.store_writes.proofs.ForgetLemmas.{ForgetsRows, forget_does, forget_holds, forget_of}
use Rattle.store_writes.proofs.ForgetLemmas.{refused_forget}
use Rattle.store_writes.proofs.forgetting.forget_in_book.Given as given
use Rattle.store_writes.proofs.forgetting.forget_in_book.Goals as goal
use Rattle.store_writes.proofs.forgetting.forget_in_book.Goals.{After-open_header}
use Rattle.store_writes.proofs.forgetting.forget_in_book.Goals.{After-write_forget}

-- ---- what the clauses share once the header is looked up

module _ (g : given.Over) (c : After-open_header g) where
  abbrev old : State
  old = state g.S.Store c.args.conn.now

  abbrev mid : State
  mid = state g.S.Store c.open_header.new.conn

  abbrev step : Books → Result (ℕ × Books) Refusal
  step books = forget_step books c.args.name.now c.args.upto

-- ---- and once the tombstones are deleted

module _ (g : given.Over) (c : After-write_forget g) where
  abbrev found : After-open_header g
  found = (goal.at.After-write_forget g c).After-open_header

  abbrev new : State
  new = state g.S.Store c.write_forget.new.conn

  may : may_forget c.in_ok-header.header.horizon c.in_ok-header.header.number c.args.upto ≡ true
  may = search rules

  abbrev made : TableRows → ℕ → Database → Type 0
  made = ForgetsRows c.args.name.now c.in_ok-header.header c.args.upto

  abbrev Commits : Result ℕ Denied → Type 0
  Commits r = (rows : TableRows) → HasCleanDisk new
      → HasBookRow (mid g found).now rows c.args.name.now c.in_ok-header.header
      → IsAtomic (mid g found) new r (made rows)

  changed : (r : Result ℕ Denied) → IfErr r IsDeniedFault → Commits r
      → AppliesStep (old g found) new r (step g found)
  changed r fault atomic =
      written_changes made (step g found) (old g found) (mid g found) new c.args.name.now
      c.in_ok-header.header r
      c.in_ok-header.ensures.unchanged c.open_header.ensures.reads_only
      (λ rows. FindsHeader rows c.args.name.now (Ok c.in_ok-header.header))
      c.in_ok-header.ensures.finds (λ rows h. h) c.write_forget.ensures.survives
      c.write_forget.ensures.settled c.in_ok-header.ensures.was_open atomic (λ rows a h. h.1.sound)
      (λ rows named done up. named_does rows c.args.name.now c.in_ok-header.header
      (forget_of (books_of rows) c.args.name.now c.args.upto) r (stored_books (old g found))
      (stored_books new) named
      (forget_does rows c.args.name.now c.in_ok-header.header c.args.upto (old g found) new r may
      fault done up))

  counted : (r : Result ℕ Denied) (after : CountsByName) → Commits r
      → ((rows : TableRows) → FindsHeader rows c.args.name.now (Ok c.in_ok-header.header)
      → IsAtomic (old g found) new r (made rows) → IsTrue new.is_open
      → AreCountsOf c.args.counts.now (stored_books (old g found)) → stored_books (old g found)
      ≡ books_of rows → AreCountsOf after (stored_books new))
      → KeepsCounts (old g found) new c.args.counts.now after
  counted r after atomic right =
      written_counts made (step g found) (old g found) (mid g found) new c.args.name.now
      c.in_ok-header.header r
      c.in_ok-header.ensures.unchanged c.open_header.ensures.reads_only
      (λ rows. FindsHeader rows c.args.name.now (Ok c.in_ok-header.header))
      c.in_ok-header.ensures.finds (λ rows h. h) c.write_forget.ensures.survives
      atomic c.args.counts.now after right

  crash : CommitsOnce (old g found) new (step g found)
  crash =
      written_commits made (step g found) (old g found) (mid g found) new c.args.name.now
      c.in_ok-header.header c.write_forget.result
      c.in_ok-header.ensures.unchanged c.open_header.ensures.reads_only
      (λ rows. FindsHeader rows c.args.name.now (Ok c.in_ok-header.header))
      c.in_ok-header.ensures.finds (λ rows h. h) c.write_forget.ensures.survives
      c.in_ok-header.ensures.was_open
      (λ rows. TreesHold (finite.insert (books_of rows) c.args.name.now
      (book_after_forget (row_book rows (line_row c.args.name.now c.in_ok-header.header))
      c.args.upto))) (λ rows line. c.write_forget.ensures.crash rows c.args.name.now line)
      (λ rows named db made. named_row_held rows c.args.name.now c.in_ok-header.header
      (forget_of (books_of rows) c.args.name.now c.args.upto) db named
      (forget_holds rows c.args.name.now c.in_ok-header.header c.args.upto db may made))

-- ---- the clauses

pub returns-in_err-header-clause-changes : goal.returns-in_err-header-clause-changes
returns-in_err-header-clause-changes g c =
    let p = (goal.at.returns-in_err-header-clause-changes g c).After-open_header in
    let said : c.from_residual.result ≡ Err c.in_err-header.field-0.0 = search rules in
    subst (λ r. AppliesStep (old g p) (mid g p) r (step g p)) (sym said)
    (reads_changes (step g p) (old g p) (mid g p) (Err c.in_err-header.field-0.0) c.requires
    c.open_header.ensures.reads_only
    (λ rows clean holds sound same. unnamed_does rows c.args.name.now
    (forget_of (books_of rows) c.args.name.now c.args.upto) c.in_err-header.field-0.0
    (stored_books (old g p)) (stored_books (mid g p)) (c.in_err-header.ensures.finds rows clean
    holds sound) same) (λ clean stays. tt))

pub returns-then-not-may_forget-clause-changes : goal.returns-then-not-may_forget-clause-changes
returns-then-not-may_forget-clause-changes g c =
    let p = (goal.at.returns-then-not-may_forget-clause-changes g c).After-open_header in
    let header = c.in_ok-header.header in
    let never : may_forget header.horizon header.number c.args.upto ≡ false = search rules in
    reads_changes (step g p) (old g p) (mid g p) (Err (Refused BadForget)) c.requires
    c.open_header.ensures.reads_only
    (λ rows clean holds sound same. named_does rows c.args.name.now header
    (forget_of (books_of rows) c.args.name.now c.args.upto) (Err (Refused BadForget))
    (stored_books (old g p)) (stored_books (mid g p)) (c.in_ok-header.ensures.finds rows clean
    holds sound)
    (refused_forget (books_of rows) c.args.name.now c.args.upto
    (row_book rows (line_row c.args.name.now header)) (stored_books (old g p))
    (stored_books (mid g p)) never same))
    (λ clean stays. tt)

pub returns-in_err-dropped-clause-changes : goal.returns-in_err-dropped-clause-changes
returns-in_err-dropped-clause-changes g c =
    let p = (goal.at.returns-in_err-dropped-clause-changes g c).After-write_forget in
    let said : c.from_residual-in_err-dropped.result ≡ Err c.in_err-dropped.field-0.0 =
    search rules in
    subst (λ r. AppliesStep (old g (found g p)) (new g p) r (step g (found g p))) (sym said)
    (changed g p (Err c.in_err-dropped.field-0.0) c.in_err-dropped.ensures.fault
    (λ rows clean line. c.in_err-dropped.ensures.atomic rows c.args.name.now clean line))

pub returns-clause-changes : goal.returns-clause-changes
returns-clause-changes g c =
    let p = (goal.at.returns-clause-changes g c).After-write_forget in
    changed g p (Ok c.in_ok-dropped.dropped) tt (λ rows clean line. c.in_ok-dropped.ensures.atomic
    rows c.args.name.now clean line)

pub returns-in_err-dropped-clause-crash : goal.returns-in_err-dropped-clause-crash
returns-in_err-dropped-clause-crash g c =
    crash g (goal.at.returns-in_err-dropped-clause-crash g c).After-write_forget

pub returns-clause-crash : goal.returns-clause-crash
returns-clause-crash g c = crash g (goal.at.returns-clause-crash g c).After-write_forget

-- ---- faults

pub returns-in_err-header-clause-store_fault : goal.returns-in_err-header-clause-store_fault
returns-in_err-header-clause-store_fault g c rows clean holds accept free =
    passed_cause c.from_residual.result c.in_err-header.field-0.0 _ c.from_residual.ensures.1
    (c.in_err-header.ensures.store_fault rows clean holds accept.faultless)

pub returns-in_err-dropped-clause-store_fault : goal.returns-in_err-dropped-clause-store_fault
returns-in_err-dropped-clause-store_fault g c rows clean holds accept free =
    let p = (goal.at.returns-in_err-dropped-clause-store_fault g c).After-write_forget in
    let low : c.args.upto ≤ c.in_ok-header.header.number =
    forgets_known c.in_ok-header.header.horizon c.in_ok-header.header.number c.args.upto
    (may g p) in
    let failed : Result ℕ Denied = Err c.in_err-dropped.field-0.0 in
    passed_cause c.from_residual-in_err-dropped.result c.in_err-dropped.field-0.0 _
    c.from_residual-in_err-dropped.ensures.1
    (then_change_faults (old g (found g p)) (mid g (found g p)) (new g p) _ _ c.args.name.now
    c.in_ok-header.header failed c.open_header.ensures.reads_only.survives
    c.in_ok-header.ensures.unchanged
    (λ rows clean holds sound. (c.in_ok-header.ensures.finds rows clean holds sound).there)
    c.write_forget.ensures.survives (c.in_err-dropped.ensures.store_fault low) rows clean holds
    accept free)

-- ---- the numbers of tombstones

pub returns-in_err-header-clause-counts : goal.returns-in_err-header-clause-counts
returns-in_err-header-clause-counts g c =
    let p = (goal.at.returns-in_err-header-clause-counts g c).After-open_header in
    read_counts (old g p) (mid g p) c.args.counts.now c.open_header.ensures.reads_only

pub returns-then-not-may_forget-clause-counts : goal.returns-then-not-may_forget-clause-counts
returns-then-not-may_forget-clause-counts g c =
    let p = (goal.at.returns-then-not-may_forget-clause-counts g c).After-open_header in
    read_counts (old g p) (mid g p) c.args.counts.now c.open_header.ensures.reads_only

pub returns-in_err-dropped-clause-counts : goal.returns-in_err-dropped-clause-counts
returns-in_err-dropped-clause-counts g c =
    let p = (goal.at.returns-in_err-dropped-clause-counts g c).After-write_forget in
    counted g p (Err c.in_err-dropped.field-0.0) c.args.counts.now
    (λ rows clean line. c.in_err-dropped.ensures.atomic rows c.args.name.now clean line)
    (λ rows named done up right same. failed_counts {A = ℕ} (made g p rows) (old g (found g p))
    (new g p) c.in_err-dropped.field-0.0 c.args.counts.now done up right)

pub returns-clause-counts : goal.returns-clause-counts
returns-clause-counts g c =
    let p = (goal.at.returns-clause-counts g c).After-write_forget in
    let header = c.in_ok-header.header in
    let after = c.count_forgotten.new.counts in
    let rises : header.horizon ≤ c.args.upto =
    forgets_later header.horizon header.number c.args.upto (may g p) in
    counted g p (Ok c.in_ok-dropped.dropped) after
    (λ rows clean line. c.in_ok-dropped.ensures.atomic rows c.args.name.now clean line)
    (λ rows named done up right same.
    subst (λ (b : Books). AreCountsOf after b) (sym done.0.1.books_are)
    (c.count_forgotten.ensures (books_of rows) (row_book rows (line_row c.args.name.now header))
    c.args.upto (subst (λ (b : Books). AreCountsOf c.args.counts.now b) same right) named.book
    rises done.0.0))
