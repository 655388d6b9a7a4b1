-- Creating a book in the tables is `create_step` on their books, also after a crash.
-- Given here: the plan and the write are one step (`CallLemmas`, for calls that read and then
-- write). The plan says that the name is free, which is what the write asks for. For faults: the
-- tables accept the new rows, as neither a book nor a keep has the planned id (`accepts_book`).
use Rattle.std.proofs.Common.{rules, ◌≡◌, ℕ, IsTrue, Result, Ok, Err, sym, ap, subst, arith}
use Rattle.store_tables.proofs.FailureLemmas.{outside_later}
use Rattle.store_tables.proofs.SchemaCreationLemmas.{clean_before}
use Rattle.store_rows.specs.TableRows.{HoldsRows}
use Rattle.store_lookups.proofs.StoreFaultLemmas.{passed_cause}
use Rattle.store_inserts.proofs.CreateFaults.{accepts_book}
use Rattle.std.specs.FinMap as finite
use Rattle.sqlite.specs.Effect.{Database}
use Rattle.sqlite.specs.Held.{state}
use Rattle.sqlite.specs.State.{State, HasCleanDisk}
use Rattle.book_model.specs.declared.denied.Denied.{Denied}
use Rattle.book_model.specs.declared.refusal.Refusal.{Refusal}
use Rattle.book_model.specs.Books.{Books, fresh_book}
use Rattle.book_model.specs.CallOutcomes.{MatchesStep}
use Rattle.book_model.specs.Creating.{create_step}
use Rattle.store_rows.specs.TableBooks.{books_in, books_of}
use Rattle.store_rows.specs.TableRows.{TableRows}
use Rattle.store_writes.specs.TableChanges.{AppliesStep, CommitsOnce, HoldsBooks, IsAtomic}
use Rattle.store_writes.specs.TableChanges.{LacksBookRow, TreesHold}
use Rattle.store_inserts.specs.internal.Creating.{IsCreationPlanned, new_id_among}
use Rattle.store_lookups.specs.StoredBooks.{stored_books}
use Rattle.store_writes.proofs.CallLemmas.{denied_does, fault_does, reads_changes, wrote_changes}
use Rattle.store_writes.proofs.CallLemmas.{wrote_commits}
use Rattle.store_inserts.proofs.CreateLemmas.{created_does, created_holds}
use Rattle.store_inserts.proofs.creating.create_in_tables.Given as given
use Rattle.store_inserts.proofs.creating.create_in_tables.Goals as goal
use Rattle.store_inserts.proofs.creating.create_in_tables.Goals.{After-plan_create}
use Rattle.store_inserts.proofs.creating.create_in_tables.Goals.{After-write_create}

-- ---- what the clauses share once the creation is planned

module _ (g : given.Over) (c : After-plan_create g) where
  abbrev old : State
  old = state g.S.Store c.args.conn.now

  abbrev mid : State
  mid = state g.S.Store c.plan_create.new.conn

  abbrev step : Books → Result (ℕ × Books) Refusal
  step books = create_step c.args.limits books c.args.name.now

-- ---- and once the rows are written

module _ (g : given.Over) (c : After-write_create g) where
  abbrev planning : After-plan_create g
  planning = (goal.at.After-write_create g c).After-plan_create

  abbrev new : State
  new = state g.S.Store c.write_create.new.conn

  abbrev created : TableRows → Books
  created rows = finite.insert (books_of rows) c.args.name.now
      (fresh_book c.in_ok-id.id c.keep.result)

  abbrev made : TableRows → ℕ → Database → Type 0
  made rows returned db = HoldsBooks db (created rows)

  abbrev planned : TableRows → Type 0
  planned rows = IsCreationPlanned c.args.limits rows c.args.name.now (Ok c.in_ok-id.id)

  written : (r : Result ℕ Denied) → ((rows : TableRows) → HasCleanDisk new
      → LacksBookRow (mid g planning).now rows c.args.name.now
      → IsAtomic (mid g planning) new r (made rows))
      → ((rows : TableRows) → planned rows → IsAtomic (old g planning) new r (made rows)
      → IsTrue new.is_open → MatchesStep r (step g planning (books_of rows))
      (stored_books (old g planning)) (stored_books new))
      → AppliesStep (old g planning) new r (step g planning)
  written r atomic matches_step =
      wrote_changes made (step g planning) (old g planning) (mid g planning) new r
      c.in_ok-id.ensures.unchanged c.plan_create.ensures.reads_only planned
      c.in_ok-id.ensures.planned c.write_create.ensures.survives
      c.write_create.ensures.settled c.in_ok-id.ensures.was_open (λ rows clean holds sound returned.
      atomic rows clean (record { holds = holds; sound = sound; free = returned.0 }))
      (λ rows a h. h.sound) matches_step

  crash : CommitsOnce (old g planning) new (step g planning)
  crash =
      wrote_commits made (step g planning) (old g planning) (mid g planning) new (Ok c.in_ok-id.id)
      c.in_ok-id.ensures.unchanged c.plan_create.ensures.reads_only planned
      c.in_ok-id.ensures.planned c.write_create.ensures.survives c.in_ok-id.ensures.was_open
      (λ rows. TreesHold (created rows)) (λ rows holds sound returned. c.write_create.ensures.crash
      rows (record { holds = holds; sound = sound; free = returned.0 }))
      (λ rows returned db held. created_holds c.args.limits rows c.args.name.now c.in_ok-id.id
      returned.1 db (subst (λ k. TreesHold (finite.insert (books_of rows) c.args.name.now
      (fresh_book c.in_ok-id.id k)) db) c.keep.ensures.value held))

-- ---- the clauses

pub returns-in_err-id-clause-changes : goal.returns-in_err-id-clause-changes
returns-in_err-id-clause-changes g c =
    let p = (goal.at.returns-in_err-id-clause-changes g c).After-plan_create in
    let name = c.args.name.now in
    let said : c.from_residual.result ≡ Err c.in_err-id.field-0.0 = search rules in
    subst (λ r. AppliesStep (old g p) (mid g p) r (step g p)) (sym said)
    (reads_changes (step g p) (old g p) (mid g p) (Err c.in_err-id.field-0.0) c.requires
    c.plan_create.ensures.reads_only
    (λ rows clean holds sound same. denied_does (new_id_among c.args.limits name (books_of rows))
    (λ id. (id, finite.insert (books_of rows) name (fresh_book id c.args.limits.keep)))
    c.in_err-id.field-0.0 (stored_books (old g p)) (stored_books (mid g p))
    (c.in_err-id.ensures.planned rows clean holds sound) same) (λ clean stays. tt))

pub returns-in_err-write_create-clause-changes : goal.returns-in_err-write_create-clause-changes
returns-in_err-write_create-clause-changes g c =
    let p = (goal.at.returns-in_err-write_create-clause-changes g c).After-write_create in
    let before = old g (planning g p) in
    let said : c.from_residual-in_err-write_create.result ≡ Err c.in_err-write_create.field-0.0 =
    search rules in
    subst (λ r. AppliesStep before (new g p) r (step g (planning g p))) (sym said)
    (written g p (Err c.in_err-write_create.field-0.0)
    (λ rows clean lacks. c.in_err-write_create.ensures.atomic rows clean lacks)
    (λ rows returned done up. fault_does (step g (planning g p) (books_of rows))
    c.in_err-write_create.field-0.0 (stored_books before) (stored_books (new g p))
    c.in_err-write_create.ensures.fault (ap (λ (d : Database). books_in d.trees) (done up).0)))

pub returns-clause-changes : goal.returns-clause-changes
returns-clause-changes g c =
    let p = (goal.at.returns-clause-changes g c).After-write_create in
    written g p (Ok c.in_ok-id.id) (λ rows clean lacks. c.in_ok-write_create.ensures.atomic rows
    clean lacks)
    (λ rows returned done up. created_does c.args.limits rows c.args.name.now c.in_ok-id.id
    returned.1 (new g p) (stored_books (old g (planning g p)))
    (subst (λ k. HoldsBooks (new g p).now (finite.insert (books_of rows) c.args.name.now
    (fresh_book c.in_ok-id.id k))) c.keep.ensures.value done.0))

pub returns-in_err-write_create-clause-crash : goal.returns-in_err-write_create-clause-crash
returns-in_err-write_create-clause-crash g c =
    crash g (goal.at.returns-in_err-write_create-clause-crash g c).After-write_create

pub returns-clause-crash : goal.returns-clause-crash
returns-clause-crash g c = crash g (goal.at.returns-clause-crash g c).After-write_create

-- ---- faults

pub returns-in_err-id-clause-store_fault : goal.returns-in_err-id-clause-store_fault
returns-in_err-id-clause-store_fault g c rows clean holds accept free =
    passed_cause c.from_residual.result c.in_err-id.field-0.0 _ c.from_residual.ensures.1
    (c.in_err-id.ensures.store_fault rows clean holds accept free)

pub returns-in_err-write_create-clause-store_fault :
    goal.returns-in_err-write_create-clause-store_fault
returns-in_err-write_create-clause-store_fault g c rows clean holds accept free =
    let p = (goal.at.returns-in_err-write_create-clause-store_fault g c).After-write_create in
    let before = old g (planning g p) in
    let between = mid g (planning g p) in
    let early : HasCleanDisk between =
    clean_before _ between (new g p) c.write_create.ensures.survives clean in
    let kept = c.in_ok-id.ensures.unchanged early holds.schema in
    let still = subst (λ (d : Database). HoldsRows d rows) (sym kept.0.now_is) holds in
    let planned = c.in_ok-id.ensures.planned rows early holds accept.faultless.sound in
    let most = c.keep.ensures.most in
    let ready = accepts_book c.args.limits between.now rows c.args.name.now c.in_ok-id.id still
    accept planned.0 planned.1 in
    passed_cause c.from_residual-in_err-write_create.result c.in_err-write_create.field-0.0 _
    c.from_residual-in_err-write_create.ensures.1
    (λ store. outside_later before between (new g p) _ _ c.plan_create.ensures.reads_only.survives
    early c.write_create.ensures.survives
    (c.in_err-write_create.ensures.store_fault c.in_ok-id.ensures.id_fits (omega (arith, most)) rows
    clean ready store))
