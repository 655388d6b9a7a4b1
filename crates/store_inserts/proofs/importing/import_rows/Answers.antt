-- An import writes its cards, its kept answer and the book's own row, in this order.
-- Given here: which book the tables hold before and after the writes (`begun`, `put`, `kept`). The
-- cards leave the kept answers as they were (`stored_imports`), so the key is still free for the
-- second write. For faults: each write hands on the constraints and the free ids that the next one
-- needs. If the order of the writes changes, `put` or `kept` breaks first.
use Rattle.std.proofs.Common.{IsTrue, List, ℕ, ap, ◌∙◌, length, ◌^◌, arith, sym, subst}
use Rattle.sqlite.proofs.StateLemmas.{survives_then}
use Rattle.store_tables.specs.Acceptance.{HasFreeIds}
use Rattle.store_tables.proofs.FailureLemmas.{outside_later}
use Rattle.store_lookups.proofs.StoreFaultLemmas.{later_cause, passed_cause}
use Rattle.store_inserts.specs.internal.Importing.{AcceptsKey}
use Rattle.store_writes.proofs.TransactionFaults.{fewer_ids}
use Rattle.store_inserts.specs.internal.Importing.{AcceptsCards}
use Rattle.std.specs.FinMap as finite
use Rattle.book_model.specs.Books.{Book}
use Rattle.book_model.specs.Importing.{book_with_kept_import}
use Rattle.sqlite.specs.Held.{state}
use Rattle.sqlite.specs.State.{State, HasCleanDisk}
use Rattle.store_rows.specs.TableBooks.{row_book, line_row}
use Rattle.store_rows.specs.TableRows.{TableRows}
use Rattle.store_tables.specs.SchemaCreation.{HoldsInTx}
use Rattle.store_tables.proofs.SchemaCreationLemmas.{clean_before}
use Rattle.store_writes.specs.TableChanges.{HasBookRow}
use Rattle.store_inserts.specs.internal.Importing.{IsImportKeyFree, WritesBook, book_with_stored}
use Rattle.store_inserts.proofs.ImportLemmas.{stored_imports}
use Rattle.store_inserts.proofs.WroteLemmas.{unwritten_book, keeps_commit_then}
use Rattle.store_inserts.proofs.importing.import_rows.Given as given
use Rattle.store_inserts.proofs.importing.import_rows.Goals as goal
use Rattle.store_inserts.proofs.importing.import_rows.Goals.{After-write_book_row}

-- ---- what the clauses share

-- the states: before the writes, and after each of the three; and the book after each
module _ (g : given.Over) (c : After-write_book_row g) where
  abbrev old : State
  old = state g.S.Store c.args.tx.now.conn.now

  abbrev one : State
  one = state g.S.Store c.write_next_cards.new.tx.conn.now

  abbrev two : State
  two = state g.S.Store c.insert_kept_import.new.tx.conn.now

  abbrev new : State
  new = state g.S.Store c.write_book_row.new.tx.conn.now

  abbrev before : TableRows → List ℕ → Book
  before rows name = row_book rows (line_row name c.args.header)

  abbrev stored : TableRows → List ℕ → Book
  stored rows name = book_with_stored (before rows name) c.args.stored.now

  abbrev whole : TableRows → List ℕ → Book
  whole rows name = book_with_kept_import (stored rows name) c.args.key.now c.args.tally

-- the writes, given what the clauses are given
module _ (g : given.Over) (c : After-write_book_row g) (rows : TableRows) (name : List ℕ) (clean :
    HasCleanDisk (new g c)) (inside : IsTrue (old g c).in_transaction)
    (line : HasBookRow (old g c).now rows name c.args.header) (free :
    IsImportKeyFree (before g c rows name) c.args.key.now) where
  clean_two : HasCleanDisk (two g c)
  clean_two = clean_before _ (two g c) (new g c) c.write_book_row.ensures.survives clean

  clean_one : HasCleanDisk (one g c)
  clean_one = clean_before _ (one g c) (two g c) c.insert_kept_import.ensures.survives clean_two

  begun : WritesBook (old g c).now rows name c.args.header (before g c rows name)
  begun = unwritten_book (old g c).now rows name c.args.header line

  put : HoldsInTx (one g c) (λ db. WritesBook db rows name c.in_ok-after.after
      (stored g c rows name))
  put = c.in_ok-after.ensures.book_after rows name (before g c rows name) clean_one inside begun

  still_free : IsImportKeyFree (stored g c rows name) c.args.key.now
  still_free = ap (λ imports. finite.get imports c.args.key.now) (stored_imports c.args.stored.now
      (before g c rows name)) ∙ free

  kept : HoldsInTx (two g c) (λ db. WritesBook db rows name c.in_ok-after.after
      (whole g c rows name))
  kept = c.in_ok-insert_kept_import.ensures.book_after rows name (stored g c rows name) clean_two
      put.inside put.holds still_free

-- ---- the clauses

pub returns-in_err-after-clause-keeps_commit : goal.returns-in_err-after-clause-keeps_commit
returns-in_err-after-clause-keeps_commit g c rows name clean inside line free =
    let old = state g.S.Store c.args.tx.now.conn.now in
    c.in_err-after.ensures.keeps_commit rows name (row_book rows (line_row name c.args.header))
    clean inside (unwritten_book old.now rows name c.args.header line)

pub returns-in_err-insert_kept_import-clause-keeps_commit :
    goal.returns-in_err-insert_kept_import-clause-keeps_commit
returns-in_err-insert_kept_import-clause-keeps_commit g c rows name clean inside line free =
    let old = state g.S.Store c.args.tx.now.conn.now in
    let mid = state g.S.Store c.write_next_cards.new.tx.conn.now in
    let new = state g.S.Store c.insert_kept_import.new.tx.conn.now in
    let book = row_book rows (line_row name c.args.header) in
    let begun = unwritten_book old.now rows name c.args.header line in
    let early : HasCleanDisk mid = clean_before _ mid new c.insert_kept_import.ensures.survives
    clean in
    let put = c.in_ok-after.ensures.book_after rows name book early inside begun in
    keeps_commit_then old mid new (c.in_ok-after.ensures.keeps_commit rows name book early inside
    begun) (c.in_err-insert_kept_import.ensures.keeps_commit rows name
    (book_with_stored book c.args.stored.now) clean put.inside put.holds)

pub returns-clause-books_after : goal.returns-clause-books_after
returns-clause-books_after g c rows name clean inside line free =
    let p = (goal.at.returns-clause-books_after g c).After-write_book_row in
    let held = kept g p rows name clean inside line free in
    c.write_book_row.ensures.books_after rows name (whole g p rows name) clean held.inside
    held.holds

pub returns-clause-keeps_commit : goal.returns-clause-keeps_commit
returns-clause-keeps_commit g c rows name clean inside line free =
    let p = (goal.at.returns-clause-keeps_commit g c).After-write_book_row in
    let early = clean_one g p rows name clean inside line free in
    let late = clean_two g p rows name clean inside line free in
    let start = begun g p rows name clean inside line free in
    let cards = put g p rows name clean inside line free in
    let answer = kept g p rows name clean inside line free in
    keeps_commit_then (old g p) (two g p) (new g p)
    (keeps_commit_then (old g p) (one g p) (two g p) (c.in_ok-after.ensures.keeps_commit rows name
    (before g p rows name) early inside start) (c.in_ok-insert_kept_import.ensures.keeps_commit
    rows name (stored g p rows name) late cards.inside cards.holds))
    (c.write_book_row.ensures.keeps_commit rows name (whole g p rows name) clean answer.inside
    answer.holds)

-- ---- faults

pub returns-in_err-after-clause-store_fault : goal.returns-in_err-after-clause-store_fault
returns-in_err-after-clause-store_fault g c fits few rows name accepts clean inside obeys =
    let old = state g.S.Store c.args.tx.now.conn.now in
    let book = row_book rows (line_row name c.args.header) in
    let ready : AcceptsCards old.now rows name c.args.header book (length c.args.stored.now) =
    record {
      wrote = unwritten_book old.now rows name c.args.header accepts.book.line;
      known = accepts.known;
      free_ids = fewer_ids (length c.args.stored.now) (2 ^ 62) (old.now.trees 4)
          (omega (arith, few)) accepts.free_ids.members;
      id = accepts.id;
    } in
    passed_cause c.from_residual.result c.in_err-after.field-0.0 _ c.from_residual.ensures.1
    (c.in_err-after.ensures.store_fault rows name book ready clean inside obeys)

pub returns-in_err-insert_kept_import-clause-store_fault :
    goal.returns-in_err-insert_kept_import-clause-store_fault
returns-in_err-insert_kept_import-clause-store_fault g c fits few rows name accepts clean inside
    obeys =
    let old = state g.S.Store c.args.tx.now.conn.now in
    let mid = state g.S.Store c.write_next_cards.new.tx.conn.now in
    let new = state g.S.Store c.insert_kept_import.new.tx.conn.now in
    let book = row_book rows (line_row name c.args.header) in
    let begun = unwritten_book old.now rows name c.args.header accepts.book.line in
    let early : HasCleanDisk mid = clean_before _ mid new c.insert_kept_import.ensures.survives
    clean in
    let put = c.in_ok-after.ensures.book_after rows name book early inside begun in
    let kept = c.in_ok-after.ensures.obeys rows name book early inside begun obeys in
    let same = (c.in_ok-after.ensures.takes_ids rows name book early inside begun).1 in
    let id = c.in_ok-after.ensures.same_id in
    let low = accepts.id in
    let ready : AcceptsKey mid.now rows name c.in_ok-after.after
    (book_with_stored book c.args.stored.now) c.args.key.now = record {
      wrote = put.holds;
      unused = ap (λ imports. finite.get imports c.args.key.now) (stored_imports c.args.stored.now
          book) ∙ accepts.unused;
      short = accepts.short;
      free_id = subst (HasFreeIds 1) (sym same) accepts.free_ids.imports;
      id = omega (arith, id, low);
    } in
    passed_cause c.from_residual-in_err-insert_kept_import.result
    c.in_err-insert_kept_import.field-0.0 _ c.from_residual-in_err-insert_kept_import.ensures.1
    (λ store. outside_later old mid new _ _ c.write_next_cards.ensures.survives early
    c.insert_kept_import.ensures.survives
    (c.in_err-insert_kept_import.ensures.store_fault fits.added fits.edited fits.same fits.number
    rows name (book_with_stored book c.args.stored.now) ready clean put.inside kept store))

pub returns-clause-store_fault : goal.returns-clause-store_fault
returns-clause-store_fault g c fits few rows name accepts clean inside obeys =
    let p = (goal.at.returns-clause-store_fault g c).After-write_book_row in
    let line = accepts.book.line in
    let free = accepts.unused in
    let start = begun g p rows name clean inside line free in
    let cards = put g p rows name clean inside line free in
    let answer = kept g p rows name clean inside line free in
    let early = clean_one g p rows name clean inside line free in
    let late = clean_two g p rows name clean inside line free in
    let obeys_one = c.in_ok-after.ensures.obeys rows name (before g p rows name) early inside start
    obeys in
    let obeys_two = c.in_ok-insert_kept_import.ensures.obeys rows name (stored g p rows name) late
    cards.inside cards.holds obeys_one in
    let id = c.in_ok-after.ensures.same_id in
    let low = accepts.id in
    let number = c.in_ok-after.ensures.next_number in
    let room = c.requires in
    let both = survives_then (old g p) (one g p) (two g p) _ _ (λ _. ⊥) (λ _ db none. none)
    (λ _ db none. none) c.write_next_cards.ensures.survives
    c.insert_kept_import.ensures.survives in
    later_cause (old g p) (two g p) (new g p) _ _ c.write_book_row.result both late
    c.write_book_row.ensures.survives
    (c.write_book_row.ensures.store_fault (omega (arith, id, low)) (omega (arith, number, room))
    rows name (whole g p rows name) answer.holds accepts.book.short clean answer.inside
    obeys_two)
