use Rattle.std.proofs.Common.{Result, Err, ℕ}
use Rattle.book_model.specs.declared.denied.Denied.{Denied}
use Rattle.store_lookups.proofs.ChangeFaultLemmas.{then_changes}
use Rattle.store_lookups.proofs.StoreFaultLemmas.{passed_cause}
use Rattle.sqlite.specs.Held.{state}
use Rattle.store_tables.proofs.SchemaCreationLemmas.{clean_before}
use Rattle.store_tables.proofs.Lookups.{reads_then}
use Rattle.store_lookups.proofs.ReadLemmas.{over_then}
use Rattle.store_inserts.proofs.creating.name_and_count.Goals as goal

pub returns-in_err-books-clause-reads_only : goal.returns-in_err-books-clause-reads_only
returns-in_err-books-clause-reads_only g c =
    reads_then (state g.S.Store c.args.conn.now) (state g.S.Store c.has_book.new.conn)
    (state g.S.Store c.number_of_books.new.conn) c.has_book.ensures.reads_only
    c.in_ok-has_name_already.ensures.unchanged c.number_of_books.ensures.reads_only

pub returns-clause-found : goal.returns-clause-found
returns-clause-found g c rows clean holds sound =
    let mid = state g.S.Store c.has_book.new.conn in
    let new = state g.S.Store c.number_of_books.new.conn in (
      c.in_ok-has_name_already.ensures.found rows
          (clean_before _ mid new c.number_of_books.ensures.reads_only.survives clean) holds sound,
      over_then (state g.S.Store c.args.conn.now) mid new _ _
          c.in_ok-has_name_already.ensures.unchanged c.number_of_books.ensures.reads_only.survives
          c.in_ok-books.ensures.counted rows clean holds sound,
    )

pub returns-clause-reads_only : goal.returns-clause-reads_only
returns-clause-reads_only g c =
    reads_then (state g.S.Store c.args.conn.now) (state g.S.Store c.has_book.new.conn)
    (state g.S.Store c.number_of_books.new.conn) c.has_book.ensures.reads_only
    c.in_ok-has_name_already.ensures.unchanged c.number_of_books.ensures.reads_only

-- ---- faults

pub returns-in_err-has_name_already-clause-store_fault :
    goal.returns-in_err-has_name_already-clause-store_fault
returns-in_err-has_name_already-clause-store_fault g c rows clean holds accept free =
    passed_cause c.from_residual.result c.in_err-has_name_already.field-0.0 _
    c.from_residual.ensures.1 (c.in_err-has_name_already.ensures.store_fault rows clean holds
    accept.faultless)

pub returns-in_err-books-clause-store_fault : goal.returns-in_err-books-clause-store_fault
returns-in_err-books-clause-store_fault g c rows clean holds accept free =
    let failed : Result ℕ Denied = Err c.in_err-books.field-0.0 in
    passed_cause c.from_residual-in_err-books.result c.in_err-books.field-0.0 _
    c.from_residual-in_err-books.ensures.1
    (then_changes (state g.S.Store c.args.conn.now) (state g.S.Store c.has_book.new.conn)
    (state g.S.Store c.number_of_books.new.conn) _ _ failed
    c.has_book.ensures.reads_only.survives c.in_ok-has_name_already.ensures.unchanged
    c.number_of_books.ensures.reads_only.survives c.in_err-books.ensures.store_fault rows clean
    holds accept free)
