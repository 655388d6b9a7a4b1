-- Two names are looked up: the answer is both books, or that the first or the second is missing.
-- Given here: the second look-up sees the rows of the first (`over_then`), and the two are the
-- model's look-ups, one inside the other (`in_none`, `in_book`).
-- If the names are looked up in the other order, the answers for `finds` break first.
use Rattle.std.proofs.Common.{rules, ◌≡◌, Ok, Err, sym, subst, Result}
use Rattle.book_model.specs.declared.denied.Denied.{Denied}
use Rattle.store_rows.specs.TableBooks.{HeaderRow}
use Rattle.store_lookups.proofs.StoreFaultLemmas.{passed_cause}
use Rattle.store_writes.proofs.ReadFaults.{then_reads}
use Rattle.sqlite.specs.Held.{state}
use Rattle.sqlite.specs.State.{HasCleanDisk}
use Rattle.book_model.specs.Books.{Book, book_named}
use Rattle.book_model.specs.CallOutcomes.{◌>>=◌}
use Rattle.store_tables.proofs.SchemaCreationLemmas.{clean_before}
use Rattle.store_tables.proofs.Lookups.{reads_then}
use Rattle.store_lookups.specs.CallResults.{IsExactly}
use Rattle.store_lookups.proofs.ReadLemmas.{in_book, in_none, over_then}
use Rattle.store_rows.specs.TableBooks.{row_book, books_of, line_row}
use Rattle.store_removals.specs.internal.Moves.{AreBothNamed}
use Rattle.store_removals.proofs.move_call.find_both_headers.Goals as goal

pub returns-in_err-source-clause-finds : goal.returns-in_err-source-clause-finds
returns-in_err-source-clause-finds g c rows clean holds sound =
    let said : c.from_residual.result ≡ Err c.in_err-source.field-0.0 = search rules in
    subst (λ r. AreBothNamed rows c.args.from.now c.args.to.now r) (sym said)
    (in_none {T = Book × Book} {A = Book × Book} IsExactly rows c.args.from.now
    (λ source. book_named (books_of rows) c.args.to.now >>= λ target. Ok (source, target))
    c.in_err-source.field-0.0 (c.in_err-source.ensures.finds rows clean holds sound))

pub returns-in_err-target-clause-finds : goal.returns-in_err-target-clause-finds
returns-in_err-target-clause-finds g c rows clean holds sound =
    let old = state g.S.Store c.args.conn.now in
    let mid = state g.S.Store c.open_header.new.conn in
    let new = state g.S.Store c.find_header.new.conn in
    let early : HasCleanDisk mid = clean_before _ mid new c.find_header.ensures.reads_only.survives
    clean in
    let there = c.in_ok-source.ensures.finds rows early holds sound in
    let none = over_then old mid new _ _ c.in_ok-source.ensures.unchanged
    c.find_header.ensures.reads_only.survives c.in_err-target.ensures.finds rows clean holds
    sound in
    let book = row_book rows (line_row c.args.from.now c.in_ok-source.source) in
    let said : c.from_residual-in_err-target.result ≡ Err c.in_err-target.field-0.0 =
    search rules in
    subst (λ r. AreBothNamed rows c.args.from.now c.args.to.now r) (sym said)
    (in_book {T = Book × Book} {A = Book × Book} IsExactly rows c.args.from.now
    c.in_ok-source.source (λ source. book_named (books_of rows) c.args.to.now >>= λ target. Ok
    (source, target)) (Err c.in_err-target.field-0.0) there
    (in_none {T = Book × Book} {A = Book × Book} IsExactly rows c.args.to.now (λ target. Ok (
      book,
      target,
    )) c.in_err-target.field-0.0 none))

pub returns-in_err-target-clause-reads_only : goal.returns-in_err-target-clause-reads_only
returns-in_err-target-clause-reads_only g c =
    reads_then (state g.S.Store c.args.conn.now) (state g.S.Store c.open_header.new.conn)
    (state g.S.Store c.find_header.new.conn) c.open_header.ensures.reads_only
    c.in_ok-source.ensures.unchanged c.find_header.ensures.reads_only

pub returns-clause-finds : goal.returns-clause-finds
returns-clause-finds g c rows clean holds sound =
    let old = state g.S.Store c.args.conn.now in
    let mid = state g.S.Store c.open_header.new.conn in
    let new = state g.S.Store c.find_header.new.conn in (
      c.in_ok-source.ensures.finds rows
          (clean_before _ mid new c.find_header.ensures.reads_only.survives clean) holds sound,
      over_then old mid new _ _ c.in_ok-source.ensures.unchanged
          c.find_header.ensures.reads_only.survives c.in_ok-target.ensures.finds rows clean holds
          sound,
    )

pub returns-clause-reads_only : goal.returns-clause-reads_only
returns-clause-reads_only g c =
    reads_then (state g.S.Store c.args.conn.now) (state g.S.Store c.open_header.new.conn)
    (state g.S.Store c.find_header.new.conn) c.open_header.ensures.reads_only
    c.in_ok-source.ensures.unchanged c.find_header.ensures.reads_only

pub returns-in_err-source-clause-store_fault : goal.returns-in_err-source-clause-store_fault
returns-in_err-source-clause-store_fault g c rows clean holds faultless =
    passed_cause c.from_residual.result c.in_err-source.field-0.0 _ c.from_residual.ensures.1
    (c.in_err-source.ensures.store_fault rows clean holds faultless)

pub returns-in_err-target-clause-store_fault : goal.returns-in_err-target-clause-store_fault
returns-in_err-target-clause-store_fault g c rows clean holds faultless =
    let failed : Result HeaderRow Denied = Err c.in_err-target.field-0.0 in
    passed_cause c.from_residual-in_err-target.result c.in_err-target.field-0.0 _
    c.from_residual-in_err-target.ensures.1
    (then_reads (state g.S.Store c.args.conn.now) (state g.S.Store c.open_header.new.conn)
    (state g.S.Store c.find_header.new.conn) _ _ failed
    c.open_header.ensures.reads_only.survives c.in_ok-source.ensures.unchanged
    c.find_header.ensures.reads_only.survives c.in_err-target.ensures.store_fault rows clean holds
    faultless)
