use Rattle.std.proofs.Common.{rules, ◌≡◌, pos, to_z, of_z, w64, sym, ap, subst, ◌∙◌, arith}
use Rattle.store_writes.proofs.TransactionFaults.{error_faults, memory_cause}
use Rattle.sqlite.specs.Held.{state}
use Rattle.store_tables.specs.Books.{HasBooks, numbers_of, with_book_numbers}
use Rattle.store_rows.specs.TableBooks.{line_row, numbers_row}
use Rattle.store_lookups.proofs.FindLemmas.{back_of}
use Rattle.store_inserts.proofs.WroteLemmas.{line_wrote, row_remains}
use Rattle.store_inserts.proofs.importing.write_book_row.Goals as goal

pub returns-in-Ok-clause-books_after : goal.returns-in-Ok-clause-books_after
returns-in-Ok-clause-books_after g c rows name book clean inside wrote =
    let old = state g.S.Store c.args.tx.now.conn.now in
    let new = state g.S.Store c.renumber_book.new.tx.conn.now in
    let header = c.args.header in
    let id : to_z w64 (of_z w64 c.in_ok-id.id) ≡ pos header.id =
    back_of c.in_ok-id.id c.id.result header.id c.in_ok-id.ensures.ok c.in_ok-id.ensures.fits
    c.id.ensures in
    let numbers : numbers_of c.in_ok-numbers.numbers ≡ numbers_row header.number header.horizon
    header.counts = search rules in
    let same : to_z w64 (of_z w64 c.in_ok-id.id) ≡ pos wrote.line.id =
    id ∙ ap pos (sym wrote.same_id) in
    let there = row_remains rows wrote.now name wrote.line wrote.within.books wrote.there in
    line_wrote old new rows name header book wrote
    (subst (λ n. HasBooks new (with_book_numbers (pos header.id) n wrote.now.books)) numbers
    (subst (λ z. HasBooks new (with_book_numbers z (numbers_of c.in_ok-numbers.numbers)
    wrote.now.books)) id
    (c.in-Ok.ensures.changes wrote.now.books clean inside wrote.holds.schema
    wrote.within.sound.books wrote.holds.books (line_row name wrote.line) there same)))
    (c.in-Ok.ensures.writes wrote.now.books clean inside wrote.holds.schema wrote.within.sound.books
    wrote.holds.books (line_row name wrote.line) there same)

-- ---- faults

pub returns-in_err-id-clause-store_fault : goal.returns-in_err-id-clause-store_fault
returns-in_err-id-clause-store_fault g c id number rows name book wrote short clean inside obeys =
    let great = c.in_err-id.ensures.too_great in
    let is = c.id.ensures in
    absurd (omega (arith, id, great, is))

pub returns-in_err-numbers-clause-store_fault : goal.returns-in_err-numbers-clause-store_fault
returns-in_err-numbers-clause-store_fault g c id number rows name book wrote short clean inside
    obeys =
    let same = c.number.ensures in
    let horizon = c.horizon.ensures.value in
    let low = c.horizon.ensures.most in
    let sum = c.counts.ensures.sum in
    memory_cause c.from_residual-in_err-numbers.result c.in_err-numbers.field-0.0 _
    c.from_residual-in_err-numbers.ensures.1
    (c.in_err-numbers.ensures.memory (omega (arith, number, same)) (omega (
      arith,
      number,
      horizon,
      low,
    )) (omega (arith, number, sum)))

pub returns-in-Err-clause-store_fault : goal.returns-in-Err-clause-store_fault
returns-in-Err-clause-store_fault g c id number rows name book wrote short clean inside obeys =
    let header = c.args.header in
    let id_is : to_z w64 (of_z w64 c.in_ok-id.id) ≡ pos header.id =
    back_of c.in_ok-id.id c.id.result header.id c.in_ok-id.ensures.ok c.in_ok-id.ensures.fits
    c.id.ensures in
    let same : to_z w64 (of_z w64 c.in_ok-id.id) ≡ pos wrote.line.id =
    id_is ∙ ap pos (sym wrote.same_id) in
    let there = row_remains rows wrote.now name wrote.line wrote.within.books wrote.there in
    error_faults c.in-Err.error c.fault_of.result _ c.fault_of.ensures.value
    (c.in-Err.ensures.fails_from_outside wrote.now.books clean inside wrote.holds.schema
    wrote.within.sound.books wrote.holds.books (
      line_row name wrote.line,
      there,
      same,
      short,
    ) clean inside wrote.holds.schema obeys)
