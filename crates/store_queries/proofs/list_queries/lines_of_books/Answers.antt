use Rattle.store_queries.proofs.ListQueryLemmas.{lines_returned}
use Rattle.store_tables.specs.Books.{book_shown, by_name}
use Rattle.store_lookups.specs.StoreFaults.{IsFaultlessBook}
use Rattle.store_lookups.proofs.StoreFaultLemmas.{not_memory, only_memory}
use Rattle.store_queries.proofs.QueryFaultLemmas.{all_in_order}
use Rattle.store_queries.proofs.list_queries.lines_of_books.Goals as goal

pub returns-in-Ok-clause-answers : goal.returns-in-Ok-clause-answers
returns-in-Ok-clause-answers g c rows clean holds sound =
    lines_returned (λ lines. lines.items) rows c.in-Ok.rows.items c.lines_in.result sound
    (c.in-Ok.ensures.reads.returns rows.books clean holds.schema holds.books)
    (rw c.as_slice.ensures.value at c.lines_in.ensures.lines) c.lines_in.ensures.fault

pub returns-in-Ok-clause-store_fault : goal.returns-in-Ok-clause-store_fault
returns-in-Ok-clause-store_fault g c rows clean holds faultless =
    let shown = all_in_order IsFaultlessBook by_name book_shown rows.books c.in-Ok.rows.items
    faultless.books (c.in-Ok.ensures.reads.returns rows.books clean holds.schema holds.books) in
    only_memory c.lines_in.result _ ((rw c.as_slice.ensures.value at c.lines_in.ensures.memory)
    shown)

pub returns-in-Err-clause-store_fault : goal.returns-in-Err-clause-store_fault
returns-in-Err-clause-store_fault g c rows clean holds faultless = λ store.
    c.in-Err.ensures.reads.fails_from_outside clean holds.schema
    (not_memory c.in-Err.error c.fault_of.result c.fault_of.ensures.value store)
