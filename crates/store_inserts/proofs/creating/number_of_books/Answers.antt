use Rattle.std.proofs.Common.{[], ◌∷◌, ap, arith, length, pos}
use Rattle.sqlite.specs.declared.types.Value.TheVariants.{Int}
use Rattle.store_lookups.proofs.FindLemmas.{shows_exact}
use Rattle.store_lookups.proofs.StoreFaultLemmas.{only_memory}
use Rattle.store_inserts.proofs.CreateLemmas.{books_counted}
use Rattle.store_inserts.proofs.creating.number_of_books.Goals as goal

pub returns-in-Ok-clause-counted : goal.returns-in-Ok-clause-counted
returns-in-Ok-clause-counted g c rows clean holds sound =
    books_counted rows (Int (pos c.in-Ok.count) ∷ []) c.exact_count.result sound
    (ap (λ n. Int (pos n) ∷ []) (c.in-Ok.ensures.returns rows.books clean holds.schema holds.books))
    (shows_exact c.in-Ok.count c.exact_count.result c.exact_count.ensures.count
    c.exact_count.ensures.below)

pub returns-in-Ok-clause-store_fault : goal.returns-in-Ok-clause-store_fault
returns-in-Ok-clause-store_fault g c rows clean holds accept free =
    let counted = c.in-Ok.ensures.returns rows.books clean holds.schema holds.books in
    only_memory c.exact_count.result _ (c.exact_count.ensures.memory
    (omega (arith, accept.few_books, counted)))
