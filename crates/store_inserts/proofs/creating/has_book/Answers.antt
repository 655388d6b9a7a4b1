use Rattle.store_rows.proofs.LookupLemmas.{book_missing}
use Rattle.store_inserts.proofs.CreateLemmas.{name_exists}
use Rattle.store_inserts.proofs.creating.has_book.Goals as goal

pub returns-clause-found : goal.returns-clause-found
returns-clause-found g c rows clean holds sound =
    name_exists rows c.args.name.now _ sound (c.in-Ok.ensures.returns rows.books clean holds.schema
    holds.books)

pub returns-in-Err-QueryReturnedNoRows-clause-found :
    goal.returns-in-Err-QueryReturnedNoRows-clause-found
returns-in-Err-QueryReturnedNoRows-clause-found g c rows clean holds sound =
    book_missing rows c.args.name.now (λ _. (c.in-Err-QueryReturnedNoRows.ensures.returns rows.books
    clean holds.schema holds.books) c.in-Err-QueryReturnedNoRows.field-0-is)
