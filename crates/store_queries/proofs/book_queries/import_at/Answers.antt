use Rattle.std.proofs.Common.{Ok, sym, ◌∙◌}
use Rattle.std.specs.FinMap as finite
use Rattle.book_model.specs.declared.refusal.Refusal.TheVariants.{BadKey}
use Rattle.book_model.specs.Books.{Book}
use Rattle.book_model.specs.Importing.{is_legal_key}
use Rattle.store_rows.specs.TableBooks.{row_book, line_row}
use Rattle.store_lookups.specs.CallResults.{IsExactly}
use Rattle.store_queries.proofs.ResultLemmas.{found_returned, test_passes}
use Rattle.store_queries.proofs.book_queries.import_at.Goals as goal

pub returns-clause-answers : goal.returns-clause-answers
returns-clause-answers g c rows clean holds sound name =
    let book : Book = row_book rows (line_row name c.args.header) in
    test_passes IsExactly (is_legal_key c.args.key.now) BadKey
    (λ _. Ok (finite.get book.imports c.args.key.now)) c.find_import_tally.result
    (sym c.is_import_key.ensures ∙ c.if-not-is_import_key.false)
    (found_returned (finite.get book.imports c.args.key.now) c.find_import_tally.result
    (c.find_import_tally.ensures.tally rows clean holds sound name)
    c.find_import_tally.ensures.fault)
