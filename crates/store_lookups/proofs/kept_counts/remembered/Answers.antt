use Rattle.std.proofs.Common.{sym, subst}
use Rattle.book_model.specs.Counts.{IsWritten}
use Rattle.book_model.proofs.EntryLemmas.{right_counted}
use Rattle.store_rows.specs.TableBooks.{books_of, line_row, row_book}
use Rattle.store_lookups.proofs.kept_counts.remembered.Goals as goal

pub returns-clause-number : goal.returns-clause-number
returns-clause-number g c rows clean holds sound right named =
    c.in_ok-number.ensures.remembered rows clean holds sound c.args.name.now

pub returns-clause-counts : goal.returns-clause-counts
returns-clause-counts g c rows clean holds sound right named =
    let number = c.in_ok-number.ensures.remembered rows clean holds sound c.args.name.now in
    right_counted c.args.counts.now c.set.new.self (books_of rows) c.args.name.now
    (row_book rows (line_row c.args.name.now c.args.header)) right named.book
    (subst (λ n. IsWritten c.args.counts.now c.set.new.self c.args.name.now n) (sym number)
    c.set.ensures)
