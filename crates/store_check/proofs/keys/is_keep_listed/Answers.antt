use Rattle.std.proofs.Common.{rules, ◌≡◌, find, map}
use Rattle.std.specs.Option.{option_map}
use Rattle.store_tables.specs.Books.{has_id}
use Rattle.store_check.specs.RowChecks.{decode_book, int_cell}
use Rattle.store_check.proofs.CheckedLemmas.{listed_is}
use Rattle.store_check.proofs.keys.is_keep_listed.Goals as goal

pub returns : goal.returns
returns c =
    let found : option_map (λ row. decode_book row.now) c.book_with_id.result
    ≡ find (has_id (int_cell 0 c.args.keep.now)) (map decode_book c.args.books.now) =
    search rules in
    listed_is (λ row. decode_book row.now) c.book_with_id.result (map decode_book c.args.books.now)
    (int_cell 0 c.args.keep.now) c.is_some.result (search rules) found
