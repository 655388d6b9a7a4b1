use Rattle.std.proofs.Common.{rules, ◌≡◌, is_none, map}
use Rattle.store_check.specs.BookChecks.{IsCheckedBook}
use Rattle.store_check.specs.RowChecks.{decode_book, decode_keep}
use Rattle.store_check.proofs.FaultLemmas.{none_bad, not_all}
use Rattle.store_check.proofs.books.are_valid_books.Goals as goal

pub returns : goal.returns
returns c ms counts =
    let is : c.is_none.result ≡ is_none c.first_faulty_book.result = search rules in
    none_bad _ c.first_faulty_book.result c.is_none.result is (c.first_faulty_book.ensures.good ms
    counts) (c.first_faulty_book.ensures.bad ms counts)
    (λ found bad. not_all (IsCheckedBook c.args.limits c.args.count ms
    (map decode_keep c.args.keeps.now)) decode_book c.args.books.now found.0.now bad.0 bad.1)
