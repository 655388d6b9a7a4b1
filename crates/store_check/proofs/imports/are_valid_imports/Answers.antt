use Rattle.std.proofs.Common.{rules, ◌≡◌, is_none, map}
use Rattle.store_tables.specs.Imports.{ImportRow}
use Rattle.store_rows.specs.TableRows.{load_import}
use Rattle.store_check.specs.BookChecks.{IsCheckedImport}
use Rattle.store_check.specs.RowChecks.{IsBookAnd, decode_book}
use Rattle.store_check.proofs.FaultLemmas.{none_bad, not_all}
use Rattle.store_check.proofs.imports.are_valid_imports.Goals as goal

pub returns : goal.returns
returns c =
    let is : c.is_none.result ≡ is_none c.first_faulty_import.result = search rules in
    none_bad _ c.first_faulty_import.result c.is_none.result is (c.first_faulty_import.ensures.good)
    (c.first_faulty_import.ensures.bad)
    (λ found bad. not_all (λ (i : ImportRow). IsBookAnd (map decode_book c.args.books.now) i.book
    (IsCheckedImport i)) load_import c.args.imports.now found.0.now bad.0 bad.1)
