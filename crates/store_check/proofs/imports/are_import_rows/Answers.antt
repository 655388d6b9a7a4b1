use Rattle.std.proofs.Common.{rules, ◌≡◌, is_none}
use Rattle.store_check.specs.RowChecks.{IsImportRow}
use Rattle.store_check.proofs.FaultLemmas.{none_bad, not_every}
use Rattle.store_check.proofs.imports.are_import_rows.Goals as goal

pub returns : goal.returns
returns c =
    let is : c.is_none.result ≡ is_none c.first_bad_import.result = search rules in
    none_bad _ c.first_bad_import.result c.is_none.result is (c.first_bad_import.ensures.good)
    (c.first_bad_import.ensures.bad)
    (λ found bad. not_every IsImportRow c.args.rows.now found.now bad.0 bad.1)
