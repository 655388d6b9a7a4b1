use Rattle.std.proofs.Common.{rules, ◌≡◌, is_none}
use Rattle.store_check.specs.RowChecks.{IsKeepRow}
use Rattle.store_check.proofs.FaultLemmas.{none_bad, not_every}
use Rattle.store_check.proofs.books.are_keep_rows.Goals as goal

pub returns : goal.returns
returns c =
    let is : c.is_none.result ≡ is_none c.first_bad_keep.result = search rules in
    none_bad _ c.first_bad_keep.result c.is_none.result is (c.first_bad_keep.ensures.good)
    (c.first_bad_keep.ensures.bad)
    (λ found bad. not_every IsKeepRow c.args.rows.now found.now bad.0 bad.1)
