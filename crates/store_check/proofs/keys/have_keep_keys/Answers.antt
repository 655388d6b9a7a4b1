use Rattle.std.proofs.Common.{◌≡◌, false, int_eq}
use Rattle.std.proofs.lemmas.Result.{IfOk-weaker}
use Rattle.store_tables.specs.Keeps.{KeepRow}
use Rattle.store_check.specs.RowChecks.{decode_keep}
use Rattle.store_check.proofs.DistinctLemmas.{mapped_keys}
use Rattle.store_check.proofs.keys.have_keep_keys.Goals as goal

pub returns : goal.returns
returns c = IfOk-weaker c.have_distinct_numbers.result _ _
    (mapped_keys (λ (a b : KeepRow). int_eq a.book b.book ≡ false) decode_keep c.args.keeps.now)
    c.have_distinct_numbers.ensures
