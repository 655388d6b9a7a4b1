use Rattle.std.proofs.Common.{◌∙◌, int_eq, refl}
use Rattle.std.proofs.lemmas.Result.{IfOk-weaker}
use Rattle.std.specs.Ordering.{eq_by_cmp, int_cmp}
use Rattle.std.proofs.lemmas.List.{map-id}
use Rattle.store_check.specs.RowChecks.{int_cell}
use Rattle.store_check.proofs.DistinctLemmas.{own_keys, ints_alike}
use Rattle.store_check.proofs.keys.have_distinct_numbers.Goals as goal

pub returns : goal.returns
returns c =
    IfOk-weaker c.are_distinct.result _ _ (λ returned h. own_keys (eq_by_cmp int_cmp) int_eq
    (λ k. k) (int_cell c.args.at) (λ a b. int_eq (int_cell c.args.at a) (int_cell c.args.at b))
    ints_alike (λ a b. refl)
    c.in_ok-number_column.field-0.items c.args.rows.now (map-id c.in_ok-number_column.field-0.items
    ∙ c.in_ok-number_column.ensures) returned h) c.are_distinct.ensures
