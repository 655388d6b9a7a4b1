use Rattle.std.proofs.Common.{rules, not}
use Rattle.std.proofs.lemmas.Fn.{filter_same}
use Rattle.store_check.specs.RowChecks.{int_cell}
use Rattle.store_copy.specs.RowsWithout.{is_left_out}
use Rattle.store_copy.proofs.left_out.kept_rows.Goals as goal

pub returns : goal.returns
returns c = filter_same _ (λ row. not (is_left_out c.args.left.now (int_cell c.args.at row))) _
    (λ x b f' t. search rules) _ _ c.retain.ensures.filtered
