use Rattle.std.proofs.Common.{[], ◌∷◌, ap}
use Rattle.vcard_lines.specs.Grammar.{values_text}
use Rattle.vcard_lines.proofs.CountLemmas.{counts_both, counts_same}
use Rattle.vcard_lines.proofs.folded_count.count_param.Goals as goal

pub returns : goal.returns
returns c =
    let param = c.args.param.now in
    counts_both _ _ _ param.name (61 ∷ values_text param.values) (counts_same _ _ _ param.name
    c.as_str.ensures c.count_text.ensures)
    (counts_both _ _ _ (61 ∷ []) (values_text param.values) c.count_text-2.ensures
    (counts_same _ _ _ (values_text param.values) (ap values_text c.as_slice.ensures)
    c.count_values.ensures))
