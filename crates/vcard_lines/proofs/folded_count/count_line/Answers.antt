use Rattle.std.proofs.Common.{[], ◌∷◌, ◌++◌, ap}
use Rattle.vcard_lines.specs.Grammar.{group_text, params_text}
use Rattle.vcard_lines.proofs.CountLemmas.{counts_both, counts_same}
use Rattle.vcard_lines.proofs.folded_count.count_line.Goals as goal

pub returns : goal.returns
returns c =
    let line = c.args.line.now in
    let params = params_text line.params in
    counts_both _ _ _ (group_text line.group) (line.name ++ (params ++ 58 ∷ line.value))
    c.count_group.ensures
    (counts_both _ _ _ line.name (params ++ 58 ∷ line.value) (counts_same _ _ _ line.name
    c.as_str.ensures c.count_text.ensures)
    (counts_both _ _ _ params (58 ∷ line.value)
    (counts_same _ _ _ params (ap params_text c.as_slice.ensures) c.count_params.ensures)
    (counts_both _ _ _ (58 ∷ []) line.value c.count_text-2.ensures (counts_same _ _ _ line.value
    c.as_str-2.ensures c.count_text-3.ensures))))
