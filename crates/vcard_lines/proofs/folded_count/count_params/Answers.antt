use Rattle.std.proofs.Common.{arith, ◌≡◌, ◌+◌, [], ◌∷◌, ◌++◌, take, sym}
use Rattle.std.proofs.lemmas.Grind.{common_steps}
use Rattle.vcard_lines.specs.Grammar.{param_text, params_text}
use Rattle.vcard_lines.proofs.CountLemmas.{counts_both, counts_same}
use Rattle.vcard_lines.proofs.folded_count.count_params.Goals as goal

pub loop-param-preserved : goal.loop-param-preserved
loop-param-preserved c =
    let so_far = params_text (take c.loop-param.param-index c.args.params.now) in
    let param = param_text c.param-item.result in
    let more : params_text (take (c.loop-param.param-index + 1) c.args.params.now) ≡ so_far
    ++ 59 ∷ param = grind (arith, common_steps) in
    counts_same _ _ (so_far ++ 59 ∷ param) _ (sym more)
    (counts_both _ _ _ so_far (59 ∷ param) c.loop-param.invariant (counts_both _ _ _ (59 ∷ []) param
    c.count_text.ensures c.count_param.ensures))
