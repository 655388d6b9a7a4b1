use Rattle.std.proofs.Common.{arith, ◌≡◌, ◌+◌, [], ◌∷◌, ◌++◌, take, flat_map, sym}
use Rattle.std.proofs.lemmas.Grind.{common_steps}
use Rattle.base_types.specs.Octets.{comma}
use Rattle.vcard_lines.specs.Grammar.{value_text}
use Rattle.vcard_lines.proofs.CountLemmas.{counts_both, counts_same}
use Rattle.vcard_lines.proofs.folded_count.count_values.Goals as goal

pub loop-value-preserved : goal.loop-value-preserved
loop-value-preserved c =
    let so_far = flat_map (λ v. comma ∷ value_text v) (take c.loop-value.value-index
    c.in-Some.others.now) in
    let value = value_text c.value-item.result in
    let more : flat_map (λ v. comma ∷ value_text v) (take (c.loop-value.value-index + 1)
    c.in-Some.others.now) ≡ so_far ++ comma ∷ value = grind (arith, common_steps) in
    counts_same _ _ (so_far ++ comma ∷ value) _ (sym more)
    (counts_both _ _ _ so_far (comma ∷ value) c.loop-value.invariant (counts_both _ _ _ (comma ∷ [])
    value c.count_text.ensures c.count_value-in-loop-value.ensures))
