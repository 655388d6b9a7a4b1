use Rattle.std.proofs.Common.{◌∷◌, take, flat_map}
use Rattle.base_types.specs.Octets.{comma}
use Rattle.vcard_lines.specs.Grammar.{value_text}
use Rattle.vcard_lines.specs.internal.FoldingLoop.{CountsLineText}
use Rattle.vcard_lines.proofs.folded_count.count_values.Given as goal

-- the values so far are counted, each after a comma
abbrev pub invariant-loop-value : goal.invariant-loop-value
invariant-loop-value l = CountsLineText l.initial.count l.count
    (flat_map (λ v. comma ∷ value_text v) (take l.value-index l.others))
