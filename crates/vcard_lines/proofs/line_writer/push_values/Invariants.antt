use Rattle.std.proofs.Common.{◌≡◌, ◌++◌, ◌∷◌, take, flat_map, string_bytes}
use Rattle.vcard_lines.specs.Grammar.{value_text}
use Rattle.vcard_lines.proofs.line_writer.push_values.Given as goal

-- the values so far are written, each after a comma
abbrev pub invariant-loop-value : goal.invariant-loop-value
invariant-loop-value l = string_bytes l.out ≡ string_bytes l.initial.out
    ++ flat_map (λ v. 44 ∷ value_text v) (take l.value-index l.others)
