use Rattle.std.proofs.Common.{◌≡◌, ◌++◌, ◌∷◌, take, flat_map, string_bytes}
use Rattle.vcard_export.specs.OlderParams.{older_param_value}
use Rattle.vcard_export.proofs.params.push_param_values.Given as goal

-- the values so far are written, each after a comma
abbrev pub invariant-loop-value : goal.invariant-loop-value
invariant-loop-value l = string_bytes l.out ≡ string_bytes l.initial.out
    ++ flat_map (λ v. 44 ∷ older_param_value l.is_type v) (take l.value-index l.others)
