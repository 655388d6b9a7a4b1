use Rattle.std.proofs.Common.{◌≡◌, ◌++◌, take, string_bytes}
use Rattle.vcard_export.specs.OlderParams.{label_values}
use Rattle.vcard_export.proofs.params.push_label_values.Given as goal

-- the values so far are written
abbrev pub invariant-loop-value : goal.invariant-loop-value
invariant-loop-value l = string_bytes l.out ≡ string_bytes l.fn.out
    ++ label_values (take l.value-index l.values)
