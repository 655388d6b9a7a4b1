use Rattle.std.proofs.Common.{◌≡◌, ◌++◌, take, string_bytes}
use Rattle.vcard_export.specs.OlderParams.{label_text}
use Rattle.vcard_export.proofs.params.push_label.Given as goal

-- the labels so far are written
abbrev pub invariant-loop-param : goal.invariant-loop-param
invariant-loop-param l = string_bytes l.out ≡ string_bytes l.fn.out
    ++ label_text (take l.param-index l.params)
