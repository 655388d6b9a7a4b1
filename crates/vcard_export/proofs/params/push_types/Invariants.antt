use Rattle.std.proofs.Common.{◌≡◌, ◌++◌, take, string_bytes}
use Rattle.vcard_export.specs.OlderParams.{type_params}
use Rattle.vcard_export.proofs.params.push_types.Given as goal

-- the types so far are written
abbrev pub invariant-loop-param : goal.invariant-loop-param
invariant-loop-param l = string_bytes l.out ≡ string_bytes l.fn.out
    ++ type_params (take l.param-index l.params)
