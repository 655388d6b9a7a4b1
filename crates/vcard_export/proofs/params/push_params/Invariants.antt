use Rattle.std.proofs.Common.{◌≡◌, ◌++◌, take, string_bytes}
use Rattle.vcard_export.specs.OlderParams.{older_params}
use Rattle.vcard_export.proofs.params.push_params.Given as goal

-- the parameters so far are written
abbrev pub invariant-loop-param : goal.invariant-loop-param
invariant-loop-param l = string_bytes l.out ≡ string_bytes l.fn.out ++ older_params l.rules
    (take l.param-index l.params)
