use Rattle.std.proofs.Common.{◌≡◌, ◌++◌, take, string_bytes}
use Rattle.vcard_lines.specs.Grammar.{params_text}
use Rattle.vcard_lines.proofs.line_writer.push_params.Given as goal

-- the parameters so far are written
abbrev pub invariant-loop-param : goal.invariant-loop-param
invariant-loop-param l = string_bytes l.out ≡ string_bytes l.fn.out
    ++ params_text (take l.param-index l.params)
