use Rattle.std.proofs.Common.{take}
use Rattle.vcard_lines.specs.Grammar.{params_text}
use Rattle.vcard_lines.specs.internal.FoldingLoop.{CountsLineText}
use Rattle.vcard_lines.proofs.folded_count.count_params.Given as goal

-- the parameters so far are counted
abbrev pub invariant-loop-param : goal.invariant-loop-param
invariant-loop-param l = CountsLineText l.fn.count l.count
    (params_text (take l.param-index l.params))
