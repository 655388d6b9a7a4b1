use Rattle.std.proofs.Common.{[], false, fold, ap, ◌∙◌, arith}
use Rattle.std.proofs.lemmas.List.{take_all}
use Rattle.vcard_values.specs.internal.MarkLoop.{mark_octet, mark_state}
use Rattle.vcard_values.proofs.MarkLemmas.{marks_all}
use Rattle.vcard_values.proofs.components.marked.Goals as goal

pub returns : goal.returns
returns c = marks_all c.args.octets.now c.loop-octet.out.items c.loop-octet.is_escaped
    (c.loop-octet.invariant ∙ ap (fold mark_octet (mark_state [] false))
    (take_all c.loop-octet.octet-index c.args.octets.now (omega (arith, c.loop-octet-test.false))))
