use Rattle.std.proofs.Common.{◌≡◌, [], false, fold, take}
use Rattle.vcard_values.specs.internal.MarkLoop.{mark_octet, mark_state}
use Rattle.vcard_values.proofs.components.marked.Given as goal

-- each semicolon of the octets so far is marked
abbrev pub invariant-loop-octet : goal.invariant-loop-octet
invariant-loop-octet l = mark_state l.out.items l.is_escaped
    ≡ fold mark_octet (mark_state [] false) (take l.octet-index l.octets)
