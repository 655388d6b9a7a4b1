use Rattle.std.proofs.Common.{◌≡◌, ◌++◌, take, flat_map, string_bytes}
use Rattle.vcard_export.specs.OlderCards.{folded_lines}
use Rattle.vcard_export.proofs.card.push_lines.Given as goal

-- what the lines so far become is written
abbrev pub invariant-loop-line : goal.invariant-loop-line
invariant-loop-line l = string_bytes l.out ≡ string_bytes l.fn.out
    ++ flat_map (folded_lines l.splits_labels) (take l.line-index l.lines)
