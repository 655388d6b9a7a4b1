use Rattle.std.proofs.Common.{◌≡◌, ◌++◌, flat_map, map, take}
use Rattle.vcard_lines.specs.Folding.{folded_text}
use Rattle.vcard_lines.specs.Grammar.{line_text}
use Rattle.store_rows.proofs.canonical.strip_lines.Given as goal

-- the text begins with the lines so far
abbrev pub invariant-loop-line : goal.invariant-loop-line
invariant-loop-line l = l.text ≡ flat_map folded_text (map line_text (take l.line-index l.lines))
    ++ l.rest
