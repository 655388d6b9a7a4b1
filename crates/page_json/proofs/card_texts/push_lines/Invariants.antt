use Rattle.std.proofs.Common.{◌≡◌, ◌++◌, flat_map, map, take, string_bytes}
use Rattle.vcard_lines.specs.Folding.{folded_text}
use Rattle.vcard_lines.specs.Grammar.{line_text}
use Rattle.page_json.proofs.card_texts.push_lines.Given as goal

-- the lines so far are written
abbrev pub invariant-loop-each : goal.invariant-loop-each
invariant-loop-each l = string_bytes l.text ≡ string_bytes l.fn.text ++ flat_map folded_text
    (map line_text (take l.each-index l.lines))
