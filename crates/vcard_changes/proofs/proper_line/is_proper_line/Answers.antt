use Rattle.std.proofs.Common.{◌≡◌, rules, true, false, refl, sym, subst, IsUtf8}
use Rattle.std.specs.List.{list_all}
use Rattle.std.proofs.lemmas.Str.{IsUtf8-string_bytes}
use Rattle.vcard_lines.specs.Grammar.{is_permitted, line_text}
use Rattle.vcard_changes.specs.internal.ProperTests.{has_proper_parts}
use Rattle.vcard_changes.proofs.ProperLemmas.{tests_are_exact}
use Rattle.vcard_changes.proofs.proper_line.is_proper_line.Goals as goal

pub returns-then-not-is_permitted_text : goal.returns-then-not-is_permitted_text
returns-then-not-is_permitted_text c =
    let permitted : list_all is_permitted (line_text c.args.line.now) ≡ false = search rules in
    tests_are_exact c.args.line.now false (has_proper_parts c.args.line.now) (sym permitted) refl
    (subst IsUtf8 c.in_ok-write_line.ensures (IsUtf8-string_bytes c.write_line.new.out))

pub returns : goal.returns
returns c =
    let permitted : list_all is_permitted (line_text c.args.line.now) ≡ true = search rules in
    tests_are_exact c.args.line.now true c.has_proper_parts.result (sym permitted)
    c.has_proper_parts.ensures
    (subst IsUtf8 c.in_ok-write_line.ensures (IsUtf8-string_bytes c.write_line.new.out))
