use Rattle.std.proofs.Common.{◌≡◌, [], IsUtf8}
use Rattle.std.specs.List.{AllByRecursion}
use Rattle.vcard_lines.specs.Grammar.{line_text}
use Rattle.vcard_text.specs.Making.{upper_lines}
use Rattle.vcard_text.specs.MakingSteps.{check_lines_after}
use Rattle.vcard_text.proofs.making.check_lines.Given as goal

-- the lines so far and what is left make what all lines make
abbrev pub invariant-loop-line : goal.invariant-loop-line
invariant-loop-line l = record {
  so_far : check_lines_after l.made (upper_lines l.line-iterator.rest.items) ≡ check_lines_after []
      (upper_lines l.fn.lines.items);
  utf8 : AllByRecursion (λ line. IsUtf8 (line_text line)) l.made;
}
