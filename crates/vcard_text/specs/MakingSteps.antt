-- Computes the card of lines, one line after another, as the code does. Readers of the public
-- contracts can skip it: the result agrees with Making.antt by the law
-- `first_fault_of_lines_is_computed`.
use Rattle.std.specs.Prelude.{not, List, [], ◌∷◌, ◌++◌, Option, Result}
use Rattle.std.specs.List.{list_all}
use Rattle.vcard_lines.specs.declared.fault.CardFault.{CardFault}
use Rattle.vcard_lines.specs.declared.fault.CardFault.TheVariants.{BadChar, BadLine}
use Rattle.vcard_lines.specs.declared.line.Line.{Line}
use Rattle.vcard_lines.specs.ParseSteps.{◌>>=◌}
use Rattle.vcard_lines.specs.Grammar.{is_permitted, line_text}
use Rattle.vcard_lines.specs.LegalParts.{has_legal_parts}
use Rattle.vcard_text.specs.Scanning.{fault_if, ok_unless, body_line_fault, card_rules_fault}
use Rattle.vcard_text.specs.Scanning.{check_length}
use Rattle.vcard_text.specs.CardOfText.{result_fault}
use Rattle.vcard_text.specs.Making.{upper_lines}

-- the first fault of a line after others
unfoldable pub card_line_fault : List Line → Line → Option CardFault
card_line_fault lines line =
    fault_if (not (list_all is_permitted (line_text line))) BadChar
    (fault_if (not (has_legal_parts line)) BadLine
    (body_line_fault lines line))

-- the lines and those after them, or the first fault of those
unfoldable pub check_lines_after : List Line → List Line → Result (List Line) CardFault
check_lines_after lines [] = ok_unless (card_rules_fault lines) lines
check_lines_after lines (line ∷ others) = do
  more ← ok_unless (card_line_fault lines line) (lines ++ line ∷ [])
  check_lines_after more others

-- the lines of the card that the given lines make, or their first fault
unfoldable pub make_card : List Line → Result (List Line) CardFault
make_card lines = check_lines_after [] (upper_lines lines) >>= check_length

abbrev pub first_fault_of_lines : List Line → Option CardFault
first_fault_of_lines lines = result_fault (make_card lines)
