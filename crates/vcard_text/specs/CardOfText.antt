-- Computes the card of a text, or its first fault. By the law `card_is_computed` the card is the
-- one that the text spells, and by the law `first_fault_of_text_is_computed` the fault is the one
-- that FirstFaults.antt defines.
use Rattle.std.specs.Prelude.{ℕ, nat_le, List, length, Option, Some, None, Result, Ok, Err}
use Rattle.std.specs.Prelude.{if◌then◌else◌}
use Rattle.std.specs.Str.{is_utf8}
use Rattle.vcard_lines.specs.declared.fault.CardFault.{CardFault}
use Rattle.vcard_lines.specs.declared.fault.CardFault.TheVariants.{TooLong, NotUtf8}
use Rattle.vcard_lines.specs.declared.line.Line.{Line}
use Rattle.vcard_text.specs.Bounds.{text_octets_max}
use Rattle.vcard_lines.specs.ParseSteps.{◌>>=◌}
use Rattle.vcard_lines.specs.Unfolding.{logical_lines}
use Rattle.vcard_text.specs.Spelling.{without_bom}
use Rattle.vcard_text.specs.Scanning.{scan_card, check_length}

-- The card that the text spells, or its first fault: of its length, its encoding, its logical
-- lines, or its canonical text.
unfoldable pub card_of_text : List ℕ → Result (List Line) CardFault
card_of_text text =
    if nat_le (length text) text_octets_max
    then (if is_utf8 text then (scan_card (logical_lines (without_bom text))
    >>= check_length) else Err NotUtf8)
    else Err TooLong

abbrev pub result_fault : {A : Type 0} → Result A CardFault → Option CardFault
result_fault (Ok x) = None
result_fault (Err fault) = Some fault

-- the first fault of a text
abbrev pub first_fault_of_text : List ℕ → Option CardFault
first_fault_of_text text = result_fault (card_of_text text)
