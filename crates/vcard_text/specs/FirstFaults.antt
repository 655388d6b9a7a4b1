-- The first fault of a text that spells no card: the least-numbered fault of its first faulty line,
-- or else of the whole text.
use Rattle.std.specs.Prelude.{ℕ, ◌≡◌, ◌<◌, ◌≤◌, Bool, true, false, ◌||◌, ◌&&◌, not, List, [], ◌∷◌}
use Rattle.std.specs.Prelude.{◌++◌, length, codes}
use Rattle.std.specs.List.{list_any}
use Rattle.std.specs.Str.{IsUtf8}
use Rattle.vcard_lines.specs.declared.fault.CardFault.{CardFault}
use Rattle.vcard_lines.specs.declared.fault.CardFault.TheVariants.{TooLong, NotUtf8, BadChar}
use Rattle.vcard_lines.specs.declared.fault.CardFault.TheVariants.{BadLine, NoBegin, BadVersion}
use Rattle.vcard_lines.specs.declared.fault.CardFault.TheVariants.{NoEnd, NoName, NoUid, BadUid}
use Rattle.vcard_lines.specs.declared.fault.CardFault.TheVariants.{Twice, MemberOutsideGroup}
use Rattle.vcard_text.specs.declared.kind.Kind.{Kind}
use Rattle.vcard_text.specs.declared.kind.Kind.TheVariants.{Individual, Group, Org, Location, Other}
use Rattle.vcard_lines.specs.declared.line.Line.{Line}
use Rattle.vcard_text.specs.Bounds.{text_octets_max}
use Rattle.vcard_lines.specs.FaultNumbers.{card_fault_number}
use Rattle.vcard_lines.specs.Grammar.{AllInClass, is_permitted, SpellsLine}
use Rattle.vcard_lines.specs.LogicalLines.{AreLogicalLines}
use Rattle.vcard_text.specs.Cards.{line_is_named, has_line_named, is_uid, kind_of, canonical_text}
use Rattle.vcard_text.specs.Spelling.{is_begin, is_version, is_end, without_bom, LinesSpellCard}

-- the fault has this property, and no fault with a lesser number has it
pub record IsLeastFault (HasIt : CardFault → Type 0) (fault : CardFault) : Type 0 where
  pub has_it : HasIt fault
  pub least : (other : CardFault) → HasIt other → card_fault_number fault ≤ card_fault_number other

-- ---- the faults of a logical line; `before` are the property lines before it

-- there is no line
abbrev pub has_no_lines : List Line → Bool
has_no_lines [] = true
has_no_lines (line ∷ lines) = false

-- there is exactly one line
abbrev pub has_one_line : List Line → Bool
has_one_line [] = false
has_one_line (line ∷ lines) = has_no_lines lines

-- a line named END that isn't `END:VCARD`
abbrev pub is_malformed_end : Line → Bool
is_malformed_end line = line_is_named (codes "END") line && not (is_end line)

-- a second UID or KIND
abbrev pub repeats_uid_or_kind : List Line → Line → Bool
repeats_uid_or_kind before line =
    (line_is_named (codes "UID") line && has_line_named (codes "UID") before)
    || (line_is_named (codes "KIND") line && has_line_named (codes "KIND") before)

-- The property line has the fault: it is after END, a BEGIN that isn't first, or a malformed END
-- (BadLine); it is first and no BEGIN (NoBegin); it is second and no VERSION, or any other line
-- named VERSION (BadVersion); it is a UID that isn't 1 to 255 octets or has a tab (BadUid); it is a
-- second UID or KIND (Twice).
abbrev pub line_breaks_rule : List Line → Line → CardFault → Bool
line_breaks_rule before line BadLine = list_any is_end before
    || (not (has_no_lines before) && line_is_named (codes "BEGIN") line) || is_malformed_end line
line_breaks_rule before line NoBegin = has_no_lines before && not (is_begin line)
line_breaks_rule before line BadVersion = (has_one_line before && not (is_version line))
    || (not (has_one_line before) && line_is_named (codes "VERSION") line)
line_breaks_rule before line BadUid = line_is_named (codes "UID") line && not (is_uid line.value)
line_breaks_rule before line Twice = repeats_uid_or_kind before line
line_breaks_rule before line _ = false

-- The logical line has the fault: it has a forbidden character, or doesn't match the grammar, or
-- the property line that it spells breaks a rule.
pub data LogicalLineHasFault (before : List Line) (text : List ℕ) (fault : CardFault) : Type 0 where
  of_characters : fault ≡ BadChar → (AllInClass is_permitted text → ⊥)
      → LogicalLineHasFault before text fault
  of_grammar : fault ≡ BadLine → ((line : Line) → SpellsLine text line → ⊥)
      → LogicalLineHasFault before text fault
  of_rules : (line : Line) → SpellsLine text line → line_breaks_rule before line fault ≡ true
      → LogicalLineHasFault before text fault

-- The logical lines, which follow `before`, spell these property lines, and none of them has a
-- fault.
abbrev pub AreFaultlessLogicalLines : List Line → List (List ℕ) → List Line → Type 0
AreFaultlessLogicalLines before [] [] = Unit {0}
AreFaultlessLogicalLines before [] (line ∷ lines) = ⊥
AreFaultlessLogicalLines before (text ∷ texts) [] = ⊥
AreFaultlessLogicalLines before (text ∷ texts) (line ∷ lines) =
    SpellsLine text line × ((fault : CardFault) → LogicalLineHasFault before text fault → ⊥)
    × AreFaultlessLogicalLines (before ++ line ∷ []) texts lines

-- the fault is the least of the first logical line that has a fault
pub record IsOfFirstFaultyLine (logical : List (List ℕ)) (fault : CardFault) : Type 0 where
  pub before : List (List ℕ)
  pub faulty : List ℕ
  pub others : List (List ℕ)
  pub logical_are : logical ≡ before ++ faulty ∷ others
  pub lines : List Line
  pub faultless : AreFaultlessLogicalLines [] before lines
  pub least : IsLeastFault (LogicalLineHasFault lines faulty) fault

-- ---- the faults of the whole text, if no line has a fault

abbrev pub is_group : Kind → Bool
is_group Individual = false
is_group Group = true
is_group Org = false
is_group Location = false
is_group Other = false

-- The lines have no FN (NoName), no UID (NoUid), or a MEMBER outside a group (MemberOutsideGroup).
abbrev pub lines_break_rule : List Line → CardFault → Bool
lines_break_rule lines NoName = not (has_line_named (codes "FN") lines)
lines_break_rule lines NoUid = not (has_line_named (codes "UID") lines)
lines_break_rule lines MemberOutsideGroup =
    has_line_named (codes "MEMBER") lines && not (is_group (kind_of lines))
lines_break_rule lines _ = false

-- The lines of a text have the fault: there is no line (NoBegin), just one (BadVersion) or no END
-- (NoEnd), or a rule of the card is broken.
abbrev pub text_breaks_rule : List Line → CardFault → Bool
text_breaks_rule lines NoBegin = has_no_lines lines
text_breaks_rule lines BadVersion = has_one_line lines
text_breaks_rule lines NoEnd = not (list_any is_end lines)
text_breaks_rule lines fault = lines_break_rule lines fault

-- no logical line has a fault, and the fault is the least of the whole text
pub record IsOfWholeText (logical : List (List ℕ)) (fault : CardFault) : Type 0 where
  pub lines : List Line
  pub faultless : AreFaultlessLogicalLines [] logical lines
  pub least : IsLeastFault (λ other. text_breaks_rule lines other ≡ true) fault

-- ---- the first fault of a text

-- the text is UTF-8 and not too long, and these are its logical lines
pub record HasLogicalLines (text : List ℕ) (logical : List (List ℕ)) : Type 0 where
  pub within : length text ≤ text_octets_max
  pub utf8 : IsUtf8 text
  pub are_logical : AreLogicalLines (without_bom text) logical

-- The text's first fault: it is too long; else it isn't UTF-8; else the fault of the first faulty
-- line; else that of the whole text; else the canonical text of its card is too long.
pub data IsFirstFaultOfText (text : List ℕ) (fault : CardFault) : Type 0 where
  of_length : fault ≡ TooLong → text_octets_max < length text → IsFirstFaultOfText text fault
  of_encoding : fault ≡ NotUtf8 → length text ≤ text_octets_max → (IsUtf8 text → ⊥)
      → IsFirstFaultOfText text fault
  of_line : (logical : List (List ℕ)) → HasLogicalLines text logical
      → IsOfFirstFaultyLine logical fault → IsFirstFaultOfText text fault
  of_whole : (logical : List (List ℕ)) → HasLogicalLines text logical → IsOfWholeText logical fault
      → IsFirstFaultOfText text fault
  of_canonical : fault ≡ TooLong → (logical : List (List ℕ)) → HasLogicalLines text logical
      → (lines : List Line) → LinesSpellCard logical lines
      → text_octets_max < length (canonical_text lines) → IsFirstFaultOfText text fault
