-- What the loop over the logical lines keeps. Public contracts don't cite it.
use Rattle.std.specs.Prelude.{◌≡◌, Bool, false, ◌||◌, ◌&&◌, not, List, [], ◌++◌, codes}
use Rattle.std.specs.Prelude.{find, get_or, ℕ, Ok, Option}
use Rattle.std.specs.List.{AllByRecursion, list_any}
use Rattle.import_text.specs.declared.raw_line.RawLine.{RawLine}
use Rattle.vcard_lines.specs.declared.line.Line.{Line}
use Rattle.vcard_text.specs.Cards.{IsProperLine, has_line_named, line_is_named, is_uid, kind_of}
use Rattle.vcard_text.specs.FirstFaults.{is_group}
use Rattle.vcard_text.specs.Making.{upper_lines}
use Rattle.vcard_text.specs.MakingSteps.{check_lines_after}
use Rattle.vcard_property.specs.SameLines.{AreLine}
use Rattle.vcard_values.specs.declared.version.Version.{Version}
use Rattle.vcard_import.specs.Conversions.{BecomeCard}
use Rattle.vcard_import.specs.Labels.{is_joined}
use Rattle.vcard_import.specs.LeftOut.{has_left_out}
use Rattle.vcard_changes.specs.declared.change.Change.{Change}
use Rattle.vcard_import.specs.declared.card_lines.CardLines.{CardLines}
use Rattle.vcard_import.specs.declared.rules.Reading.{Reading}
use Rattle.vcard_import.specs.declared.rules.Seen.{Seen}

-- The card can't have the line after the others: it is named as a line that begins or ends a card,
-- it is an illegal or another UID, a second KIND, or a MEMBER that isn't in a group.
abbrev pub breaks_rule : Seen → Reading → Line → Bool
breaks_rule seen reading line =
    (line_is_named (codes "BEGIN") line || line_is_named (codes "END") line
    || line_is_named (codes "VERSION") line)
    || (line_is_named (codes "UID") line
    && (seen.uid || not reading.takes_uid || not (is_uid line.value)))
    || (line_is_named (codes "KIND") line && seen.kind)
    || (line_is_named (codes "MEMBER") line && not reading.keeps_members)

-- the lines have a MEMBER but aren't those of a group
abbrev pub has_stray_members : List Line → Bool
has_stray_members lines =
    has_line_named (codes "MEMBER") lines && not (is_group (kind_of lines))

-- no line has a fault, whatever lines follow
abbrev pub ArePassed : List Line → Type 0
ArePassed lines = (others : List Line)
    → check_lines_after [] (lines ++ others) ≡ check_lines_after lines others

-- the first UID line
abbrev pub found_uid : List Line → Option Line
found_uid lines = find (line_is_named (codes "UID")) lines

-- the logical line at the index spells the line
abbrev pub IsSpelledAt : List RawLine → ℕ → Line → Type 0
IsSpelledAt raws index line =
    (raw : RawLine) → raw ≡ get_or raws index raw → AreLine raw.octets line

-- `seen` is what the lines have
pub record IsSeen (seen : Seen) (lines : List Line) : Type 0 where
  pub uid : seen.uid ≡ has_line_named (codes "UID") lines
  pub kind : seen.kind ≡ has_line_named (codes "KIND") lines

-- the logical lines become the lines of `made`, which have no fault, with its changes
pub record Makes (version : Version) (raws : List RawLine) (made : CardLines) : Type 0 where
  pub become : BecomeCard version raws made.lines made.changes
  pub proper : AllByRecursion IsProperLine made.lines
  pub passed : ArePassed made.lines
  pub seen : IsSeen made.seen made.lines

-- one of the changes says that a label is joined
abbrev pub has_joined : List Change → Bool
has_joined changes = list_any is_joined changes

-- The logical lines were read after others: they become the lines that were added. The first UID
-- stays if none of them may be the card's; no line is left out or joined if none may be.
pub record Extends (reading : Reading) (raws : List RawLine) (start end : CardLines) : Type 0 where
  pub makes : (before : List RawLine) → Makes reading.version before start
      → Makes reading.version (before ++ raws) end
  pub uid : reading.takes_uid ≡ false → found_uid end.lines ≡ found_uid start.lines
  pub members : reading.keeps_members ≡ false → has_line_named (codes "MEMBER") start.lines ≡ false
      → has_line_named (codes "MEMBER") end.lines ≡ false
  pub whole : reading.leaves_out ≡ false → has_left_out start.changes ≡ false
      → has_left_out end.changes ≡ false
  pub unjoined : reading.joins ≡ false → has_joined start.changes ≡ false
      → has_joined end.changes ≡ false

-- the lines are a card but perhaps for their length
pub record AreFaultless (lines : List Line) : Type 0 where
  pub upper : upper_lines lines ≡ lines
  pub checked : check_lines_after [] lines ≡ Ok lines
