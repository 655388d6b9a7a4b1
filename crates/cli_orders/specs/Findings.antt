-- What `check` finds in a file, and what it prints.
use Rattle.std.specs.Prelude.{ℕ, ◌≡◌, ◌⊎◌, ◌||◌, Bool, List, [], ◌∷◌, ◌++◌, codes, decimal, eqb}
use Rattle.std.specs.Prelude.{length, Option, Some, None, Result, Ok, Err, if◌then◌else◌}
use Rattle.std.specs.Io.KnownBytes.{Appends, Keeps}
use Rattle.std.specs.List.{ends_with}
use Rattle.base_types.specs.Octets.{line_feed}
use Rattle.book_http.specs.Streams.{WritesPrefix}
use Rattle.book_model.specs.declared.refusal.Refusal.TheVariants.{BadImport}
use Rattle.book_model.specs.declared.refusal.Refusal.TheVariants.{BadCard as BadCardText}
use Rattle.csv_cards.specs.Causes.{cause_number}
use Rattle.csv_cards.specs.Reading.{IsFirstRowFault, TextHasCards}
use Rattle.cli_orders.specs.FaultLines.{IsLineOfFault}
use Rattle.vcard_lines.specs.FaultNumbers.{card_fault_text}
use Rattle.vcard_lines.specs.declared.line.Line.{Line}
use Rattle.vcard_text.specs.FirstFaults.{IsFirstFaultOfText}
use Rattle.vcard_text.specs.Spelling.{Spells}
use Rattle.cli_orders.specs.CardRows.{IsLineInRow}
use Rattle.cli_orders.specs.CauseWords.{cause_words}
use Rattle.cli_orders.specs.declared.finding.FileKind.{FileKind}
use Rattle.cli_orders.specs.declared.finding.FileKind.TheVariants as kind
use Rattle.cli_orders.specs.declared.finding.Finding.{Finding}
use Rattle.cli_orders.specs.declared.finding.Finding.TheVariants.{Rows, BadRow, Card, BadCard}
use Rattle.cli_orders.specs.declared.stop.Stop.{Stop}
use Rattle.cli_orders.specs.declared.stop.Stop.TheVariants.{Refused, Device}
use Rattle.cli_orders.specs.Hints.{cause_hint, fault_hint}
use Rattle.cli_orders.specs.Stops.{out_of_memory}

-- ---- the file

-- the name is that of a vCard
abbrev pub names_card : List ℕ → Bool
names_card name = ends_with eqb name (codes ".vcf") || ends_with eqb name (codes ".VCF")

abbrev pub kind_of_file : List ℕ → FileKind
kind_of_file name = if names_card name then kind.OneCard else kind.CsvRows

-- ---- what is found

-- the octets are a header and this number of rows, each a card
pub record HasRows (octets : List ℕ) (count : ℕ) : Type 0 where
  pub cards : List (List Line)
  pub are_rows : TextHasCards octets cards
  pub count_is : count ≡ length cards

-- the octets are those of a card
pub record HasCard (octets : List ℕ) : Type 0 where
  pub card : List Line
  pub spelled : Spells octets card

-- this is found in a file of this kind with these octets
abbrev pub IsFound : FileKind → List ℕ → Finding → Type 0
IsFound kind.CsvRows octets (Rows count) = HasRows octets count
IsFound kind.CsvRows octets (BadRow fault line) =
    IsFirstRowFault octets fault × IsLineInRow octets fault line
IsFound kind.OneCard octets Card = HasCard octets
IsFound kind.OneCard octets (BadCard fault line) =
    IsFirstFaultOfText octets fault × IsLineOfFault octets fault line
IsFound file octets finding = ⊥

-- ---- what is printed

abbrev pub finding_output : Finding → List ℕ
finding_output (Rows count) = codes "rows " ++ (decimal count ++ line_feed ∷ [])
finding_output (BadRow fault None) =
    codes "row " ++ (decimal fault.row ++ (codes ": " ++ (cause_words fault.cause
    ++ (cause_hint fault.cause ++ line_feed ∷ []))))
finding_output (BadRow fault (Some line)) =
    codes "row " ++ (decimal fault.row ++ (codes ": line " ++ (decimal line ++ (codes ": "
    ++ (cause_words fault.cause ++ (cause_hint fault.cause ++ line_feed ∷ []))))))
finding_output Card = codes "card" ++ line_feed ∷ []
finding_output (BadCard fault None) =
    codes "card: " ++ (card_fault_text fault ++ (fault_hint fault ++ line_feed ∷ []))
finding_output (BadCard fault (Some line)) =
    codes "card: line " ++ (decimal line ++ (codes ": " ++ (card_fault_text fault
    ++ (fault_hint fault ++ line_feed ∷ []))))

-- A file with a fault is refused, as an import or a put of its octets would be.
abbrev pub verdict_of : Finding → Result (Unit {0}) Stop
verdict_of (Rows count) = Ok tt
verdict_of (BadRow fault line) =
    Err (Refused (BadImport fault.row (cause_number fault.cause)))
verdict_of Card = Ok tt
verdict_of (BadCard fault line) = Err (Refused (BadCardText fault))

-- ---- how a check ends

-- this verdict was reached, and the words for what was found are written
pub record PrintsFinding (file : FileKind) (octets : List ℕ) (verdict : Result (Unit {0}) Stop)
    (before after : Option (List ℕ)) : Type 0 where
  pub finding : Finding
  pub found : IsFound file octets finding
  pub reached : verdict_of finding ≡ verdict
  pub written : Appends before after (finding_output finding)

-- the writer failed, and a prefix of the words is written
pub record PrintsFindingPrefix (file : FileKind) (octets : List ℕ)
    (before after : Option (List ℕ)) : Type 0 where
  pub finding : Finding
  pub found : IsFound file octets finding
  pub front : WritesPrefix (finding_output finding) before after

-- the file has no fault
abbrev pub PassesCheck : FileKind → List ℕ → Option (List ℕ) → Option (List ℕ) → Type 0
PassesCheck file octets before after = PrintsFinding file octets (Ok tt) before after

-- The file has a fault, and its words are written; or memory ran out, and nothing is written; or
-- the writer failed.
abbrev pub StopsCheck : FileKind → List ℕ → Stop → Option (List ℕ) → Option (List ℕ) → Type 0
StopsCheck file octets stop before after =
    PrintsFinding file octets (Err stop) before after
    ⊎ (((stop ≡ out_of_memory) × Keeps before after)
    ⊎ ((stop ≡ Device) × PrintsFindingPrefix file octets before after))
