-- Which refusals `check` ends with.
use Rattle.std.specs.Prelude.{ℕ, List, Option}
use Rattle.book_model.specs.declared.refusal.Refusal.{Refusal}
use Rattle.book_service.specs.Texts.{HasBadRow, IsBadCard}
use Rattle.cli_orders.specs.Findings.{StopsCheck}
use Rattle.cli_orders.specs.declared.finding.FileKind.{FileKind}
use Rattle.cli_orders.specs.declared.finding.FileKind.TheVariants as kind
use Rattle.cli_orders.specs.declared.stop.Stop.TheVariants.{Refused}

-- the refusal of an import of the octets, or of a put of the card that they should be
abbrev pub IsRefusalOf : FileKind → List ℕ → Refusal → Type 0
IsRefusalOf kind.CsvRows octets refusal = HasBadRow octets refusal
IsRefusalOf kind.OneCard octets refusal = IsBadCard octets refusal

-- A refusal of `check` is that of an import or of a put of the same octets.
abbrev pub ChecksAsBooksDo : Type 0
ChecksAsBooksDo = (file : FileKind) (octets : List ℕ) (refusal : Refusal)
    (before after : Option (List ℕ))
    → StopsCheck file octets (Refused refusal) before after → IsRefusalOf file octets refusal
