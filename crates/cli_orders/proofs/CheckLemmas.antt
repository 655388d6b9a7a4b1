-- A refusal of `check` is that of an import or of a put.
use Rattle.std.proofs.Common.{◌≡◌, ℕ, List, Option, Result, Err, inl, inr, refl, sym}
use Rattle.book_model.specs.declared.refusal.Refusal.{Refusal}
use Rattle.book_model.specs.declared.refusal.Refusal.TheVariants.{BadImport, BadCard as BadCardText}
use Rattle.csv_cards.specs.Causes.{cause_number}
use Rattle.cli_orders.specs.CheckLaws.{IsRefusalOf}
use Rattle.cli_orders.specs.Findings.{IsFound, StopsCheck, verdict_of}
use Rattle.cli_orders.specs.declared.finding.FileKind.{FileKind}
use Rattle.cli_orders.specs.declared.finding.FileKind.TheVariants as kind
use Rattle.cli_orders.specs.declared.finding.Finding.{Finding}
use Rattle.cli_orders.specs.declared.finding.Finding.TheVariants.{Rows, BadRow, Card, BadCard}
use Rattle.cli_orders.specs.declared.stop.Stop.{Stop}
use Rattle.cli_orders.specs.declared.stop.Stop.TheVariants.{Refused}

-- the refusal of a stop
same_refusal : (a b : Refusal) (r : Result (Unit {0}) Stop) → r ≡ Err (Refused a)
    → r ≡ Err (Refused b) → a ≡ b
same_refusal a b r first second = cc (first, second)

found_refuses : (file : FileKind) (octets : List ℕ) (refusal : Refusal) (finding : Finding)
    → IsFound file octets finding
    → verdict_of finding ≡ Err (Refused refusal) → IsRefusalOf file octets refusal
found_refuses kind.CsvRows octets refusal (Rows count) found reached = absurd (cc reached)
found_refuses kind.CsvRows octets refusal (BadRow fault line) found reached =
    record {
      fault = fault;
      first = found.0;
      refusal_is = sym (same_refusal (BadImport fault.row (cause_number fault.cause)) refusal
          (verdict_of (BadRow fault line)) refl reached);
    }
found_refuses kind.CsvRows octets refusal Card found reached = absurd found
found_refuses kind.CsvRows octets refusal (BadCard fault line) found reached = absurd found
found_refuses kind.OneCard octets refusal (Rows count) found reached = absurd found
found_refuses kind.OneCard octets refusal (BadRow fault line) found reached = absurd found
found_refuses kind.OneCard octets refusal Card found reached = absurd (cc reached)
found_refuses kind.OneCard octets refusal (BadCard fault line) found reached =
    record {
      fault = fault;
      first = found.0;
      refusal_is = sym (same_refusal (BadCardText fault) refusal (verdict_of (BadCard fault line))
          refl reached);
    }

pub refuses : (file : FileKind) (octets : List ℕ) (refusal : Refusal) (before after :
    Option (List ℕ))
    → StopsCheck file octets (Refused refusal) before after → IsRefusalOf file octets refusal
refuses file octets refusal before after (inl prints) =
    found_refuses file octets refusal prints.finding prints.found prints.reached
refuses file octets refusal before after (inr (inl memory)) = absurd (cc memory.0)
refuses file octets refusal before after (inr (inr device)) = absurd (cc device.0)
