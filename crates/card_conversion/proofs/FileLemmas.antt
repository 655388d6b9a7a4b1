-- The octets of a file that are converted.
use Rattle.std.proofs.Common.{◌≡◌, [], ℕ, List, Option, Some, None, subst}
use Rattle.std.specs.Prelude.{IfSome}
use Rattle.std.specs.Option.{option_map}
use Rattle.vcard_lines.specs.declared.line.Line.{Line}
use Rattle.card_conversion.specs.Accounts.{ConvertsAll}
use Rattle.card_conversion.specs.Courses.{ConvertsPieces}
use Rattle.card_conversion.specs.Cuts.{AreCutOff}
use Rattle.card_conversion.specs.Fates.{octets_of, pieces_of}
use Rattle.card_conversion.specs.declared.course.Course.{Course}
use Rattle.convert_report.specs.declared.ledger.Summary.{Summary}

-- what is known of the octets that a reader gives is known of the file, where its octets are known
pub of_file : {A : Type 0} (writes : List Line → A → A → Type 0) (text : List ℕ
    → List ℕ) (file given : Option (List ℕ)) (before after : A) (summary : Summary)
    → IfSome file (λ octets. given ≡ Some (text octets))
    → ConvertsAll writes given before after summary
    → ConvertsAll writes (option_map text file) before after summary
of_file writes text None given before after summary same converts = record {
  entries = converts.entries;
  accounts = record {
    whole = tt;
    cut = tt;
    fates = converts.accounts.fates;
    distinct = converts.accounts.distinct;
    cards = converts.accounts.cards;
    counts = converts.accounts.counts;
  };
  written = converts.written;
}
of_file writes text (Some octets) given before after summary same converts = record {
  entries = converts.entries;
  accounts = record {
    whole = subst (λ input. IfSome input (λ os. os ≡ octets_of converts.entries)) same
        converts.accounts.whole;
    cut = subst (λ input. IfSome input (λ os. AreCutOff os (pieces_of converts.entries) [])) same
        converts.accounts.cut;
    fates = converts.accounts.fates;
    distinct = converts.accounts.distinct;
    cards = converts.accounts.cards;
    counts = converts.accounts.counts;
  };
  written = converts.written;
}

-- the same of one more file
pub of_more_file : {A : Type 0} (writes : List Line → A → A → Type 0) (text : List ℕ
    → List ℕ) (file given : Option (List ℕ)) (uids : List (List ℕ)) (old new : Course)
    (before after : A) → IfSome file (λ octets. given ≡ Some (text octets))
    → ConvertsPieces writes given uids old new before after
    → ConvertsPieces writes (option_map text file) uids old new before after
of_more_file writes text None given uids old new before after same converts =
    record { entries = converts.entries; whole = tt; cut = tt; part = converts.part }
of_more_file writes text (Some octets) given uids old new before after same converts = record {
  entries = converts.entries;
  whole = subst (λ input. IfSome input (λ os. os ≡ octets_of converts.entries)) same converts.whole;
  cut = subst (λ input. IfSome input (λ os. AreCutOff os (pieces_of converts.entries) [])) same
      converts.cut;
  part = converts.part;
}
