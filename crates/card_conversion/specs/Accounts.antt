-- What the conversion of a file did.
use Rattle.std.specs.Prelude.{ℕ, ◌≡◌, ◌≢◌, List, [], Option, IfSome, map}
use Rattle.std.specs.List.{AllByRecursion, AllPairs}
use Rattle.std.specs.Io.KnownBytes.{Appends}
use Rattle.csv_cards.specs.Reading.{TextHasCards}
use Rattle.csv_cards.specs.Writing.{csv_text}
use Rattle.csv_cards.specs.declared.form.Form.TheVariants.{Cards}
use Rattle.vcard_lines.specs.declared.line.Line.{Line}
use Rattle.vcard_text.specs.Cards.{IsCard, uid_of}
use Rattle.card_conversion.specs.Cuts.{AreCutOff}
use Rattle.card_conversion.specs.Fates.{Entry, HaveFates, cards_of, octets_of, pieces_of}
use Rattle.card_conversion.specs.Counts.{summary_of}
use Rattle.convert_report.specs.declared.ledger.Summary.{Summary}
use Rattle.card_conversion.specs.Deliveries.{WritesInTurn}

-- The pieces are all octets of the input, in order, each as it is cut off what the ones before it
-- left, and each has its fate. The cards that were written have different UIDs, and each keeps the
-- rules of a card. The summary counts the pieces.
pub record AccountsFor (input : Option (List ℕ)) (entries : List Entry) (summary : Summary) : Type 0
  where
    pub whole : IfSome input (λ octets. octets ≡ octets_of entries)
    pub cut : IfSome input (λ octets. AreCutOff octets (pieces_of entries) [])
    pub fates : HaveFates [] entries
    pub distinct : AllPairs (λ a b. a ≢ b) (map uid_of (cards_of entries))
    pub cards : AllByRecursion IsCard (cards_of entries)
    pub counts : summary ≡ summary_of entries

-- The input was converted piece by piece, and the cards among its pieces were written in order.
pub record ConvertsAll {A : Type 0} (writes : List Line → A → A → Type 0)
    (input : Option (List ℕ)) (before after : A) (summary : Summary) : Type 0 where
  pub entries : List Entry
  pub accounts : AccountsFor input entries summary
  pub written : WritesInTurn writes (cards_of entries) before after

-- The header and the rows of these cards were written, and they are read back as these cards.
pub record WritesRows (cards : List (List Line)) (before after : Option (List ℕ)) : Type 0 where
  pub written : Appends before after (csv_text Cards cards)
  pub read : TextHasCards (csv_text Cards cards) cards

-- The input was converted piece by piece, and the cards among its pieces were written as rows.
pub record ConvertsToRows (input before after : Option (List ℕ)) (summary : Summary) : Type 0 where
  pub entries : List Entry
  pub accounts : AccountsFor input entries summary
  pub rows : WritesRows (cards_of entries) before after
