-- The rows of cards that were written one after another.
use Rattle.std.proofs.Common.{◌≡◌, ◌≢◌, ◌∙◌, ◌∷◌, ◌++◌, [], ℕ, List, Option, None, refl, sym, ap}
use Rattle.std.proofs.Common.{subst, map, append_assoc, append-nil}
use Rattle.std.proofs.lemmas.List.{map-append}
use Rattle.std.specs.List.{AllByRecursion, AllPairs}
use Rattle.vcard_lines.specs.declared.line.Line.{Line}
use Rattle.vcard_text.specs.Cards.{IsCard, uid_of}
use Rattle.card_conversion.specs.ContactFates as contacts
use Rattle.card_conversion.specs.Counts as pieces
use Rattle.convert_report.specs.Counts.{nothing_counted}
use Rattle.card_conversion.specs.Courses.{AllHaveFates, ConvertsPart, ConvertsPieces, ConvertsTexts}
use Rattle.card_conversion.specs.Courses.{HaveFates, Part, cards_of, cards_of_all, counts_of}
use Rattle.card_conversion.specs.Courses.{of_pieces, of_rows}
use Rattle.card_conversion.specs.Deliveries.{WritesInTurn}
use Rattle.card_conversion.specs.declared.course.Course.{Course}
use Rattle.contact_columns.specs.declared.columns.Column.{Column}
use Rattle.convert_posts.specs.Parts.{AddsRow, AreRowsOf, IsOfContacts, IsOfPieces, card_text}
use Rattle.convert_posts.specs.Parts.{row_text}
use Rattle.convert_posts.specs.declared.part.CardRow.{CardRow}

-- what is known of the cards of files
abbrev pub AreCards : Type 0
AreCards = (parts : List Part) → AllHaveFates [] parts → AllByRecursion IsCard (cards_of_all parts)

abbrev pub AreApart : Type 0
AreApart = (parts : List Part) → AllHaveFates [] parts
    → AllPairs (λ a b. a ≢ b) (map uid_of (cards_of_all parts))

-- the same of one file
cards_of_one : AreCards → (part : Part) → HaveFates [] part → AllByRecursion IsCard (cards_of part)
cards_of_one all part have = subst (AllByRecursion IsCard) (append-nil (cards_of part))
    (all (part ∷ []) (have, tt))

apart_in_one : AreApart → (part : Part) → HaveFates [] part
    → AllPairs (λ a b. a ≢ b) (map uid_of (cards_of part))
apart_in_one all part have =
    subst (λ (cards : List (List Line)). AllPairs (λ a b. a ≢ b) (map uid_of cards))
    (append-nil (cards_of part)) (all (part ∷ []) (have, tt))

module _ {A : Type 0} (rows_of : A → List CardRow) where
  abbrev row_step : List Line → A → A → Type 0
  row_step card before after = AddsRow card (rows_of before) (rows_of after)

  -- one more row
  one_row : (card : List Line) (cards : List (List Line)) (a b c : List CardRow) → AddsRow card a b
      → map row_text c ≡ map row_text b ++ map card_text cards
      → map row_text c ≡ map row_text a ++ map card_text (card ∷ cards)
  one_row card cards a b c (row, is, grown) all =
      all ∙ ap (λ (rows : List CardRow). map row_text rows ++ map card_text cards) grown
      ∙ ap (λ texts. texts ++ map card_text cards) (map-append row_text a (row ∷ []))
      ∙ append_assoc (map row_text a) (row_text row ∷ []) (map card_text cards)
      ∙ ap (λ text. map row_text a ++ text ∷ map card_text cards) is

  rows_added : (cards : List (List Line)) (a b : A) → WritesInTurn row_step cards a b
      → map row_text (rows_of b) ≡ map row_text (rows_of a) ++ map card_text cards
  rows_added [] a b same = ap (λ (x : A). map row_text (rows_of x)) same
      ∙ sym (append-nil (map row_text (rows_of a)))
  rows_added (card ∷ cards) a b written =
      one_row card cards (rows_of a) (rows_of written.0) (rows_of b) written.1
      (rows_added cards written.0 b written.2)

  -- from no rows on, they are those of the cards
  rows_are : (cards : List (List Line)) (a b : A) → rows_of a ≡ [] → WritesInTurn row_step cards a b
      → AreRowsOf cards (rows_of b)
  rows_are cards a b none written = rows_added cards a b written
      ∙ ap (λ (rows : List CardRow). map row_text rows ++ map card_text cards) none

  pub pieces_done : (input : Option (List ℕ)) (first course : Course) (a b : A) → AreCards
      → AreApart → counts_of first ≡ nothing_counted → rows_of a ≡ []
      → ConvertsPieces row_step input [] first course a b
      → IsOfPieces input (counts_of course) (rows_of b)
  pieces_done input first course a b are_cards are_apart nothing none converts = (
    converts.entries,
    record {
      whole = converts.whole;
      cut = converts.cut;
      fates = converts.part.fates;
      distinct = apart_in_one are_apart (of_pieces converts.entries) converts.part.fates;
      cards = cards_of_one are_cards (of_pieces converts.entries) converts.part.fates;
      counts = converts.part.counts ∙ ap (λ start. pieces.summary_after start converts.entries)
          nothing;
    },
    rows_are (cards_of (of_pieces converts.entries)) a b none converts.part.written,
  )

  -- the same of texts, of which it isn't known which they are
  pub texts_done : (first course : Course) (a b : A) → AreCards → AreApart
      → counts_of first ≡ nothing_counted → rows_of a ≡ []
      → ConvertsTexts row_step [] first course a b
      → IsOfPieces None (counts_of course) (rows_of b)
  texts_done first course a b are_cards are_apart nothing none (entries, part) =
      pieces_done None first course a b are_cards are_apart nothing none
      (record { entries = entries; whole = tt; cut = tt; part = part })

  pub rows_done : (columns : List Column) (entries : List contacts.RowEntry) (first course : Course)
      (a b : A) → AreCards → AreApart → counts_of first ≡ nothing_counted → rows_of a ≡ []
      → ConvertsPart row_step (of_rows columns entries) [] first course a b
      → IsOfContacts (counts_of course) (rows_of b)
  rows_done columns entries first course a b are_cards are_apart nothing none part = record {
    columns = columns;
    entries = entries;
    fates = part.fates;
    distinct = apart_in_one are_apart (of_rows columns entries) part.fates;
    cards = cards_of_one are_cards (of_rows columns entries) part.fates;
    counts = part.counts ∙ ap (λ start. contacts.summary_after start entries) nothing;
    are_rows = rows_are (contacts.cards_of entries) a b none part.written;
  }
