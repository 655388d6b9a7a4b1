-- The rows of cards that were written one after another.
use Rattle.std.proofs.Common.{◌≡◌, ◌≢◌, ◌∷◌, ◌++◌, [], ℕ, List, Option, Some, None, sym, ap, subst}
use Rattle.std.proofs.Common.{◌∙◌, map, append_assoc, append-nil}
use Rattle.std.specs.Prelude.{flat_map}
use Rattle.std.specs.List.{AllByRecursion, AllPairs}
use Rattle.std.specs.Io.KnownBytes.{Appends}
use Rattle.vcard_lines.specs.declared.line.Line.{Line}
use Rattle.vcard_text.specs.Cards.{IsCard, uid_of}
use Rattle.csv_cards.specs.Reading.{TextHasCards}
use Rattle.csv_cards.specs.Writing.{csv_text}
use Rattle.csv_cards.specs.declared.form.Form.TheVariants.{Cards}
use Rattle.card_conversion.specs.Accounts.{ConvertsAll, ConvertsToRows, WritesRows}
use Rattle.convert_report.specs.declared.ledger.Summary.{Summary}
use Rattle.card_conversion.specs.Deliveries.{WritesInTurn}
use Rattle.card_conversion.specs.Fates.{cards_of}
use Rattle.card_conversion.specs.RowTexts.{card_row_text, header_row_text}

nothing_appended : (a : Option (List ℕ)) → Appends a a []
nothing_appended None = tt
nothing_appended (Some x) = sym (append-nil x)

appends_all : (a b c : Option (List ℕ)) (front back : List ℕ) → Appends a b front → Appends b c back
    → Appends a c (front ++ back)
appends_all None b c front back p q = tt
appends_all (Some x) None c front back p q = absurd p
appends_all (Some x) (Some y) None front back p q = absurd q
appends_all (Some x) (Some y) (Some z) front back p q = q ∙ ap (λ ys. ys ++ back) p
    ∙ append_assoc x front back

module _ {A : Type 0} (contents : A → Option (List ℕ)) where
  abbrev row_step : List Line → A → A → Type 0
  row_step card before after = Appends (contents before) (contents after) (card_row_text card)

  rows_appended : (cards : List (List Line)) (a b : A) → WritesInTurn row_step cards a b
      → Appends (contents a) (contents b) (flat_map card_row_text cards)
  rows_appended [] a b same = subst (λ x. Appends (contents a) (contents x) []) (sym same)
      (nothing_appended (contents a))
  rows_appended (card ∷ cards) a b written =
      appends_all (contents a) (contents written.0) (contents b) (card_row_text card)
      (flat_map card_row_text cards) written.1 (rows_appended cards written.0 b written.2)

  -- the header, and the rows of cards after it
  pub rows_written : (cards : List (List Line)) (before : Option (List ℕ)) (start now : A)
      → Appends before (contents start) header_row_text → WritesInTurn row_step cards start now
      → AllByRecursion IsCard cards → AllPairs (λ a b. a ≢ b) (map uid_of cards)
      → ((cards : List (List Line)) → csv_text Cards cards ≡ header_row_text
      ++ flat_map card_row_text cards)
      → ((cards : List (List Line)) → AllByRecursion IsCard cards
      → AllPairs (λ a b. a ≢ b) (map uid_of cards) → TextHasCards (csv_text Cards cards) cards)
      → WritesRows cards before (contents now)
  rows_written cards before start now header written are distinct text read = record {
    written = subst (Appends before (contents now)) (sym (text cards))
        (appends_all before (contents start) (contents now) header_row_text
        (flat_map card_row_text cards) header (rows_appended cards start now written));
    read = read cards are distinct;
  }

  pub all_rows : (input before : Option (List ℕ)) (start now : A) (summary : Summary)
      → Appends before (contents start) header_row_text
      → ConvertsAll row_step input start now summary
      → ((cards : List (List Line)) → csv_text Cards cards ≡ header_row_text
      ++ flat_map card_row_text cards)
      → ((cards : List (List Line)) → AllByRecursion IsCard cards
      → AllPairs (λ a b. a ≢ b) (map uid_of cards) → TextHasCards (csv_text Cards cards) cards)
      → ConvertsToRows input before (contents now) summary
  all_rows input before start now summary header converts text read = record {
    entries = converts.entries;
    accounts = converts.accounts;
    rows = rows_written (cards_of converts.entries) before start now header converts.written
        converts.accounts.cards converts.accounts.distinct text read;
  }
