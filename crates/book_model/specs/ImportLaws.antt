-- The counts of an import, by the cards that were live before it.
use Rattle.std.specs.Prelude.{ℕ, ◌+◌, ◌≡◌, Bool, false, not, List, map, count_by, Option, Some}
use Rattle.std.specs.Prelude.{None, is_none}
use Rattle.std.specs.List.{IsDistinct}
use Rattle.vcard_lines.specs.declared.line.Line.{Line}
use Rattle.vcard_text.specs.Cards.{uid_of}
use Rattle.book_model.specs.declared.answers.Stored.{Stored}
use Rattle.book_model.specs.Books.{Book, same_name, live_at}
use Rattle.book_model.specs.Counting.{arrived_cards, departed_cards}
use Rattle.book_model.specs.Importing.{Importing, import_cards, book_after_store}
use Rattle.book_model.specs.SameCards.{same_card}

-- ---- cards, by the live cards under their UIDs

-- a different card is live
abbrev pub is_edit_of_live : Option Stored → List Line → Bool
is_edit_of_live None card = false
is_edit_of_live (Some stored) card = not (same_card stored.card card)

-- an equal card is live
abbrev pub is_same_as_live : Option Stored → List Line → Bool
is_same_as_live None card = false
is_same_as_live (Some stored) card = same_card stored.card card

-- no two of the cards have the same UID
abbrev pub HaveDistinctUids : List (List Line) → Type 0
HaveDistinctUids cards = IsDistinct same_name (map uid_of cards)

-- Each card is counted by what was live under its UID before the import: added where nothing was,
-- edited where a different card was, and the same where an equal card was.
pub record CountsImportedCards {S : Type 0} (live_in : S → List ℕ → Option Stored)
    (book : S) (cards : List (List Line)) (done : Importing S) : Type 0 where
  pub added : done.added ≡ count_by (λ card. is_none (live_in book (uid_of card))) cards
  pub edited : done.edited
      ≡ count_by (λ card. is_edit_of_live (live_in book (uid_of card)) card) cards
  pub same : done.same ≡ count_by (λ card. is_same_as_live (live_in book (uid_of card)) card) cards

-- ---- the rows

-- cards with distinct UIDs are counted by what was live before the import
abbrev pub ImportsCountCards : Type 0
ImportsCountCards = (book : Book) (cards : List (List Line)) → HaveDistinctUids cards →
    CountsImportedCards live_at book cards (import_cards live_at book_after_store book cards)

-- each added or edited card takes one number, and each added card is one more live card
pub record TakesNumbers (book : Book) (done : Importing Book) : Type 0 where
  pub number : done.book.number ≡ book.number + done.added + done.edited
  pub arrived : arrived_cards done.book.counts ≡ arrived_cards book.counts + done.added
  pub departed : departed_cards done.book.counts ≡ departed_cards book.counts

abbrev pub ImportsTakeNumbers : Type 0
ImportsTakeNumbers = (book : Book) (cards : List (List Line)) →
    TakesNumbers book (import_cards live_at book_after_store book cards)
