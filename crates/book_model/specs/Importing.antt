-- Importing cards under a key. The key is kept with the tally, so that imports are idempotent.
use Rattle.std.specs.Prelude.{ℕ, ◌+◌, ◌==◌, Bool, ◌&&◌, ◌||◌, nat_le, List, length, fold, Option}
use Rattle.std.specs.Prelude.{Some, None, Result, Ok, if◌then◌else◌}
use Rattle.std.specs.List.{list_all}
use Rattle.std.specs.FinMap as finite
use Rattle.base_types.specs.Octets.{dot, hyphen, underscore, is_digit, is_letter}
use Rattle.vcard_lines.specs.declared.line.Line.{Line}
use Rattle.vcard_text.specs.Cards.{uid_of}
use Rattle.book_model.specs.declared.answers.ImportTally.{ImportTally}
use Rattle.book_model.specs.declared.answers.Stored.{Stored}
use Rattle.book_model.specs.declared.change.Change.TheVariants.{Stores}
use Rattle.book_model.specs.declared.change.StoreReason.{StoreReason}
use Rattle.book_model.specs.declared.change.StoreReason.TheVariants.{Import, ImportEdit}
use Rattle.book_model.specs.declared.refusal.Refusal.{Refusal}
use Rattle.book_model.specs.declared.refusal.Refusal.TheVariants.{BookFull, ChangesSpent, BadKey}
use Rattle.book_model.specs.Bounds.{Bounds}
use Rattle.book_model.specs.Books.{Book, Books, book_named, live_at}
use Rattle.book_model.specs.BookChanges.{book_after_change}
use Rattle.book_model.specs.Counting.{live_count}
use Rattle.book_model.specs.CallOutcomes.{◌>>=◌, refuse_unless}
use Rattle.book_model.specs.SameCards.{same_card}

-- ---- keys

-- a letter, a digit, the dot, the underscore or the hyphen
abbrev pub is_key_octet : ℕ → Bool
is_key_octet octet = is_letter octet || is_digit octet
    || (octet == dot) || (octet == underscore) || (octet == hyphen)

-- 1 to 64 of them
abbrev pub is_legal_key : List ℕ → Bool
is_legal_key key = nat_le 1 (length key) && nat_le (length key) 64 && list_all is_key_octet key

-- ---- one card

-- why an import stores the card, if it does: its UID isn't live, or a different card is live
abbrev pub import_reason : List Line → Option Stored → Option StoreReason
import_reason card None = Some Import
import_reason card (Some stored) = if same_card stored.card card then None else Some ImportEdit

-- ---- cards in order

-- The book after the cards imported so far, and how many of them were added, edited and the same.
pub record Importing (S : Type 0) : Type 0 where
  pub book : S
  pub added : ℕ
  pub edited : ℕ
  pub same : ℕ

abbrev pub import_state : {S : Type 0} → S → ℕ → ℕ → ℕ → Importing S
import_state book added edited same =
    record { book = book; added = added; edited = edited; same = same }

-- the three counts alone, without the book
abbrev pub imported_so_far : ℕ → ℕ → ℕ → Importing (Unit {0})
imported_so_far added edited same = import_state tt added edited same

-- Defined for any kind of book, given how a card is stored in it. A card that isn't stored counts
-- as the same, one that is stored where nothing was live as added, and any other as edited.
abbrev pub import_with_reason : {S : Type 0} → (S → List Line → StoreReason → S)
    → Importing S → List Line → Option StoreReason → Importing S
import_with_reason storing state card None =
    import_state state.book state.added state.edited (state.same + 1)
import_with_reason storing state card (Some Import) =
    import_state (storing state.book card Import) (state.added + 1) state.edited state.same
import_with_reason storing state card (Some why) =
    import_state (storing state.book card why) state.added (state.edited + 1) state.same

-- and given how the live card under a UID is looked up
module _ {S : Type 0} (live_in : S → List ℕ → Option Stored)
    (storing : S → List Line → StoreReason → S) where
  abbrev pub import_card : Importing S → List Line → Importing S
  import_card state card =
      import_with_reason storing state card (import_reason card (live_in state.book (uid_of card)))

  abbrev pub import_cards : S → List (List Line) → Importing S
  import_cards book cards = fold import_card (import_state book 0 0 0) cards

-- The tally, where there is room for the added and edited cards, given the live cards and the
-- number of the book after the import.
abbrev pub import_tally : {S : Type 0} → Bounds → Importing S → ℕ → ℕ → Result ImportTally Refusal
import_tally limits state cards number = do
  room ← refuse_unless ((state.added == 0) || nat_le cards limits.cards_max) BookFull
  left ← refuse_unless ((state.added + state.edited == 0) || nat_le number limits.changes_max)
      ChangesSpent
  Ok (record { added = state.added; edited = state.edited; same = state.same; number = number })

-- ---- the rows

abbrev pub book_after_store : Book → List Line → StoreReason → Book
book_after_store book card why = book_after_change book (uid_of card) (Stores card why)

-- the tally of an import that resulted in this book
abbrev pub book_import_tally : Bounds → Importing Book → Result ImportTally Refusal
book_import_tally limits done =
    import_tally limits done (live_count done.book.counts) done.book.number

-- the book keeps the tally of the import under its key
abbrev pub book_with_kept_import : Book → List ℕ → ImportTally → Book
book_with_kept_import book key tally =
    record book { imports = finite.insert book.imports key tally }

-- where the key is kept, its tally is returned and nothing changes
abbrev pub import_under_key : Bounds → Books → List ℕ → Book → List ℕ → List (List Line)
    → Option ImportTally → Result (ImportTally × Books) Refusal
import_under_key limits books name book key cards (Some kept) = Ok (kept, books)
import_under_key limits books name book key cards None = do
  tally ← book_import_tally limits (import_cards live_at book_after_store book cards)
  Ok (
    tally,
    finite.insert books name
        (book_with_kept_import (import_cards live_at book_after_store book cards).book
        key tally),
  )

abbrev pub import_step : Bounds → Books → List ℕ → List ℕ → List (List Line)
    → Result (ImportTally × Books) Refusal
import_step limits books name key cards = do
  book ← book_named books name
  legal ← refuse_unless (is_legal_key key) BadKey
  import_under_key limits books name book key cards (finite.get book.imports key)

-- the tally that is kept under a key, if any
abbrev pub kept_import_step : Books → List ℕ → List ℕ → Result (Option ImportTally) Refusal
kept_import_step books name key = do
  book ← book_named books name
  legal ← refuse_unless (is_legal_key key) BadKey
  Ok (finite.get book.imports key)
