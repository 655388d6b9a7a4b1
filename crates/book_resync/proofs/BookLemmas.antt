-- Live cards of a book, and the book that a report is asked of.
use Rattle.std.proofs.Common.{◌≡◌, ℕ, List, Option, Some, None, sym, ap, ◌∙◌, refl}
use Rattle.std.specs.Option.{option_map, option_and_then}
use Rattle.std.specs.Result.{IfOk}
use Rattle.std.specs.FinMap as finite
use Rattle.std.specs.FinMap.{get-from_entries, same_map}
use Rattle.std.proofs.lemmas.Map.Lookups.{exact_bytes}
use Rattle.std.proofs.lemmas.Option.{same_Some}
use Rattle.base_types.proofs.TextLemmas.{text_total}
use Rattle.vcard_lines.specs.declared.line.Line.{Line}
use Rattle.vcard_text.specs.Cards.{uid_of}
use Rattle.book_model.specs.declared.answers.Stored.{Stored}
use Rattle.book_model.specs.declared.row.Row.{Row}
use Rattle.book_model.specs.declared.token.Token.{Token}
use Rattle.book_model.specs.Bounds.{Bounds}
use Rattle.book_model.specs.Books.{Book, Books, LiveCards, live_at, stored_in_row}
use Rattle.book_model.specs.BookQueries.{live_cards}
use Rattle.book_model.specs.Pages.{ReportRequest, page_size, requested_mark, report_step}
use Rattle.book_model.specs.WellFormed.{IsWellFormedBook}
use Rattle.book_model.proofs.LiveCardLemmas.{find_live}
use Rattle.book_laws.proofs.AcceptedLemmas.{after_any, after_named}

pub get-live_cards : (book : Book) (q : List ℕ) → finite.get (live_cards book) q ≡ live_at book q
get-live_cards book q = get-from_entries text_total _ q
    ∙ find_live q (finite.entries book.members) (finite.entries_sorted book.members)
    ∙ ap (option_and_then stored_in_row) (sym (finite.get-entries book.members q))

-- books with the same at each UID have the same live cards
pub same_live : (cards : LiveCards) (book : Book)
    → ((q : List ℕ) → live_at book q ≡ finite.get cards q) → live_cards book ≡ cards
same_live cards book is = same_map text_total exact_bytes _ _ (λ q. get-live_cards book q ∙ is q)

-- a live card of a well-formed book has its UID
pub own_live : (limits : Bounds) (book : Book) (uid : List ℕ) (stored : Stored)
    → IsWellFormedBook limits book → live_at book uid ≡ Some stored → uid_of stored.card ≡ uid
own_live limits book uid stored is e = by_row (finite.get book.members uid) refl e
  where
    no_card : ◌≡◌ {A = Option Stored} None (Some stored) → ⊥
    no_card e = cc

    by_card : (row : Row) → finite.get book.members uid ≡ Some row → (o : Option (List Line))
        → row.card ≡ o → option_map (λ (card : List Line). let s :
        Stored = record { version = row.changed; card = card } in s) o ≡ Some stored
        → uid_of stored.card ≡ uid
    by_card row at (Some card) c e = sym (ap (λ (s : Stored). uid_of s.card) (same_Some _ stored e))
        ∙ (is.rows uid row at).own_card card c
    by_card row at None c e = absurd (no_card e)

    by_row : (o : Option Row) → finite.get book.members uid ≡ o → option_and_then stored_in_row o
        ≡ Some stored → uid_of stored.card ≡ uid
    by_row (Some row) at e = by_card row at row.card refl e
    by_row None at e = absurd (no_card e)

-- an accepted report is of the book with the name
abbrev pub IsOfNamed : Books → List ℕ → ReportRequest → Type 0
IsOfNamed books name asked = finite.get books name ≡ Some asked.book

pub asked_of_named : (limits : Bounds) (books : Books) (name : List ℕ) (token : Option Token)
    (limit : Option ℕ) → IfOk (report_step limits books name token limit) (IsOfNamed books name)
asked_of_named limits books name token limit =
    let P : ReportRequest → Type 0 = λ asked. finite.get books name ≡ Some asked.book in
    after_named P books name _ (λ book at.
    after_any P (requested_mark book.id book.number book.horizon token) _ (λ mark.
    after_any P (page_size limits.page_max limit) _ (λ size. at)))
