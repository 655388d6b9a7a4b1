-- Each command of a resync is a put of a legal card, a removal or a forget.
use Rattle.std.proofs.Common.{◌≡◌, ℕ, zero, suc, Bool, true, false, cond, List, [], ◌∷◌, ◌++◌}
use Rattle.std.proofs.Common.{flat_map, Option, Some, None, slice_get, refl, sym, ap, ◌∙◌, subst}
use Rattle.std.specs.List.{AllByRecursion}
use Rattle.std.specs.FinMap as finite
use Rattle.std.specs.FinMap.Entries.{find}
use Rattle.std.proofs.lemmas.Bool.{cond-true}
use Rattle.std.proofs.lemmas.Option.{same_Some}
use Rattle.base_types.specs.TextMaps.{text_cmp}
use Rattle.base_types.proofs.TextLemmas.{same_self}
use Rattle.vcard_lines.specs.declared.line.Line.{Line}
use Rattle.vcard_text.specs.Cards.{IsCard}
use Rattle.book_model.specs.declared.answers.Stored.{Stored}
use Rattle.book_model.specs.Bounds.{Bounds}
use Rattle.book_model.specs.Books.{Book, live_at}
use Rattle.book_model.specs.BookQueries.{live_cards}
use Rattle.book_model.specs.Counting.{live_count}
use Rattle.book_laws.specs.Calls.{Call}
use Rattle.book_resync.specs.Resyncing.{first_live_card, has_room, renewed_card}
use Rattle.book_resync.specs.ResyncCalls.{IsResyncCall, creations_and_removals, pairs_of_calls}
use Rattle.book_resync.specs.ResyncCalls.{removals_and_creations, resync_calls_of_book}
use Rattle.book_resync.specs.ResyncLaws.{ResyncCallsAreLegal}
use Rattle.book_resync.proofs.BookLemmas.{get-live_cards}
use Rattle.book_resync.proofs.EntryLemmas.{each_entry}

abbrev AreLegal : List Call → Type 0
AreLegal calls = AllByRecursion IsResyncCall calls

legal-append : (calls others : List Call) → AreLegal calls → AreLegal others
    → AreLegal (calls ++ others)
legal-append [] others a b = b
legal-append (call ∷ calls) others a b = (a.0, legal-append calls others a.1 b)

legal_creations : (name : List ℕ) (card : List Line) (pairs : ℕ) → IsCard card
    → AreLegal (creations_and_removals name card pairs)
legal_creations name card zero legal = tt
legal_creations name card (suc pairs) legal =
    (legal, (tt, legal_creations name card pairs legal))

legal_renewals : (name : List ℕ) (card : List Line) (pairs : ℕ) → IsCard card
    → AreLegal (removals_and_creations name card pairs)
legal_renewals name card zero legal = tt
legal_renewals name card (suc pairs) legal =
    (tt, (legal, legal_renewals name card pairs legal))

-- ---- the card that is renewed

-- a text can spell each live card of the book
abbrev IsLegalBook : List ℕ → Book → Type 0
IsLegalBook name book = (uid : List ℕ) (stored : Stored) → live_at book uid ≡ Some stored
    → IsCard stored.card

legal_first : (book : Book) (renewed : List ℕ × Stored) → IsLegalBook [] book
    → first_live_card book ≡ Some renewed → IsCard renewed.1.card
legal_first book renewed legal first = by (finite.entries (live_cards book)) refl first
  where
    no_first : ◌≡◌ {A = Option (List ℕ × Stored)} None (Some renewed) → ⊥
    no_first e = cc

    by : (es : List (List ℕ × Stored)) → finite.entries (live_cards book) ≡ es
        → slice_get es 0 ≡ Some renewed → IsCard renewed.1.card
    by [] is at = absurd (no_first at)
    by (e ∷ es) is at =
        let own : e ≡ renewed = same_Some e renewed at in
        subst (λ (r : List ℕ × Stored). IsCard r.1.card) own
        (legal e.0 e.1 (sym (get-live_cards book e.0) ∙ finite.get-entries (live_cards book) e.0
        ∙ ap (find text_cmp e.0) is ∙ cond-true _ _ _ (same_self e.0)))

legal_renewed : (limits : Bounds) (book : Book) (renewed : List ℕ × Stored)
    → IsLegalBook [] book → renewed_card limits book ≡ Some renewed → IsCard renewed.1.card
legal_renewed limits book renewed legal is = by (has_room limits (live_count book.counts)) refl is
  where
    no_card : ◌≡◌ {A = Option (List ℕ × Stored)} None (Some renewed) → ⊥
    no_card e = cc

    by : (room : Bool) → has_room limits (live_count book.counts) ≡ room
        → cond room None (first_live_card book) ≡ Some renewed → IsCard renewed.1.card
    by true room is = absurd (no_card is)
    by false room is = legal_first book renewed legal is

-- ---- the commands

legal_pairs : (name : List ℕ) (spare : List Line) (renewed : Option (List ℕ × Stored)) (pairs : ℕ)
    → IsCard spare
    → ((some : List ℕ × Stored) → renewed ≡ Some some → IsCard some.1.card)
    → AreLegal (pairs_of_calls name spare renewed pairs)
legal_pairs name spare None pairs legal known = legal_creations name spare pairs legal
legal_pairs name spare (Some some) pairs legal known =
    legal_renewals name some.1.card pairs (known some refl)

module _ (limits : Bounds) (spare : List Line) (pairs : ℕ) (legal : IsCard spare) where
  of_book : (named : List ℕ × Book) → IsLegalBook named.0 named.1
      → AreLegal (resync_calls_of_book limits spare pairs named)
  of_book named own = legal-append
      (pairs_of_calls named.0 spare (renewed_card limits named.1) pairs) _
      (legal_pairs named.0 spare (renewed_card limits named.1) pairs legal
      (λ some is. legal_renewed limits named.1 some own is)) (tt, tt)

  of_books : (es : List (List ℕ × Book)) → AllByRecursion (λ e. IsLegalBook e.0 e.1) es
      → AreLegal (flat_map (resync_calls_of_book limits spare pairs) es)
  of_books [] all = tt
  of_books (e ∷ es) all = legal-append (resync_calls_of_book limits spare pairs e) _
      (of_book e all.0) (of_books es all.1)

pub resync_calls_are_legal : ResyncCallsAreLegal
resync_calls_are_legal limits books spare pairs legal own =
    of_books limits spare pairs legal (finite.entries books)
    (each_entry IsLegalBook books (λ name book at uid stored is. own name uid book stored at is))
