-- The counts of an import: card by card, by what was live before the import.
use Rattle.std.proofs.Common.{◌≡◌, ℕ, ◌+◌, Bool, true, false, cond, not, List, [], ◌∷◌, map, fold}
use Rattle.std.proofs.Common.{Option, Some, None, refl, ap, ◌∙◌, arith}
use Rattle.std.specs.Prelude.{count_by, is_none}
use Rattle.std.specs.List.{AllByRecursion, IsDistinct}
use Rattle.std.specs.Option.{option_and_then}
use Rattle.std.specs.FinMap.{get-insert}
use Rattle.std.proofs.lemmas.Bool.{cond-false, both_ways, false_from_ne_true}
use Rattle.std.proofs.lemmas.List.Sums.{sum_by-cons}
use Rattle.vcard_lines.specs.declared.line.Line.{Line}
use Rattle.vcard_text.specs.Cards.{uid_of}
use Rattle.book_model.specs.declared.answers.Stored.{Stored}
use Rattle.book_model.specs.declared.change.StoreReason.{StoreReason}
use Rattle.book_model.specs.declared.change.StoreReason.TheVariants.{Import, ImportEdit}
use Rattle.book_model.specs.Books.{Book, same_name, stored_in_row, live_at}
use Rattle.book_model.specs.Counting.{arrived_cards, departed_cards, one_if}
use Rattle.book_model.specs.Importing.{Importing, import_state, import_card, import_cards}
use Rattle.book_model.specs.Importing.{book_after_store, import_with_reason, import_reason}
use Rattle.book_model.specs.ImportLaws.{is_edit_of_live, is_same_as_live, HaveDistinctUids}
use Rattle.book_model.specs.ImportLaws.{CountsImportedCards, ImportsCountCards, ImportsTakeNumbers}
use Rattle.book_model.specs.SameCards.{same_card}
use Rattle.base_types.proofs.TextLemmas.{text_total, same_self, same-equal}

count_by-more : (p : List Line → Bool) (card : List Line) (cards : List (List Line))
    → count_by p (card ∷ cards) ≡ one_if (p card) + count_by p cards
count_by-more p card cards = sum_by-cons (λ y. cond (p y) 1 0) card cards

same_count : (p q : List Line → Bool) (cards : List (List Line))
    → AllByRecursion (λ card. p card ≡ q card) cards → count_by p cards ≡ count_by q cards
same_count p q [] all = refl
same_count p q (card ∷ cards) all =
    let here = ap one_if all.0 in
    let rest = same_count p q cards all.1 in
    let a = count_by-more p card cards in
    let b = count_by-more q card cards in
    omega (arith, here, rest, a, b)

pub apart_turned : (a b : List ℕ) → same_name a b ≡ false → same_name b a ≡ false
apart_turned a b e = false_from_ne_true _
    (λ same. both_ways _ e (ap (same_name a) (same-equal b a same) ∙ same_self a))

-- of any kind of book in which a card that is stored alters what is live at its own UID alone
module _ {S : Type 0} (live_in : S → List ℕ → Option Stored) (storing : S → List Line → StoreReason
    → S)
    (apart : (book : S) (card : List Line) (why : StoreReason) (uid : List ℕ)
    → same_name (uid_of card) uid ≡ false → live_in (storing book card why) uid
    ≡ live_in book uid) where
  abbrev next : Importing S → List Line → Importing S
  next state card = import_card live_in storing state card

  others_stay : (state : Importing S) (card : List Line) (uid : List ℕ)
      → same_name (uid_of card) uid ≡ false → live_in (next state card).book uid
      ≡ live_in state.book uid
  others_stay state card uid e = by (live_in state.book (uid_of card))
    where
      by : (found : Option Stored) → live_in (import_with_reason storing state card
          (import_reason card found)).book uid ≡ live_in state.book uid
      by None = apart state.book card Import uid e
      by (Some stored) = elim (same_card stored.card card) as
          (λ b. live_in (import_with_reason storing state card (cond b None (Some ImportEdit))).book
          uid ≡ live_in state.book uid) [
            | true ↦ refl
            | false ↦ apart state.book card ImportEdit uid e
          ]

  -- a count of the cards of one kind, decided by what is live
  module _ (kind : Option Stored → List Line → Bool) (count : Importing S → ℕ)
      (counted : (state : Importing S) (card : List Line)
      → count (next state card) ≡ count state + one_if (kind (live_in state.book (uid_of card))
      card)) where
    abbrev is_kind : Importing S → List Line → Bool
    is_kind state card = kind (live_in state.book (uid_of card)) card

    alike : (state : Importing S) (card : List Line) (cards : List (List Line))
        → AllByRecursion (λ uid. same_name (uid_of card) uid ≡ false) (map uid_of cards)
        → AllByRecursion (λ other. is_kind (next state card) other ≡ is_kind state other) cards
    alike state card [] all = tt
    alike state card (other ∷ cards) all = (
      ap (λ (o : Option Stored). kind o other) (others_stay state card (uid_of other) all.0),
      alike state card cards all.1,
    )

    all_counted : (cards : List (List Line)) (state : Importing S) → HaveDistinctUids cards
        → count (fold next state cards) ≡ count state + count_by (is_kind state) cards
    unfolding IsDistinct
    all_counted [] state distinct = omega arith
    all_counted (card ∷ cards) state distinct =
        let rest = all_counted cards (next state card) distinct.1 in
        let one = counted state card in
        let same = same_count (is_kind (next state card)) (is_kind state) cards
        (alike state card cards distinct.0) in
        let more = count_by-more (is_kind state) card cards in
        omega (arith, rest, one, same, more)

  one_added : (state : Importing S) (card : List Line)
      → (next state card).added ≡ state.added + one_if (is_none (live_in state.book (uid_of card)))
  one_added state card = by (live_in state.book (uid_of card))
    where
      by : (found : Option Stored) → (import_with_reason storing state card
          (import_reason card found)).added ≡ state.added + one_if (is_none found)
      by None = refl
      by (Some stored) = elim (same_card stored.card card) as
          (λ b. (import_with_reason storing state card (cond b None (Some ImportEdit))).added
          ≡ state.added + 0) [
            | true ↦ omega arith
            | false ↦ omega arith
          ]

  one_edited : (state : Importing S) (card : List Line)
      → (next state card).edited ≡ state.edited + one_if
      (is_edit_of_live (live_in state.book (uid_of card)) card)
  one_edited state card = by (live_in state.book (uid_of card))
    where
      by : (found : Option Stored) → (import_with_reason storing state card
          (import_reason card found)).edited ≡ state.edited + one_if (is_edit_of_live found card)
      by None = omega arith
      by (Some stored) = elim (same_card stored.card card) as
          (λ b. (import_with_reason storing state card (cond b None (Some ImportEdit))).edited
          ≡ state.edited + one_if (not b)) [
            | true ↦ omega arith
            | false ↦ omega arith
          ]

  one_same : (state : Importing S) (card : List Line)
      → (next state card).same ≡ state.same + one_if
      (is_same_as_live (live_in state.book (uid_of card)) card)
  one_same state card = by (live_in state.book (uid_of card))
    where
      by : (found : Option Stored) → (import_with_reason storing state card
          (import_reason card found)).same ≡ state.same + one_if (is_same_as_live found card)
      by None = omega arith
      by (Some stored) = elim (same_card stored.card card) as
          (λ b. (import_with_reason storing state card (cond b None (Some ImportEdit))).same
          ≡ state.same + one_if b) [
            | true ↦ omega arith
            | false ↦ omega arith
          ]

  pub counts_cards : (book : S) (cards : List (List Line)) → HaveDistinctUids cards
      → CountsImportedCards live_in book cards (import_cards live_in storing book cards)
  counts_cards book cards distinct =
      let start : Importing S = import_state book 0 0 0 in
      let added = all_counted (λ o card. is_none o) (λ s. s.added) one_added cards start distinct in
      let edited = all_counted is_edit_of_live (λ s. s.edited) one_edited cards start distinct in
      let same = all_counted is_same_as_live (λ s. s.same) one_same cards start distinct in
      record {
        added = omega (arith, added);
        edited = omega (arith, edited);
        same = omega (arith, same);
      }

-- ---- the rows

pub row_apart : (book : Book) (card : List Line) (why : StoreReason) (uid : List ℕ)
    → same_name (uid_of card) uid ≡ false → live_at (book_after_store book card why) uid
    ≡ live_at book uid
row_apart book card why uid e = ap (option_and_then stored_in_row)
    (get-insert text_total book.members (uid_of card) (record {
      changed = book.number + 1;
      card = Some card;
    }) uid ∙ cond-false _ _ _ (apart_turned (uid_of card) uid e))

pub imports_count_cards : ImportsCountCards
imports_count_cards = counts_cards live_at book_after_store row_apart

-- the effect of a part of an import on the book that it started from
record Takes (from to : Importing Book) : Type 0 where
  number : to.book.number + from.added + from.edited ≡ from.book.number + to.added + to.edited
  arrived : arrived_cards to.book.counts + from.added ≡ arrived_cards from.book.counts + to.added
  departed : departed_cards to.book.counts ≡ departed_cards from.book.counts

takes_one : (state : Importing Book) (card : List Line)
    → Takes state (import_card live_at book_after_store state card)
takes_one state card = by (live_at state.book (uid_of card))
  where
    by : (found : Option Stored) → Takes state (import_with_reason book_after_store state card
        (import_reason card found))
    by None = record { number = omega arith; arrived = omega arith; departed = refl }
    by (Some stored) = elim (same_card stored.card card) as
        (λ b. Takes state (import_with_reason book_after_store state card
        (cond b None (Some ImportEdit)))) [
          | true ↦ record { number = refl; arrived = refl; departed = refl }
          | false ↦ record { number = omega arith; arrived = omega arith; departed = refl }
        ]

takes_all : (cards : List (List Line)) (state : Importing Book)
    → Takes state (fold (import_card live_at book_after_store) state cards)
takes_all [] state = record { number = refl; arrived = refl; departed = refl }
takes_all (card ∷ cards) state =
    let one = takes_one state card in
    let rest = takes_all cards (import_card live_at book_after_store state card) in
    let a = one.number in
    let b = rest.number in
    let c = one.arrived in
    let d = rest.arrived in
    record {
      number = omega (arith, a, b);
      arrived = omega (arith, c, d);
      departed = rest.departed
          ∙ one.departed;
    }

pub imports_take_numbers : ImportsTakeNumbers
imports_take_numbers book cards =
    let takes = takes_all cards (import_state book 0 0 0) in
    let a = takes.number in
    let b = takes.arrived in
    record { number = omega (arith, a); arrived = omega (arith, b); departed = takes.departed }
