-- A book has fewer tombstones after an import, by the number of its cards whose UID had one.
use Rattle.std.proofs.Common.{◌≡◌, ℕ, ◌+◌, Bool, true, false, cond, List, [], ◌∷◌, map, fold}
use Rattle.std.proofs.Common.{Option, Some, None, refl, ap, ◌∙◌, arith}
use Rattle.std.specs.Prelude.{count_by}
use Rattle.std.specs.List.{AllByRecursion, IsDistinct}
use Rattle.std.specs.Option.{option_and_then, option_map_or}
use Rattle.std.specs.FinMap as finite
use Rattle.std.specs.FinMap.{get-insert}
use Rattle.std.proofs.lemmas.Bool.{cond-false}
use Rattle.std.proofs.lemmas.List.Sums.{sum_by-cons}
use Rattle.vcard_lines.specs.declared.line.Line.{Line}
use Rattle.vcard_text.specs.Cards.{uid_of}
use Rattle.base_types.proofs.TextLemmas.{text_total}
use Rattle.book_model.specs.declared.answers.Stored.{Stored}
use Rattle.book_model.specs.declared.change.StoreReason.{StoreReason}
use Rattle.book_model.specs.declared.change.StoreReason.TheVariants.{Import, ImportEdit}
use Rattle.book_model.specs.declared.row.Row.{Row}
use Rattle.book_model.specs.BookQueries.{is_tombstone_after, tombstone_count}
use Rattle.book_model.specs.Books.{Book, live_at, same_name, stored_in_row}
use Rattle.book_model.specs.Counting.{one_if}
use Rattle.book_model.specs.ImportLaws.{HaveDistinctUids}
use Rattle.book_model.specs.Importing.{Importing, book_after_store, import_card, import_cards}
use Rattle.book_model.specs.Importing.{import_reason, import_state, import_with_reason}
use Rattle.book_model.specs.SameCards.{same_card}
use Rattle.book_model.proofs.ImportCountLemmas.{apart_turned}
use Rattle.book_model.proofs.StoreLemmas.{stored_replace}
use Rattle.book_model.specs.Counts.{is_tombstone_at}
use Rattle.store_inserts.specs.internal.Importing.{replaced_count}

-- ---- one card

no_stored : (stored : Stored) → ◌≡◌ {A = Option Stored} None (Some stored) → ⊥
no_stored stored e = cc

-- the row of a live card is no tombstone
live_row : (horizon changed : ℕ) (card : Option (List Line)) (stored : Stored)
    → stored_in_row (record { changed = changed; card = card }) ≡ Some stored
    → is_tombstone_after horizon (record { changed = changed; card = card }) ≡ false
live_row horizon changed (Some card) stored is = refl
live_row horizon changed None stored is = absurd (no_stored stored is)

live_apart : (book : Book) (uid : List ℕ) (stored : Stored) → live_at book uid ≡ Some stored
    → is_tombstone_at book uid ≡ false
live_apart book uid stored = by (finite.get book.members uid)
  where
    by : (found : Option Row) → option_and_then stored_in_row found ≡ Some stored
        → option_map_or (is_tombstone_after book.horizon) found false ≡ false
    by None is = refl
    by (Some row) is = live_row book.horizon row.changed row.card stored is

abbrev next : Importing Book → List Line → Importing Book
next state card = import_card live_at book_after_store state card

replaces_one : (state : Importing Book) (card : List Line)
    → tombstone_count (next state card).book + one_if (is_tombstone_at state.book (uid_of card))
    ≡ tombstone_count state.book
replaces_one state card = by (live_at state.book (uid_of card)) refl
  where
    by : (found : Option Stored) → live_at state.book (uid_of card) ≡ found
        → tombstone_count (import_with_reason book_after_store state card
        (import_reason card found)).book + one_if (is_tombstone_at state.book (uid_of card))
        ≡ tombstone_count state.book
    by None is = stored_replace state.book (uid_of card) card Import
    by (Some stored) is =
        let none = ap one_if (live_apart state.book (uid_of card) stored is) in
        elim (same_card stored.card card) as
        (λ b. tombstone_count (import_with_reason book_after_store state card
        (cond b None (Some ImportEdit))).book + one_if (is_tombstone_at state.book
        (uid_of card)) ≡ tombstone_count state.book) [
          | true ↦ omega (arith, none)
          | false ↦ stored_replace state.book (uid_of card) card ImportEdit
        ]

-- ---- the cards of other UIDs

apart_stays : (book : Book) (card : List Line) (why : StoreReason) (uid : List ℕ)
    → same_name (uid_of card) uid ≡ false → is_tombstone_at (book_after_store book card why) uid
    ≡ is_tombstone_at book uid
apart_stays book card why uid e =
    ap (λ found. option_map_or (is_tombstone_after book.horizon) found false)
    (get-insert text_total book.members (uid_of card) (record {
      changed = book.number + 1;
      card = Some card;
    }) uid ∙ cond-false _ _ _ (apart_turned (uid_of card) uid e))

other_stays : (state : Importing Book) (card : List Line) (uid : List ℕ)
    → same_name (uid_of card) uid ≡ false → is_tombstone_at (next state card).book uid
    ≡ is_tombstone_at state.book uid
other_stays state card uid e = by (live_at state.book (uid_of card))
  where
    by : (found : Option Stored) → is_tombstone_at (import_with_reason book_after_store state card
        (import_reason card found)).book uid ≡ is_tombstone_at state.book uid
    by None = apart_stays state.book card Import uid e
    by (Some stored) = elim (same_card stored.card card) as
        (λ b. is_tombstone_at (import_with_reason book_after_store state card
        (cond b None (Some ImportEdit))).book uid ≡ is_tombstone_at state.book uid) [
          | true ↦ refl
          | false ↦ apart_stays state.book card ImportEdit uid e
        ]

count_more : (p : List Line → Bool) (card : List Line) (cards : List (List Line))
    → count_by p (card ∷ cards) ≡ one_if (p card) + count_by p cards
count_more p card cards = sum_by-cons (λ y. cond (p y) 1 0) card cards

abbrev had_tombstone : Importing Book → List Line → Bool
had_tombstone state card = is_tombstone_at state.book (uid_of card)

others_alike : (state : Importing Book) (card : List Line) (cards : List (List Line))
    → AllByRecursion (λ uid. same_name (uid_of card) uid ≡ false) (map uid_of cards)
    → replaced_count (next state card).book cards ≡ replaced_count state.book cards
others_alike state card [] apart = refl
others_alike state card (other ∷ cards) apart =
    let here = ap one_if (other_stays state card (uid_of other) apart.0) in
    let rest = others_alike state card cards apart.1 in
    let a = count_more (had_tombstone (next state card)) other cards in
    let b = count_more (had_tombstone state) other cards in
    omega (arith, here, rest, a, b)

-- ---- all cards

all_replace : (cards : List (List Line)) (state : Importing Book) → HaveDistinctUids cards
    → tombstone_count (fold next state cards).book + replaced_count state.book cards
    ≡ tombstone_count state.book
unfolding IsDistinct
all_replace [] state distinct = omega arith
all_replace (card ∷ cards) state distinct =
    let rest = all_replace cards (next state card) distinct.1 in
    let one = replaces_one state card in
    let same = others_alike state card cards distinct.0 in
    let more = count_more (had_tombstone state) card cards in
    omega (arith, rest, one, same, more)

pub import_replaces : (book : Book) (cards : List (List Line)) → HaveDistinctUids cards
    → tombstone_count (import_cards live_at book_after_store book cards).book + replaced_count book
    cards ≡ tombstone_count book
import_replaces book cards distinct = all_replace cards (import_state book 0 0 0) distinct
