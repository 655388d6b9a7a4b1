-- How many tombstones a book has after a card was stored in it.
use Rattle.std.proofs.Common.{◌≡◌, ℕ, ◌+◌, Bool, true, false, cond, T, List, [], ◌∷◌, length}
use Rattle.std.proofs.Common.{filter, Option, Some, None, Ordering, Less, Equal, Greater, refl, sym}
use Rattle.std.proofs.Common.{ap, ◌∙◌, subst, arith}
use Rattle.std.specs.Ordering.{is_lt, is_eq}
use Rattle.std.specs.Option.{option_map_or}
use Rattle.std.specs.FinMap as finite
use Rattle.std.specs.FinMap.{entries-insert}
use Rattle.std.specs.FinMap.Entries.{put, by_order, find, below_all, is_sorted}
use Rattle.std.proofs.lemmas.Bool.{cond-false}
use Rattle.base_types.specs.TextMaps.{text_cmp}
use Rattle.book_model.specs.declared.row.Row.{Row}
use Rattle.book_model.specs.BookQueries.{is_tombstone_after}
use Rattle.book_model.specs.Counting.{one_if}
use Rattle.book_model.proofs.BasicLemmas.{T_parts, T_both, less_differs}
use Rattle.book_model.proofs.LiveCardLemmas.{Members}
use Rattle.base_types.proofs.TextLemmas.{text_total, same}
use Rattle.book_model.specs.CountLaws.{StoredCardsReplaceTombstones}

-- how many rows pass a test
abbrev passing : (Row → Bool) → Members → ℕ
passing test es = length (filter (λ (e : List ℕ × Row). test e.1) es)

one_first : (test : Row → Bool) (e : List ℕ × Row) (es : Members)
    → passing test (e ∷ es) ≡ one_if (test e.1) + passing test es
one_first test e es = elim (test e.1) as
    (λ b. length (cond b (e ∷ filter (λ (d : List ℕ × Row). test d.1) es)
    (filter (λ (d : List ℕ × Row). test d.1) es)) ≡ one_if b + passing test es) [
      | true ↦ omega arith
      | false ↦ omega arith
    ]

is_less : (o : Ordering) → T (is_lt o) → o ≡ Less
is_less Less h = refl
is_less Equal h = absurd h
is_less Greater h = absurd h

-- ---- a key below all others is not found

none_found : (k : List ℕ) (es : Members) → T (below_all text_cmp k es) → find text_cmp k es ≡ None
none_found k [] h = refl
none_found k (e ∷ es) h = let parts = T_parts _ _ h in
    cond-false (same k e.0) (Some e.1) _ (less_differs (text_cmp k e.0) parts.0)
    ∙ none_found k es parts.1

still_below : (k j : List ℕ) (es : Members) → text_cmp k j ≡ Less → T (below_all text_cmp j es)
    → T (below_all text_cmp k es)
still_below k j [] p h = tt
still_below k j (e ∷ es) p h =
    let parts = T_parts _ _ h in
    T_both _ _ (subst (λ (r : Ordering). T (is_lt r))
    (sym (text_total.trans k j e.0 p (is_less _ parts.0))) tt) (still_below k j es p parts.1)

-- ---- a row is written

passing-put : (test : Row → Bool) (k : List ℕ) (v : Row) (es : Members) → T (is_sorted text_cmp es)
    → passing test (put text_cmp k v es) + one_if (option_map_or test (find text_cmp k es) false)
    ≡ passing test es + one_if (test v)
passing-put test k v [] h = let one = one_first test (k, v) [] in omega (arith, one)
passing-put test k v (e ∷ es) h =
    let parts = T_parts _ _ h in
    let all = one_first test e es in
    let rest = passing-put test k v es parts.1 in
    elim (text_cmp k e.0) as (λ o. text_cmp k e.0 ≡ o
    → passing test (by_order o ((k, v) ∷ e ∷ es) ((e.0, v) ∷ es) (e ∷ put text_cmp k v es)) +
    one_if (option_map_or test (cond (is_eq o) (Some e.1) (find text_cmp k es)) false)
    ≡ passing test (e ∷ es) + one_if (test v)) [
      | Less ↦ λ p.
          let one = one_first test (k, v) (e ∷ es) in
          let none = ap (λ (o : Option Row). one_if (option_map_or test o false))
          (none_found k es (still_below k e.0 es p parts.0)) in
          omega (arith, one, none)
      | Equal ↦ λ p. let one = one_first test (e.0, v) es in omega (arith, one, all)
      | Greater ↦ λ p. let one = one_first test e (put text_cmp k v es) in
          omega (arith, one, all, rest)
    ] refl

pub stored_replace : StoredCardsReplaceTombstones
stored_replace book uid card why =
    let row : Row = record { changed = book.number + 1; card = Some card } in
    let test = is_tombstone_after book.horizon in
    let is = ap (passing test) (entries-insert text_total book.members uid row) in
    let written = passing-put test uid row (finite.entries book.members)
    (finite.entries_sorted book.members) in
    let found = ap (λ (o : Option Row). one_if (option_map_or test o false))
    (finite.get-entries book.members uid) in
    omega (arith, is, written, found)
