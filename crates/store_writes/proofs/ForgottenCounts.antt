-- A book from which forgetting dropped no row has as many tombstones as before.
use Rattle.std.proofs.Common.{◌≡◌, ℕ, ◌+◌, ◌≤◌, Bool, true, false, not, cond, List, [], ◌∷◌, length}
use Rattle.std.proofs.Common.{filter, Option, Some, None, is_some, refl, sym, ap, ◌∙◌, subst, arith}
use Rattle.std.specs.Ordering.{is_eq}
use Rattle.std.specs.Option.{option_map_or}
use Rattle.std.specs.FinMap as finite
use Rattle.std.specs.FinMap.Entries.{find}
use Rattle.std.proofs.lemmas.Map.Lookups.{exact_bytes}
use Rattle.std.proofs.lemmas.Option.{same_Some}
use Rattle.base_types.specs.TextMaps.{text_cmp}
use Rattle.base_types.proofs.TextLemmas.{text_total}
use Rattle.book_model.specs.declared.row.Row.{Row}
use Rattle.book_model.specs.Books.{Book}
use Rattle.book_model.specs.BookQueries.{is_tombstone_after, tombstone_count, tombstone_count_after}
use Rattle.book_model.specs.Counting.{one_if}
use Rattle.book_model.specs.Forgetting.{book_after_forget, dropped_row_count, is_row_kept}
use Rattle.book_model.specs.Forgetting.{rows_after_forget}
use Rattle.book_model.proofs.LiveCardLemmas.{Members}

-- how many rows pass a test
abbrev passing : (Row → Bool) → Members → ℕ
passing test es = length (filter (λ (e : List ℕ × Row). test e.1) es)

-- how many rows are dropped
abbrev dropped : ℕ → Members → ℕ
dropped upto es = passing (λ row. not (is_row_kept upto row)) es

one_first : (test : Row → Bool) (e : List ℕ × Row) (es : Members)
    → passing test (e ∷ es) ≡ one_if (test e.1) + passing test es
one_first test e es = elim (test e.1) as
    (λ b. length (cond b (e ∷ filter (λ (d : List ℕ × Row). test d.1) es)
    (filter (λ (d : List ℕ × Row). test d.1) es)) ≡ one_if b + passing test es) [
      | true ↦ omega arith
      | false ↦ omega arith
    ]

kept_of : (b : Bool) → one_if (not b) ≡ 0 → b ≡ true
kept_of true none = refl
kept_of false none = absurd (omega (arith, none))

first_kept : (upto : ℕ) (e : List ℕ × Row) (es : Members) → dropped upto (e ∷ es) ≡ 0
    → (is_row_kept upto e.1 ≡ true) × (dropped upto es ≡ 0)
first_kept upto e es none =
    let one = one_first (λ row. not (is_row_kept upto row)) e es in
    (kept_of (is_row_kept upto e.1) (omega (arith, one, none)), omega (arith, one, none))

-- ---- the rows

no_row : (row : Row) → ◌≡◌ {A = Option Row} None (Some row) → ⊥
no_row row e = cc

found_kept : (upto : ℕ) (q : List ℕ) (es : Members) (row : Row) → dropped upto es ≡ 0
    → find text_cmp q es ≡ Some row → is_row_kept upto row ≡ true
found_kept upto q [] row none is = absurd (no_row row is)
found_kept upto q (e ∷ es) row none is =
    let parts = first_kept upto e es none in
    (elim (is_eq (text_cmp q e.0)) as (λ b. cond b (Some e.1) (find text_cmp q es) ≡ Some row
    → is_row_kept upto row ≡ true) [
      | true ↦ λ here. subst (λ r. is_row_kept upto r ≡ true) (same_Some e.1 row here) parts.0
      | false ↦ λ there. found_kept upto q es row parts.1 there
    ]) is

rows_kept : (members : finite.FinMap text_cmp Row) (upto : ℕ) → dropped_row_count members upto ≡ 0
    → rows_after_forget members upto ≡ members
rows_kept members upto none = finite.same_map text_total exact_bytes _ _ (λ q.
    finite.get-retain_keys members (λ uid. option_map_or (is_row_kept upto) (finite.get members uid)
    false) q (λ x tied. ap (λ k. option_map_or (is_row_kept upto) (finite.get members k) false)
    (sym (exact_bytes q x tied)))
    ∙ at q (finite.get members q) refl)
  where
    at : (q : List ℕ) (found : Option Row) → finite.get members q ≡ found
        → cond (option_map_or (is_row_kept upto) found false) found None ≡ found
    at q None is = refl
    at q (Some row) is = rw (found_kept upto q (finite.entries members) row none
        (sym (finite.get-entries members q) ∙ is)) refl

-- ---- the tombstones

row_stays : (horizon upto : ℕ) (row : Row) → horizon ≤ upto → is_row_kept upto row ≡ true
    → is_tombstone_after upto row ≡ is_tombstone_after horizon row
row_stays horizon upto row rises kept = by (is_some row.card) refl
  where
    by : (live : Bool) → is_some row.card ≡ live → is_tombstone_after upto row ≡ is_tombstone_after
        horizon row
    by true is = rw is refl
    by false is = let above = rw is at kept in grind (arith, is, above, rises)

all_stay : (horizon upto : ℕ) (es : Members) → horizon ≤ upto → dropped upto es ≡ 0
    → passing (is_tombstone_after upto) es ≡ passing (is_tombstone_after horizon) es
all_stay horizon upto [] rises none = refl
all_stay horizon upto (e ∷ es) rises none =
    let parts = first_kept upto e es none in
    let here = ap one_if (row_stays horizon upto e.1 rises parts.0) in
    let rest = all_stay horizon upto es rises parts.1 in
    let a = one_first (is_tombstone_after upto) e es in
    let b = one_first (is_tombstone_after horizon) e es in
    omega (arith, here, rest, a, b)

pub none_forgotten : (book : Book) (upto : ℕ) → book.horizon ≤ upto
    → dropped_row_count book.members upto ≡ 0 → tombstone_count (book_after_forget book upto)
    ≡ tombstone_count book
none_forgotten book upto rises none =
    ap (λ members. tombstone_count_after members upto) (rows_kept book.members upto none)
    ∙ all_stay book.horizon upto (finite.entries book.members) rises none
