-- How many rows of a book are of removed members, as a row is written and as rows are dropped.
use Rattle.std.proofs.Common.{◌≡◌, ℕ, ◌+◌, ◌<◌, ◌≤◌, Bool, true, false, cond, ◌&&◌, List, [], ◌∷◌}
use Rattle.std.proofs.Common.{length, map, filter, Less, Equal, Greater, refl, sym, ap, ◌∙◌, ⊎_elim}
use Rattle.std.proofs.Common.{arith}
use Rattle.std.specs.List.{AllByRecursion}
use Rattle.std.specs.FinMap as finite
use Rattle.std.specs.FinMap.{entries-insert}
use Rattle.std.specs.FinMap.Entries.{put, by_order}
use Rattle.std.proofs.lemmas.Bool.{and_parts, lt-ltb, ltb-true, false_from_ne_true}
use Rattle.base_types.specs.TextMaps.{text_cmp}
use Rattle.book_model.specs.declared.row.Row.{Row}
use Rattle.book_model.specs.Forgetting.{is_row_kept, rows_after_forget}
use Rattle.book_model.specs.BookQueries.{is_tombstone_after, tombstone_count_after}
use Rattle.book_model.proofs.BasicLemmas.{both}
use Rattle.book_model.proofs.LiveCardLemmas.{Members}
use Rattle.base_types.proofs.TextLemmas.{text_total}
use Rattle.book_laws.proofs.DropLemmas.{numbers}
use Rattle.book_laws.proofs.FilterLemmas.{IsAmong, filter_both, filter_fewer}
use Rattle.book_laws.proofs.PassingRows.{entries-retained}
use Rattle.book_model.specs.Counting.{one_if}

abbrev Rows : Type 0
Rows = finite.FinMap text_cmp Row

abbrev passing : (Row → Bool) → Members → ℕ
passing test es = length (filter (λ (e : List ℕ × Row). test e.1) es)

one_first : (test : Row → Bool) (e : List ℕ × Row) (es : Members)
    → passing test (e ∷ es) ≡ cond (test e.1) 1 0 + passing test es
one_first test e es = elim (test e.1) as
    (λ b. length (cond b (e ∷ filter (λ (d : List ℕ × Row). test d.1) es)
    (filter (λ (d : List ℕ × Row). test d.1) es)) ≡ cond b 1 0 + passing test es) [
      | true ↦
          omega arith
      | false ↦ omega arith
    ]

-- ---- a row is written

passing-put : (test : Row → Bool) (k : List ℕ) (v : Row) (es : Members)
    → passing test (put text_cmp k v es) ≤ passing test es + cond (test v) 1 0
passing-put test k v [] = let one = one_first test (k, v) [] in omega (arith, one)
passing-put test k v (e ∷ es) =
    let all = one_first test e es in
    let rest = passing-put test k v es in
    elim (text_cmp k e.0) as (λ o. passing test (by_order o ((k, v) ∷ e ∷ es) ((e.0, v) ∷ es)
    (e ∷ put text_cmp k v es)) ≤ passing test (e ∷ es) + cond (test v) 1 0) [
      | Less ↦ let one = one_first test (k, v) (e ∷ es) in omega (arith, one)
      | Equal ↦ let one = one_first test (e.0, v) es in omega (arith, one, all)
      | Greater ↦ let one = one_first test e (put text_cmp k v es) in omega (arith, one, all, rest)
    ]

pub removed_written : (members : Rows) (uid : List ℕ) (row : Row) (horizon : ℕ)
    → tombstone_count_after (finite.insert members uid row) horizon ≤ tombstone_count_after members
    horizon + cond (is_tombstone_after horizon row) 1 0
removed_written members uid row horizon =
    let is = ap (passing (is_tombstone_after horizon)) (entries-insert text_total members uid
    row) in
    let more = passing-put (is_tombstone_after horizon) uid row (finite.entries members) in
    omega (arith, is, more)

-- ---- rows are dropped

pub removed_kept : (members : Rows) (upto horizon : ℕ)
    → tombstone_count_after (rows_after_forget members upto) horizon ≤ tombstone_count_after members
    horizon
removed_kept members upto horizon =
    let is = ap (passing (is_tombstone_after horizon))
    (entries-retained members (is_row_kept upto)) in
    let two = ap length (filter_both (λ (e : List ℕ × Row). is_tombstone_after horizon e.1)
    (λ (e : List ℕ × Row). is_row_kept upto e.1) (finite.entries members)) in
    let fewer = filter_fewer (λ (e : List ℕ × Row). is_row_kept upto e.1 && is_tombstone_after
    horizon e.1) (λ (e : List ℕ × Row). is_tombstone_after horizon e.1)
    (λ e p. (and_parts (is_row_kept upto e.1) (is_tombstone_after horizon e.1) p).1)
    (finite.entries members) in
    omega (arith, is, two, fewer)

-- who is removed after a number is removed after each lower one
removed_sooner : (horizon upto : ℕ) → horizon ≤ upto → (row : Row) → is_tombstone_after upto row
    ≡ true → is_tombstone_after horizon row ≡ true
removed_sooner horizon upto rises row p =
    let parts = and_parts _ _ p in
    let less : upto < row.changed = ltb-true upto row.changed parts.1 in
    both _ _ parts.0 (lt-ltb horizon row.changed (omega (arith, rises, less)))

pub removed_higher : (members : Rows) (horizon upto : ℕ) → horizon ≤ upto
    → tombstone_count_after members upto ≤ tombstone_count_after members horizon
removed_higher members horizon upto rises =
    filter_fewer (λ (e : List ℕ × Row). is_tombstone_after upto e.1)
    (λ (e : List ℕ × Row). is_tombstone_after horizon e.1) (λ e p. removed_sooner horizon upto
    rises e.1 p) (finite.entries members)

-- one of the rows that pass has this number
pub row_among : (P : List ℕ × Row → Type 0) (test : Row → Bool) (n : ℕ) (es : Members)
    → AllByRecursion P es → IsAmong n (numbers test es) → (e : List ℕ × Row) × P e
    × (test e.1 ≡ true) × (e.1.changed ≡ n)
row_among P test n [] all among = absurd among
row_among P test n (e ∷ es) all among = by (row_among P test n es all.1) (test e.1) refl among
  where
    by : (IsAmong n (numbers test es) → (d : List ℕ × Row) × P d × (test d.1 ≡ true)
        × (d.1.changed ≡ n)) → (b : Bool) → test e.1 ≡ b
        → IsAmong n (map (λ (d : List ℕ × Row). d.1.changed)
        (cond b (e ∷ filter (λ (d : List ℕ × Row). test d.1) es)
        (filter (λ (d : List ℕ × Row). test d.1) es)))
        → (d : List ℕ × Row) × P d × (test d.1 ≡ true) × (d.1.changed ≡ n)
    by rest true passes among = ⊎_elim (λ first. (e, all.0, passes, first)) (λ later. rest later)
        among
    by rest false fails among = rest among

-- where the horizon rises to the number of such a row, there is at least one less
one_less : (horizon n : ℕ) → horizon ≤ n → (es : Members)
    → IsAmong n (numbers (is_tombstone_after horizon) es)
    → passing (is_tombstone_after n) es + 1 ≤ passing (is_tombstone_after horizon) es
one_less horizon n rises [] among = absurd among
one_less horizon n rises (e ∷ es) among =
    let was = one_first (is_tombstone_after horizon) e es in
    let now = one_first (is_tombstone_after n) e es in
    let fewer = filter_fewer (λ (d : List ℕ × Row). is_tombstone_after n d.1)
    (λ (d : List ℕ × Row). is_tombstone_after horizon d.1) (λ d p. removed_sooner horizon n
    rises d.1 p) es in
    by (one_less horizon n rises es) was now fewer (is_tombstone_after horizon e.1) refl among
  where
    removed_up_to_base : e.1.changed ≡ n → is_tombstone_after n e.1 ≡ false
    removed_up_to_base is = false_from_ne_true _ (λ p. let less : n < e.1.changed = ltb-true n
        e.1.changed (and_parts _ _ p).1 in absurd (omega (arith, less, is)))

    by : (IsAmong n (numbers (is_tombstone_after horizon) es)
        → passing (is_tombstone_after n) es + 1 ≤ passing (is_tombstone_after horizon) es)
        → passing (is_tombstone_after horizon) (e ∷ es) ≡ cond (is_tombstone_after horizon e.1) 1 0
        + passing (is_tombstone_after horizon) es
        → passing (is_tombstone_after n) (e ∷ es) ≡ cond (is_tombstone_after n e.1) 1 0 + passing
        (is_tombstone_after n) es
        → passing (is_tombstone_after n) es ≤ passing (is_tombstone_after horizon) es
        → (b : Bool) → is_tombstone_after horizon e.1 ≡ b
        → IsAmong n (map (λ (d : List ℕ × Row). d.1.changed)
        (cond b (e ∷ filter (λ (d : List ℕ × Row). is_tombstone_after horizon d.1) es)
        (filter (λ (d : List ℕ × Row). is_tombstone_after horizon d.1) es)))
        → passing (is_tombstone_after n) (e ∷ es) + 1 ≤ passing (is_tombstone_after horizon)
        (e ∷ es)
    by rest was now fewer true passes among = ⊎_elim
        (λ first.
        let a = ap one_if (removed_up_to_base first) in
        let c = ap one_if passes in
        omega (arith, was, now, fewer, a, c))
        (λ later.
        let r = rest later in
        let c = ap one_if passes in
        let a = at_most_one (is_tombstone_after n e.1) in
        omega (arith, was, now, r, c, a))
        among
      where
        at_most_one : (b : Bool) → cond b 1 0 ≤ 1
        at_most_one true = omega arith
        at_most_one false = omega arith
    by rest was now fewer false fails among =
        let r = rest among in
        let c = ap one_if fails in
        let a = ap one_if (false_from_ne_true (is_tombstone_after n e.1)
        (λ p. none (sym (removed_sooner horizon n rises e.1 p) ∙ fails))) in
        omega (arith, was, now, r, c, a)
      where
        none : ◌≡◌ {A = Bool} true false → ⊥
        none e = cc

pub removed_dropped : (members : Rows) (horizon n : ℕ) → horizon ≤ n
    → IsAmong n (numbers (is_tombstone_after horizon) (finite.entries members))
    → tombstone_count_after (rows_after_forget members n) n + 1 ≤ tombstone_count_after members
    horizon
removed_dropped members horizon n rises among =
    let kept = removed_kept members n n in
    let less = one_less horizon n rises (finite.entries members) among in
    omega (arith, kept, less)
