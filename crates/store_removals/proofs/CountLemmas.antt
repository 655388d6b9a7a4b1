-- How many tombstones a book has after a removal, where the members of a book have different
-- numbers. Given here: inductions over the members, with a case split on whether there is a least
-- number among the others: for the least number, and for how many are above it (`least_among`,
-- `one_least`).
use Rattle.std.proofs.Common.{◌≡◌, ℕ, ℤ, pos, negsuc, ◌+◌, ◌<◌, ◌≤◌, min, inl, inr, Bool, true}
use Rattle.std.proofs.Common.{false, not, ◌&&◌, ◌||◌, cond, List, [], ◌∷◌, map, filter, length}
use Rattle.std.proofs.Common.{Option, Some, None, is_some, int_eq, int_lt, nat_lt, nat_le, refl}
use Rattle.std.proofs.Common.{sym, ap, ap₂, subst, subst₂, ◌∙◌, ⊎_elim, true≢false, arith}
use Rattle.std.specs.List.{AllByRecursion}
use Rattle.std.specs.Option.{option_map_or}
use Rattle.std.specs.FinMap as finite
use Rattle.std.proofs.lemmas.Bool.{and_parts, cases_lt, false_from_ne_true, lt-ltb, ltb-true}
use Rattle.std.proofs.lemmas.Bool.{not-true}
use Rattle.std.proofs.lemmas.List.Sorted.{IsPermutation-map}
use Rattle.std.proofs.lemmas.Option.{same_Some}
use Rattle.sqlite.specs.Order.{Row}
use Rattle.sqlite.specs.Tree.{Trees, rowid}
use Rattle.sqlite_rules.specs.Lists.{Has}
use Rattle.sqlite_rules.proofs.ListLemmas.{all_from, all_has, some_from}
use Rattle.sqlite_schema.specs.declared.schema.Constraint.TheVariants.{Unique}
use Rattle.sqlite_schema.specs.Rules.{agree, clashes, differ, passes}
use Rattle.sqlite_sql.specs.declared.ops.CompareOp.TheVariants.{Eq, Ne}
use Rattle.sqlite_trees.specs.Tree.{IsAscending}
use Rattle.sqlite_trees.proofs.ListLemmas.{all_weaker, ascending-filter, map-map}
use Rattle.sqlite_typed.proofs.TestLemmas.{at_ints, last_term, then_term}
use Rattle.sqlite_value.specs.Keys.{first_key, plain}
use Rattle.base_types.specs.TextMaps.{text_cmp}
use Rattle.book_model.specs.declared.answers.Stored.{Stored}
use Rattle.book_model.specs.declared.change.Change.TheVariants.{TakesAway}
use Rattle.book_model.specs.declared.change.RemovalReason.{RemovalReason}
use Rattle.book_model.specs.declared.row.Row.{Row as Kept}
use Rattle.book_model.specs.Books.{Book, live_at}
use Rattle.book_model.specs.BookChanges.{book_after_drop, book_with_row, forced_horizon, least}
use Rattle.book_model.specs.BookChanges.{oldest_tombstone}
use Rattle.book_model.specs.BookQueries.{is_tombstone_after, tombstone_count, tombstone_count_after}
use Rattle.book_model.specs.Counting.{one_if}
use Rattle.book_model.specs.Forgetting.{is_row_kept, rows_after_forget}
use Rattle.book_laws.proofs.PassingRows.{both_above, entries-retained}
use Rattle.store_tables.specs.Acceptance.{has_number}
use Rattle.store_tables.specs.Members.{AreMembers, HoldMembers, MemberRow, has_uid}
use Rattle.store_tables.specs.Members.{is_removed_above, member_cells, member_row}
use Rattle.store_tables.specs.Tables.{ObeyTables, book_schema, member}
use Rattle.store_tables.proofs.FreshLemmas.{row_of}
use Rattle.store_tables.proofs.KeyedRows.{int_itself, same_int, turned}
use Rattle.store_rows.specs.ForgetLaws.{first_with_next}
use Rattle.store_rows.specs.SoundTables.{AreSoundRows}
use Rattle.store_rows.specs.TableBooks.{HeaderRow, line_row, member_entry, members_in, row_book}
use Rattle.store_rows.specs.TableRows.{TableRows}
use Rattle.store_rows.specs.Values.{natural}
use Rattle.store_rows.proofs.FirstLemmas.{removals_remembered}
use Rattle.store_rows.proofs.OrderLemmas.{least_permuted}
use Rattle.store_rows.proofs.RemovedLemmas.{above, filter_in, passing_entries, removed_count}
use Rattle.store_rows.proofs.RemovedLemmas.{removed_is}
use Rattle.store_rows.proofs.RowLemmas.{once_members}
use Rattle.store_removals.specs.internal.Removals.{tombstones_after_removal}

-- ---- the members of a book have different numbers

abbrev pub HaveOwnNumbers : List MemberRow → Type 0
HaveOwnNumbers = IsAscending (λ a b. has_number a.book a.changed b ≡ false)

-- as the database compares the keys
same_number : (x n : MemberRow) → agree plain (1 ∷ 3 ∷ []) (member_row x) (1 ∷ 3 ∷ [])
    (member_row n) ≡ has_number n.book n.changed x
unfolding first_key
same_number x n = then_term (at_ints false Eq x.book n.book)
    (last_term (at_ints false Eq x.changed n.changed))

module _ (db : Trees) (obeys : ObeyTables db) (all : List MemberRow) (holds :
    HoldMembers (db 4) all) where
  no_clash : (r : Row) → Has (db 4) r → clashes plain (1 ∷ 3 ∷ []) (db 4) r ≡ false
  no_clash r there =
      let h : (not (clashes plain (1 ∷ 2 ∷ []) (db 4) r)
      && (not (clashes plain (1 ∷ 3 ∷ []) (db 4) r) && true)) ≡ true =
      all_has (λ row. passes Unique book_schema db member row ≡ true) (db 4) r
      (obeys.obeys.rules Unique).1.1.0 there in
      not-true _ (and_parts _ _ (and_parts _ _ h).1).0

  apart : (a b : MemberRow) → Has all a → Has all b → int_eq a.id b.id ≡ false
      → has_number a.book a.changed b ≡ false
  apart a b at there ids =
      let ra = row_of member_row member_cells (λ _. refl) all (db 4) holds a at in
      let rb = row_of member_row member_cells (λ _. refl) all (db 4) holds b there in
      false_from_ne_true _ (λ same.
      let agrees : agree plain (1 ∷ 3 ∷ []) (member_cells rb.0) (1 ∷ 3 ∷ []) (member_cells ra.0)
      ≡ true = subst₂ (λ y x. agree plain (1 ∷ 3 ∷ []) y (1 ∷ 3 ∷ []) x ≡ true) rb.2 ra.2
      (same_number b a ∙ same) in
      let differs : differ (rowid (member_cells rb.0)) (rowid (member_cells ra.0)) ≡ true =
      subst₂ (λ y x. differ (rowid y) (rowid x) ≡ true) rb.2 ra.2 (at_ints false Ne b.id a.id
      ∙ ap not (turned a.id b.id ids)) in
      let clash = some_from (λ other. agree plain (1 ∷ 3 ∷ []) other (1 ∷ 3 ∷ []) ra.0
      && differ (rowid other) (rowid ra.0)) (db 4) rb.0 rb.1 (then_term agrees differs) in
      true≢false (sym clash ∙ no_clash ra.0 ra.1))

  own_among : (ms : List MemberRow) → ((m : MemberRow) → Has ms m → Has all m) → AreMembers ms
      → HaveOwnNumbers ms
  own_among [] each keys = tt
  own_among (m ∷ ms) each keys = (
    all_from (λ b. has_number m.book m.changed b ≡ false) ms
        (λ b there. apart m b (each m (inl refl)) (each b (inr there))
        (all_has (λ b. (int_eq m.id b.id ≡ false) × (has_uid m.book m.uid b ≡ false)) ms b keys.0
        there).0),
    own_among ms (λ b there. each b (inr there)) keys.1,
  )

  pub own_numbers : AreMembers all → HaveOwnNumbers all
  own_numbers keys = own_among all (λ m there. there) keys

-- ---- the least of some numbers

abbrev changed_of : MemberRow → ℕ
changed_of m = natural m.changed

abbrev AreApart : List MemberRow → Type 0
AreApart = IsAscending (λ a b. changed_of a ≡ changed_of b → ⊥)

-- how many have a greater number
abbrev over : ℕ → List MemberRow → ℕ
over u xs = length (filter (λ m. nat_lt u (changed_of m)) xs)

one_first : (u : ℕ) (x : MemberRow) (xs : List MemberRow)
    → over u (x ∷ xs) ≡ one_if (nat_lt u (changed_of x)) + over u xs
one_first u x xs = elim (nat_lt u (changed_of x)) as
    (λ b. length (cond b (x ∷ filter (λ m. nat_lt u (changed_of m)) xs)
    (filter (λ m. nat_lt u (changed_of m)) xs)) ≡ one_if b + over u xs) [
      | true ↦ omega arith
      | false ↦ omega arith
    ]

counted : (u n : ℕ) → u < n → one_if (nat_lt u n) ≡ 1
counted u n less = ap one_if (lt-ltb u n less)

uncounted : (u n : ℕ) → n ≤ u → one_if (nat_lt u n) ≡ 0
uncounted u n most = ap one_if (false_from_ne_true (nat_lt u n) (λ e. let less = ltb-true u n e in
    absurd (omega (arith, less, most))))

all_over : (u : ℕ) (xs : List MemberRow) → AllByRecursion (λ m. u < changed_of m) xs
    → over u xs ≡ length xs
all_over u [] all = refl
all_over u (x ∷ xs) all =
    let one = one_first u x xs in
    let here = counted u (changed_of x) all.0 in
    let rest = all_over u xs all.1 in
    omega (arith, one, here, rest)

no_least : (xs : List MemberRow) → least (map changed_of xs) ≡ None → xs ≡ []
no_least [] is = refl
no_least (x ∷ xs) is = absurd (let k = is in cc)

-- the least number is one of the numbers
least_among : (xs : List MemberRow) (u : ℕ) → least (map changed_of xs) ≡ Some u
    → AllByRecursion (λ m. changed_of m ≡ u → ⊥) xs → ⊥
least_among [] u is never = let k = is in cc
least_among (x ∷ xs) u is never = step (least (map changed_of xs)) refl (same_Some _ _ is)
    (λ e. least_among xs u e never.1)
  where
    step : (o : Option ℕ) → least (map changed_of xs) ≡ o
        → option_map_or (min (changed_of x)) o (changed_of x) ≡ u
        → (least (map changed_of xs) ≡ Some u → ⊥) → ⊥
    step None e same later = never.0 same
    step (Some v) e same later = ⊎_elim
        (λ less. let here : changed_of x ≡ u = omega (arith, less, same) in never.0 here)
        (λ most. let there : v ≡ u = omega (arith, most, same) in later (e ∙ ap Some there))
        (cases_lt (changed_of x) v)

-- no number is below the least one
least_low : (xs : List MemberRow) (u : ℕ) → least (map changed_of xs) ≡ Some u
    → AllByRecursion (λ m. u ≤ changed_of m) xs
least_low [] u is = tt
least_low (x ∷ xs) u is = step (least (map changed_of xs)) refl (same_Some _ _ is)
    (λ v e. least_low xs v e)
  where
    step : (o : Option ℕ) → least (map changed_of xs) ≡ o
        → option_map_or (min (changed_of x)) o (changed_of x) ≡ u
        → ((v : ℕ) → least (map changed_of xs) ≡ Some v → AllByRecursion (λ m. v ≤ changed_of m) xs)
        → (u ≤ changed_of x) × AllByRecursion (λ m. u ≤ changed_of m) xs
    step None e same rest = (
      omega (arith, same),
      subst (AllByRecursion (λ m. u ≤ changed_of m))
          (sym (no_least xs e)) tt,
    )
    step (Some v) e same rest = (
      omega (arith, same),
      all_weaker (λ m. v ≤ changed_of m) (λ m. u ≤ changed_of m) (λ m low. omega (
        arith,
        low,
        same,
      )) xs (rest v e),
    )

-- where the numbers differ, all but one are above the least
one_least : (xs : List MemberRow) (u : ℕ) → AreApart xs → least (map changed_of xs) ≡ Some u
    → over u xs + 1 ≡ length xs
one_least [] u differ is = absurd (let k = is in cc)
one_least (x ∷ xs) u differ is = step (least (map changed_of xs)) refl (same_Some _ _ is)
    (λ e. one_least xs u differ.1 e)
  where
    one : over u (x ∷ xs) ≡ one_if (nat_lt u (changed_of x)) + over u xs
    one = one_first u x xs

    step : (o : Option ℕ) → least (map changed_of xs) ≡ o
        → option_map_or (min (changed_of x)) o (changed_of x) ≡ u
        → (least (map changed_of xs) ≡ Some u → over u xs + 1 ≡ length xs)
        → over u (x ∷ xs) + 1 ≡ length (x ∷ xs)
    step None e same later =
        let here = uncounted u (changed_of x) (omega (arith, same)) in
        let rest : over u xs ≡ length xs =
        all_over u xs (subst (AllByRecursion (λ m. u < changed_of m)) (sym (no_least xs e))
        tt) in
        let all = one in
        omega (arith, all, here, rest)
    step (Some v) e same later = ⊎_elim
        (λ less.
        let here = uncounted u (changed_of x) (omega (arith, less, same)) in
        let rest = all_over u xs (all_weaker (λ m. v ≤ changed_of m) (λ m. u < changed_of m)
        (λ m low. omega (arith, low, less, same)) xs (least_low xs v e)) in
        let all = one in
        omega (arith, all, here, rest))
        (λ most. ⊎_elim
        (λ more.
        let is_v : v ≡ u = omega (arith, most, same) in
        let here = counted u (changed_of x) (omega (arith, more, is_v)) in
        let rest = later (e ∙ ap Some is_v) in
        let all = one in
        omega (arith, all, here, rest))
        (λ level.
        let is_x : changed_of x ≡ v = omega (arith, most, level) in
        absurd (least_among xs v e (all_weaker (λ b. changed_of x ≡ changed_of b
        → ⊥) (λ b. changed_of b ≡ v → ⊥) (λ b other at. other (is_x ∙ sym at)) xs differ.0)))
        (cases_lt v (changed_of x)))
        (cases_lt (changed_of x) v)

-- ---- the tombstones in the table

module _ (book : ℤ) (h : ℕ) where
  abbrev tombstones : List MemberRow → List MemberRow
  tombstones ms = filter (is_removed_above book (pos h)) ms

  all_pass : (p : MemberRow → Bool) (ms : List MemberRow)
      → AllByRecursion (λ m. p m ≡ true) (filter p ms)
  all_pass p [] = tt
  all_pass p (m ∷ ms) = step (p m) refl (all_pass p ms)
    where
      step : (b : Bool) → p m ≡ b → AllByRecursion (λ x. p x ≡ true) (filter p ms)
          → AllByRecursion (λ x. p x ≡ true) (cond b (m ∷ filter p ms) (filter p ms))
      step true e rest = (e, rest)
      step false e rest = rest

  number_is : (z : ℤ) → int_lt (pos h) z ≡ true → z ≡ pos (natural z)
  number_is (pos n) later = refl
  number_is (negsuc n) later = absurd (let k = later in cc)

  record IsTombstone (m : MemberRow) : Type 0 where
    in_book : m.book ≡ book
    number : m.changed ≡ pos (changed_of m)
    later : h < changed_of m

  tombstone_is : (m : MemberRow) → is_removed_above book (pos h) m ≡ true → IsTombstone m
  tombstone_is m passes =
      let parts = and_parts (int_eq m.book book) (not (is_some m.card) && int_lt (pos h) m.changed)
      passes in
      let later = (and_parts (not (is_some m.card)) (int_lt (pos h) m.changed) parts.1).1 in
      record {
        in_book = same_int m.book book parts.0;
        number = number_is m.changed later;
        later = ltb-true h (changed_of m) (sym (above h m.changed) ∙ later);
      }

  differs : (a b : MemberRow) → IsTombstone a → IsTombstone b → has_number a.book a.changed b
      ≡ false → changed_of a ≡ changed_of b → ⊥
  differs a b x y other same =
      let books : int_eq b.book a.book ≡ true = ap (int_eq b.book) (x.in_book ∙ sym y.in_book)
      ∙ int_itself b.book in
      let numbers : int_eq b.changed a.changed ≡ true =
      ap (int_eq b.changed) (x.number ∙ ap pos same ∙ sym y.number) ∙ int_itself b.changed in
      true≢false (sym (ap₂ (λ p q. p && q) books numbers) ∙ other)

  apart_among : (xs : List MemberRow) → AllByRecursion IsTombstone xs → HaveOwnNumbers xs
      → AreApart xs
  apart_among [] all own = tt
  apart_among (x ∷ xs) all own = (
    all_from (λ b. changed_of x ≡ changed_of b
        → ⊥) xs (λ b there. differs x b all.0 (all_has IsTombstone xs b all.1 there)
        (all_has (λ b. has_number x.book x.changed b ≡ false) xs b own.0 there)),
    apart_among xs all.1 own.1,
  )

  all_tombstones : (ms : List MemberRow) → AllByRecursion IsTombstone (tombstones ms)
  all_tombstones ms = all_weaker (λ m. is_removed_above book (pos h) m ≡ true) IsTombstone
      tombstone_is (tombstones ms) (all_pass (is_removed_above book (pos h)) ms)

  -- a tombstone above a higher number
  higher : (u : ℕ) → h ≤ u → (m : MemberRow)
      → (is_removed_above book (pos h) m && nat_lt u (changed_of m)) ≡ is_removed_above book (pos u)
      m
  higher u rises m =
      ap (λ b. (int_eq m.book book && (not (is_some m.card) && b)) && nat_lt u (changed_of m))
      (above h m.changed)
      ∙ turn (int_eq m.book book) (not (is_some m.card)) (nat_lt h (changed_of m))
      (nat_lt u (changed_of m))
      ∙ ap (λ b. int_eq m.book book && (not (is_some m.card) && b)) (both_above h u (changed_of m)
      rises ∙ sym (above u m.changed))
    where
      turn : (a b c d : Bool) → ((a && (b && c)) && d) ≡ (a && (b && (c && d)))
      turn true true c d = refl
      turn true false c d = refl
      turn false b c d = refl

  over_is : (u : ℕ) → h ≤ u → (ms : List MemberRow)
      → over u (tombstones ms) ≡ length (filter (is_removed_above book (pos u)) ms)
  over_is u rises ms = ap length (filter_in (is_removed_above book (pos h))
      (λ m. nat_lt u (changed_of m)) ms ∙ (λ i. filter (λ m. higher u rises m i) ms))

  -- the book's oldest tombstone is the least number in the table
  least_is : (ms : List MemberRow) → AreMembers ms → least (map changed_of (tombstones ms))
      ≡ least (map (λ (e : List ℕ × Kept). e.1.changed)
      (filter (λ (e : List ℕ × Kept). is_tombstone_after h e.1)
      (finite.entries (members_in book ms))))
  least_is ms keys =
      let entries = passing_entries book ms (is_tombstone_after h) (is_removed_above book (pos h))
      (once_members book ms keys) (removed_is book h) in
      ap least (sym (map-map (λ (e : List ℕ × Kept). e.1.changed) member_entry (tombstones ms)))
      ∙ least_permuted _ _ (IsPermutation-map (λ (e : List ℕ × Kept). e.1.changed) _ _ entries)

  -- above the oldest tombstone there is one less
  pub one_less : (ms : List MemberRow) (u : ℕ) → AreMembers ms → HaveOwnNumbers ms
      → least (map (λ (e : List ℕ × Kept). e.1.changed)
      (filter (λ (e : List ℕ × Kept). is_tombstone_after h e.1)
      (finite.entries (members_in book ms)))) ≡ Some u
      → tombstone_count_after (members_in book ms) u + 1 ≡ tombstone_count_after
      (members_in book ms) h
  one_less ms u keys own oldest =
      let first = least_is ms keys ∙ oldest in
      let all = all_tombstones ms in
      let rises : h ≤ u = ⊎_elim (λ less. omega (arith, less))
      (λ most. absurd (least_among (tombstones ms) u first
      (all_weaker IsTombstone (λ m. changed_of m ≡ u → ⊥) (λ m it at. let later = it.later in
      absurd (omega (arith, later, at, most))) (tombstones ms) all)))
      (cases_lt h u) in
      let one = one_least (tombstones ms) u (apart_among (tombstones ms) all
      (ascending-filter (λ a b. has_number a.book a.changed b ≡ false)
      (is_removed_above book (pos h)) ms own)) first in
      let after = over_is u rises ms in
      let left = removed_count book ms u keys in
      let before = removed_count book ms h keys in
      omega (arith, one, after, left, before)

-- ---- the tombstones of a book after a removal

abbrev Members : Type 0
Members = finite.FinMap text_cmp Kept

-- a forget up to the horizon drops no tombstone above it
kept_tombstones : (members : Members) (u : ℕ) → tombstone_count_after (rows_after_forget members u)
    u ≡ tombstone_count_after members u
kept_tombstones members u =
    ap (λ (es : List (List ℕ × Kept)). length
    (filter (λ (e : List ℕ × Kept). is_tombstone_after u e.1) es))
    (entries-retained members (is_row_kept u))
    ∙ ap length (filter_in (λ (e : List ℕ × Kept). is_row_kept u e.1)
    (λ (e : List ℕ × Kept). is_tombstone_after u e.1) (finite.entries members)
    ∙ (λ i. filter (λ (e : List ℕ × Kept). kept e.1 i) (finite.entries members)))
  where
    kept : (row : Kept) → (is_row_kept u row && is_tombstone_after u row) ≡ is_tombstone_after u row
    kept row = both (is_some row.card) (nat_lt u row.changed)
      where
        both : (a b : Bool) → ((a || b) && (not a && b)) ≡ (not a && b)
        both true b = refl
        both false true = refl
        both false false = refl

module _ (rows : TableRows) (name : List ℕ) (header : HeaderRow) (uid : List ℕ) (live : Stored)
    (why : RemovalReason) (sound : AreSoundRows rows) (own : HaveOwnNumbers rows.members)
    (is : live_at (row_book rows (line_row name header)) uid ≡ Some live) (low :
    header.horizon ≤ header.number) where
  abbrev before : Book
  before = row_book rows (line_row name header)

  abbrev after : Book
  after = book_with_row before uid (TakesAway why)

  -- the removal drops up to a tombstone that the book had
  dropped : (upto : ℕ) → oldest_tombstone before ≡ Some upto → upto ≤ header.number
      → tombstone_count (book_after_drop after (Some upto)) ≡ tombstone_count before
  dropped upto oldest known =
      let left = kept_tombstones after.members upto in
      let one = (removals_remembered rows name (record header { horizon = upto }) uid live why sound
      is known).count in
      let less = one_less (pos header.id) header.horizon rows.members upto sound.members own
      oldest in
      omega (arith, left, one, less)

  pub tombstones_left : (drop : Option ℕ) (n : ℕ) → forced_horizon (TakesAway why) after ≡ drop
      → tombstones_after_removal (tombstone_count before) header.number drop ≡ Some n
      → tombstone_count (book_after_drop after drop) ≡ n
  tombstones_left None n forced planned =
      (removals_remembered rows name header uid live why sound is low).count ∙ same_Some _ _ planned
  tombstones_left (Some upto) n forced planned = known (nat_le upto header.number) refl planned
    where
      first : (b : Bool) → cond b None (Some (first_with_next before)) ≡ Some upto
          → first_with_next before ≡ upto
      first true e = absurd (let k = e in cc)
      first false e = same_Some _ _ e

      oldest : (o : Option ℕ) → oldest_tombstone before ≡ o
          → option_map_or (min (header.number + 1)) o (header.number + 1) ≡ upto
          → upto ≤ header.number → oldest_tombstone before ≡ Some upto
      oldest None e same most = absurd (omega (arith, same, most))
      oldest (Some k) e same most = e ∙ ap Some (let is_k : k ≡ upto = omega (arith, same, most) in
          is_k)

      known : (b : Bool) → nat_le upto header.number ≡ b
          → cond b (Some (tombstone_count before)) None ≡ Some n
          → tombstone_count (book_after_drop after (Some upto)) ≡ n
      known false e planned = absurd (let k = planned in cc)
      known true e planned =
          let most : upto ≤ header.number = grind (arith, e) in
          let next = first (nat_le (tombstone_count before + 1) before.keep)
          (sym (removals_remembered rows name header uid live why sound is low).drop
          ∙ forced) in
          dropped upto (oldest (oldest_tombstone before) refl next most) most
          ∙ same_Some _ _ planned
