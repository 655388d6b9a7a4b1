-- Members in the order of their row ids.
use Rattle.std.proofs.Common.{◌≡◌, ◌+◌, ◌++◌, suc, ℤ, Bool, true, false, cond, List, [], ◌∷◌}
use Rattle.std.proofs.Common.{filter, Less, Equal, Greater, is_eq, is_lt, int_cmp, int_eq, int_lt}
use Rattle.std.proofs.Common.{slice_index_or, IsPermutation, Ordering, refl, sym, ap, ap₂, subst}
use Rattle.std.proofs.Common.{◌∙◌, true≢false, arith}
use Rattle.std.proofs.lemmas.Int.{ints}
use Rattle.std.specs.List.{AllByRecursion}
use Rattle.std.specs.List.Sorted.{IsSorted}
use Rattle.sqlite.specs.declared.types.Value.TheVariants.{Int}
use Rattle.sqlite.specs.Order.{Row}
use Rattle.sqlite.specs.Program.{overlay}
use Rattle.sqlite.specs.Query.{output_cmp}
use Rattle.sqlite.specs.State.{State, Begins}
use Rattle.sqlite.proofs.Callers.{begins_as}
use Rattle.sqlite_trees.specs.Tree.{IsAscending}
use Rattle.sqlite_trees.proofs.ListLemmas.{all_weaker, ascending-map, ascending_weaker}
use Rattle.sqlite_value.proofs.OrderLemmas.{value_cmp-Int, then-Equal}
use Rattle.store_tables.specs.Members.{MemberRow, AreMembers, HoldMembers, has_uid, member_cells}
use Rattle.store_tables.specs.Members.{member_row}
use Rattle.store_tables.specs.QueryResults.{AreRowsInOrder}
use Rattle.store_tables.specs.Tables.{book_schema}
use Rattle.store_tables.proofs.CountLemmas.{every}
use Rattle.store_tables.proofs.OrderLemmas.{in_order}
use Rattle.store_tables.proofs.Queries.{all_members_terms, scan_query, scan_text}
use Rattle.store_tables.proofs.Texts.{scan_is}
use Rattle.store_rows.proofs.ApartLemmas.{apart_moved}
use Rattle.store_rows.proofs.RowLemmas.{int_turned}
use Rattle.store_check.specs.MemberScans.{HaveRisingIds}
use Rattle.store_check.specs.RowChecks.{int_cell}

-- ---- members with rising ids

abbrev IdsApart : MemberRow → MemberRow → Type 0
IdsApart a b = int_eq a.id b.id ≡ false

abbrev IsBelow : MemberRow → MemberRow → Type 0
IsBelow a b = int_lt a.id b.id ≡ true

abbrev by_id : MemberRow → MemberRow → Ordering
by_id a b = int_cmp a.id b.id

ids_turned : (a b : MemberRow) → IdsApart a b → IdsApart b a
ids_turned a b h = int_turned b.id a.id ∙ h

-- an id that is neither above another nor the same is below it
before : (a b : ℤ) → is_lt (int_cmp b a) ≡ false → int_eq a b ≡ false → int_lt a b ≡ true
before a b not_above apart = go (int_lt a b) (int_lt b a) refl refl
  where
    go : (s t : Bool) → int_lt a b ≡ s → int_lt b a ≡ t → int_lt a b ≡ true
    go true t e k = e
    go false true e k =
        absurd (true≢false (ap (λ u. is_lt (cond u Less (cond (int_lt a b) Greater Equal))) (sym k)
        ∙ not_above))
    go false false e k =
        absurd (true≢false (sym (ap₂ (λ u v. is_eq (cond u Less (cond v Greater Equal))) e k)
        ∙ apart))

later : (a b c : ℤ) → int_lt a b ≡ true → int_lt b c ≡ true → int_lt a c ≡ true
later a b c h k = grind (arith, ints)

sorted_tail : (m : MemberRow) (ms : List MemberRow) → IsSorted by_id (m ∷ ms) → IsSorted by_id ms
sorted_tail m ms sorted k d low below =
    let next : suc k + 1 ≡ suc (k + 1) = omega arith in
    ap (λ n. is_lt (by_id (slice_index_or (m ∷ ms) n d) (slice_index_or ms k d))) (sym next)
    ∙ sorted (suc k) d (omega arith) (omega (arith, below))

rising : (ms : List MemberRow) → IsSorted by_id ms → IsAscending IdsApart ms
    → IsAscending IsBelow ms
rising [] sorted apart = tt
rising (m ∷ []) sorted apart = (tt, tt)
rising (m ∷ n ∷ ms) sorted apart =
    let rest = rising (n ∷ ms) (sorted_tail m (n ∷ ms) sorted) apart.1 in
    let first : IsBelow m n = before m.id n.id (sorted 0 m (omega arith) (omega arith)) apart.0.0 in
    ((first, all_weaker _ (IsBelow m) (λ x h. later m.id n.id x.id first h) ms rest.0), rest)

-- ---- the rows of the scan

id_key : MemberRow → Row
id_key m = Int m.id ∷ []

by_key : (a b : MemberRow) → output_cmp scan_query (id_key a, member_row a) (id_key b, member_row b)
    ≡ by_id a b
unfolding id_key
by_key a b = then-Equal _ ∙ value_cmp-Int a.id b.id

-- the rows so far, and those that are left, have rising ids
pub scan_rises : (s : State) (ms : List MemberRow) (rows : List Row) → s.now.schema ≡ book_schema
    → HoldMembers (s.now.trees 4) ms → AreMembers ms → Begins scan_text [] s rows
    → (tail : List Row) × HaveRisingIds (rows ++ tail)
unfolding id_key
scan_rises s ms rows schema has kept h =
    let got = (begins_as scan_text [] s s book_schema schema _ scan_is.0 scan_is.2 scan_is.1 rows
    h).1 in
    let it : AreRowsInOrder by_id member_row (filter (λ _. true) ms) (rows ++ got.0) =
    in_order 4 [] all_members_terms scan_query.order [] member_cells member_row id_key member_row
    (λ _. true) by_id
    (λ _. refl) (λ _. refl) (λ _. refl) (λ _. refl) by_key (overlay s.now.trees []) ms has
    (rows ++ got.0) got.1 in
    let same : IsPermutation ms it.ordered =
    subst (λ xs. IsPermutation xs it.ordered) (every ms) it.same in
    let apart = ascending_weaker (λ (a b : MemberRow). (int_eq a.id b.id ≡ false)
    × (has_uid a.book a.uid b ≡ false)) IdsApart (λ a b k. k.0) ms kept in
    let up = rising it.ordered it.rises (apart_moved IdsApart ids_turned ms it.ordered same
    apart) in (
      got.0,
      subst HaveRisingIds (sym it.shown)
          (ascending-map (λ (a b : Row). int_lt (int_cell 0 a) (int_cell 0 b) ≡ true) member_row
          it.ordered up),
    )

-- the id of a row is above those before it
abbrev pub RisesAbove : List Row → Row → Type 0
RisesAbove given r = AllByRecursion (λ x. int_lt (int_cell 0 x) (int_cell 0 r) ≡ true) given

pub rises_above : (given : List Row) (r : Row) (tail : List Row)
    → HaveRisingIds ((given ++ r ∷ []) ++ tail) → RisesAbove given r
rises_above [] r tail h = tt
rises_above (x ∷ given) r tail h = (first given h.0, rises_above given r tail h.1)
  where
    first : (ys : List Row) → AllByRecursion (λ y. int_lt (int_cell 0 x) (int_cell 0 y) ≡ true)
        ((ys ++ r ∷ []) ++ tail) → int_lt (int_cell 0 x) (int_cell 0 r) ≡ true
    first [] all = all.0
    first (y ∷ ys) all = first ys all.1
