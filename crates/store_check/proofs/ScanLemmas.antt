-- Members that are read one at a time.
use Rattle.std.proofs.Common.{◌≡◌, ◌++◌, inl, inr, ℤ, true, false, List, [], ◌∷◌, Option, Some}
use Rattle.std.proofs.Common.{None, IsPermutation, Ordering, filter, int_lt, map, refl, sym, ap}
use Rattle.std.proofs.Common.{subst, ◌∙◌, arith}
use Rattle.std.proofs.lemmas.Int.{ints}
use Rattle.std.proofs.lemmas.List.{map-append}
use Rattle.std.proofs.lemmas.List.Sorted.{IsPermutation-refl, IsPermutation-map}
use Rattle.std.specs.List.{AllByRecursion}
use Rattle.sqlite.specs.Order.{Row, column}
use Rattle.sqlite_rules.specs.Lists.{Has}
use Rattle.sqlite.specs.Program.{overlay}
use Rattle.sqlite.specs.Query.{output_cmp}
use Rattle.sqlite.specs.State.{State, Begins, Shown}
use Rattle.sqlite.proofs.Callers.{begins_as}
use Rattle.sqlite_trees.proofs.ListLemmas.{all-append, all_weaker, ascending-append}
use Rattle.store_tables.specs.Books.{BookRow}
use Rattle.store_tables.specs.Members.{member_cells}
use Rattle.store_tables.specs.QueryResults.{AreRowsInOrder}
use Rattle.store_tables.specs.Tables.{book_schema}
use Rattle.store_tables.proofs.CountLemmas.{every}
use Rattle.store_tables.proofs.KeyedRows.{all_has}
use Rattle.store_tables.proofs.OrderLemmas.{all_rows, in_order}
use Rattle.store_tables.proofs.Queries.{all_members_terms, scan_query, scan_text}
use Rattle.store_tables.proofs.Texts.{scan_is}
use Rattle.store_rows.specs.TableRows.{load_member}
use Rattle.store_check.specs.declared.faults.FaultyRow.{FaultyRow}
use Rattle.store_check.specs.declared.tallies.BookTally.{BookTally}
use Rattle.store_check.specs.MemberTallies.{AreCounted, HaveDistinctIds, IsGoodMember}
use Rattle.store_check.specs.MemberScans.{AreTaken, DoesTake, Scanned, is_above}
use Rattle.store_check.specs.RowChecks.{decode_book, int_cell}
use Rattle.store_check.proofs.OrderedLemmas.{RisesAbove}

-- ---- the rows so far

-- no id is above the last
abbrev pub RiseTo : Option ℤ → List Row → Type 0
RiseTo None rows = rows ≡ []
RiseTo (Some last) rows = AllByRecursion (λ r. int_lt last (int_cell 0 r) ≡ false) rows

-- the last id is that of a row
abbrev pub IsLastOf : Option ℤ → List Row → Type 0
IsLastOf None rows = Unit {0}
IsLastOf (Some last) rows = (r : Row) × Has rows r × (int_cell 0 r ≡ last)

pub record HasTaken (old now : List BookTally) (last : Option ℤ) (given : List Row) : Type 0 where
  pub last_is : RiseTo last given
  pub last_of : IsLastOf last given
  pub taken : (books : List BookRow) → HaveDistinctIds books → AreCounted [] books old
      → AreTaken books now given

pub none_taken : (old : List BookTally) → HasTaken old old None []
none_taken old = record {
  last_is = refl;
  last_of = tt;
  taken = λ books d h. record {
    good = tt;
    rising = tt;
    counted = h;
  };
}

below : (a last id : ℤ) → int_lt last a ≡ false → int_lt last id ≡ true → int_lt a id ≡ true
below a last id h k = grind (arith, ints)

stays : (a last id : ℤ) → int_lt last a ≡ false → int_lt last id ≡ true → int_lt id a ≡ false
stays a last id h k = grind (arith, ints)

itself : (id : ℤ) → int_lt id id ≡ false
itself id = grind (arith, ints)

all_below : (last : Option ℤ) (given : List Row) (r : Row) → RiseTo last given
    → is_above last (int_cell 0 r) ≡ true
    → AllByRecursion (λ x. int_lt (int_cell 0 x) (int_cell 0 r) ≡ true) given
all_below None given r h above = subst (AllByRecursion (λ x. int_lt (int_cell 0 x) (int_cell 0 r)
    ≡ true)) (sym h) tt
all_below (Some last) given r h above =
    all_weaker (λ x. int_lt last (int_cell 0 x) ≡ false) (λ x. int_lt (int_cell 0 x) (int_cell 0 r)
    ≡ true) (λ x k. below (int_cell 0 x) last (int_cell 0 r) k above) given h

all_stay : (last : Option ℤ) (given : List Row) (r : Row) → RiseTo last given
    → is_above last (int_cell 0 r) ≡ true
    → AllByRecursion (λ x. int_lt (int_cell 0 r) (int_cell 0 x) ≡ false) given
all_stay None given r h above = subst (AllByRecursion (λ x. int_lt (int_cell 0 r) (int_cell 0 x)
    ≡ false)) (sym h) tt
all_stay (Some last) given r h above =
    all_weaker (λ x. int_lt last (int_cell 0 x) ≡ false) (λ x. int_lt (int_cell 0 r) (int_cell 0 x)
    ≡ false) (λ x k. stays (int_cell 0 x) last (int_cell 0 r) k above) given h

at_end : {X : Type 0} (xs : List X) (x : X) → Has (xs ++ x ∷ []) x
at_end [] x = inl refl
at_end (z ∷ zs) x = inr (at_end zs x)

-- a row whose id is above those before it is above the last one
pub above_last : (last : Option ℤ) (given : List Row) (r : Row) → IsLastOf last given
    → RisesAbove given r → is_above last (int_cell 0 r) ≡ true
above_last None given r of all = refl
above_last (Some last) given r of all = ap (λ i. int_lt i (int_cell 0 r)) (sym of.2)
    ∙ all_has (λ x. int_lt (int_cell 0 x) (int_cell 0 r) ≡ true) given of.0 all of.1

pub one_more_taken : (books : List Row) (old now next : List BookTally) (last after : Option ℤ)
    (given : List Row) (r : Row) → HasTaken old now last given
    → DoesTake books now next last after r None → HasTaken old next after (given ++ r ∷ [])
one_more_taken books old now next last after given r h step =
    record {
      last_is = subst (λ o. RiseTo o (given ++ r ∷ [])) (sym step.2)
          (all-append (λ x. int_lt (int_cell 0 r) (int_cell 0 x) ≡ false) given (r ∷ [])
          (all_stay last given r h.last_is step.1) (itself (int_cell 0 r), tt));
      last_of = subst (λ o. IsLastOf o (given ++ r ∷ [])) (sym step.2) (r, at_end given r, refl);
      taken = λ books distinct start.
          let was = h.taken books distinct start in
          let does = step.0 (map load_member given) books distinct was.counted in
          record {
            good = all-append (IsGoodMember books) given (r ∷ []) was.good (does.0, tt);
            rising = ascending-append (λ a b. int_lt (int_cell 0 a) (int_cell 0 b) ≡ true) given
                (r ∷ []) was.rising (tt, tt)
                (all_weaker (λ x. int_lt (int_cell 0 x) (int_cell 0 r) ≡ true)
                (λ x. AllByRecursion (λ b. int_lt (int_cell 0 x) (int_cell 0 b) ≡ true)
                (r ∷ [])) (λ x k. (k, tt)) given (all_below last given r h.last_is step.1));
            counted = subst (λ ms. AreCounted ms books next)
                (sym (map-append load_member given (r ∷ []))) does.1;
          };
    }

-- ---- the rows of the table

row_key : Row → Row
row_key r = column r 0 ∷ []

by_row : Row → Row → Ordering
by_row a b = output_cmp scan_query (row_key a, member_cells a) (row_key b, member_cells b)

-- rows in the order of the scan are the rows of the table
unordered : (table rows : List Row) → AreRowsInOrder by_row member_cells (filter (λ _. true) table)
    rows → IsPermutation (map member_cells table) rows
unordered table rows it =
    subst (λ l. IsPermutation (map member_cells l) rows) (every table)
    (subst (IsPermutation (map member_cells (filter (λ _. true) table))) (sym it.shown)
    (IsPermutation-map member_cells _ _ it.same))

pub all_listed : (old new : State) (rows : List Row) → old.now.schema ≡ book_schema
    → Shown scan_text [] old new rows → IsPermutation (map member_cells (old.now.trees 4)) rows
unfolding row_key by_row
all_listed old new rows schema h =
    unordered (old.now.trees 4) rows
    (all_rows 4 [] all_members_terms scan_query.order [] (λ r. r) (λ r. r) row_key member_cells
    (λ _. true) by_row
    (λ _. refl) (λ _. refl) (λ _. refl) (λ _. refl) (λ _ _. refl) scan_text _ scan_is (λ _. refl)
    old (old.now.trees 4) schema (IsPermutation-refl _) new rows h)

pub first_listed : (s : State) (rows : List Row) → s.now.schema ≡ book_schema
    → Begins scan_text [] s rows → (tail : List Row)
    × IsPermutation (map member_cells (s.now.trees 4)) (rows ++ tail)
unfolding row_key by_row
first_listed s rows schema h =
    let got = (begins_as scan_text [] s s book_schema schema _ scan_is.0 scan_is.2 scan_is.1 rows
    h).1 in (
      got.0,
      unordered (s.now.trees 4) (rows ++ got.0)
          (in_order 4 [] all_members_terms scan_query.order [] (λ r. r) (λ r. r) row_key
          member_cells (λ _. true) by_row
          (λ _. refl) (λ _. refl) (λ _. refl) (λ _. refl) (λ _ _. refl) (overlay s.now.trees [])
          (s.now.trees 4) (IsPermutation-refl _) (rows ++ got.0) got.1),
    )

-- ---- the result

-- the table was read to its end
pub scanned_all : (table books : List Row) (old now : List BookTally) (last : Option ℤ) (given :
    List Row) → HasTaken old now last given → IsPermutation (map member_cells table) given
    → HaveDistinctIds (map decode_book books) → AreCounted [] (map decode_book books) old
    → Scanned table books now None
scanned_all table books old now last given h all distinct start = record {
  rows = given;
  all = all;
  taken = λ _. h.taken (map decode_book books) distinct start;
  faulty = tt;
}

among : {X : Type 0} (xs : List X) (x : X) (ys : List X) → Has ((xs ++ x ∷ []) ++ ys) x
among [] x ys = inl refl
among (z ∷ zs) x ys = inr (among zs x ys)

-- a member is not good
pub scanned_part : (table books : List Row) (old now next : List BookTally) (last after : Option ℤ)
    (given : List Row) (r : Row) (f : FaultyRow) (tail : List Row) → HasTaken old now last given
    → DoesTake books now next last after r (Some f)
    → IsPermutation (map member_cells table) ((given ++ r ∷ []) ++ tail)
    → HaveDistinctIds (map decode_book books) → AreCounted [] (map decode_book books) old
    → Scanned table books next (Some f)
scanned_part table books old now next last after given r f tail h step all distinct start = record {
  rows = (given ++ r ∷ []) ++ tail;
  all = all;
  taken = λ e. absurd (let k = e in cc);
  faulty = (
    r,
    among given r tail,
    step (map load_member given) distinct
        (h.taken (map decode_book books) distinct start).counted,
  );
}
