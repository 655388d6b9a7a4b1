-- Members that are counted one at a time.
use Rattle.std.proofs.Common.{ap₂, cond, filter, ◌≡◌, ◌∙◌, ◌+◌, ◌++◌, ℕ, ℤ, zero, suc, Bool, true}
use Rattle.std.proofs.Common.{false, List, [], ◌∷◌, Some, refl, sym, ap, subst, arith, find, length}
use Rattle.std.proofs.Common.{map, slice_get, slice_set}
use Rattle.std.proofs.lemmas.List.{length-append}
use Rattle.std.proofs.lemmas.List.Elements.{filter-append}
use Rattle.std.specs.Option.{option_map}
use Rattle.std.specs.List.{AllByRecursion}
use Rattle.std.specs.Ordering.{int_eq}
use Rattle.sqlite_trees.specs.Tree.{IsAscending}
use Rattle.sqlite_trees.proofs.ListLemmas.{ascending_weaker}
use Rattle.store_tables.specs.Books.{AreBooks, BookRow, has_id, has_name}
use Rattle.store_tables.proofs.KeyedRows.{same_int}
use Rattle.store_rows.proofs.RowLemmas.{int_turned}
use Rattle.store_tables.specs.Members.{MemberRow, is_removed_above}
use Rattle.store_rows.specs.Values.{natural}
use Rattle.store_check.specs.declared.tallies.BookTally.{BookTally}
use Rattle.store_check.specs.BookChecks.{is_live_in}
use Rattle.store_check.specs.MemberTallies.{AreCounted, HaveDistinctIds, counted, has_book}
use Rattle.store_check.specs.MemberTallies.{one_more, tally_of}

same_item : {A : Type 0} (x y : A) → Some x ≡ Some y → x ≡ y
same_item x y same = cc same

-- ---- books with distinct ids

pub distinct_ids : (books : List BookRow) → AreBooks books → HaveDistinctIds books
distinct_ids books h = ascending_weaker (λ (a b : BookRow). (int_eq a.id b.id ≡ false)
    × (has_name a.name b ≡ false)) (λ (a b : BookRow). int_eq a.id b.id ≡ false) (λ a b k. k.0)
    books h

abbrev pub AreApart : List BookTally → Type 0
AreApart = IsAscending (λ a b. int_eq a.id b.id ≡ false)

-- tallies of books with distinct ids
pub distinct_tallies : (ms : List MemberRow) (books : List BookRow) (tallies : List BookTally)
    → HaveDistinctIds books → AreCounted ms books tallies → AreApart tallies
distinct_tallies ms books tallies distinct counts = subst AreApart (sym counts) (go books distinct)
  where
    each : (b : BookRow) (bs : List BookRow)
        → AllByRecursion (λ (c : BookRow). int_eq b.id c.id ≡ false) bs
        → AllByRecursion (λ (t : BookTally). int_eq b.id t.id ≡ false) (map (tally_of ms) bs)
    each b [] h = tt
    each b (c ∷ cs) h = (h.0, each b cs h.1)

    go : (bs : List BookRow) → HaveDistinctIds bs → AreApart (map (tally_of ms) bs)
    go [] h = tt
    go (b ∷ bs) h = (each b bs h.0, go bs h.1)

-- the tally at a place, and those before it
apart_there : (x : BookTally) (ts : List BookTally) (place : ℕ) (t : BookTally)
    → AllByRecursion (λ (u : BookTally). int_eq x.id u.id ≡ false) ts → slice_get ts place ≡ Some t
    → int_eq x.id t.id ≡ false
apart_there x [] place t h found = absurd (let e = found in cc)
apart_there x (y ∷ ys) zero t h found =
    subst (λ (u : BookTally). int_eq x.id u.id ≡ false) (same_item y t found) h.0
apart_there x (y ∷ ys) (suc place) t h found = apart_there x ys place t h.1 found

pub found_there : (id : ℤ) (tallies : List BookTally) (place : ℕ) (t : BookTally) → AreApart tallies
    → slice_get tallies place ≡ Some t → has_book id t ≡ true → find (has_book id) tallies ≡ Some t
found_there id [] place t apart found is = absurd (let e = found in cc)
found_there id (x ∷ xs) zero t apart found is =
    let same : x ≡ t = same_item x t found in
    rw (ap (has_book id) same ∙ is) (ap (λ u. Some u) same)
found_there id (x ∷ xs) (suc place) t apart found is =
    let other : has_book id x ≡ false = ap (int_eq x.id) (sym (same_int t.id id is))
    ∙ apart_there x xs place t apart.0 found in
    rw other (found_there id xs place t apart.1 found is)

-- ---- a member is counted in one tally

-- a member of another book
other_book : (m : MemberRow) (t : BookTally) → int_eq m.book t.id ≡ false → counted m t ≡ t
other_book m t h =
    let live : one_more (is_live_in t.id m) t.live ≡ t.live = rw h refl in
    let removed : one_more (is_removed_above t.id t.horizon m) t.removed ≡ t.removed = rw h refl in
    λ i. record t { live = live i; removed = removed i }

other_books : (m : MemberRow) (ts : List BookTally)
    → AllByRecursion (λ (t : BookTally). int_eq m.book t.id ≡ false) ts → map (counted m) ts ≡ ts
other_books m [] h = refl
other_books m (t ∷ ts) h = ap₂ (λ a l. a ∷ l) (other_book m t h.0) (other_books m ts h.1)

pub counted_there : (m : MemberRow) (tallies : List BookTally) (place : ℕ) (t next : BookTally)
    → AreApart tallies → slice_get tallies place ≡ Some t → t.id ≡ m.book → next ≡ counted m t
    → slice_set tallies place next ≡ map (counted m) tallies
counted_there m [] place t next apart found is now = absurd (let e = found in cc)
counted_there m (x ∷ xs) zero t next apart found is now =
    let same : x ≡ t = same_item x t found in
    let rest : AllByRecursion (λ (u : BookTally). int_eq m.book u.id ≡ false) xs =
    subst (λ id. AllByRecursion (λ (u : BookTally). int_eq id u.id ≡ false) xs)
    (ap (λ (u : BookTally). u.id) same ∙ is) apart.0 in
    ap₂ (λ a l. a ∷ l) (now ∙ ap (counted m) (sym same)) (sym (other_books m xs rest))
counted_there m (x ∷ xs) (suc place) t next apart found is now =
    let away : int_eq x.id m.book ≡ false = ap (int_eq x.id) (sym is)
    ∙ apart_there x xs place t apart.0 found in
    let other : int_eq m.book x.id ≡ false = int_turned m.book x.id ∙ away in
    ap₂ (λ a l. a ∷ l) (sym (other_book m x other)) (counted_there m xs place t next apart.1 found
    is now)

-- ---- the tally of a book

pub tally_found : (ms : List MemberRow) (id : ℤ) (books : List BookRow)
    → find (has_book id) (map (tally_of ms) books) ≡ option_map (tally_of ms)
    (find (has_id id) books)
tally_found ms id [] = refl
tally_found ms id (b ∷ bs) = step (has_id id b) refl (tally_found ms id bs)
  where
    step : (yes : Bool) → has_id id b ≡ yes → find (has_book id) (map (tally_of ms) bs)
        ≡ option_map (tally_of ms) (find (has_id id) bs)
        → find (has_book id) (map (tally_of ms) (b ∷ bs)) ≡ option_map (tally_of ms)
        (find (has_id id) (b ∷ bs))
    step true e more = rw e refl
    step false e more = rw e more

-- ---- one more member

count_next : (p : MemberRow → Bool) (ms : List MemberRow) (m : MemberRow)
    → one_more (p m) (length (filter p ms)) ≡ length (filter p (ms ++ m ∷ []))
count_next p ms m = go (p m) ∙ sym (ap length (filter-append p ms (m ∷ []))
    ∙ length-append (filter p ms) (filter p (m ∷ [])))
  where
    go : (b : Bool) → one_more b (length (filter p ms)) ≡ length (filter p ms) + length
        (cond b (m ∷ []) [])
    go true = refl
    go false = omega arith

tally_next : (ms : List MemberRow) (m : MemberRow) (b : BookRow)
    → counted m (tally_of ms b) ≡ tally_of (ms ++ m ∷ []) b
tally_next ms m b = λ i. record {
  id = b.id;
  number = natural b.numbers.number;
  horizon = b.numbers.horizon;
  live = count_next (is_live_in b.id) ms m i;
  removed = count_next (is_removed_above b.id b.numbers.horizon) ms m i;
}

all_next : (ms : List MemberRow) (m : MemberRow) (books : List BookRow)
    → map (counted m) (map (tally_of ms) books) ≡ map (tally_of (ms ++ m ∷ [])) books
all_next ms m [] = refl
all_next ms m (b ∷ bs) = ap₂ (λ x l. x ∷ l) (tally_next ms m b) (all_next ms m bs)

pub counted_next : (ms : List MemberRow) (books : List BookRow) (old new : List BookTally) (m :
    MemberRow) → AreCounted ms books old → new ≡ map (counted m) old
    → AreCounted (ms ++ m ∷ []) books new
counted_next ms books old new m counts now =
    now ∙ (ap (map (counted m)) counts ∙ all_next ms m books)
