-- How many members well-formed books have at most: each was written by a change of its own.
use Rattle.std.proofs.Common.{◌≡◌, ◌≢◌, ◌≤◌, ◌+◌, ◌*◌, ℕ, ℤ, pos, zero, suc, Bool, true, false, not}
use Rattle.std.proofs.Common.{◌&&◌, ◌||◌, ◌==◌, List, [], ◌∷◌, filter, find, length, Option, Some}
use Rattle.std.proofs.Common.{None, IfSome, int_eq, refl, sym, ap, subst, ◌∙◌, true≢false, arith}
use Rattle.std.specs.List.{AllByRecursion, list_any}
use Rattle.std.proofs.lemmas.List.Filters.{length-filter_both}
use Rattle.std.proofs.lemmas.Nat.{mul-le}
use Rattle.std.proofs.Math.Nat.{suc-mul}
use Rattle.sqlite_trees.specs.Tree.{IsAscending}
use Rattle.sqlite_trees.proofs.ListLemmas.{all-filter, all_weaker, ascending-filter}
use Rattle.book_model.specs.Bounds.{Bounds}
use Rattle.store_check.specs.BookChecks.{HaveDistinctChanges, IfBook, IsCheckedBook}
use Rattle.store_check.specs.BookChecks.{IsCheckedMember, PassRowChecks, is_written_by}
use Rattle.store_check.proofs.CheckedLemmas.{rows_checked}
use Rattle.store_tables.specs.Books.{BookRow, has_id}
use Rattle.store_tables.specs.Members.{MemberRow, is_in_book}
use Rattle.store_tables.proofs.KeyedRows.{all_has, int_itself, same_int, turned}
use Rattle.store_rows.specs.SoundTables.{AreWellFormed, HasBookId, IsReadableMember}
use Rattle.store_rows.specs.TableRows.{TableRows}
use Rattle.store_rows.specs.Values.{IsNatural, natural}
use Rattle.store_rows.proofs.KeyedEntries.{found_has}

-- ---- numbers from 1 to k, each once

abbrev change_of : MemberRow → ℕ
change_of m = natural m.changed

abbrev Differ : MemberRow → MemberRow → Type 0
Differ a b = change_of a ≢ change_of b

abbrev is_change : ℕ → MemberRow → Bool
is_change n m = change_of m == n

abbrev IsUpTo : ℕ → MemberRow → Type 0
IsUpTo k m = (1 ≤ change_of m) × (change_of m ≤ k)

none_is : (n : ℕ) (ms : List MemberRow) → AllByRecursion (λ m. is_change n m ≡ false) ms
    → length (filter (is_change n) ms) ≡ 0
none_is n [] all = refl
none_is n (m ∷ ms) all = rw all.0 (none_is n ms all.1)

one_at_most : (n : ℕ) (ms : List MemberRow) → IsAscending Differ ms
    → length (filter (is_change n) ms) ≤ 1
one_at_most n [] apart = omega arith
one_at_most n (m ∷ ms) apart = step (is_change n m) refl (one_at_most n ms apart.1)
  where
    step : (t : Bool) → is_change n m ≡ t → length (filter (is_change n) ms) ≤ 1
        → length (filter (is_change n) (m ∷ ms)) ≤ 1
    step true e more =
        let others = all_weaker (Differ m) (λ x. is_change n x ≡ false) (λ x other. grind (
          arith,
          e,
          other,
        )) ms apart.0 in
        let none = none_is n ms others in
        rw e (omega (arith, none))
    step false e more = rw e more

few_numbers : (k : ℕ) (ms : List MemberRow) → AllByRecursion (IsUpTo k) ms → IsAscending Differ ms
    → length ms ≤ k
few_numbers zero [] all apart = omega arith
few_numbers zero (m ∷ ms) all apart = absurd (omega (arith, all.0.0, all.0.1))
few_numbers (suc k) ms all apart =
    let p = is_change (suc k) in
    let rest = filter (λ (m : MemberRow). not (p m)) ms in
    let lower : AllByRecursion (IsUpTo k) rest = below ms all in
    omega (
      arith,
      length-filter_both p (λ (m : MemberRow). not (p m)) (λ m. refl) ms,
      one_at_most (suc k) ms apart,
      few_numbers k rest lower
          (ascending-filter Differ (λ (m : MemberRow). not (p m)) ms apart),
    )
  where
    below : (xs : List MemberRow) → AllByRecursion (IsUpTo (suc k)) xs
        → AllByRecursion (IsUpTo k) (filter (λ m. not (is_change (suc k) m)) xs)
    below [] h = tt
    below (x ∷ xs) h = step (is_change (suc k) x) refl (below xs h.1)
      where
        step : (t : Bool) → is_change (suc k) x ≡ t
            → AllByRecursion (IsUpTo k) (filter (λ m. not (is_change (suc k) m)) xs)
            → AllByRecursion (IsUpTo k) (filter (λ m. not (is_change (suc k) m)) (x ∷ xs))
        step true e more = rw e more
        step false e more = rw e ((h.0.0, grind (arith, h.0.1, e)), more)

-- ---- the members of one book, and of the others

both_false : (a b : Bool) → a ≡ true → b ≡ true → (a && b) ≡ false → ⊥
both_false true true is also apart = true≢false apart
both_false true false is also apart = true≢false (sym also)
both_false false b is also apart = true≢false (sym is)

or_other : (a b : Bool) → (a || b) ≡ true → a ≡ false → b ≡ true
or_other true b e apart = absurd (true≢false apart)
or_other false b e apart = e

-- a listed member with a number from 1 to k
abbrev Fits : List BookRow → ℕ → MemberRow → Type 0
Fits bs k m = HasBookId bs m.book × IsNatural m.changed × IsUpTo k m

abbrev IsOwn : ℤ → MemberRow → Type 0
IsOwn id m = (is_in_book id m ≡ true) × IsNatural m.changed

differ : (id : ℤ) (m x : MemberRow) → IsOwn id m → IsOwn id x → is_written_by m.book m.changed x
    ≡ false → Differ m x
differ id m x own other apart same =
    let book : x.book ≡ m.book = same_int x.book id other.0 ∙ sym (same_int m.book id own.0) in
    let change : x.changed ≡ m.changed = other.1 ∙ ap (λ n. pos n) (sym same) ∙ sym own.1 in
    both_false (int_eq x.book m.book) (int_eq x.changed m.changed)
    (subst (λ (b : ℤ). int_eq x.book b ≡ true) book (int_itself x.book))
    (subst (λ (n : ℤ). int_eq x.changed n ≡ true) change (int_itself x.changed)) apart

differ_all : (id : ℤ) (m : MemberRow) → IsOwn id m → (xs : List MemberRow)
    → AllByRecursion (IsOwn id) xs → AllByRecursion (λ x. is_written_by m.book m.changed x ≡ false)
    xs → AllByRecursion (Differ m) xs
differ_all id m own [] all apart = tt
differ_all id m own (x ∷ xs) all apart =
    (differ id m x own all.0 apart.0, differ_all id m own xs all.1 apart.1)

own_apart : (id : ℤ) (ms : List MemberRow) → AllByRecursion (IsOwn id) ms → HaveDistinctChanges ms
    → IsAscending Differ ms
own_apart id [] all apart = tt
own_apart id (m ∷ ms) all apart = (
  differ_all id m all.0 ms all.1 apart.0,
  own_apart id ms all.1 apart.1,
)

owned : (bs : List BookRow) (k : ℕ) (id : ℤ) (ms : List MemberRow) → AllByRecursion (Fits bs k) ms
    → AllByRecursion (IsOwn id) (filter (is_in_book id) ms)
owned bs k id [] all = tt
owned bs k id (m ∷ ms) all = step (is_in_book id m) refl (owned bs k id ms all.1)
  where
    step : (t : Bool) → is_in_book id m ≡ t → AllByRecursion (IsOwn id) (filter (is_in_book id) ms)
        → AllByRecursion (IsOwn id) (filter (is_in_book id) (m ∷ ms))
    step true e more = rw e ((e, all.0.1), more)
    step false e more = rw e more

of_others : (b : BookRow) (bs : List BookRow) (k : ℕ) (ms : List MemberRow)
    → AllByRecursion (Fits (b ∷ bs) k) ms
    → AllByRecursion (Fits bs k) (filter (λ m. not (is_in_book b.id m)) ms)
of_others b bs k [] all = tt
of_others b bs k (m ∷ ms) all = step (is_in_book b.id m) refl (of_others b bs k ms all.1)
  where
    step : (t : Bool) → is_in_book b.id m ≡ t
        → AllByRecursion (Fits bs k) (filter (λ x. not (is_in_book b.id x)) ms)
        → AllByRecursion (Fits bs k) (filter (λ x. not (is_in_book b.id x)) (m ∷ ms))
    step true e more = rw e more
    step false e more = rw e (
      (
        or_other (has_id m.book b) (list_any (has_id m.book) bs) all.0.0
            (turned m.book b.id e),
        all.0.1,
        all.0.2,
      ),
      more,
    )

abbrev Apart : MemberRow → MemberRow → Type 0
Apart a b = is_written_by a.book a.changed b ≡ false

by_books : (k : ℕ) (bs : List BookRow) (ms : List MemberRow) → AllByRecursion (Fits bs k) ms
    → HaveDistinctChanges ms → length ms ≤ length bs * k
by_books k [] [] all apart = omega arith
by_books k [] (m ∷ ms) all apart = absurd (true≢false (sym all.0.0))
by_books k (b ∷ bs) ms all apart =
    let p = is_in_book b.id in
    let others = λ (m : MemberRow). not (p m) in
    let whole = length-filter_both p others (λ m. refl) ms in
    let numbers = all_weaker (Fits (b ∷ bs) k) (IsUpTo k) (λ m fits. fits.2) (filter p ms)
    (all-filter (Fits (b ∷ bs) k) p ms all) in
    let own = few_numbers k (filter p ms) numbers (own_apart b.id (filter p ms)
    (owned (b ∷ bs) k b.id ms all) (ascending-filter Apart p ms apart)) in
    let rest = by_books k bs (filter others ms) (of_others b bs k ms all)
    (ascending-filter Apart others ms apart) in
    let times : length (b ∷ bs) * k ≡ length bs * k + k = suc-mul (length bs) k in
    omega (arith, whole, own, rest, times)

-- ---- all members

none_found : (id : ℤ) (bs : List BookRow) → find (has_id id) bs ≡ None → HasBookId bs id → ⊥
none_found id [] e has = true≢false (sym has)
none_found id (b ∷ bs) e has = step (has_id id b) refl (none_found id bs)
  where
    step : (t : Bool) → has_id id b ≡ t → (find (has_id id) bs ≡ None → HasBookId bs id → ⊥) → ⊥
    step true is more = let no : Some b ≡ None = rw is at e in cc
    step false is more = more (rw is at e) (or_other (has_id id b) (list_any (has_id id) bs) has is)

module _ (limits : Bounds) (rows : TableRows) (checks : PassRowChecks limits rows) where
  is_up_to : (m : MemberRow) → HasBookId rows.books m.book
      → IfBook rows.books m.book (IsCheckedMember m) → IsUpTo limits.changes_max m
  is_up_to m listed = by_found (find (has_id m.book) rows.books) refl
    where
      by_found : (o : Option BookRow) → find (has_id m.book) rows.books ≡ o
          → IfSome o (IsCheckedMember m) → IsUpTo limits.changes_max m
      by_found (Some b) e checked =
          let there = (found_has (has_id m.book) rows.books b e).0 in
          let within = (all_has (IsCheckedBook limits (length rows.books) rows.members rows.keeps)
          rows.books b checks.books there).bounds.within_limit in
          (checked.first, omega (arith, checked.known, within))
      by_found None e checked = absurd (none_found m.book rows.books e listed)

  all_fit : (ms : List MemberRow) → AllByRecursion (λ m. HasBookId rows.books m.book) ms
      → AllByRecursion IsReadableMember ms
      → AllByRecursion (λ m. IfBook rows.books m.book (IsCheckedMember m)) ms
      → AllByRecursion (Fits rows.books limits.changes_max) ms
  all_fit [] listed readable checked = tt
  all_fit (m ∷ ms) listed readable checked = (
    (listed.0, readable.0.changed, is_up_to m listed.0 checked.0),
    all_fit ms listed.1 readable.1 checked.1,
  )

-- well-formed books have no more members than all their changes may be
pub few_members : (limits : Bounds) (rows : TableRows) → AreWellFormed limits rows
    → length rows.members ≤ limits.books_max * limits.changes_max
few_members limits rows well =
    let checks = rows_checked limits rows well in
    let all = all_fit limits rows checks rows.members well.sound.listed_members
    well.sound.readable.members checks.members in
    let most = by_books limits.changes_max rows.books rows.members all checks.apart in
    let books = mul-le (length rows.books) limits.changes_max limits.books_max limits.changes_max
    checks.few (omega arith) in
    omega (arith, most, books)
