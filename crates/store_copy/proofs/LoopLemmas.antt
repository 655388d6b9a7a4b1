-- Loops over the rows of books.
use Rattle.std.proofs.Common.{get_or, ◌≡◌, ◌+◌, ◌<◌, ◌≤◌, ℕ, zero, suc, Bool, true, false, ◌||◌}
use Rattle.std.proofs.Common.{List, [], ◌∷◌, ◌++◌, map, take, length, refl, sym, ap, subst, arith}
use Rattle.std.specs.List.{AllByRecursion, list_any}
use Rattle.std.proofs.lemmas.List.{take_more}
use Rattle.sqlite.specs.Order.{Row}
use Rattle.sqlite_trees.proofs.ListLemmas.{all_weaker, all-append}
use Rattle.store_tables.specs.Books.{BookRow}
use Rattle.store_rows.specs.Values.{natural}
use Rattle.store_check.specs.RowChecks.{decode_book, int_cell}

-- one item settles the answer
pub any_yes : {A B : Type 0} (p : B → Bool) (f : A → B) (xs : List A) (i : ℕ) (d : A)
    → i < length xs → p (f (get_or xs i d)) ≡ true → list_any p (map f xs) ≡ true
any_yes p f [] i d below is = absurd (omega arith)
any_yes p f (x ∷ xs) zero d below is = rw is refl
any_yes p f (x ∷ xs) (suc i) d below is =
    rw (any_yes p f xs i d (omega arith) is) (or_true (p (f x)))
  where
    or_true : (b : Bool) → (b || true) ≡ true
    or_true true = refl
    or_true false = refl

map_push : {A B : Type 0} (f : A → B) (xs : List A) (x : A) → map f (xs ++ x ∷ []) ≡ map f xs
    ++ f x ∷ []
map_push f [] x = refl
map_push f (y ∷ ys) x = ap (λ l. f y ∷ l) (map_push f ys x)

abbrev IsWithin : ℕ → BookRow → Type 0
IsWithin bound b = natural b.numbers.number ≤ bound

-- one row more, and a bound that isn't smaller
pub bound_more : (xs : List Row) (i : ℕ) (d : Row) (old new : ℕ) → i < length xs
    → AllByRecursion (IsWithin old) (map decode_book (take i xs))
    → old ≤ new → natural (int_cell 2 (get_or xs i d)) ≤ new
    → AllByRecursion (IsWithin new) (map decode_book (take (i + 1) xs))
bound_more xs i d old new low h grows here =
    subst (λ l. AllByRecursion (IsWithin new) (map decode_book l)) (sym (take_more xs i d low))
    (subst (AllByRecursion (IsWithin new)) (sym (map_push decode_book (take i xs) (get_or xs i d)))
    (all-append (IsWithin new) (map decode_book (take i xs)) (decode_book (get_or xs i d) ∷ [])
    (all_weaker (IsWithin old) (IsWithin new) (λ b le. omega (arith, le, grows))
    (map decode_book (take i xs)) h) (here, tt)))
