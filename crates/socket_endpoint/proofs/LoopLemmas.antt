-- A list of which a loop replaces one item after another.
use Rattle.std.proofs.Common.{◌≡◌, ◌∙◌, ◌+◌, ◌++◌, ℕ, zero, suc, List, [], ◌∷◌, Some, refl, sym, ap}
use Rattle.std.proofs.Common.{arith, drop, length, map, take, slice_get, slice_set}

same_item : {A : Type 0} (x y : A) → Some x ≡ Some y → x ≡ y
same_item x y same = cc same

map_more : {A : Type 0} (f : A → A) (xs : List A) (i : ℕ) (x : A) → slice_get xs i ≡ Some x
    → slice_set (map f (take i xs) ++ drop i xs) i (f x) ≡ map f (take (suc i) xs) ++ drop (suc i)
    xs
map_more f [] i x found = absurd (cc found)
map_more f (y ∷ xs) zero x found = ap (λ t. f t ∷ xs) (sym (same_item y x found))
map_more f (y ∷ xs) (suc i) x found = ap (λ t. f y ∷ t) (map_more f xs i x found)

map_at : {A : Type 0} (f : A → A) (xs : List A) (i : ℕ) → slice_get (map f (take i xs) ++ drop i xs)
    i ≡ slice_get xs i
map_at f [] zero = refl
map_at f [] (suc i) = refl
map_at f (y ∷ xs) zero = refl
map_at f (y ∷ xs) (suc i) = map_at f xs i

-- a list whose first items were replaced, after one more was
pub maps_next : {A : Type 0} (f : A → A) (old now : List A) (i : ℕ) (x next : A)
    → slice_get now i ≡ Some x → now ≡ map f (take i old) ++ drop i old → next ≡ f x
    → slice_set now i next ≡ map f (take (i + 1) old) ++ drop (i + 1) old
maps_next f old now i x next found so_far next_is =
    let before : slice_get old i ≡ Some x = sym (map_at f old i)
    ∙ ap (λ t. slice_get t i) (sym so_far) ∙ found in
    let one_more : suc i ≡ i + 1 = omega arith in
    ap (λ t. slice_set t i next) so_far ∙ ap (λ v. slice_set (map f (take i old) ++ drop i old) i v)
    next_is ∙ map_more f old i x before
    ∙ ap (λ n. map f (take n old) ++ drop n old) one_more

-- what was written over a whole list is the list then
write_all : {A : Type 0} (old new : List A) → length new ≡ length old
    → take (length old) (new ++ drop (length new) old) ≡ new
write_all [] [] same = refl
write_all [] (x ∷ xs) same = absurd (cc same)
write_all (y ∷ ys) [] same = absurd (cc same)
write_all (y ∷ ys) (x ∷ xs) same = let tails : length xs ≡ length ys = omega (arith, same) in ap (λ
    t. x ∷ t) (write_all ys xs tails)

pub written_back : {A : Type 0} (old new : List A) (n : ℕ) → n ≡ length old
    → length new ≡ length old → take n (new ++ drop (length new) old) ≡ new
written_back old new n is same = ap (λ m. take m (new ++ drop (length new) old)) is
    ∙ write_all old new same
