-- The members of lists, also of lists that are mapped, filtered or put in another order.
use Rattle.std.proofs.Common.{◌≡◌, Bool, true, false, List, [], ◌∷◌, ◌++◌, map, filter, flat_map}
use Rattle.std.proofs.Common.{inl, inr, refl, sym, ap, subst, ◌∙◌, IsPermutation}
use Rattle.std.specs.List.{AllByRecursion}
use Rattle.sqlite_rules.specs.Lists.{Has}
use Rattle.sqlite_trees.proofs.ListLemmas.{all-permutation}
use Rattle.store_tables.proofs.KeyedRows.{all_has}

pub none_there : {X : Type 0} (xs : List X) → ((x : X) → Has xs x → ⊥) → xs ≡ []
none_there [] h = refl
none_there (x ∷ xs) h = absurd (h x (inl refl))

-- ---- mapped lists

pub has_mapped : {A B : Type 0} (f : A → B) (xs : List A) (x : A) → Has xs x → Has (map f xs) (f x)
has_mapped f [] x h = absurd h
has_mapped f (y ∷ xs) x (inl same) = inl (ap f same)
has_mapped f (y ∷ xs) x (inr h) = inr (has_mapped f xs x h)

pub mapped_has : {A B : Type 0} (f : A → B) (xs : List A) (y : B) → Has (map f xs) y → (x : A)
    × Has xs x × (y ≡ f x)
mapped_has f [] y h = absurd h
mapped_has f (x ∷ xs) y (inl same) = (x, inl refl, same)
mapped_has f (x ∷ xs) y (inr h) = let it = mapped_has f xs y h in (it.0, inr it.1, it.2)

-- ---- filtered lists

pub has_passing : {X : Type 0} (p : X → Bool) (xs : List X) (x : X) → p x ≡ true → Has xs x
    → Has (filter p xs) x
has_passing p [] x pass h = absurd h
has_passing p (y ∷ xs) x pass h = step (p y) refl h (has_passing p xs x pass)
  where
    step : (b : Bool) → p y ≡ b → Has (y ∷ xs) x → (Has xs x → Has (filter p xs) x)
        → Has (filter p (y ∷ xs)) x
    step true e (inl same) more = rw e (inl same)
    step true e (inr k) more = rw e (inr (more k))
    step false e (inl same) more = absurd (let no = sym pass ∙ ap p same ∙ e in cc)
    step false e (inr k) more = rw e (more k)

pub passing_has : {X : Type 0} (p : X → Bool) (xs : List X) (x : X) → Has (filter p xs) x → Has xs x
    × (p x ≡ true)
passing_has p [] x h = absurd h
passing_has p (y ∷ xs) x h = step (p y) refl h (passing_has p xs x)
  where
    step : (b : Bool) → p y ≡ b → Has (filter p (y ∷ xs)) x
        → (Has (filter p xs) x → Has xs x × (p x ≡ true)) → Has (y ∷ xs) x × (p x ≡ true)
    step true e h more = elim (rw e at h) [
      | inl same ↦ (inl same, ap p same ∙ e)
      | inr k ↦
          let it = more k in (inr it.0, it.1)
    ]
    step false e h more = let it = more (rw e at h) in (inr it.0, it.1)

-- ---- joined lists

has_front : {X : Type 0} (xs ys : List X) (x : X) → Has xs x → Has (xs ++ ys) x
has_front [] ys x h = absurd h
has_front (y ∷ xs) ys x (inl same) = inl same
has_front (y ∷ xs) ys x (inr h) = inr (has_front xs ys x h)

has_back : {X : Type 0} (xs ys : List X) (x : X) → Has ys x → Has (xs ++ ys) x
has_back [] ys x h = h
has_back (y ∷ xs) ys x h = inr (has_back xs ys x h)

either_has : {X : Type 0} (xs ys : List X) (x : X) (C : Type 0) → (Has xs x → C) → (Has ys x → C)
    → Has (xs ++ ys) x → C
either_has [] ys x C front back h = back h
either_has (y ∷ xs) ys x C front back (inl same) = front (inl same)
either_has (y ∷ xs) ys x C front back (inr h) = either_has xs ys x C (λ k. front (inr k)) back h

pub has_joined : {A B : Type 0} (f : A → List B) (xs : List A) (x : A) (y : B) → Has xs x
    → Has (f x) y → Has (flat_map f xs) y
has_joined f [] x y h there = absurd h
has_joined f (z ∷ xs) x y (inl same) there =
    has_front (f z) (flat_map f xs) y (subst (λ a. Has (f a) y) same there)
has_joined f (z ∷ xs) x y (inr h) there =
    has_back (f z) (flat_map f xs) y (has_joined f xs x y h there)

pub joined_has : {A B : Type 0} (f : A → List B) (xs : List A) (y : B) → Has (flat_map f xs) y
    → (x : A) × Has xs x × Has (f x) y
joined_has f [] y h = absurd h
joined_has {A = A} f (z ∷ xs) y h =
    either_has (f z) (flat_map f xs) y ((x : A) × Has (z ∷ xs) x × Has (f x) y) (λ k. (
      z,
      inl refl,
      k,
    )) (λ k. let it = joined_has f xs y k in (it.0, inr it.1, it.2)) h

-- ---- permutations

all_there : {X : Type 0} (all xs : List X) → ((x : X) → Has xs x → Has all x)
    → AllByRecursion (Has all) xs
all_there all [] sub = tt
all_there all (x ∷ xs) sub = (sub x (inl refl), all_there all xs (λ y h. sub y (inr h)))

pub has_moved : {X : Type 0} (xs ys : List X) (x : X) → IsPermutation xs ys → Has ys x → Has xs x
has_moved xs ys x same h = all_has (Has xs) ys x (all-permutation (Has xs) xs ys same
    (all_there xs xs (λ y k. k))) h
