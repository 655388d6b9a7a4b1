-- Lists, item by item.
use Rattle.std.proofs.Common.{◌≡◌, inl, inr, ◌⊎◌, List, [], ◌∷◌, refl, sym, subst, ◌∙◌}
use Rattle.std.specs.List.{AllByRecursion}
use Rattle.sqlite_trees.specs.Tree.{IsAscending}
use Rattle.sqlite_rules.specs.Lists.{Has}
use Rattle.store_tables.proofs.KeyedRows.{all_has}

-- a property of each item of the list
pub all_from_has : {X : Type 0} (P : X → Type 0) (xs : List X) → ((x : X) → Has xs x → P x)
    → AllByRecursion P xs
all_from_has P [] h = tt
all_from_has P (x ∷ xs) h = (h x (inl refl), all_from_has P xs (λ y k. h y (inr k)))

-- pairs of items of the list
pub ascending_on : {X : Type 0} (R S : X → X → Type 0) (xs : List X)
    → ((a b : X) → Has xs a → Has xs b → R a b → S a b) → IsAscending R xs → IsAscending S xs
ascending_on R S [] h all = tt
ascending_on {X = X} R S (x ∷ xs) h all =
    (each xs (λ y k. inr k) all.0, ascending_on R S xs (λ a b j k. h a b (inr j) (inr k)) all.1)
  where
    each : (ys : List X) → ((y : X) → Has ys y → Has (x ∷ xs) y) → AllByRecursion (R x) ys
        → AllByRecursion (S x) ys
    each [] within k = tt
    each (y ∷ ys) within k = (
      h x y (inl refl) (within y (inl refl)) k.0,
      each ys (λ z j. within z (inr j)) k.1,
    )

-- two items of the list are the same, or one is before the other
pub alike_or_apart : {X : Type 0} (R : X → X → Type 0) (xs : List X) (a b : X) → IsAscending R xs
    → Has xs a → Has xs b → (a ≡ b) ⊎ (R a b ⊎ R b a)
alike_or_apart R [] a b all h k = absurd h
alike_or_apart R (x ∷ xs) a b all (inl h) (inl k) = inl (h ∙ sym k)
alike_or_apart R (x ∷ xs) a b all (inl h) (inr k) =
    inr (inl (subst (λ y. R y b) (sym h) (all_has (R x) xs b all.0 k)))
alike_or_apart R (x ∷ xs) a b all (inr h) (inl k) =
    inr (inr (subst (λ y. R y a) (sym k) (all_has (R x) xs a all.0 h)))
alike_or_apart R (x ∷ xs) a b all (inr h) (inr k) = alike_or_apart R xs a b all.1 h k
