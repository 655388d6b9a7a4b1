-- Items of which each two are apart, in any order.
use Rattle.std.proofs.Common.{List, IsPermutation}
use Rattle.std.specs.List.{AllByRecursion}
use Rattle.sqlite_trees.specs.Tree.{IsAscending}
use Rattle.sqlite_trees.proofs.ListLemmas.{along_permutation}

-- a symmetric property of each two items holds in each order
module _ {X : Type 0} (R : X → X → Type 0) (turned : (a b : X) → R a b → R b a) where
  record Moves (xs ys : List X) : Type 0 where
    away : (x : X) → AllByRecursion (R x) xs → AllByRecursion (R x) ys
    apart : IsAscending R xs → IsAscending R ys

  moves : (xs ys : List X) → IsPermutation xs ys → Moves xs ys
  moves = along_permutation Moves
      (λ xs. record { away = λ x h. h; apart = λ h. h })
      (λ x xs ys m. record {
        away = λ z h. (h.0, m.away z h.1);
        apart = λ h. (m.away x h.0, m.apart h.1);
      })
      (λ x y xs. record {
        away = λ z h. (h.1.0, (h.0, h.1.1));
        apart = λ h. ((turned x y h.0.0, h.1.0), (h.0.1, h.1.1));
      })
      (λ xs ys zs m n. record {
        away = λ x h. n.away x (m.away x h);
        apart = λ h. n.apart (m.apart h);
      })

  pub apart_moved : (xs ys : List X) → IsPermutation xs ys → IsAscending R xs → IsAscending R ys
  apart_moved xs ys h = (moves xs ys h).apart
