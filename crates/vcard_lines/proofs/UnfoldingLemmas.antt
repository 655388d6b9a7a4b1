-- Physical lines one after another, as they are joined to logical lines.
use Rattle.std.proofs.Common.{◌≡◌, ℕ, true, false, cond, List, [], ◌∷◌, ◌++◌, drop, refl, ap}
use Rattle.vcard_lines.specs.LogicalLines.{continues}
use Rattle.vcard_lines.specs.Unfolding.{cons_nonempty, unfold_from}

pub goes_on : (line piece : List ℕ) (pieces : List (List ℕ)) → continues piece ≡ true
    → unfold_from line (piece ∷ pieces) ≡ unfold_from (line ++ drop 1 piece) pieces
unfolding unfold_from
goes_on line piece pieces e = ap (λ t. cond t (unfold_from (line ++ drop 1 piece) pieces)
    (cons_nonempty line (unfold_from piece pieces))) e

pub ends : (line piece : List ℕ) (pieces : List (List ℕ)) → continues piece ≡ false
    → unfold_from line (piece ∷ pieces) ≡ cons_nonempty line (unfold_from piece pieces)
unfolding unfold_from
ends line piece pieces e = ap (λ t. cond t (unfold_from (line ++ drop 1 piece) pieces)
    (cons_nonempty line (unfold_from piece pieces))) e

pub at_last : (line : List ℕ) → unfold_from line [] ≡ cons_nonempty line []
unfolding unfold_from
at_last line = refl
