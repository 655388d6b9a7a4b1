-- The one transaction of a copy.
use Rattle.std.proofs.Common.{◌≡◌, false, IsTrue, [], Result, Ok, Err, OnOk, sym, ap, ◌∙◌}
use Rattle.sqlite.specs.declared.error.Error.{Error}
use Rattle.sqlite.specs.Effect.{Database}
use Rattle.sqlite.specs.State.{State, HasCleanDisk, KeepsCounts, Shows, Survives}
use Rattle.sqlite.proofs.StateLemmas.{survives_then}

-- two steps that commit nothing
pub uncommitted : (a b c : State) → Survives a b (λ _. ⊥) → Survives b c (λ _. ⊥)
    → Survives a c (λ _. ⊥)
uncommitted a b c = survives_then a b c _ _ (λ _. ⊥) (λ _ db none. none) (λ _ db none. none)

-- a commit after them succeeded, or failed
pub committed : (begun mid end : State) (r : Result (Unit {0}) Error) → Survives begun mid (λ _. ⊥)
    → Survives mid end (λ db. db ≡ mid.now.trees)
    → (HasCleanDisk end → OnOk r (IsTrue mid.in_transaction × Shows mid end mid.now mid.now false
    × KeepsCounts mid end × (end.marks ≡ [])))
    → OnOk r (Survives begun end (λ trees. trees ≡ end.now.trees))
committed begun mid end (Ok done) first last ok =
    survives_then begun mid end _ _ (λ trees. trees ≡ end.now.trees) (λ _ db none. absurd none)
    (λ clean db made. made ∙ ap (λ (d : Database). d.trees) (sym (ok clean).1.now_is)) first last
committed begun mid end (Err e) first last ok = tt
