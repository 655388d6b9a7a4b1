-- What stops the reading of an input.
use Rattle.std.proofs.Common.{◌≡◌, ◌⊎◌, ℕ, List, Result, Ok, Err, IfErr, inl, inr, refl, subst, sym}
use Rattle.cli_orders.specs.TryStops.{IsTryStop}
use Rattle.cli_orders.specs.declared.stop.Stop.{Stop}
use Rattle.cli_orders.specs.declared.stop.Stop.TheVariants.{Device}
use Rattle.cli_orders.specs.Stops.{out_of_memory}

-- a reader's stop is for no text's sake
pub stopped_for_none : {A : Type 0} (r : Result A Stop) → IfErr r (λ stop. (stop ≡ out_of_memory)
    ⊎ (stop ≡ Device)) → IfErr r (λ stop. (text : List ℕ) → IsTryStop text stop)
stopped_for_none (Ok x) s = tt
stopped_for_none (Err stop) (inl memory) =
    λ text. subst (λ (s : Stop). IsTryStop text s) (sym memory) refl
stopped_for_none (Err stop) (inr device) =
    λ text. subst (λ (s : Stop). IsTryStop text s) (sym device) tt
