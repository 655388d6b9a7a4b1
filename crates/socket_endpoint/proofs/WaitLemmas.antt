-- Which places a wait reports.
use Rattle.std.proofs.Common.{◌≡◌, ◌∙◌, Bool, false, List, [], ◌∷◌, refl, sym, ap, arith, length}
use Rattle.std.proofs.Common.{map}
use Rattle.mio.specs.declared.event.event.Event.{Event}
use Rattle.socket_endpoint.specs.Reports.{not_ready, ready_after}

cleared_same : (xs ys : List Bool) → length xs ≡ length ys → map not_ready xs ≡ map not_ready ys
cleared_same [] [] same = refl
cleared_same [] (y ∷ ys) same = absurd (cc same)
cleared_same (x ∷ xs) [] same = absurd (cc same)
cleared_same (x ∷ xs) (y ∷ ys) same = let tails : length xs ≡ length ys = omega (arith, same) in ap
    (λ t. false ∷ t) (cleared_same xs ys tails)

-- what was marked in a cleared list is what is marked in that list, cleared
pub marked_again : (events : List Event) (old cleared new : List Bool)
    → cleared ≡ map not_ready old → new ≡ ready_after events cleared → length new ≡ length old
    → new ≡ ready_after events (map not_ready new)
marked_again events old cleared new clear mark same = mark ∙ ap (λ t. ready_after events t) (clear
    ∙ cleared_same old new (sym same))
