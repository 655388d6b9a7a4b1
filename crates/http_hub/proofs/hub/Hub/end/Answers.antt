use Rattle.std.proofs.Common.{◌≡◌, ◌∙◌, ◌<◌, ◌-◌, Some, None, List, Option, ap, arith, sym, subst}
use Rattle.std.proofs.Common.{slice_get, slice_set}
use Rattle.http_hub.specs.Hubs.{HubValue}
use Rattle.http_hub.specs.Links.{LinkValue}
use Rattle.http_hub.specs.PlaceCounts.{AreOpenBelow, CountsPlaces}
use Rattle.http_hub.proofs.PlaceCountLemmas.{count_some, counts_closed, counts_less}
use Rattle.http_hub.proofs.hub.Hub.end.Goals as goal

pub overflow_sub-self : goal.overflow_sub-self
overflow_sub-self c =
    let found : slice_get c.self.inside.slots.items c.args.place ≡ Some (Some c.requires.0) =
    ap (λ (h : HubValue). slice_get h.slots c.args.place) c.self.view_is ∙ c.requires.1 in
    let some : 0 < c.self.inside.open_count =
    count_some c.self.inside.slots.items c.self.inside.open_count c.self.inside.places_end
    c.args.place c.requires.0 c.self.invariant found in
    omega (arith, some)

pub last_end-self-inside-requires-clause-below : goal.last_end-self-inside-requires-clause-below
last_end-self-inside-requires-clause-below c =
    let found : slice_get c.self.inside.slots.items c.args.place ≡ Some (Some c.requires.0) =
    ap (λ (h : HubValue). slice_get h.slots c.args.place) c.self.view_is ∙ c.requires.1 in
    let closed : CountsPlaces (slice_set c.self.inside.slots.items c.args.place None)
    (c.self.inside.open_count - 1) c.self.inside.places_end =
    counts_closed c.self.inside.slots.items c.self.inside.open_count c.self.inside.places_end
    c.args.place c.requires.0 c.self.invariant found in
    subst (λ (xs : List (Option LinkValue)). AreOpenBelow xs c.self.inside.places_end)
    (sym c.deref.ensures.value) closed.below

pub invariant_of-self : goal.invariant_of-self
invariant_of-self c =
    let found : slice_get c.self.inside.slots.items c.args.place ≡ Some (Some c.requires.0) =
    ap (λ (h : HubValue). slice_get h.slots c.args.place) c.self.view_is ∙ c.requires.1 in
    let closed : CountsPlaces (slice_set c.self.inside.slots.items c.args.place None)
    (c.self.inside.open_count - 1) c.self.inside.places_end =
    counts_closed c.self.inside.slots.items c.self.inside.open_count c.self.inside.places_end
    c.args.place c.requires.0 c.self.invariant found in
    counts_less (slice_set c.self.inside.slots.items c.args.place None)
    (c.self.inside.open_count - 1) c.self.inside.places_end c.last_end-self-inside.result closed
    (subst (λ (xs : List (Option LinkValue)). AreOpenBelow xs c.last_end-self-inside.result)
    c.deref.ensures.value c.last_end-self-inside.ensures.below)
    c.last_end-self-inside.ensures.less
