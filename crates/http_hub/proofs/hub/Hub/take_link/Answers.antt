use Rattle.std.proofs.Common.{◌≡◌, ◌∙◌, ◌<◌, ◌-◌, Some, Option, ap, sym, subst, slice_get}
use Rattle.std.proofs.Common.{slice_set, length}
use Rattle.http_hub.specs.Hubs.{HubValue, IsAt}
use Rattle.http_hub.specs.Links.{LinkValue}
use Rattle.http_hub.specs.PlaceCounts.{CountsPlaces}
use Rattle.http_hub.proofs.PlaceCountLemmas.{counts_closed}
use Rattle.http_hub.proofs.PlaceLemmas.{found_at, found_within}
use Rattle.http_hub.proofs.hub.Hub.take_link.Goals as goal

pub invariant_of-self : goal.invariant_of-self
invariant_of-self c =
    let found : slice_get c.self.inside.slots.items c.args.place ≡ Some (Some c.requires.0) =
    ap (λ (h : HubValue). slice_get h.slots c.args.place) c.self.view_is ∙ c.requires.1 in
    subst (λ (left : Option LinkValue). CountsPlaces (slice_set c.self.inside.slots.items
    c.args.place left) (c.self.inside.open_count - 1) c.self.inside.places_end)
    (sym c.in-Some.ensures.after)
    (counts_closed c.self.inside.slots.items c.self.inside.open_count c.self.inside.places_end
    c.args.place c.requires.0 c.self.invariant found)

pub unreachable-requires : goal.unreachable-requires
unreachable-requires c =
    let found : slice_get c.self.inside.slots.items c.args.place ≡ Some (Some c.requires.0) =
    ap (λ (h : HubValue). slice_get h.slots c.args.place) c.self.view_is ∙ c.requires.1 in
    let within : c.args.place < length c.self.inside.slots.items =
    found_within c.self.inside.slots.items c.args.place (Some c.requires.0) found in
    let read : slice_get c.self.inside.slots.items c.args.place ≡ Some c.index_mut.result.now =
    found_at c.self.inside.slots.items c.args.place c.index_mut.result.now within
    c.index_mut.ensures.value in
    cc (found, read, c.in-None.ensures.value)

pub returns-clause-found : goal.returns-clause-found
returns-clause-found c =
    let found : slice_get c.self.inside.slots.items c.args.place ≡ Some (Some c.requires.0) =
    ap (λ (h : HubValue). slice_get h.slots c.args.place) c.self.view_is ∙ c.requires.1 in
    let within : c.args.place < length c.self.inside.slots.items =
    found_within c.self.inside.slots.items c.args.place (Some c.requires.0) found in
    let read : slice_get c.self.inside.slots.items c.args.place ≡ Some c.index_mut.result.now =
    found_at c.self.inside.slots.items c.args.place c.index_mut.result.now within
    c.index_mut.ensures.value in
    subst (λ (h : HubValue). IsAt h c.args.place c.in-Some.link) c.self.view_is (read
    ∙ ap Some (sym c.in-Some.ensures.value))
