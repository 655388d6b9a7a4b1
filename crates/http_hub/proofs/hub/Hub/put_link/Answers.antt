use Rattle.std.proofs.Common.{◌≡◌, ◌∙◌, Some, None, ap, slice_get}
use Rattle.http_hub.specs.Hubs.{HubValue}
use Rattle.http_hub.proofs.PlaceCountLemmas.{counts_opened, later_end}
use Rattle.http_hub.proofs.hub.Hub.put_link.Goals as goal

pub invariant_of-self : goal.invariant_of-self
invariant_of-self c =
    let free : slice_get c.self.inside.slots.items c.args.place ≡ Some None =
    ap (λ (h : HubValue). slice_get h.slots c.args.place) c.self.view_is ∙ c.requires in
    let end = later_end c.self.inside.slots.items c.args.place c.self.inside.places_end
    c.max-self-inside.result free c.self.invariant.within c.max-self-inside.ensures in
    counts_opened c.self.inside.slots.items c.self.inside.open_count c.self.inside.places_end
    c.args.place c.max-self-inside.result c.args.link c.self.invariant free end.0 end.1 end.2
