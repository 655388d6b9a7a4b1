use Rattle.std.proofs.Common.{◌≡◌, ◌≤◌, List, Option, Some, false, length, subst, slice_get, IsTrue}
use Rattle.http_hub.specs.Hubs.{HubValue, IsAt, IsOpenAt}
use Rattle.http_hub.specs.Links.{LinkValue}
use Rattle.http_hub.proofs.PlaceLemmas.{found_at, none_past_end, open_there}
use Rattle.http_hub.proofs.hub.Hub.is_open.Goals as goal

pub returns-in-Some : goal.returns-in-Some
returns-in-Some c =
    let found : slice_get c.self.inside.slots.items c.args.place ≡ Some c.in-Some.link.now =
    subst (λ (xs : List (Option LinkValue)). slice_get xs c.args.place ≡ Some c.in-Some.link.now)
    c.deref.ensures.value
    (found_at c.deref.result.now c.args.place c.in-Some.link.now c.in-Some.ensures.lookup.3.0
    c.in-Some.ensures.lookup.1) in
    subst (λ (h : HubValue). (IsTrue c.is_some.result → (x : LinkValue) × IsAt h c.args.place x)
    × (IsOpenAt h c.args.place → IsTrue c.is_some.result)) c.self.view_is
    (open_there c.self.inside.slots.items c.args.place c.in-Some.link.now c.is_some.result found
    c.is_some.ensures)

pub returns-in-None : goal.returns-in-None
returns-in-None c =
    let past : length c.self.inside.slots.items ≤ c.args.place =
    subst (λ (xs : List (Option LinkValue)). length xs ≤ c.args.place) c.deref.ensures.value
    c.in-None.ensures.lookup.3 in
    subst (λ (h : HubValue). (IsTrue false → (x : LinkValue) × IsAt h c.args.place x)
    × (IsOpenAt h c.args.place → IsTrue false)) c.self.view_is
    (none_past_end c.self.inside.slots.items c.args.place past)
