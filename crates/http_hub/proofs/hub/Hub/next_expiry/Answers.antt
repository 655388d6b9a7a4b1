use Rattle.std.proofs.Common.{◌≡◌, ◌∙◌, ◌<◌, ◌≤◌, ◌+◌, ◌||◌, List, Option, length, ap, sym, subst}
use Rattle.std.proofs.Common.{take, arith}
use Rattle.std.proofs.lemmas.List.{take_all}
use Rattle.http_hub.specs.Hubs.{HubValue, any_expired, is_expired_slot}
use Rattle.http_hub.specs.Links.{IsFirstTime, LinkValue}
use Rattle.http_hub.specs.PlaceCounts.{AreOpenBelow}
use Rattle.http_hub.proofs.ExpiryLemmas.{any_more, first_time_as}
use Rattle.http_hub.proofs.PlaceCountLemmas.{any_below}
use Rattle.http_hub.proofs.hub.Hub.next_expiry.Goals as goal

pub loop-link-preserved : goal.loop-link-preserved
loop-link-preserved c =
    let items = take c.self.inside.places_end c.deref.result.now in
    let i = c.loop-link.link-index in
    let within : i < length items = omega arith in
    first_time_as (λ now. any_expired (take i items) now c.args.patience || is_expired_slot now
    c.args.patience c.link-item.result)
    (λ now. any_expired (take (i + 1) items) now c.args.patience) c.earlier-next.result
    (λ now. any_more items i c.link-item.result now c.args.patience within c.link-item.is)
    (c.earlier-next.ensures (λ now. any_expired (take i items) now c.args.patience)
    (λ now. is_expired_slot now c.args.patience c.link-item.result)
    c.loop-link.invariant c.slot_expiry.ensures)

pub returns : goal.returns
returns c =
    let items = take c.self.inside.places_end c.deref.result.now in
    let i = c.loop-link.link-index in
    let past : length items ≤ i = omega arith in
    let slots_are : c.deref.result.now ≡ c.args.self.now.slots = c.deref.ensures.value
    ∙ ap (λ (h : HubValue). h.slots) c.self.view_is in
    let some : IsFirstTime (λ now. any_expired items now c.args.patience) c.loop-link.next =
    subst (λ (xs : List (Option LinkValue)). IsFirstTime (λ now. any_expired xs now c.args.patience)
    c.loop-link.next) (take_all i items past) c.loop-link.invariant in
    subst (λ (xs : List (Option LinkValue)). IsFirstTime (λ now. any_expired xs now c.args.patience)
    c.loop-link.next) slots_are
    (first_time_as (λ now. any_expired items now c.args.patience)
    (λ now. any_expired c.deref.result.now now c.args.patience) c.loop-link.next
    (λ now. any_below c.deref.result.now c.self.inside.places_end now c.args.patience
    (subst (λ (xs : List (Option LinkValue)). AreOpenBelow xs c.self.inside.places_end)
    (sym c.deref.ensures.value) c.self.invariant.below)) some)
