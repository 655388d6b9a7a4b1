-- What the calls of a hub read and write.
use Rattle.std.proofs.Common.{◌≡◌, ◌∙◌, ℕ, List, Option, Some, None, Result, Ok, Err, sym, ap}
use Rattle.std.proofs.Common.{subst}
use Rattle.std.specs.Prelude.{OnErr}
use Rattle.std.proofs.lemmas.List.{set-set}
use Rattle.http_hub.specs.Hubs.{HubValue, IsAt, IsFreeAt, with_link, with_slot}
use Rattle.http_hub.specs.Links.{LinkValue}
use Rattle.http_hub.proofs.PlaceLemmas.{set_same}

-- a place whose connection was taken is free
pub free_after_take : (before taken : HubValue) (place : ℕ) (link : LinkValue)
    → IsAt before place link → taken ≡ with_slot before place None → IsFreeAt taken place
free_after_take before taken place link found is =
    subst (λ (hub : HubValue). IsFreeAt hub place) (sym is) (set_same before.slots place None
    (Some link) found)

-- a connection that is put back is at its place
pub with_put_back : (before taken after : HubValue) (place : ℕ) (next link : LinkValue)
    → taken ≡ with_slot before place None → after ≡ with_slot taken place (Some next)
    → next ≡ link → after ≡ with_link before place link
with_put_back before taken after place next link taken_is after_is same =
    let hub_with : List (Option LinkValue) → HubValue = λ slots. record {
      slots = slots;
      opened = before.opened;
    } in
    after_is ∙ ap (λ (hub : HubValue). with_slot hub place (Some next)) taken_is
    ∙ ap hub_with (set-set before.slots place None (Some next))
    ∙ ap (λ (one : LinkValue). with_link before place one) same

pub on_err_both : {A E : Type 0} (result : Result A E) (P Q R : Type 0) → (P → Q → R)
    → OnErr result P → OnErr result Q → OnErr result R
on_err_both (Ok value) P Q R f p q = tt
on_err_both (Err error) P Q R f p q = f p q
