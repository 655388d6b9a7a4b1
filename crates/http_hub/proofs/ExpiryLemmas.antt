-- The first time at which a connection expires.
use Rattle.std.proofs.Common.{◌≡◌, ◌∙◌, ◌<◌, ◌+◌, ◌||◌, ℕ, Bool, true, false, List, [], ◌∷◌, ◌++◌}
use Rattle.std.proofs.Common.{Option, Some, None, refl, sym, ap, length, get_or, take}
use Rattle.std.specs.List.{list_any}
use Rattle.std.proofs.lemmas.List.{take_more}
use Rattle.std.proofs.lemmas.List.Folds.{list_any-append}
use Rattle.http_hub.specs.Hubs.{any_expired, is_expired_slot}
use Rattle.http_hub.specs.Links.{IsFirstTime, LinkValue}

-- two tests with the same outcomes
pub first_time_as : (f g : ℕ → Bool) (time : Option ℕ) → ((now : ℕ) → g now ≡ f now)
    → IsFirstTime f time → IsFirstTime g time
first_time_as f g None same first = λ now within. same now ∙ first now within
first_time_as f g (Some time) same first = λ now. same now ∙ first now

or_false : (b : Bool) → (b || false) ≡ b
or_false true = refl
or_false false = refl

-- one more place
pub any_more : (slots : List (Option LinkValue)) (i : ℕ) (link : Option LinkValue) (now patience :
    ℕ) → i < length slots → link ≡ get_or slots i link
    → any_expired (take (i + 1) slots) now patience ≡ (any_expired (take i slots) now patience
    || is_expired_slot now patience link)
any_more slots i link now patience within is =
    ap (list_any (is_expired_slot now patience)) (take_more slots i link within
    ∙ ap (λ (t : Option LinkValue). take i slots ++ t ∷ []) (sym is))
    ∙ list_any-append (is_expired_slot now patience) (take i slots) (link ∷ [])
    ∙ ap (λ t. any_expired (take i slots) now patience || t)
    (or_false (is_expired_slot now patience link))
