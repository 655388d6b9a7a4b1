-- The number of open connections after each operation.
use Rattle.std.proofs.Common.{◌≡◌, ◌∙◌, ◌+◌, ℕ, zero, suc, List, [], ◌∷◌, Option, Some, None, cond}
use Rattle.std.proofs.Common.{ap, arith, count_by, is_some, slice_get, slice_set}
use Rattle.std.proofs.lemmas.List.Sums.{sum_by-cons}
use Rattle.http_hub.specs.Hubs.{HubValue, OpensAt, open_count}
use Rattle.http_hub.specs.Links.{LinkValue, new_link}

-- 1 for a place with a connection
abbrev one_if_open : Option LinkValue → ℕ
one_if_open link = cond (is_some link) 1 0

count_cons : (link : Option LinkValue) (slots : List (Option LinkValue))
    → count_by is_some (link ∷ slots) ≡ one_if_open link + count_by is_some slots
count_cons link slots = sum_by-cons one_if_open link slots

-- at a place that is written, what was there is no longer counted, and what is there now is
pub count_set : (slots : List (Option LinkValue)) (place : ℕ) (old new : Option LinkValue)
    → slice_get slots place ≡ Some old
    → count_by is_some (slice_set slots place new) + one_if_open old ≡ count_by is_some slots +
    one_if_open new
count_set [] place old new found = cc found
count_set (link ∷ slots) zero old new found =
    let same : link ≡ old = cc found in
    omega (arith, count_cons link slots, count_cons new slots, ap one_if_open same)
count_set (link ∷ slots) (suc place) old new found =
    omega (
      arith,
      count_set slots place old new found,
      count_cons link slots,
      count_cons link (slice_set slots place new),
    )

-- one more is open
pub count_opened : (place now : ℕ) (before after : HubValue) → OpensAt place before now after
    → open_count after ≡ suc (open_count before)
count_opened place now before after opens =
    let link : LinkValue = new_link before.opened now in
    let changed = count_set before.slots place None (Some link) opens.was_free in
    let one_more : count_by is_some (slice_set before.slots place (Some link))
    ≡ suc (open_count before) = omega (arith, changed) in
    ap open_count opens.after_is ∙ one_more
