-- What a hub knows of its places, after each change of one.
use Rattle.std.proofs.Common.{◌≡◌, ◌∙◌, ◌==◌, ◌+◌, ◌-◌, ◌<◌, ◌≤◌, ℕ, zero, suc, Bool, true, false}
use Rattle.std.proofs.Common.{List, [], ◌∷◌, Option, Some, None, refl, sym, ap, subst, arith}
use Rattle.std.proofs.Common.{count_by, is_some, length, replicate, slice_get, slice_set, max, take}
use Rattle.std.proofs.Common.{◌||◌}
use Rattle.std.proofs.lemmas.Bool.{eqb-false, eqb-true}
use Rattle.std.proofs.lemmas.List.Sums.{count_by-le-length}
use Rattle.http_hub.specs.Hubs.{any_expired, is_expired_slot}
use Rattle.http_hub.specs.Links.{LinkValue, new_link}
use Rattle.http_hub.specs.PlaceCounts.{AreOpenBelow, CountsPlaces}
use Rattle.http_hub.proofs.CountLemmas.{count_set}
use Rattle.http_hub.proofs.PlaceLemmas.{found_within, set_length, set_other}

-- ---- no connections

none_at : (limit place : ℕ) (link : LinkValue) → slice_get (replicate limit None) place
    ≡ Some (Some link) → ⊥
none_at zero place link e = cc e
none_at (suc limit) zero link e = cc e
none_at (suc limit) (suc place) link e = none_at limit place link e

none_counted : (limit : ℕ) → count_by is_some (replicate {A = Option LinkValue} limit None) ≡ 0
none_counted zero = refl
none_counted (suc limit) = none_counted limit

pub counts_none : (slots : List (Option LinkValue)) (limit : ℕ) → slots ≡ replicate limit None
    → CountsPlaces slots 0 0
counts_none slots limit is = subst (λ (xs : List (Option LinkValue)). CountsPlaces xs 0 0) (sym is)
    (record {
      counted = sym (none_counted limit);
      below = λ place link found. absurd (none_at limit place link found);
      within = omega arith;
    })

-- ---- another place is as it was

below_by : (slots : List (Option LinkValue)) (place : ℕ) (new : Option LinkValue) (end : ℕ)
    → AreOpenBelow slots end
    → (other : ℕ) (link : LinkValue) → (other ≡ place → ⊥)
    → slice_get (slice_set slots place new) other ≡ Some (Some link) → other < end
below_by slots place new end below other link apart found =
    below other link (sym (set_other slots place other new (λ e. apart (sym e))) ∙ found)

-- ---- a place gets a connection

opened_below : (slots : List (Option LinkValue)) (place end top : ℕ) (link : LinkValue)
    → AreOpenBelow slots end → end ≤ top → place < top
    → AreOpenBelow (slice_set slots place (Some link)) top
opened_below slots place end top link below more here other found_link found =
    by_place (other == place) refl
  where
    by_place : (t : Bool) → (other == place) ≡ t → other < top
    by_place true e = let same : other ≡ place = eqb-true other place e in omega (arith, same, here)
    by_place false e = let there : other < end =
        below_by slots place (Some link) end below other found_link (eqb-false other place e)
        found in omega (arith, there, more)

pub counts_opened : (slots : List (Option LinkValue)) (count end place top : ℕ) (link : LinkValue)
    → CountsPlaces slots count end → slice_get slots place ≡ Some None → end ≤ top → place < top
    → top ≤ length slots
    → CountsPlaces (slice_set slots place (Some link)) (count + 1) top
counts_opened slots count end place top link counts free more here within = record {
  counted = let changed = count_set slots place None (Some link) free in
      omega (arith, changed, counts.counted);
  below = opened_below slots place end top link counts.below more here;
  within = let same : length (slice_set slots place (Some link)) ≡ length slots =
      set_length slots place (Some link) in omega (arith, same, within);
}

-- the bound after a place got a connection
pub later_end : (slots : List (Option LinkValue)) (place end top : ℕ)
    → slice_get slots place ≡ Some None → end ≤ length slots → top ≡ max end (place + 1)
    → (end ≤ top) × (place < top) × (top ≤ length slots)
later_end slots place end top free within is =
    let here : place < length slots = found_within slots place None free in
    (omega (arith, is), omega (arith, is), omega (arith, is, here, within))

-- fewer connections than places, while a place is free
pub count_fits : (slots : List (Option LinkValue)) (count end place : ℕ)
    → CountsPlaces slots count end → slice_get slots place ≡ Some None → count < length slots
count_fits slots count end place counts free =
    let link : LinkValue = new_link 0 0 in
    let changed = count_set slots place None (Some link) free in
    let few : count_by is_some (slice_set slots place (Some link)) ≤ length
    (slice_set slots place (Some link)) =
    count_by-le-length is_some (slice_set slots place (Some link)) in
    let same : length (slice_set slots place (Some link)) ≡ length slots =
    set_length slots place (Some link) in
    omega (arith, changed, few, same, counts.counted)

-- ---- a place loses its connection

gone : (slots : List (Option LinkValue)) (place : ℕ) (link : LinkValue)
    → slice_get (slice_set slots place None) place ≡ Some (Some link) → ⊥
gone [] place link e = cc e
gone (x ∷ xs) zero link e = cc e
gone (x ∷ xs) (suc place) link e = gone xs place link e

closed_below : (slots : List (Option LinkValue)) (place end : ℕ) → AreOpenBelow slots end
    → AreOpenBelow (slice_set slots place None) end
closed_below slots place end below other link found = by_place (other == place) refl
  where
    by_place : (t : Bool) → (other == place) ≡ t → other < end
    by_place true e =
        let same : other ≡ place = eqb-true other place e in
        absurd (gone slots place link (subst (λ n. slice_get (slice_set slots place None) n
        ≡ Some (Some link)) same found))
    by_place false e = below_by slots place None end below other link (eqb-false other place e)
        found

pub counts_closed : (slots : List (Option LinkValue)) (count end place : ℕ) (link : LinkValue)
    → CountsPlaces slots count end → slice_get slots place ≡ Some (Some link)
    → CountsPlaces (slice_set slots place None) (count - 1) end
counts_closed slots count end place link counts found = record {
  counted = let changed = count_set slots place (Some link) None found in
      omega (arith, changed, counts.counted);
  below = closed_below slots place end counts.below;
  within = let same : length (slice_set slots place None) ≡ length slots =
      set_length slots place None in omega (arith, same, counts.within);
}

-- some connection is counted
pub count_some : (slots : List (Option LinkValue)) (count end place : ℕ) (link : LinkValue)
    → CountsPlaces slots count end → slice_get slots place ≡ Some (Some link) → 0 < count
count_some slots count end place link counts found =
    let changed = count_set slots place (Some link) None found in
    omega (arith, changed, counts.counted)

-- a smaller bound
pub counts_less : (slots : List (Option LinkValue)) (count end less : ℕ)
    → CountsPlaces slots count end → AreOpenBelow slots less → less ≤ end
    → CountsPlaces slots count less
counts_less slots count end less counts below smaller = record {
  counted = counts.counted;
  below = below;
  within = omega (arith, smaller, counts.within);
}

-- ---- expiry

no_place : (slots : List (Option LinkValue)) (link : Option LinkValue) (end : ℕ)
    → AreOpenBelow (link ∷ slots) (suc end) → AreOpenBelow slots end
no_place slots link end below place found_link found = let within : suc place < suc end =
    below (suc place) found_link found in omega (arith, within)

all_free : (slots : List (Option LinkValue)) (now patience : ℕ) → AreOpenBelow slots 0
    → any_expired slots now patience ≡ false
all_free [] now patience below = refl
all_free (None ∷ slots) now patience below =
    all_free slots now patience (λ place link found. let no : suc place < 0 = below (suc place) link
    found in absurd (omega (arith, no)))
all_free (Some link ∷ slots) now patience below = let no : 0 < 0 = below 0 link refl in
    absurd (omega (arith, no))

-- places without connections don't expire
pub any_below : (slots : List (Option LinkValue)) (end now patience : ℕ) → AreOpenBelow slots end
    → any_expired slots now patience ≡ any_expired (take end slots) now patience
any_below [] zero now patience below = refl
any_below [] (suc end) now patience below = refl
any_below (link ∷ slots) zero now patience below = all_free (link ∷ slots) now patience below
any_below (link ∷ slots) (suc end) now patience below =
    ap (λ t. is_expired_slot now patience link || t) (any_below slots end now patience
    (no_place slots link end below))
