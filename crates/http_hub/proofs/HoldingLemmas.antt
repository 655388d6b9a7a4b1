-- What the connections of a hub hold, after each change of a place. Given here: an induction over
-- the places (`total_set`), by which a write takes one part of the sum away and adds another;
-- whether a load is small or large, before and after; and for each change of a link, that it holds
-- no more or that it fits.
use Rattle.std.proofs.Common.{◌≡◌, ◌∙◌, ◌==◌, ◌+◌, ◌-◌, ◌≤◌, ◌<◌, ◌≢◌, ◌⊎◌, ℕ, zero, suc, Bool}
use Rattle.std.proofs.Common.{true, false, List, [], ◌∷◌, Option, Some, None, inl, inr, refl, sym}
use Rattle.std.proofs.Common.{ap, subst, arith, drop, eq-eqb, length, replicate, slice_get}
use Rattle.std.proofs.Common.{slice_set}
use Rattle.std.proofs.lemmas.List.Sums.{sum_by-cons}
use Rattle.std.proofs.lemmas.Bool.{eqb-true}
use Rattle.std.proofs.lemmas.Bool.Decides.{eqb_tells, leb_tells}
use Rattle.std.proofs.Math.Dec.{eqb, leb}
use Rattle.http_requests.specs.HandlerRuns.{HandlerRelation, FaultReplies}
use Rattle.http_hub.specs.BoundedHubs.{ReceivesWithin, SettlesAt, fits_at, may_hold}
use Rattle.http_hub.specs.Holdings.{AreWithin, large_at, large_part, large_total, load_of}
use Rattle.http_hub.specs.Holdings.{most_small, request_load}
use Rattle.http_hub.specs.Hubs.{EndsAt, HubValue, IsAt, IsOpenAt, OpensAt, ReceivesAt, SendsAt}
use Rattle.http_hub.specs.Hubs.{with_link}
use Rattle.http_hub.specs.Links.{LinkValue, link_after_failure, link_after_refusal, link_after_sent}
use Rattle.http_hub.specs.Links.{new_link, reply_length_after}
use Rattle.http_hub.proofs.HubLemmas.{refused_piece}
use Rattle.http_hub.proofs.PlaceLemmas.{set_other, set_same}

-- ---- the sum, after a place was written

total_cons : (link : Option LinkValue) (slots : List (Option LinkValue))
    → large_total (link ∷ slots) ≡ large_at link + large_total slots
total_cons link slots = sum_by-cons large_at link slots

-- what was at the place isn't counted any more, and what is there now is
pub total_set : (slots : List (Option LinkValue)) (place : ℕ) (old new : Option LinkValue)
    → slice_get slots place ≡ Some old
    → large_total (slice_set slots place new) + large_at old ≡ large_total slots + large_at new
total_set [] place old new found = cc found
total_set (link ∷ slots) zero old new found =
    let same : link ≡ old = cc found in
    omega (arith, total_cons link slots, total_cons new slots, ap large_at same)
total_set (link ∷ slots) (suc place) old new found =
    omega (
      arith,
      total_set slots place old new found,
      total_cons link slots,
      total_cons link (slice_set slots place new),
    )

-- a connection holds no more than all
pub part_of_total : (slots : List (Option LinkValue)) (place : ℕ) (link : Option LinkValue)
    → slice_get slots place ≡ Some link → large_at link ≤ large_total slots
part_of_total slots place link found = let changed = total_set slots place link None found in
    omega (arith, changed)

pub total_none : (limit : ℕ) → large_total (replicate limit None) ≡ 0
total_none zero = refl
total_none (suc limit) = let more = total_cons None (replicate limit None) in let rest =
    total_none limit in omega (arith, more, rest)

-- ---- what a connection holds, after each change of its link

large_by : (load : ℕ) → ((leb load most_small ≡ true) × (load ≤ most_small))
    ⊎ ((leb load most_small ≡ false) × (most_small < load))
    → ((large_part load ≡ 0) × (load ≤ most_small))
    ⊎ ((large_part load ≡ load) × (most_small < load))
large_by load (inl few) = inl (rw few.0 refl, few.1)
large_by load (inr many) = inr (rw many.0 refl, many.1)

-- nothing of a small load counts, and all of a large one
pub large_cases : (load : ℕ) → ((large_part load ≡ 0) × (load ≤ most_small))
    ⊎ ((large_part load ≡ load) × (most_small < load))
large_cases load = large_by load (leb_tells load most_small)

less_by : (less more : ℕ) → less ≤ more → ((large_part less ≡ 0) × (less ≤ most_small))
    ⊎ ((large_part less ≡ less) × (most_small < less))
    → ((large_part more ≡ 0) × (more ≤ most_small))
    ⊎ ((large_part more ≡ more) × (most_small < more)) → large_part less ≤ large_part more
less_by less more fewer (inl small) other = omega (arith, small.0)
less_by less more fewer (inr large) (inl small) = omega (arith, large.1, small.1, fewer)
less_by less more fewer (inr large) (inr too) = omega (arith, large.0, too.0, fewer)

large_less : (less more : ℕ) → less ≤ more → large_part less ≤ large_part more
large_less less more fewer = less_by less more fewer (large_cases less) (large_cases more)

held_less : (before : ℕ) (pending : List ℕ) → reply_length_after before pending ≤ before
held_less before [] = omega arith
held_less before (octet ∷ pending) = omega arith

pub sent_holds_less : (link : LinkValue) (count now : ℕ)
    → large_part (load_of (link_after_sent link count now)) ≤ large_part (load_of link)
sent_holds_less link count now =
    let request : ℕ = request_load link.session link.request_length in
    let left = held_less link.reply_length (drop count link.pending) in
    large_less (request + reply_length_after link.reply_length (drop count link.pending))
    (request + link.reply_length) (omega (arith, left))

pub failed_holds_less : (link : LinkValue) → large_part (load_of (link_after_failure link)) ≤
    large_part (load_of link)
failed_holds_less link =
    let request : ℕ = request_load link.session link.request_length in
    large_less (0 + link.reply_length) (request + link.reply_length) (omega arith)

refused_by : (load : ℕ) → load ≤ most_small → ((large_part load ≡ 0) × (load ≤ most_small))
    ⊎ ((large_part load ≡ load) × (most_small < load)) → large_part load ≡ 0
refused_by load few (inl small) = small.0
refused_by load few (inr large) = let more = large.1 in absurd (omega (arith, few, more))

pub refused_holds_none : (link : LinkValue) (reply : List ℕ) (now : ℕ) → length reply ≤ most_small
    → large_part (load_of (link_after_refusal link reply now)) ≡ 0
refused_holds_none link reply now small =
    refused_by (0 + length reply) (omega (arith, small)) (large_cases (0 + length reply))

-- ---- the bound

-- a place that comes to hold no more keeps the bound
pub within_set : (most : ℕ) (slots : List (Option LinkValue)) (place : ℕ) (old new :
    Option LinkValue) → slice_get slots place ≡ Some old → large_at new ≤ large_at old
    → AreWithin most slots → AreWithin most (slice_set slots place new)
within_set most slots place old new found less (inl few) =
    let changed = total_set slots place old new found in inl (omega (arith, changed, less, few))
within_set most slots place old new found less (inr (one, link, at, all)) =
    by_place (one == place) refl
  where
    changed : large_total (slice_set slots place new) + large_at old ≡ large_total slots + large_at
        new
    changed = total_set slots place old new found

    by_place : (b : Bool) → (one == place) ≡ b → AreWithin most (slice_set slots place new)
    by_place true e =
        let here : slice_get slots place ≡ Some link =
        ap (λ n. slice_get slots n) (sym (eqb-true one place e)) ∙ at in
        let same : link ≡ old = cc (here, found) in
        inr (
          place,
          new,
          set_same slots place new old found,
          omega (
            arith,
            changed,
            all,
            ap large_at same,
          ),
        )
    by_place false e =
        let apart : place ≡ one → ⊥ = λ same. cc (eq-eqb one place (sym same), e) in
        let without : slice_get (slice_set slots place None) one ≡ Some link =
        set_other slots place one None apart ∙ at in
        let there : slice_get (slice_set slots place new) one ≡ Some link =
        set_other slots place one new apart ∙ at in
        let rest = total_set slots place old None found in
        let part = part_of_total (slice_set slots place None) one link without in
        inr (one, link, there, omega (arith, changed, all, rest, part, less))

-- ---- a piece

fitting_by : (most : ℕ) (slots before : List (Option LinkValue)) (place : ℕ) (old :
    Option LinkValue) (link : LinkValue) (own others : ℕ) → own ≡ large_at (Some link)
    → others ≡ large_total slots - own
    → slice_get before place ≡ Some old → slots ≡ slice_set before place (Some link)
    → slice_get slots place ≡ Some (Some link) → may_hold most own others ≡ true
    → AreWithin most before
    → ((eqb own 0 ≡ true) × (own ≡ 0)) ⊎ ((eqb own 0 ≡ false) × (own ≢ 0))
    → ((eqb others 0 ≡ true) × (others ≡ 0)) ⊎ ((eqb others 0 ≡ false) × (others ≢ 0))
    → ((leb (own + others) most ≡ true) × (own + others ≤ most))
    ⊎ ((leb (own + others) most ≡ false) × (most < own + others)) → AreWithin most slots
fitting_by most slots before place old link own others own_is others_are found is at fits within
    (inl none) b c =
    let nothing : large_at (Some link) ≤ large_at old = omega (arith, own_is, none.1) in
    subst (λ (xs : List (Option LinkValue)). AreWithin most xs) (sym is) (within_set most before
    place old (Some link) found nothing within)
fitting_by most slots before place old link own others own_is others_are found is at fits within
    (inr some) (inl none) c =
    let part = part_of_total slots place (Some link) at in
    inr (place, Some link, at, omega (arith, own_is, others_are, none.1, part))
fitting_by most slots before place old link own others own_is others_are found is at fits within
    (inr some) (inr more) (inl few) =
    let part = part_of_total slots place (Some link) at in
    inl (omega (arith, own_is, others_are, few.1, part))
fitting_by most slots before place old link own others own_is others_are found is at fits within
    (inr some) (inr more) (inr many) =
    let no : false ≡ true = rw (some.0, more.0, many.0) at fits in absurd (cc no)

-- what a connection may hold keeps the bound
pub fitting_within : (most : ℕ) (slots before : List (Option LinkValue)) (place : ℕ) (old :
    Option LinkValue) (link : LinkValue) → slice_get before place ≡ Some old
    → slots ≡ slice_set before place (Some link)
    → slice_get slots place ≡ Some (Some link)
    → may_hold most (large_at (Some link)) (large_total slots - large_at (Some link)) ≡ true
    → AreWithin most before → AreWithin most slots
fitting_within most slots before place old link found is at fits within =
    let own : ℕ = large_at (Some link) in
    let others : ℕ = large_total slots - own in
    fitting_by most slots before place old link own others refl refl found is at fits within
    (eqb_tells own 0) (eqb_tells others 0) (leb_tells (own + others) most)

-- ---- the sum that a hub keeps

-- what the call of a place's part answers, where the place has this connection
abbrev pub IsPartAt : HubValue → ℕ → ℕ → Type 0
IsPartAt hub place part = (link : LinkValue) → IsAt hub place link
    → part ≡ large_part (load_of link)

-- the others have the rest
pub others_of : (sum part place : ℕ) (hub : HubValue) → sum ≡ large_total hub.slots
    → IsPartAt hub place part → (link : LinkValue) → IsAt hub place link
    → large_total hub.slots ≡ (sum - part) + large_at (Some link)
others_of sum part place hub sum_is part_is link at =
    let within = part_of_total hub.slots place (Some link) at in
    let own = part_is link at in
    omega (arith, sum_is, own, within)

pub opened_sum : (sum place now : ℕ) (old new : HubValue) → sum ≡ large_total old.slots
    → OpensAt place old now new → sum ≡ large_total new.slots
opened_sum sum place now old new sum_is opens =
    let slots_are : new.slots ≡ slice_set old.slots place (Some (new_link old.opened now)) =
    ap (λ (h : HubValue). h.slots) opens.after_is in
    let changed = total_set old.slots place None (Some (new_link old.opened now)) opens.was_free in
    let same = ap large_total slots_are in
    omega (arith, sum_is, changed, same)

pub ended_sum : (sum part place : ℕ) (old new : HubValue) → sum ≡ large_total old.slots
    → IsPartAt old place part → EndsAt place old new → sum - part ≡ large_total new.slots
ended_sum sum part place old new sum_is part_is ends =
    let slots_are : new.slots ≡ slice_set old.slots place None =
    ap (λ (h : HubValue). h.slots) ends.after_is in
    let changed = total_set old.slots place (Some ends.link) None ends.found in
    let same = ap large_total slots_are in
    let own = part_is ends.link ends.found in
    omega (arith, sum_is, changed, same, own)

-- a place whose connection was changed still has one
pub open_changed : (place : ℕ) (link next : LinkValue) (old new : HubValue) → IsAt old place link
    → new ≡ with_link old place next → IsOpenAt new place
open_changed place link next old new at new_is = (
  next,
  ap (λ (h : HubValue). slice_get h.slots place) new_is
      ∙ set_same old.slots place (Some next) (Some link) at,
)

-- a place whose connection was changed
pub changed_sum : (sum part own place : ℕ) (link next : LinkValue) (old new : HubValue)
    → sum ≡ large_total old.slots → IsAt old place link → new ≡ with_link old place next
    → IsPartAt old place part → IsPartAt new place own → (sum - part) + own ≡ large_total new.slots
changed_sum sum part own place link next old new sum_is at new_is part_is own_is =
    let slots_are : new.slots ≡ slice_set old.slots place (Some next) =
    ap (λ (h : HubValue). h.slots) new_is in
    let there : slice_get new.slots place ≡ Some (Some next) =
    ap (λ (xs : List (Option LinkValue)). slice_get xs place) slots_are
    ∙ set_same old.slots place (Some next) (Some link) at in
    let changed = total_set old.slots place (Some link) (Some next) at in
    let same = ap large_total slots_are in
    let before = part_is link at in
    let after = own_is next there in
    let within = part_of_total old.slots place (Some link) at in
    omega (arith, sum_is, changed, same, before, after, within)

pub sent_sum : (sum part next place count now : ℕ) (old new : HubValue)
    → sum ≡ large_total old.slots → IsPartAt old place part → SendsAt place old count now new
    → IsPartAt new place next
    → (sum - part) + next ≡ large_total new.slots
sent_sum sum part next place count now old new sum_is part_is sends next_is =
    changed_sum sum part next place sends.link (link_after_sent sends.link count now) old new sum_is
    sends.found sends.after_is part_is next_is

module _ {State : Type 0} (does : HandlerRelation State) (fault_reply : FaultReplies) where
  pub open_received : (most place : ℕ) (before : HubValue) (old : State) (piece : List ℕ) (now : ℕ)
      (new : State) (after : HubValue) → ReceivesWithin does fault_reply most place before old piece
      now new after
      → IsOpenAt after place
  open_received most place before old piece now new after (inl fits) = (fits.link, fits.at)
  open_received most place before old piece now new after (inr (inl failed)) =
      open_changed place failed.link (link_after_failure failed.link) before after failed.found
      failed.after_is
  open_received most place before old piece now new after (inr (inr large)) =
      let r = large.refused.refused in
      open_changed place r.link (link_after_refusal r.link large.reply now) large.refused.full after
      r.found r.after_is

  pub received_sum : (sum part next most place : ℕ) (before : HubValue) (old : State) (piece :
      List ℕ) (now : ℕ) (new : State) (after : HubValue) → sum ≡ large_total before.slots
      → IsPartAt before place part → ReceivesWithin does fault_reply most place before old piece now
      new after → IsPartAt after place next → (sum - part) + next ≡ large_total after.slots
  received_sum sum part next most place before old piece now new after sum_is part_is (inl fits)
      next_is =
      let r = fits.received in
      changed_sum sum part next place r.link r.next before after sum_is r.found r.after_is part_is
      next_is
  received_sum sum part next most place before old piece now new after sum_is part_is
      (inr (inl failed)) next_is =
      changed_sum sum part next place failed.link (link_after_failure failed.link) before after
      sum_is failed.found failed.after_is part_is next_is
  received_sum sum part next most place before old piece now new after sum_is part_is
      (inr (inr large)) next_is =
      let r = large.refused.received in
      changed_sum sum part next place r.link (link_after_refusal r.link large.reply now) before
      after sum_is r.found (refused_piece does fault_reply place before old piece large.reply now
      new after large.refused) part_is next_is

-- ---- the sum stays small

-- a place that comes to hold no more
pub total_less : (most place : ℕ) (link next : LinkValue) (old new : HubValue)
    → IsAt old place link → new ≡ with_link old place next
    → large_part (load_of next) ≤ large_part (load_of link) → large_total old.slots ≤ most
    → large_total new.slots ≤ most
total_less most place link next old new at new_is less few =
    let slots_are : new.slots ≡ slice_set old.slots place (Some next) =
    ap (λ (h : HubValue). h.slots) new_is in
    let changed = total_set old.slots place (Some link) (Some next) at in
    let same = ap large_total slots_are in
    omega (arith, changed, same, less, few)

pub sent_total : (most place count now : ℕ) (old new : HubValue) → SendsAt place old count now new
    → large_total old.slots ≤ most → large_total new.slots ≤ most
sent_total most place count now old new sends few =
    total_less most place sends.link (link_after_sent sends.link count now) old new sends.found
    sends.after_is (sent_holds_less sends.link count now) few

held_by : (most own others : ℕ) → may_hold most own others ≡ true
    → ((eqb own 0 ≡ true) × (own ≡ 0)) ⊎ ((eqb own 0 ≡ false) × (own ≢ 0))
    → ((eqb others 0 ≡ true) × (others ≡ 0)) ⊎ ((eqb others 0 ≡ false) × (others ≢ 0))
    → ((leb (own + others) most ≡ true) × (own + others ≤ most))
    ⊎ ((leb (own + others) most ≡ false) × (most < own + others)) → (own ≡ 0)
    ⊎ ((others ≡ 0) ⊎ (own + others ≤ most))
held_by most own others fits (inl none) b c = inl none.1
held_by most own others fits (inr some) (inl none) c = inr (inl none.1)
held_by most own others fits (inr some) (inr more) (inl few) = inr (inr few.1)
held_by most own others fits (inr some) (inr more) (inr many) = let no : false ≡ true =
    rw (some.0, more.0, many.0) at fits in absurd (cc no)

held_cases : (most own others : ℕ) → may_hold most own others ≡ true → (own ≡ 0)
    ⊎ ((others ≡ 0) ⊎ (own + others ≤ most))
held_cases most own others fits = held_by most own others fits (eqb_tells own 0)
    (eqb_tells others 0) (leb_tells (own + others) most)

fits_total : (bound most next old_part total before : ℕ) → before ≤ bound → most ≤ bound
    → next ≤ bound → next ≤ total → total + old_part ≡ before + next
    → (next ≡ 0) ⊎ ((total - next ≡ 0) ⊎ (next + (total - next) ≤ most)) → total ≤ bound
fits_total bound most next old_part total before few small held within changed (inl none) =
    omega arith
fits_total bound most next old_part total before few small held within changed (inr (inl alone)) =
    omega arith
fits_total bound most next old_part total before few small held within changed (inr (inr fitting)) =
    omega arith

module _ {State : Type 0} (does : HandlerRelation State) (fault_reply : FaultReplies) where
  pub received_total : (bound next most place : ℕ) (before : HubValue) (old : State) (piece :
      List ℕ) (now : ℕ) (new : State) (after : HubValue) → large_total before.slots ≤ bound
      → most ≤ bound → next ≤ bound
      → ReceivesWithin does fault_reply most place before old piece now new after
      → IsPartAt after place next → large_total after.slots ≤ bound
  received_total bound next most place before old piece now new after few small held (inl fits)
      next_is =
      let r = fits.received in
      let slots_are : after.slots ≡ slice_set before.slots place (Some r.next) =
      ap (λ (h : HubValue). h.slots) r.after_is in
      let there : slice_get after.slots place ≡ Some (Some r.next) =
      ap (λ (xs : List (Option LinkValue)). slice_get xs place) slots_are
      ∙ set_same before.slots place (Some r.next) (Some r.link) r.found in
      let changed = total_set before.slots place (Some r.link) (Some r.next) r.found in
      let same = ap large_total slots_are in
      let own_last = next_is r.next there in
      let own = next_is fits.link fits.at in
      let within = part_of_total after.slots place (Some fits.link) fits.at in
      let total : ℕ = large_total after.slots in
      let cases : (next ≡ 0) ⊎ ((total - next ≡ 0) ⊎ (next + (total - next) ≤ most)) =
      held_cases most next (total - next) (subst (λ n. may_hold most n (total - n) ≡ true) (sym own)
      fits.fits) in
      fits_total bound most next (large_at (Some r.link)) total (large_total before.slots) few small
      held (omega (arith, own, within)) (omega (arith, changed, same, own_last)) cases
  received_total bound next most place before old piece now new after few small held
      (inr (inl failed)) next_is =
      total_less bound place failed.link (link_after_failure failed.link) before after failed.found
      failed.after_is (failed_holds_less failed.link) few
  received_total bound next most place before old piece now new after few small held
      (inr (inr large)) next_is =
      let r = large.refused.received in
      let none = refused_holds_none r.link large.reply now large.small in
      total_less bound place r.link (link_after_refusal r.link large.reply now) before after r.found
      (refused_piece does fault_reply place before old piece large.reply now new after
      large.refused) (omega (arith, none)) few

-- ---- a piece that was fed, and what was settled then

-- the others hold what they held
pub others_after : (others place : ℕ) (was next : LinkValue) (before full : HubValue)
    → IsAt before place was → full ≡ with_link before place next
    → large_total before.slots ≡ others + large_at (Some was) → (link : LinkValue)
    → IsAt full place link → large_total full.slots ≡ others + large_at (Some link)
others_after others place was next before full found full_is all link at =
    let slots_are : full.slots ≡ slice_set before.slots place (Some next) =
    ap (λ (h : HubValue). h.slots) full_is in
    let there : slice_get full.slots place ≡ Some (Some next) =
    ap (λ (xs : List (Option LinkValue)). slice_get xs place) slots_are
    ∙ set_same before.slots place (Some next) (Some was) found in
    let same : link ≡ next = cc (at, there) in
    let changed = total_set before.slots place (Some was) (Some next) found in
    let total = ap large_total slots_are in
    let own = ap (λ (l : LinkValue). large_at (Some l)) same in
    omega (arith, changed, total, own, all)

module _ {State : Type 0} (does : HandlerRelation State) (fault_reply : FaultReplies) where
  pub settled : (most place : ℕ) (before : HubValue) (old : State) (piece : List ℕ) (now : ℕ) (new :
      State) (full after : HubValue) → ReceivesAt does fault_reply place before old piece now new
      full
      → SettlesAt fault_reply most place full now after
      → ReceivesWithin does fault_reply most place before old piece now new after
  settled most place before old piece now new full after received (inl kept) = inl (record {
    received = subst (λ (h : HubValue). ReceivesAt does fault_reply place before old piece now new
        h) (sym kept.after_is) received;
    link = kept.link;
    at = subst (λ (h : HubValue). IsAt h place kept.link) (sym kept.after_is) kept.at;
    fits = subst (λ (h : HubValue). fits_at most h kept.link ≡ true) (sym kept.after_is) kept.fits;
  })
  settled most place before old piece now new full after received (inr large) = inr (inr (record {
    reply = large.reply;
    refused = record {
      full = full;
      received = received;
      reply_is = large.reply_is;
      refused = large.refused;
    };
    link = large.link;
    at = large.at;
    too_large = large.too_large;
    small = large.small;
  }))
