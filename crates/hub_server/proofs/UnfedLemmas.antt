-- The octets that were read of each connection and not fed yet, and the steps of the hub.
use Rattle.std.proofs.Common.{◌≡◌, ◌∙◌, ◌==◌, ◌<◌, ◌≤◌, ℕ, zero, suc, Bool, true, false, List, []}
use Rattle.std.proofs.Common.{◌∷◌, Option, Some, None, refl, sym, ap, subst}
use Rattle.std.proofs.Common.{arith, cond, length, slice_get, slice_set, take}
use Rattle.std.proofs.lemmas.Bool.{eqb-false, eqb-true, eq-eqb, ne_eqb}
use Rattle.std.proofs.lemmas.List.{length-take-le}
use Rattle.http_hub.specs.Hubs.{HubValue, IsAt, OpensAt, SendsAt}
use Rattle.http_hub.specs.Hubs.{with_link, with_slot}
use Rattle.http_hub.specs.Links.{LinkValue}
use Rattle.http_hub.specs.Links.{new_link}
use Rattle.http_hub.proofs.PlaceLemmas.{set_other, set_same}
use Rattle.hub_server.specs.Seats.{SeatValue, new_seat}
use Rattle.hub_server.specs.Servers.{IsSeatedAt, ServerValue, new_server, with_seat}
use Rattle.hub_server.proofs.NumberLemmas.{AreNumbered, none_there, numbered_changed}
use Rattle.hub_server.proofs.NumberLemmas.{numbered_ended, numbered_new, numbered_opened}

-- ---- the octets that were read of each connection and not fed

-- these are the octets that were read of each connection and not fed yet, by its serial number
pub record AreUnfed (a : ServerValue) (held : ℕ → List ℕ) : Type 0 where
  pub numbered : AreNumbered a.hub
  pub there : (place : ℕ) (link : LinkValue) (seat : SeatValue) → IsSeatedAt a place link seat
      → held link.serial ≡ seat.unfed
  pub none_later : (serial : ℕ) → a.hub.opened ≤ serial → held serial ≡ []

-- other octets of one connection
abbrev pub with_held : (ℕ → List ℕ) → ℕ → List ℕ → ℕ → List ℕ
with_held held serial octets connection = cond (serial == connection) octets (held connection)

held_same : (b : Bool) (octets old : List ℕ) → b ≡ true → cond b octets old ≡ octets
held_same true octets old is = refl
held_same false octets old is = absurd (cc is)

held_other : (b : Bool) (octets old : List ℕ) → b ≡ false → cond b octets old ≡ old
held_other true octets old is = absurd (cc is)
held_other false octets old is = refl

with_same : (held : ℕ → List ℕ) (serial connection : ℕ) (octets : List ℕ) → serial ≡ connection
    → with_held held serial octets connection ≡ octets
with_same held serial connection octets same =
    held_same (serial == connection) octets (held connection) (eq-eqb serial connection same)

with_other : (held : ℕ → List ℕ) (serial connection : ℕ) (octets : List ℕ)
    → (serial ≡ connection → ⊥) → with_held held serial octets connection ≡ held connection
with_other held serial connection octets apart =
    held_other (serial == connection) octets (held connection) (ne_eqb serial connection apart)

-- a change of the place of one connection, which stays there
module _ (a b : ServerValue) (held : ℕ → List ℕ) (unfed : AreUnfed a held) (place : ℕ)
    (link after : LinkValue) (seat next : SeatValue) (seated : IsSeatedAt a place link seat)
    (kept : after.serial ≡ link.serial) (hub : HubValue)
    (hub_is : hub ≡ with_link a.hub place after) (is : b ≡ with_seat a place hub next) where
  changed_hub : b.hub ≡ with_link a.hub place after
  changed_hub = ap (λ (x : ServerValue). x.hub) is ∙ hub_is

  changed_there : (other : ℕ) (one : LinkValue) (its : SeatValue) (t : Bool) → (place == other) ≡ t
      → IsSeatedAt b other one its → with_held held link.serial next.unfed one.serial ≡ its.unfed
  changed_there other one its true e there =
      let same : place ≡ other = eqb-true place other e in
      let at : slice_get (slice_set a.hub.slots place (Some after)) place ≡ Some (Some one) =
      ap (λ (h : HubValue). slice_get h.slots place) (sym changed_hub)
      ∙ ap (λ n. slice_get b.hub.slots n) same ∙ there.at_link in
      let here : slice_get (slice_set a.hub.slots place (Some after)) place ≡ Some (Some after) =
      set_same a.hub.slots place (Some after) (Some link) seated.at_link in
      let link_is : after ≡ one = cc (at, here) in
      let seat_at : slice_get (slice_set a.seats place next) place ≡ Some its =
      ap (λ (x : ServerValue). slice_get x.seats place) (sym is)
      ∙ ap (λ n. slice_get b.seats n) same ∙ there.at_seat in
      let seat_here : slice_get (slice_set a.seats place next) place ≡ Some next =
      set_same a.seats place next seat seated.at_seat in
      let seat_is : next ≡ its = cc (seat_at, seat_here) in
      with_same held link.serial one.serial next.unfed
      (sym kept ∙ ap (λ (l : LinkValue). l.serial) link_is)
      ∙ ap (λ (x : SeatValue). x.unfed) seat_is
  changed_there other one its false e there =
      let apart : place ≡ other → ⊥ = eqb-false place other e in
      let at : slice_get a.hub.slots other ≡ Some (Some one) =
      sym (set_other a.hub.slots place other (Some after) apart)
      ∙ ap (λ (h : HubValue). slice_get h.slots other) (sym changed_hub) ∙ there.at_link in
      let seat_at : slice_get a.seats other ≡ Some its =
      sym (set_other a.seats place other next apart)
      ∙ ap (λ (x : ServerValue). slice_get x.seats other) (sym is) ∙ there.at_seat in
      with_other held link.serial one.serial next.unfed
      (λ same. apart (unfed.numbered.apart place other link one seated.at_link at same))
      ∙ unfed.there other one its (record { at_link = at; at_seat = seat_at })

  pub unfed_changed : AreUnfed b (with_held held link.serial next.unfed)
  unfed_changed = record {
    numbered = subst (λ (h : HubValue). AreNumbered h) (sym changed_hub)
        (numbered_changed a.hub unfed.numbered place link after seated.at_link kept);
    there = λ other one its there. changed_there other one its (place == other) refl there;
    none_later = λ serial later.
        let opened : b.hub.opened ≡ a.hub.opened = ap (λ (h : HubValue). h.opened) changed_hub in
        let earlier : link.serial < a.hub.opened =
        unfed.numbered.earlier place link seated.at_link in
        let past : a.hub.opened ≤ serial = subst (λ n. n ≤ serial) opened later in
        with_other held link.serial serial next.unfed (λ same. let is_it : link.serial
        ≡ serial = same in omega (arith, is_it, earlier, past)) ∙ unfed.none_later serial past;
  }

-- the connection of a place is closed
module _ (a b : ServerValue) (held : ℕ → List ℕ) (unfed : AreUnfed a held) (place : ℕ)
    (link : LinkValue) (found : IsAt a.hub place link)
    (hub : HubValue) (hub_is : hub ≡ with_slot a.hub place None) (is :
    b ≡ with_seat a place hub new_seat) where
  closed_hub : b.hub ≡ with_slot a.hub place None
  closed_hub = ap (λ (x : ServerValue). x.hub) is ∙ hub_is

  closed_there : (other : ℕ) (one : LinkValue) (its : SeatValue) (t : Bool) → (place == other) ≡ t
      → IsSeatedAt b other one its → held one.serial ≡ its.unfed
  closed_there other one its true e there =
      let same : place ≡ other = eqb-true place other e in
      let at : slice_get (slice_set a.hub.slots place None) place ≡ Some (Some one) =
      ap (λ (h : HubValue). slice_get h.slots place) (sym closed_hub)
      ∙ ap (λ n. slice_get b.hub.slots n) same ∙ there.at_link in
      let here : slice_get (slice_set a.hub.slots place None) place ≡ Some None =
      set_same a.hub.slots place None (Some link) found in
      absurd (cc (at, here))
  closed_there other one its false e there =
      let apart : place ≡ other → ⊥ = eqb-false place other e in
      let at : slice_get a.hub.slots other ≡ Some (Some one) =
      sym (set_other a.hub.slots place other None apart)
      ∙ ap (λ (h : HubValue). slice_get h.slots other) (sym closed_hub) ∙ there.at_link in
      let seat_at : slice_get a.seats other ≡ Some its =
      sym (set_other a.seats place other new_seat apart)
      ∙ ap (λ (x : ServerValue). slice_get x.seats other) (sym is) ∙ there.at_seat in
      unfed.there other one its (record { at_link = at; at_seat = seat_at })

  pub unfed_closed : AreUnfed b held
  unfed_closed = record {
    numbered = subst (λ (h : HubValue). AreNumbered h) (sym closed_hub)
        (numbered_ended a.hub unfed.numbered place link found);
    there = λ other one its there. closed_there other one its (place == other) refl there;
    none_later = λ serial later. unfed.none_later serial
        (subst (λ n. n ≤ serial) (ap (λ (h : HubValue). h.opened) closed_hub) later);
  }

-- a connection is accepted
seat_new : (seats : List SeatValue) (place : ℕ) (seat : SeatValue)
    → slice_get (slice_set seats place new_seat) place ≡ Some seat → new_seat ≡ seat
seat_new [] place seat found = absurd (cc found)
seat_new (x ∷ seats) zero seat found = cc found
seat_new (x ∷ seats) (suc place) seat found = seat_new seats place seat found

module _ (a b : ServerValue) (held : ℕ → List ℕ) (unfed : AreUnfed a held) (place : ℕ)
    (hub : HubValue) (opens : OpensAt place a.hub a.time hub) (seats_are :
    b.seats ≡ slice_set a.seats place new_seat) (is : b.hub ≡ hub) where
  opened_there : (other : ℕ) (one : LinkValue) (its : SeatValue) (t : Bool) → (place == other) ≡ t
      → IsSeatedAt b other one its → held one.serial ≡ its.unfed
  opened_there other one its true e there =
      let same : place ≡ other = eqb-true place other e in
      let opened : LinkValue = new_link a.hub.opened a.time in
      let at : slice_get (slice_set a.hub.slots place (Some opened)) place ≡ Some (Some one) =
      ap (λ (h : HubValue). slice_get h.slots place) (sym (is ∙ opens.after_is))
      ∙ ap (λ n. slice_get b.hub.slots n) same ∙ there.at_link in
      let here : slice_get (slice_set a.hub.slots place (Some opened)) place ≡ Some (Some opened) =
      set_same a.hub.slots place (Some opened) None opens.was_free in
      let link_is : opened ≡ one = cc (at, here) in
      let serial_is : a.hub.opened ≡ one.serial = ap (λ (l : LinkValue). l.serial) link_is in
      let seat_at : slice_get (slice_set a.seats place new_seat) place ≡ Some its =
      ap (λ (x : List SeatValue). slice_get x place) (sym seats_are)
      ∙ ap (λ n. slice_get b.seats n) same ∙ there.at_seat in
      unfed.none_later one.serial (omega (arith, serial_is))
      ∙ ap (λ (x : SeatValue). x.unfed) (seat_new a.seats place its seat_at)
  opened_there other one its false e there =
      let apart : place ≡ other → ⊥ = eqb-false place other e in
      let opened : LinkValue = new_link a.hub.opened a.time in
      let at : slice_get a.hub.slots other ≡ Some (Some one) =
      sym (set_other a.hub.slots place other (Some opened) apart)
      ∙ ap (λ (h : HubValue). slice_get h.slots other) (sym (is ∙ opens.after_is))
      ∙ there.at_link in
      let seat_at : slice_get a.seats other ≡ Some its =
      sym (set_other a.seats place other new_seat apart)
      ∙ ap (λ (x : List SeatValue). slice_get x other) (sym seats_are) ∙ there.at_seat in
      unfed.there other one its (record { at_link = at; at_seat = seat_at })

  pub unfed_opened : AreUnfed b held
  unfed_opened = record {
    numbered = subst (λ (h : HubValue). AreNumbered h) (sym (is ∙ opens.after_is))
        (numbered_opened a.hub unfed.numbered place a.time opens.was_free);
    there = λ other one its there. opened_there other one its (place == other) refl there;
    none_later = λ serial later.
        let opened : b.hub.opened ≡ suc a.hub.opened =
        ap (λ (h : HubValue). h.opened) (is ∙ opens.after_is) in
        unfed.none_later serial (omega (arith, opened, later));
  }

-- the hub and the unfed octets of each seat are the same
pub unfed_same : (a b : ServerValue) (held : ℕ → List ℕ) → AreUnfed a held → b.hub ≡ a.hub
    → ((place : ℕ) (seat : SeatValue) → slice_get b.seats place ≡ Some seat → (old : SeatValue)
    × (slice_get a.seats place ≡ Some old) × (old.unfed ≡ seat.unfed)) → AreUnfed b held
unfed_same a b held unfed hub_is seats_are = record {
  numbered = subst (λ (h : HubValue). AreNumbered h) (sym hub_is) unfed.numbered;
  there = λ place link seat seated.
      let old = seats_are place seat seated.at_seat in
      unfed.there place link old.0 (record {
        at_link = ap (λ (h : HubValue). slice_get h.slots
            place) (sym hub_is) ∙ seated.at_link;
        at_seat = old.1;
      }) ∙ old.2;
  none_later = λ serial later. unfed.none_later serial
      (subst (λ n. n ≤ serial) (ap (λ (h : HubValue). h.opened) hub_is) later);
}

-- the seat of one place is another, with the same unfed octets
seat_changed : (seats : List SeatValue) (place other : ℕ) (old next seat : SeatValue)
    → slice_get seats place ≡ Some old → old.unfed ≡ next.unfed
    → slice_get (slice_set seats place next) other ≡ Some seat
    → (t : Bool) → (place == other) ≡ t → (before : SeatValue)
    × (slice_get seats other ≡ Some before) × (before.unfed ≡ seat.unfed)
seat_changed seats place other old next seat found kept at true e =
    let same : place ≡ other = eqb-true place other e in
    let here : slice_get (slice_set seats place next) place ≡ Some next =
    set_same seats place next old found in
    let there : slice_get (slice_set seats place next) place ≡ Some seat =
    ap (λ n. slice_get (slice_set seats place next) n) same ∙ at in
    let next_is : next ≡ seat = cc (here, there) in (
      old,
      ap (λ n. slice_get seats n) (sym same) ∙ found,
      kept
          ∙ ap (λ (x : SeatValue). x.unfed) next_is,
    )
seat_changed seats place other old next seat found kept at false e =
    (seat, sym (set_other seats place other next (eqb-false place other e)) ∙ at, refl)

pub unfed_kept : (a b : ServerValue) (held : ℕ → List ℕ) → AreUnfed a held
    → (place : ℕ) (old next : SeatValue) → slice_get a.seats place ≡ Some old
    → old.unfed ≡ next.unfed → b ≡ with_seat a place a.hub next → AreUnfed b held
unfed_kept a b held unfed place old next found kept is =
    unfed_same a b held unfed (ap (λ (x : ServerValue). x.hub) is)
    (λ other seat at. seat_changed a.seats place other old next seat found kept
    (ap (λ (x : ServerValue). slice_get x.seats other) (sym is) ∙ at) (place == other) refl)

pub unfed_with : (a b : ServerValue) (held : ℕ → List ℕ) → AreUnfed a held → b.hub ≡ a.hub
    → b.seats ≡ a.seats → AreUnfed b held
unfed_with a b held unfed hub_is seats_are =
    unfed_same a b held unfed hub_is (λ place seat at. (
      seat,
      ap (λ (x : List SeatValue). slice_get x place) (sym seats_are) ∙ at,
      refl,
    ))

kept_by : (held : ℕ → List ℕ) (serial : ℕ) (octets : List ℕ) → held serial ≡ octets
    → (connection : ℕ) (t : Bool) → (serial == connection) ≡ t
    → with_held held serial octets connection ≡ held connection
kept_by held serial octets same connection true e =
    held_same (serial == connection) octets (held connection) e ∙ sym same
    ∙ ap held (eqb-true serial connection e)
kept_by held serial octets same connection false e =
    held_other (serial == connection) octets (held connection) e

-- octets of a connection are those that it had, where these are the same
pub with_kept : (held : ℕ → List ℕ) (serial : ℕ) (octets : List ℕ) → held serial ≡ octets
    → (connection : ℕ) → with_held held serial octets connection ≡ held connection
with_kept held serial octets same connection =
    kept_by held serial octets same connection (serial == connection) refl

-- ---- steps of the hub

set_found : {A : Type 0} (xs : List A) (i : ℕ) (x : A) → slice_get xs i ≡ Some x
    → slice_set xs i x ≡ xs
set_found [] i x found = refl
set_found (y ∷ xs) zero x found = let same : y ≡ x = cc found in ap (λ t. t ∷ xs) (sym same)
set_found (y ∷ xs) (suc i) x found = ap (λ t. y ∷ t) (set_found xs i x found)

-- a connection that doesn't change
pub hub_found : (hub : HubValue) (place : ℕ) (link : LinkValue) → IsAt hub place link
    → hub ≡ with_link hub place link
hub_found hub place link at =
    let hub_with : List (Option LinkValue) → HubValue = λ slots. record {
      slots = slots;
      opened = hub.opened;
    } in
    ap hub_with (sym (set_found hub.slots place (Some link) at))

pub sends_step : (place serial count now : ℕ) (offered : List ℕ) (before after : HubValue) (sends :
    SendsAt place before count now after) → sends.link.serial ≡ serial
    → offered ≡ sends.link.pending
    → (sent : SendsAt place before (length (take count offered)) now after)
    × (sent.link.serial ≡ serial) × (take count offered ≡ take (length (take count offered))
    sent.link.pending)
sends_step place serial count now offered before after sends serial_is offered_is =
    let fits : count ≤ length offered = subst (λ (t : List ℕ). count ≤ length t) (sym offered_is)
    sends.count_fits in
    let same : count ≡ length (take count offered) = sym (length-take-le count offered fits) in
    subst (λ n. (sent : SendsAt place before n now after) × (sent.link.serial ≡ serial)
    × (take count offered ≡ take n sent.link.pending)) same (
      sends,
      serial_is,
      ap (λ (t : List ℕ). take count t) offered_is,
    )

-- nothing was read before the start
pub new_unfed : (limit : ℕ) → AreUnfed (new_server limit) (λ serial. [])
new_unfed limit = record {
  numbered = numbered_new limit;
  there = λ place link seat seated. absurd (none_there limit place link seated.at_link);
  none_later = λ serial later. refl;
}
