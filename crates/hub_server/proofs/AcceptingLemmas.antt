-- Accepting a connection at a free place.
use Rattle.std.proofs.Common.{◌≡◌, ◌∙◌, ◌<◌, ◌≤◌, ◌+◌, ◌-◌, ◌&&◌, ◌||◌, ℕ, zero, suc, Bool, true}
use Rattle.std.proofs.Common.{false, List, [], ◌∷◌, Option, Some, None, refl, sym, ap, subst, arith}
use Rattle.std.proofs.Common.{is_some, length, nat_le, nat_lt, slice_get, slice_set}
use Rattle.std.proofs.lemmas.Bool.{and_right, le-ltb, lt-leb}
use Rattle.std.proofs.lemmas.List.Sums.{count_by-le-length}
use Rattle.http_hub.specs.Hubs.{HubValue, IsAt, IsFreeAt, OpensAt, open_count}
use Rattle.http_hub.specs.Links.{LinkValue, has_expired, new_link}
use Rattle.http_hub.proofs.CountLemmas.{count_opened}
use Rattle.http_hub.proofs.PlaceLemmas.{set_length, set_other, set_same}
use Rattle.hub_server.specs.Acceptings.{AcceptsNext, FailsAccepting, FailsAfterActs, free_count}
use Rattle.hub_server.specs.EndpointRuns.{EndpointRelation, ReachesByActs}
use Rattle.hub_server.specs.Endpoints.EndpointEvent.{AcceptEvent, AcceptLater, AcceptNone}
use Rattle.hub_server.specs.Expiries.{KeepsNoneExpired, KeepsTurnsOver}
use Rattle.hub_server.specs.Needs.{KeepsOthers}
use Rattle.hub_server.specs.Seats.{IsTurnOver, SeatValue, new_seat}
use Rattle.hub_server.specs.ServerActs.{MayAccept}
use Rattle.hub_server.specs.ServerActs.ServerAct.{AcceptsAt, DefersAccepting, FindsNoConnection}
use Rattle.hub_server.specs.Servers.{IsSeatedAt, ServerValue, accepts_at, has_room}
use Rattle.hub_server.specs.Servers.{later_milliseconds, with_listener, with_seat}
use Rattle.hub_server.specs.declared.endpoint_fault.EndpointFault.{EndpointFault}
use Rattle.hub_server.specs.declared.limits.ServeLimits.{ServeLimits}
use Rattle.hub_server.specs.declared.listener_state.ListenerState.{ListenerState}
use Rattle.hub_server.specs.declared.listener_state.ListenerState.TheVariants.{Idle, Ready}
use Rattle.hub_server.specs.declared.listener_state.ListenerState.TheVariants.{Deferred}
use Rattle.hub_server.proofs.KeepingLemmas.{fact_kept}
use Rattle.hub_server.proofs.RunLemmas.{act_one, acts_none, acts_on}
use Rattle.hub_server.proofs.SeatLemmas.{asleep_has_none}

-- ---- room

-- ---- the number of open connections

pub fewer_free : (a b : ServerValue) (place : ℕ) (hub : HubValue) → OpensAt place a.hub a.time hub
    → b.hub ≡ hub → free_count b < free_count a
fewer_free a b place hub opens is =
    let link : LinkValue = new_link a.hub.opened a.time in
    let hub_is = is ∙ opens.after_is in
    let counted : open_count b.hub ≡ suc (open_count a.hub) = ap (λ (h : HubValue). open_count h) is
    ∙ count_opened place a.time a.hub hub opens in
    let places : length b.hub.slots ≡ length a.hub.slots =
    ap (λ (h : HubValue). length h.slots) hub_is ∙ set_length a.hub.slots place (Some link) in
    let within : open_count b.hub ≤ length b.hub.slots = count_by-le-length is_some b.hub.slots in
    omega (arith, counted, places, within)

-- ---- a new connection

-- it has the place
opened_link : (a : ServerValue) (place : ℕ) (hub : HubValue) (link : LinkValue)
    → OpensAt place a.hub a.time hub → IsAt hub place link
    → link ≡ new_link a.hub.opened a.time
opened_link a place hub link opens at =
    let opened : LinkValue = new_link a.hub.opened a.time in
    let here : slice_get (slice_set a.hub.slots place (Some opened)) place ≡ Some (Some opened) =
    set_same a.hub.slots place (Some opened) None opens.was_free in
    let there : slice_get (slice_set a.hub.slots place (Some opened)) place ≡ Some (Some link) =
    ap (λ (h : HubValue). slice_get h.slots place) (sym opens.after_is) ∙ at in
    let same : opened ≡ link = cc (here, there) in
    sym same

seat_at_place : (seats : List SeatValue) (place : ℕ) (seat : SeatValue)
    → slice_get (slice_set seats place new_seat) place ≡ Some seat → new_seat ≡ seat
seat_at_place [] place seat found = absurd (cc found)
seat_at_place (x ∷ seats) zero seat found = cc found
seat_at_place (x ∷ seats) (suc place) seat found = seat_at_place seats place seat found

-- a new connection hasn't expired
or_with_false : (b : Bool) → b ≡ false → (b || false) ≡ false
or_with_false true is = is
or_with_false false is = refl

new_unexpired : (serial now patience : ℕ) → has_expired (new_link serial now) now patience ≡ false
new_unexpired serial now patience = or_with_false (nat_lt patience (now - now))
    (le-ltb patience (now - now) (omega arith))

opening_keeps : (a b : ServerValue) (place : ℕ) (hub : HubValue) → OpensAt place a.hub a.time hub
    → b ≡ with_seat a place hub new_seat → KeepsOthers place a b
opening_keeps a b place hub opens is =
    let link : Option LinkValue = Some (new_link a.hub.opened a.time) in
    let keeps : KeepsOthers place a (with_seat a place hub new_seat) = record {
      slots = λ other apart. ap (λ (h : HubValue). slice_get h.slots other) opens.after_is
          ∙ set_other a.hub.slots place other link (λ e. apart (sym e));
      seats = λ other apart. set_other a.seats place other new_seat (λ e. apart (sym e));
      time = refl;
      listener = refl;
    } in
    subst (λ (x : ServerValue). KeepsOthers place a x) (sym is) keeps

-- the state of the listener doesn't matter
seated_with : (a : ServerValue) (state : ListenerState) (place : ℕ) (link : LinkValue) (seat :
    SeatValue) → IsSeatedAt (with_listener a state) place link seat → IsSeatedAt a place link seat
seated_with a state place link seat seated = record {
  at_link = seated.at_link;
  at_seat = seated.at_seat;
}

pub turns_with : (a b : ServerValue) (state : ListenerState) → b ≡ with_listener a state
    → KeepsTurnsOver a b
turns_with a b state is = subst (λ (x : ServerValue). KeepsTurnsOver a x) (sym is)
    (λ before place link seat seated. before place link seat (seated_with a state place link seat
    seated))

pub unexpired_with : (limits : ServeLimits) (a b : ServerValue) (state : ListenerState)
    → b ≡ with_listener a state → KeepsNoneExpired limits a b
unexpired_with limits a b state is =
    subst (λ (x : ServerValue). KeepsNoneExpired limits a x) (sym is)
    (λ before place link seat seated. before place link seat (seated_with a state place link seat
    seated))

opening_turns : (a b : ServerValue) (place : ℕ) (hub : HubValue) → OpensAt place a.hub a.time hub
    → b ≡ with_seat a place hub new_seat → KeepsTurnsOver a b
opening_turns a b place hub opens is = λ before.
    fact_kept (λ link seat. IsTurnOver seat) place a b (opening_keeps a b place hub opens is) before
    (λ link seat seated.
    let found : slice_get (slice_set a.seats place new_seat) place ≡ Some seat =
    ap (λ (x : ServerValue). slice_get x.seats place) (sym is) ∙ seated.at_seat in
    let asleep = ap (λ (x : SeatValue). x.turn) (sym (seat_at_place a.seats place seat found)) in
    asleep_has_none seat asleep)

opening_unexpired : (limits : ServeLimits) (a b : ServerValue) (place : ℕ) (hub : HubValue)
    → OpensAt place a.hub a.time hub → b ≡ with_seat a place hub new_seat
    → KeepsNoneExpired limits a b
opening_unexpired limits a b place hub opens is = λ before.
    let now_is : b.time ≡ a.time = ap (λ (x : ServerValue). x.time) is in
    let all = fact_kept (λ link seat. has_expired link a.time limits.patience ≡ false) place a
    b (opening_keeps a b place hub opens is) before
    (λ link seat seated.
    let at : IsAt hub place link = ap (λ (x : ServerValue). slice_get x.hub.slots place) (sym is)
    ∙ seated.at_link in
    ap (λ l. has_expired l a.time limits.patience) (opened_link a place hub link opens at)
    ∙ new_unexpired a.hub.opened a.time limits.patience) in
    λ other link seat seated. ap (λ n. has_expired link n limits.patience) now_is
    ∙ all other link seat seated

not_due : (b : Bool) → (b && false) ≡ false
not_due true = refl
not_due false = refl

later_not_due : (room : Bool) (now : ℕ) → (room && nat_le (now + later_milliseconds) now) ≡ false
later_not_due room now = and_right room (nat_le (now + later_milliseconds) now)
    (lt-leb (now + later_milliseconds) now (omega arith))

module _ {Endpoint : Type 0} (calls : EndpointRelation Endpoint) where
  -- ---- one connection

  pub accepts_one : (limits : ServeLimits) (a between b : ServerValue) (place : ℕ) (hub : HubValue)
      (s t : Endpoint) → accepts_at limits.connections a a.time ≡ true
      → OpensAt place a.hub a.time hub
      → between ≡ with_seat a place hub new_seat → b ≡ with_listener between Ready
      → calls s (AcceptEvent place) t → AcceptsNext calls limits true a s b t
  accepts_one limits a between b place hub s t wanted opens mid_is is called =
      let after_is : b ≡ with_listener (with_seat a place hub new_seat) Ready =
      is ∙ ap (λ (x : ServerValue). with_listener x Ready) mid_is in
      record {
        acts = act_one calls limits (AcceptsAt place a.hub.opened) (AcceptEvent place) a b s t
            (record {
              wanted = wanted;
              hub = hub;
              opens = opens;
              serial_is = refl;
              after_is = after_is;
            }) refl called refl;
        turns = λ before. turns_with between b Ready is (opening_turns a between place hub opens
            mid_is before);
        none_expired = λ before. unexpired_with limits between b Ready is
            (opening_unexpired limits a between place hub opens mid_is before);
        fewer_free = λ more. fewer_free a b place hub opens (ap (λ (x : ServerValue). x.hub)
            after_is);
        none_awaited = λ (no : true ≡ false). absurd (cc no);
      }

  pub accepts_none : (limits : ServeLimits) (a b : ServerValue) (place : ℕ) (s t : Endpoint)
      → accepts_at limits.connections a a.time ≡ true → IsFreeAt a.hub place
      → b ≡ with_listener a Idle → calls s (AcceptNone place) t
      → AcceptsNext calls limits false a s b t
  accepts_none limits a b place s t wanted free is called = record {
    acts = act_one calls limits (FindsNoConnection place) (AcceptNone place) a b s t
        (record { wanted = wanted; free = free }, is) refl called refl;
    turns = turns_with a b Idle is;
    none_expired = unexpired_with limits a b Idle is;
    fewer_free = λ (no : false ≡ true). absurd (cc no);
    none_awaited = λ more. subst (λ (x : ServerValue). accepts_at limits.connections x x.time
        ≡ false) (sym is) (not_due (has_room limits.connections a.hub));
  }

  pub accepts_later : (limits : ServeLimits) (a b : ServerValue) (place : ℕ) (s t : Endpoint)
      → accepts_at limits.connections a a.time ≡ true → IsFreeAt a.hub place
      → b ≡ with_listener a (Deferred a.time) → calls s (AcceptLater place) t
      → AcceptsNext calls limits false a s b t
  accepts_later limits a b place s t wanted free is called = record {
    acts = act_one calls limits (DefersAccepting place) (AcceptLater place) a b s t
        (record { wanted = wanted; free = free }, is) refl called refl;
    turns = turns_with a b (Deferred a.time) is;
    none_expired = unexpired_with limits a b (Deferred a.time) is;
    fewer_free = λ (no : false ≡ true). absurd (cc no);
    none_awaited = λ more. subst (λ (x : ServerValue). accepts_at limits.connections x x.time
        ≡ false) (sym is) (later_not_due (has_room limits.connections a.hub) a.time);
  }

  -- ---- all connections that wait

  pub record AcceptsSoFar (limits : ServeLimits) (a : ServerValue) (s : Endpoint) (b : ServerValue)
      (t : Endpoint) : Type 0 where
    pub acts : ReachesByActs calls limits a s b t
    pub turns : KeepsTurnsOver a b
    pub none_expired : KeepsNoneExpired limits a b

  pub accepts_nothing : (limits : ServeLimits) (a : ServerValue) (s : Endpoint)
      → AcceptsSoFar limits a s a s
  accepts_nothing limits a s = record {
    acts = acts_none calls limits a s;
    turns = λ before. before;
    none_expired = λ before. before;
  }

  pub accepts_more : (limits : ServeLimits) (more : Bool) (a b c : ServerValue) (s t u : Endpoint)
      → AcceptsSoFar limits a s b t → AcceptsNext calls limits more b t c u
      → AcceptsSoFar limits a s c u
  accepts_more limits more a b c s t u far next = record {
    acts = acts_on calls limits a b c s t u far.acts next.acts;
    turns = λ before. next.turns (far.turns before);
    none_expired = λ before. next.none_expired (far.none_expired before);
  }

  pub accepts_failed : (limits : ServeLimits) (fault : EndpointFault) (a b c : ServerValue) (s t u :
      Endpoint) → AcceptsSoFar limits a s b t → accepts_at limits.connections b b.time ≡ true
      → FailsAccepting calls fault b t c u → FailsAfterActs calls limits fault a s c u
  accepts_failed limits fault a b c s t u far wanted fails = record {
    between = t;
    acts = subst (λ (x : ServerValue). ReachesByActs calls limits a s x t) (sym fails.kept)
        far.acts;
    fault_is = fails.fault_is;
    place = fails.place;
    may_accept = subst (λ (x : ServerValue). MayAccept limits x fails.place) (sym fails.kept)
        (record { wanted = wanted; free = fails.free });
    failed = fails.failed;
  }
