-- The steps of the connection at one place. Given here: what each act of the server is in each
-- case, with all that it asks for; and that it leaves the turn fewer steps, since the seat made one
-- more or is asleep.
use Rattle.std.proofs.Common.{◌≡◌, ◌∙◌, ◌⊎◌, ◌<◌, ◌≤◌, ℕ, true, List, Option, Some, None, refl, sym}
use Rattle.std.proofs.Common.{ap, subst, inl, inr, arith, length, slice_get}
use Rattle.std.proofs.lemmas.List.{set-set}
use Rattle.http_hub.specs.Hubs.{HubValue, SendsAt, with_slot}
use Rattle.http_hub.specs.Links.{LinkValue, has_expired}
use Rattle.http_hub.specs.Links.{link_after_sent}
use Rattle.http_hub.proofs.PlaceLemmas.{set_same, set_other}
use Rattle.hub_server.specs.EndpointRuns.{EndpointRelation, ReachesByActs}
use Rattle.hub_server.specs.Endpoints.EndpointEvent.{CloseEvent, ReadEvent, ReadNone, ReadEnd}
use Rattle.hub_server.specs.Endpoints.EndpointEvent.{ReadFault, WriteEvent, WriteNone, WriteFault}
use Rattle.hub_server.specs.Needs.{KeepsOthers, LeavesPlace, NeedsClosing, NeedsInput}
use Rattle.hub_server.specs.Needs.{NeedsOutput, steps_left, steps_left_of_seat, steps_left_of_turn}
use Rattle.hub_server.specs.Seats.{HasTurn, ReadsIntoSeat, SeatValue, most_read, new_seat}
use Rattle.hub_server.specs.Seats.{seat_after_step, seat_asleep, turn_after_step}
use Rattle.hub_server.specs.ServerActs.EndCause.{InputEnded, ReadFailed, WriteFailed, SessionClosed}
use Rattle.hub_server.specs.ServerActs.EndCause.{Expired}
use Rattle.hub_server.specs.ServerActs.ServerAct.{ReadsFrom, FindsNoInput, WritesTo, FindsNoOutput}
use Rattle.hub_server.specs.ServerActs.ServerAct.{ClosesAt}
use Rattle.hub_server.specs.Servers.{IsSeatedAt, ServerValue, with_seat}
use Rattle.hub_server.specs.declared.limits.ServeLimits.{ServeLimits}
use Rattle.hub_server.specs.declared.outcome.Received.{Received}
use Rattle.hub_server.specs.declared.outcome.Received.TheVariants as received
use Rattle.hub_server.specs.declared.turn.Turn.{Turn}
use Rattle.hub_server.specs.declared.turn.Turn.TheVariants.{Asleep}
use Rattle.hub_server.proofs.NeedLemmas.{same_seat}
use Rattle.hub_server.proofs.RunLemmas.{act_one, act_two}

-- ---- the other places

apart_back : (place other : ℕ) → (other ≡ place → ⊥) → place ≡ other → ⊥
apart_back place other apart same = apart (sym same)

-- a change of the seat alone
pub keeps_with_seat : (a : ServerValue) (place : ℕ) (seat : SeatValue)
    → KeepsOthers place a (with_seat a place a.hub seat)
keeps_with_seat a place seat = record {
  slots = λ other apart. refl;
  seats = λ other apart. set_other a.seats place other seat (apart_back place other apart);
  time = refl;
  listener = refl;
}

-- a change of the seat and of the connection
pub keeps_with_slot : (a : ServerValue) (place : ℕ) (hub : HubValue) (link :
    Option LinkValue) (seat : SeatValue) → hub ≡ with_slot a.hub place link
    → KeepsOthers place a (with_seat a place hub seat)
keeps_with_slot a place hub link seat is = record {
  slots = λ other apart. ap (λ (h : HubValue). slice_get h.slots other) is
      ∙ set_other a.hub.slots place other link (apart_back place other apart);
  seats = λ other apart. set_other a.seats place other seat (apart_back place other apart);
  time = refl;
  listener = refl;
}

pub keeps_none : (place : ℕ) (a : ServerValue) → KeepsOthers place a a
keeps_none place a = record {
  slots = λ other apart. refl;
  seats = λ other apart. refl;
  time = refl;
  listener = refl;
}

pub keeps_on : (place : ℕ) (a b c : ServerValue) → KeepsOthers place a b → KeepsOthers place b c
    → KeepsOthers place a c
keeps_on place a b c first more = record {
  slots = λ other apart. more.slots other apart ∙ first.slots other apart;
  seats = λ other apart. more.seats other apart ∙ first.seats other apart;
  time = more.time ∙ first.time;
  listener = more.listener ∙ first.listener;
}

-- ---- the steps that are left of a turn

-- of a seat that has its turn some steps are left
turn_left : (seat : SeatValue) → HasTurn seat → 0 < steps_left_of_turn seat.turn
turn_left seat (count, is, few) = subst (λ (t : Turn). 0 < steps_left_of_turn t) (sym is)
    (omega (arith, few))

-- one more step leaves fewer
step_left : (seat : SeatValue) → HasTurn seat → steps_left_of_turn (turn_after_step seat.turn) <
    steps_left_of_turn seat.turn
step_left seat (count, is, few) = subst (λ (t : Turn). steps_left_of_turn (turn_after_step t) <
    steps_left_of_turn t) (sym is) (omega (arith, few))

left_at : (a : ServerValue) (place : ℕ) (hub : HubValue) (old seat : SeatValue)
    → slice_get a.seats place ≡ Some old → steps_left (with_seat a place hub seat) place
    ≡ steps_left_of_turn seat.turn
left_at a place hub old seat found =
    ap (λ (s : Option SeatValue). steps_left_of_seat s) (set_same a.seats place seat old found)

left_before : (a : ServerValue) (place : ℕ) (old : SeatValue) → slice_get a.seats place ≡ Some old
    → steps_left a place ≡ steps_left_of_turn old.turn
left_before a place old found = ap (λ (s : Option SeatValue). steps_left_of_seat s) found

-- a seat that has its turn and then one more step
pub less_after_step : (a : ServerValue) (place : ℕ) (hub : HubValue) (old : SeatValue) (unfed :
    List ℕ) → slice_get a.seats place ≡ Some old → HasTurn old
    → steps_left (with_seat a place hub (seat_after_step old unfed)) place < steps_left a place
less_after_step a place hub old unfed found has =
    subst (λ n. n < steps_left a place) (sym (left_at a place hub old (seat_after_step old unfed)
    found))
    (subst (λ n. steps_left_of_turn (turn_after_step old.turn) < n)
    (sym (left_before a place old found)) (step_left old has))

-- a seat that has its turn and is then asleep
pub less_asleep : (a : ServerValue) (place : ℕ) (hub : HubValue) (old seat : SeatValue)
    → seat.turn ≡ Asleep → slice_get a.seats place ≡ Some old → HasTurn old
    → steps_left (with_seat a place hub seat) place < steps_left a place
less_asleep a place hub old seat asleep found has =
    subst (λ n. n < steps_left a place) (sym (left_at a place hub old seat found
    ∙ ap (λ (t : Turn). steps_left_of_turn t) asleep))
    (subst (λ n. 0 < n) (sym (left_before a place old found)) (turn_left old has))

-- ---- a closed connection

-- the seat that a failed read left doesn't matter
pub leaves_over : (a between b : ServerValue) (place : ℕ) (seat : SeatValue)
    → between ≡ with_seat a place a.hub seat → LeavesPlace between place b → LeavesPlace a place b
leaves_over a between b place seat is left =
    let moved : LeavesPlace (with_seat a place a.hub seat) place b =
    subst (λ (x : ServerValue). LeavesPlace x place b) is left in
    let server_with : List SeatValue → ServerValue = λ seats. record {
      hub = moved.hub;
      seats = seats;
      listener = a.listener;
      time = a.time;
    } in
    record {
      hub = moved.hub;
      ends = moved.ends;
      after_is = moved.after_is
          ∙ ap server_with (set-set a.seats place seat new_seat);
    }

pub leaves_keeps : (a b : ServerValue) (place : ℕ) → LeavesPlace a place b → KeepsOthers place a b
leaves_keeps a b place left = subst (λ (x : ServerValue). KeepsOthers place a x) (sym left.after_is)
    (keeps_with_slot a place left.hub None new_seat left.ends.after_is)

pub leaves_less : (a b : ServerValue) (place : ℕ) (seat : SeatValue)
    → slice_get a.seats place ≡ Some seat → HasTurn seat → LeavesPlace a place b
    → steps_left b place < steps_left a place
leaves_less a b place seat found has left =
    subst (λ (x : ServerValue). steps_left x place < steps_left a place) (sym left.after_is)
    (less_asleep a place left.hub seat new_seat refl found has)

-- ---- a step

-- no other place changed, and fewer steps of the turn are left
pub record StepsAt (place : ℕ) (a b : ServerValue) : Type 0 where
  pub others : KeepsOthers place a b
  pub less : steps_left b place < steps_left a place

pub steps_seat : (a b : ServerValue) (place : ℕ) (old : SeatValue) (unfed : List ℕ)
    → slice_get a.seats place ≡ Some old → HasTurn old
    → b ≡ with_seat a place a.hub (seat_after_step old unfed) → StepsAt place a b
steps_seat a b place old unfed found has is =
    subst (λ (x : ServerValue). StepsAt place a x) (sym is)
    (record {
      others = keeps_with_seat a place (seat_after_step old unfed);
      less = less_after_step a place a.hub old unfed found has;
    })

pub steps_asleep : (a b : ServerValue) (place : ℕ) (old : SeatValue)
    → slice_get a.seats place ≡ Some old → HasTurn old
    → b ≡ with_seat a place a.hub (seat_asleep old) → StepsAt place a b
steps_asleep a b place old found has is =
    subst (λ (x : ServerValue). StepsAt place a x) (sym is)
    (record {
      others = keeps_with_seat a place (seat_asleep old);
      less = less_asleep a place a.hub old (seat_asleep old) refl found has;
    })

pub steps_slot : (a b : ServerValue) (place : ℕ) (hub : HubValue) (link : Option LinkValue) (old :
    SeatValue) (unfed : List ℕ) → slice_get a.seats place ≡ Some old → HasTurn old
    → hub ≡ with_slot a.hub place link
    → b ≡ with_seat a place hub (seat_after_step old unfed) → StepsAt place a b
steps_slot a b place hub link old unfed found has hub_is is =
    subst (λ (x : ServerValue). StepsAt place a x) (sym is)
    (record {
      others = keeps_with_slot a place hub link (seat_after_step old unfed) hub_is;
      less = less_after_step a place hub old unfed found has;
    })

pub steps_leaving : (a b : ServerValue) (place : ℕ) (old : SeatValue)
    → slice_get a.seats place ≡ Some old → HasTurn old → LeavesPlace a place b → StepsAt place a b
steps_leaving a b place old found has left = record {
  others = leaves_keeps a b place left;
  less = leaves_less a b place old found has left;
}

-- ---- the acts

module _ {Endpoint : Type 0} (calls : EndpointRelation Endpoint) where
  -- octets were read
  pub acts_read : (limits : ServeLimits) (a b : ServerValue) (place : ℕ) (octets : List ℕ) (s t :
      Endpoint) (needs : NeedsInput a place) → 0 < length octets → length octets ≤ most_read
      → b ≡ with_seat a place a.hub (seat_after_step needs.seat octets)
      → calls s (ReadEvent place octets) t → ReachesByActs calls limits a s b t
  acts_read limits a b place octets s t needs some few is called =
      act_one calls limits (ReadsFrom place needs.link.serial octets) (ReadEvent place octets) a b s
      t
      (record {
        needs = needs;
        serial_is = refl;
        some = some;
        few = few;
        after_is = is;
      })
      refl called refl

  -- no octets are there for now
  pub acts_no_input : (limits : ServeLimits) (a b : ServerValue) (place : ℕ) (s t : Endpoint)
      (needs : NeedsInput a place) → b ≡ with_seat a place a.hub (seat_asleep needs.seat)
      → calls s (ReadNone place) t → ReachesByActs calls limits a s b t
  acts_no_input limits a b place s t needs is called =
      act_one calls limits (FindsNoInput place needs.link.serial) (ReadNone place) a b s t
      (record {
        needs = needs;
        serial_is = refl;
        after_is = is;
      }) refl called refl

  -- the input has ended
  pub acts_input_ended : (limits : ServeLimits) (a b : ServerValue) (place : ℕ) (s t u : Endpoint)
      (needs : NeedsInput a place) → LeavesPlace a place b → calls s (ReadEnd place) t
      → calls t (CloseEvent place) u
      → ReachesByActs calls limits a s b u
  acts_input_ended limits a b place s t u needs left called closed =
      act_two calls limits (ClosesAt place needs.link.serial InputEnded) (ReadEnd place)
      (CloseEvent place) a b s t u
      (record {
        link = needs.link;
        seat = needs.seat;
        seated = needs.seated;
        serial_is = refl;
        has_cause = (needs.has_turn, needs.wanted);
        hub = left.hub;
        ends = left.ends;
        after_is = left.after_is;
      })
      refl called closed refl

  -- reading failed
  pub acts_read_failed : (limits : ServeLimits) (a b : ServerValue) (place : ℕ) (s t u : Endpoint)
      (needs : NeedsInput a place) → LeavesPlace a place b → calls s (ReadFault place) t
      → calls t (CloseEvent place) u → ReachesByActs calls limits a s b u
  acts_read_failed limits a b place s t u needs left called closed =
      act_two calls limits (ClosesAt place needs.link.serial ReadFailed) (ReadFault place)
      (CloseEvent place) a b s t u
      (record {
        link = needs.link;
        seat = needs.seat;
        seated = needs.seated;
        serial_is = refl;
        has_cause = (needs.has_turn, needs.wanted);
        hub = left.hub;
        ends = left.ends;
        after_is = left.after_is;
      })
      refl called closed refl

  -- writing failed
  pub acts_write_failed : (limits : ServeLimits) (a b : ServerValue) (place : ℕ) (s t u : Endpoint)
      (needs : NeedsOutput a place) → LeavesPlace a place b
      → calls s (WriteFault place needs.link.pending) t → calls t (CloseEvent place) u
      → ReachesByActs calls limits a s b u
  acts_write_failed limits a b place s t u needs left called closed =
      act_two calls limits (ClosesAt place needs.link.serial (WriteFailed needs.link.pending))
      (WriteFault place needs.link.pending) (CloseEvent place) a b s t u
      (record {
        link = needs.link;
        seat = needs.seat;
        seated = needs.seated;
        serial_is = refl;
        has_cause = (needs.has_turn, needs.wanted);
        hub = left.hub;
        ends = left.ends;
        after_is = left.after_is;
      })
      refl called closed refl

  -- the session is closed, and all replies were written
  pub acts_finished : (limits : ServeLimits) (a b : ServerValue) (place : ℕ) (s t : Endpoint)
      (needs : NeedsClosing a place) → LeavesPlace a place b → calls s (CloseEvent place) t
      → ReachesByActs calls limits a s b t
  acts_finished limits a b place s t needs left closed =
      act_one calls limits (ClosesAt place needs.link.serial SessionClosed) (CloseEvent place) a b s
      t
      (record {
        link = needs.link;
        seat = needs.seat;
        seated = needs.seated;
        serial_is = refl;
        has_cause = (needs.session_closed, needs.none_pending);
        hub = left.hub;
        ends = left.ends;
        after_is = left.after_is;
      })
      refl closed refl

  -- pending octets were written
  pub acts_written : (limits : ServeLimits) (a b : ServerValue) (place count : ℕ) (hub : HubValue)
      (s t : Endpoint) (needs : NeedsOutput a place) → 0 < count
      → SendsAt place a.hub count a.time hub
      → b ≡ with_seat a place hub (seat_after_step needs.seat needs.seat.unfed)
      → calls s (WriteEvent place needs.link.pending count) t
      → ReachesByActs calls limits a s b t
  acts_written limits a b place count hub s t needs some sends is called =
      act_one calls limits (WritesTo place needs.link.serial needs.link.pending count)
      (WriteEvent place needs.link.pending count) a b s t
      (record {
        needs = needs;
        serial_is = refl;
        all_pending = refl;
        some = some;
        hub = hub;
        sends = sends;
        after_is = is;
      }) refl called refl

  -- no pending octet is accepted for now
  pub acts_no_output : (limits : ServeLimits) (a b : ServerValue) (place : ℕ) (s t : Endpoint)
      (needs : NeedsOutput a place) → b ≡ with_seat a place a.hub (seat_asleep needs.seat)
      → calls s (WriteNone place needs.link.pending) t → ReachesByActs calls limits a s b t
  acts_no_output limits a b place s t needs is called =
      act_one calls limits (FindsNoOutput place needs.link.serial needs.link.pending)
      (WriteNone place needs.link.pending) a b s t
      (record {
        needs = needs;
        serial_is = refl;
        all_pending = refl;
        after_is = is;
      }) refl called refl

  -- the connection has expired
  pub acts_expired : (limits : ServeLimits) (a b : ServerValue) (place : ℕ) (link : LinkValue)
      (seat : SeatValue) (s t : Endpoint) → IsSeatedAt a place link seat
      → has_expired link a.time limits.patience ≡ true
      → LeavesPlace a place b → calls s (CloseEvent place) t → ReachesByActs calls limits a s b t
  acts_expired limits a b place link seat s t seated expired left closed =
      act_one calls limits (ClosesAt place link.serial Expired) (CloseEvent place) a b s t
      (record {
        link = link;
        seat = seat;
        seated = seated;
        serial_is = refl;
        has_cause = expired;
        hub = left.hub;
        ends = left.ends;
        after_is = left.after_is;
      }) refl closed refl

  -- a step of the connection at the place
  pub record StepsOnce (place : ℕ) (a : ServerValue) (s : Endpoint) (b : ServerValue) (t :
      Endpoint) : Type 0 where
    pub acts : (limits : ServeLimits) → ReachesByActs calls limits a s b t
    pub others : KeepsOthers place a b
    pub less : steps_left b place < steps_left a place

  once : (place : ℕ) (a b : ServerValue) (s t : Endpoint)
      → ((limits : ServeLimits) → ReachesByActs calls limits a s b t) → StepsAt place a b
      → StepsOnce place a s b t
  once place a b s t acts steps = record { acts = acts; others = steps.others; less = steps.less }

  -- ---- what a read into the seat gave

  pub reads_some : (a b : ServerValue) (place count : ℕ) (s t : Endpoint) (old new : SeatValue)
      (needs : NeedsInput a place) → slice_get a.seats place ≡ Some old
      → ReadsIntoSeat calls place old s (received.Octets count) new t
      → b ≡ with_seat a place a.hub new → StepsOnce place a s b t
  reads_some a b place count s t old new needs found reads is =
      let same : old ≡ needs.seat = same_seat a.seats place old needs.seat found
      needs.seated.at_seat in
      let now_is : b ≡ with_seat a place a.hub (seat_after_step needs.seat reads.0) =
      is ∙ ap (λ (x : SeatValue). with_seat a place a.hub x) (reads.4
      ∙ ap (λ (x : SeatValue). seat_after_step x reads.0) same) in
      once place a b s t (λ limits. acts_read limits a b place reads.0 s t needs reads.1 reads.2
      now_is reads.3) (steps_seat a b place needs.seat reads.0 needs.seated.at_seat
      needs.has_turn now_is)

  pub reads_none : (a b : ServerValue) (place : ℕ) (s t : Endpoint) (old new : SeatValue) (needs :
      NeedsInput a place) → slice_get a.seats place ≡ Some old
      → ReadsIntoSeat calls place old s received.NoneNow new t → b ≡ with_seat a place a.hub new
      → StepsOnce place a s b t
  reads_none a b place s t old new needs found reads is =
      let same : old ≡ needs.seat = same_seat a.seats place old needs.seat found
      needs.seated.at_seat in
      let now_is : b ≡ with_seat a place a.hub (seat_asleep needs.seat) =
      is ∙ ap (λ (x : SeatValue). with_seat a place a.hub x) (reads.1
      ∙ ap (λ (x : SeatValue). seat_asleep x) same) in
      once place a b s t (λ limits. acts_no_input limits a b place s t needs now_is reads.0)
      (steps_asleep a b place needs.seat needs.seated.at_seat needs.has_turn now_is)

  pub reads_open : (a b : ServerValue) (place : ℕ) (s t : Endpoint) (old new : SeatValue) (result :
      Received) (needs : NeedsInput a place) → slice_get a.seats place ≡ Some old
      → ((count : ℕ) × (result ≡ received.Octets count)) ⊎ (result ≡ received.NoneNow)
      → ReadsIntoSeat calls place old s result new t → b ≡ with_seat a place a.hub new
      → StepsOnce place a s b t
  reads_open a b place s t old new result needs found (inl some) reads is =
      reads_some a b place some.0 s t old new needs found
      (subst (λ (r : Received). ReadsIntoSeat calls place old s r new t) some.1 reads) is
  reads_open a b place s t old new result needs found (inr none) reads is =
      reads_none a b place s t old new needs found
      (subst (λ (r : Received). ReadsIntoSeat calls place old s r new t) none reads) is

  pub reads_closed : (a between b : ServerValue) (place : ℕ) (s t u : Endpoint) (old new :
      SeatValue) (result : Received) (needs : NeedsInput a place) → (result ≡ received.End)
      ⊎ (result ≡ received.Failed)
      → ReadsIntoSeat calls place old s result new t → between ≡ with_seat a place a.hub new
      → LeavesPlace between place b → calls t (CloseEvent place) u → StepsOnce place a s b u
  reads_closed a between b place s t u old new result needs (inl ended) reads is left closed =
      let from_start : LeavesPlace a place b = leaves_over a between b place new is left in
      once place a b s u (λ limits. acts_input_ended limits a b place s t u needs from_start
      (subst (λ (r : Received). ReadsIntoSeat calls place old s r new t) ended reads) closed)
      (steps_leaving a b place needs.seat needs.seated.at_seat needs.has_turn from_start)
  reads_closed a between b place s t u old new result needs (inr failed) reads is left closed =
      let from_start : LeavesPlace a place b = leaves_over a between b place new is left in
      once place a b s u (λ limits. acts_read_failed limits a b place s t u needs from_start
      (subst (λ (r : Received). ReadsIntoSeat calls place old s r new t) failed reads) closed)
      (steps_leaving a b place needs.seat needs.seated.at_seat needs.has_turn from_start)

  -- ---- what a write gave

  pub writes_some : (a b : ServerValue) (place count : ℕ) (offered : List ℕ) (hub : HubValue) (s t :
      Endpoint) (old : SeatValue) (needs : NeedsOutput a place) → slice_get a.seats place ≡ Some old
      → offered ≡ needs.link.pending → 0 < count → calls s (WriteEvent place offered count) t
      → SendsAt place a.hub count a.time hub
      → b ≡ with_seat a place hub (seat_after_step old old.unfed) → StepsOnce place a s b t
  writes_some a b place count offered hub s t old needs found all some called sends is =
      let same : old ≡ needs.seat = same_seat a.seats place old needs.seat found
      needs.seated.at_seat in
      let now_is : b ≡ with_seat a place hub (seat_after_step needs.seat needs.seat.unfed) =
      is ∙ ap (λ (x : SeatValue). with_seat a place hub (seat_after_step x x.unfed)) same in
      once place a b s t (λ limits. acts_written limits a b place count hub s t needs some sends
      now_is (subst (λ (o : List ℕ). calls s (WriteEvent place o count) t) all called))
      (steps_slot a b place hub (Some (link_after_sent sends.link count a.time)) needs.seat
      needs.seat.unfed needs.seated.at_seat needs.has_turn sends.after_is now_is)

  pub writes_none : (a b : ServerValue) (place : ℕ) (offered : List ℕ) (s t : Endpoint) (old :
      SeatValue) (needs : NeedsOutput a place) → slice_get a.seats place ≡ Some old
      → offered ≡ needs.link.pending → calls s (WriteNone place offered) t
      → b ≡ with_seat a place a.hub (seat_asleep old) → StepsOnce place a s b t
  writes_none a b place offered s t old needs found all called is =
      let same : old ≡ needs.seat = same_seat a.seats place old needs.seat found
      needs.seated.at_seat in
      let now_is : b ≡ with_seat a place a.hub (seat_asleep needs.seat) =
      is ∙ ap (λ (x : SeatValue). with_seat a place a.hub (seat_asleep x)) same in
      once place a b s t (λ limits. acts_no_output limits a b place s t needs now_is
      (subst (λ (o : List ℕ). calls s (WriteNone place o) t) all called))
      (steps_asleep a b place needs.seat needs.seated.at_seat needs.has_turn now_is)

  pub writes_fault : (a b : ServerValue) (place : ℕ) (offered : List ℕ) (s t u : Endpoint) (needs :
      NeedsOutput a place) → offered ≡ needs.link.pending
      → calls s (WriteFault place offered) t → LeavesPlace a place b → calls t (CloseEvent place) u
      → StepsOnce place a s b u
  writes_fault a b place offered s t u needs all called left closed =
      once place a b s u (λ limits. acts_write_failed limits a b place s t u needs left
      (subst (λ (o : List ℕ). calls s (WriteFault place o) t) all called) closed)
      (steps_leaving a b place needs.seat needs.seated.at_seat needs.has_turn left)

  pub finishes : (a b : ServerValue) (place : ℕ) (s t : Endpoint) (needs : NeedsClosing a place)
      → LeavesPlace a place b → calls s (CloseEvent place) t → StepsOnce place a s b t
  finishes a b place s t needs left closed =
      once place a b s t (λ limits. acts_finished limits a b place s t needs left closed)
      (steps_leaving a b place needs.seat needs.seated.at_seat needs.has_turn left)
