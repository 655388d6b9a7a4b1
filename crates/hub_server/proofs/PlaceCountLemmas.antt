-- The number of places of a server doesn't change.
use Rattle.std.proofs.Common.{◌≡◌, ◌∙◌, ℕ, suc, Bool, List, [], ◌∷◌, refl, sym, ap, drop, length}
use Rattle.http_hub.proofs.PlaceLemmas.{set_length}
use Rattle.http_requests.specs.HandlerRuns.{HandlerRelation, FaultReplies}
use Rattle.hub_server.specs.EndpointRuns.{ActRuns, EndpointRelation}
use Rattle.hub_server.specs.Seats.{SeatValue, new_seat, seat_after_step, seat_asleep}
use Rattle.hub_server.specs.Seats.{seats_after_wait}
use Rattle.hub_server.specs.ServerActs.{DoesAct, ServerAct}
use Rattle.hub_server.specs.ServerActs.ServerAct.{Awaits, AcceptsAt, FindsNoConnection}
use Rattle.hub_server.specs.ServerActs.ServerAct.{DefersAccepting, ReadsFrom, FindsNoInput}
use Rattle.hub_server.specs.ServerActs.ServerAct.{WritesTo, FindsNoOutput, ClosesAt}
use Rattle.hub_server.specs.ServerRuns.{DoesServerStep, ReachesBySteps, ServerRuns, ServerStep}
use Rattle.hub_server.specs.ServerRuns.ServerStep.{Acts, Feeds}
use Rattle.hub_server.specs.Servers.{ServerValue}
use Rattle.hub_server.specs.declared.limits.ServeLimits.{ServeLimits}

wait_places : (ready : List Bool) (seats : List SeatValue) → length (seats_after_wait ready seats)
    ≡ length seats
wait_places ready [] = refl
wait_places [] (seat ∷ seats) = refl
wait_places (is_ready ∷ ready) (seat ∷ seats) = ap suc (wait_places ready seats)

act_places : (limits : ServeLimits) (act : ServerAct) (a b : ServerValue) → DoesAct limits a act b
    → length b.seats ≡ length a.seats
act_places limits (Awaits until ready listener time) a b done =
    ap (λ (s : ServerValue). length s.seats) done.2 ∙ wait_places ready a.seats
act_places limits (AcceptsAt place serial) a b done =
    ap (λ (s : ServerValue). length s.seats) done.after_is ∙ set_length a.seats place new_seat
act_places limits (FindsNoConnection place) a b done = ap (λ (s : ServerValue). length s.seats) done.1
act_places limits (DefersAccepting place) a b done = ap (λ (s : ServerValue). length s.seats) done.1
act_places limits (ReadsFrom place serial octets) a b done =
    ap (λ (s : ServerValue). length s.seats) done.after_is
    ∙ set_length a.seats place (seat_after_step done.needs.seat octets)
act_places limits (FindsNoInput place serial) a b done =
    ap (λ (s : ServerValue). length s.seats) done.after_is
    ∙ set_length a.seats place (seat_asleep done.needs.seat)
act_places limits (WritesTo place serial offered count) a b done =
    ap (λ (s : ServerValue). length s.seats) done.after_is
    ∙ set_length a.seats place (seat_after_step done.needs.seat done.needs.seat.unfed)
act_places limits (FindsNoOutput place serial offered) a b done =
    ap (λ (s : ServerValue). length s.seats) done.after_is
    ∙ set_length a.seats place (seat_asleep done.needs.seat)
act_places limits (ClosesAt place serial cause) a b done =
    ap (λ (s : ServerValue). length s.seats) done.after_is ∙ set_length a.seats place new_seat

module _ {S : Type 0} (does : HandlerRelation S) (fault_reply : FaultReplies) where
  step_places : (limits : ServeLimits) (x : ServerStep) (a b : ServerValue) (w v : S)
      → DoesServerStep does fault_reply limits a w x v b → length b.seats ≡ length a.seats
  step_places limits (Acts act) a b w v done = act_places limits act a b done.1
  step_places limits (Feeds place serial piece) a b w v done =
      ap (λ (s : ServerValue). length s.seats) done.after_is
      ∙ set_length a.seats place (seat_after_step done.needs.seat (drop (length piece) done.needs.seat.unfed))

  run_places : (limits : ServeLimits) (xs : List ServerStep) (a b : ServerValue) (w v : S)
      → ServerRuns does fault_reply limits a w xs v b → length b.seats ≡ length a.seats
  unfolding ServerRuns
  run_places limits [] a b w v same = ap (λ (s : ServerValue). length s.seats) (sym same.0)
  run_places limits (x ∷ xs) a b w v (between, middle, done, rest) =
      run_places limits xs between b middle v rest ∙ step_places limits x a between w middle done

  pub steps_places : {Endpoint : Type 0} (calls : EndpointRelation Endpoint) (limits : ServeLimits)
      (waits : ℕ) (a b : ServerValue) (w v : S) (s t : Endpoint)
      → ReachesBySteps does fault_reply calls limits waits a w s b v t
      → length b.seats ≡ length a.seats
  steps_places calls limits waits a b w v s t reached =
      run_places limits reached.steps a b w v reached.runs
