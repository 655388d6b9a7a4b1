-- The rounds of a server.
use Rattle.std.proofs.Common.{◌≡◌, ◌∙◌, ◌<◌, ◌≤◌, ◌+◌, ℕ, zero, suc, false, Some, None, Result, Ok}
use Rattle.std.proofs.Common.{Err, refl, sym, subst, inl, inr, arith, length, replicate, slice_get}
use Rattle.std.specs.Prelude.{OnOk}
use Rattle.std.proofs.lemmas.Bool.{and_right}
use Rattle.std.proofs.lemmas.List.{length-replicate}
use Rattle.http_requests.specs.HandlerRuns.{HandlerRelation, FaultReplies}
use Rattle.http_hub.specs.Hubs.{new_hub}
use Rattle.http_hub.specs.Links.{LinkValue}
use Rattle.hub_server.specs.Acceptings.{FailsAfterActs}
use Rattle.hub_server.specs.EndpointRuns.{EndpointRelation, FailsAtWait, ReachesByActs}
use Rattle.hub_server.specs.EndpointRuns.{ReachesByWait}
use Rattle.hub_server.specs.Expiries.{KeepsNoneExpired, KeepsTurnsOver}
use Rattle.hub_server.specs.Needs.{HasTurnAt, KeepsOthers}
use Rattle.hub_server.specs.Rounds.{FailsAfterSteps, FailsInRound, ServesRound}
use Rattle.hub_server.specs.Seats.{new_seat}
use Rattle.hub_server.specs.ServedEndpoints.{FailsToAccept, FailsToAwait, ServesAll}
use Rattle.hub_server.specs.ServedEndpoints.{StopsAtEndpoint}
use Rattle.hub_server.specs.ServerRuns.{ReachesBySteps}
use Rattle.hub_server.specs.Servers.{AreSeatedBelow, AreTurnsOver, IsReadyToWait, IsServerDone}
use Rattle.hub_server.specs.Servers.{NoneExpired, ServerValue, accepts_at, has_room, new_server}
use Rattle.hub_server.specs.declared.endpoint_fault.EndpointFault.{EndpointFault}
use Rattle.hub_server.specs.declared.endpoint_fault.EndpointFault.TheVariants as fault
use Rattle.hub_server.specs.declared.limits.ServeLimits.{ServeLimits}
use Rattle.hub_server.proofs.KeepingLemmas.{no_turn_more, seated_kept, seated_more, turns_over}
use Rattle.hub_server.proofs.PlaceCountLemmas.{steps_places}
use Rattle.hub_server.proofs.PlaceStepLemmas.{keeps_none, keeps_on}
use Rattle.hub_server.proofs.RunLemmas.{steps_none, steps_of_acts, steps_of_wait, steps_on}

pub on_ok_four : {A E : Type 0} (P Q R T U : Type 0) (result : Result A E) → (P → Q → R → T → U)
    → OnOk result P → OnOk result Q → OnOk result R → OnOk result T → OnOk result U
on_ok_four P Q R T U (Ok value) f p q r t = f p q r t
on_ok_four P Q R T U (Err error) f p q r t = tt

-- ---- the start

none_at : (limit place : ℕ) (link : LinkValue) → slice_get (replicate limit None) place
    ≡ Some (Some link) → ⊥
none_at zero place link e = cc e
none_at (suc limit) zero link e = cc e
none_at (suc limit) (suc place) link e = none_at limit place link e

pub new_is_ready : (limits : ServeLimits) → IsReadyToWait limits (new_server limits.together)
new_is_ready limits = record {
  served = λ place link seat seated. absurd (none_at limits.together place link seated.at_link);
  none_expired = λ place link seat seated. absurd (none_at limits.together place link
      seated.at_link);
  none_awaited = and_right (has_room limits.connections (new_hub limits.together)) false refl;
}

pub new_places : (limit : ℕ) → length (new_server limit).seats ≡ limit
new_places limit = length-replicate limit new_seat

module _ {S Endpoint : Type 0} (does : HandlerRelation S) (fault_reply : FaultReplies) (calls :
    EndpointRelation Endpoint) where
  -- ---- one place

  pub record ServesPlace (limits : ServeLimits) (place : ℕ) (a : ServerValue) (w : S) (s : Endpoint)
      (b : ServerValue) (v : S) (t : Endpoint) : Type 0 where
    pub steps : ReachesBySteps does fault_reply calls limits 0 a w s b v t
    pub others : KeepsOthers place a b

  pub place_none : (limits : ServeLimits) (place : ℕ) (a : ServerValue) (w : S) (s : Endpoint)
      → ServesPlace limits place a w s a w s
  place_none limits place a w s = record {
    steps = steps_none calls does fault_reply limits a w s;
    others = keeps_none place a;
  }

  pub place_on : (limits : ServeLimits) (place : ℕ) (a b c : ServerValue) (w v x : S) (s t u :
      Endpoint) → ServesPlace limits place a w s b v t
      → ReachesBySteps does fault_reply calls limits 0 b v t c x u → KeepsOthers place b c
      → ServesPlace limits place a w s c x u
  place_on limits place a b c w v x s t u far steps others = record {
    steps = steps_on calls does fault_reply limits 0 0 a b c w v x s t u far.steps steps;
    others = keeps_on place a b c far.others others;
  }

  -- ---- all places in order

  pub record ServesBelow (limits : ServeLimits) (end count : ℕ) (a : ServerValue) (w : S) (s :
      Endpoint) (b : ServerValue) (v : S) (t : Endpoint) : Type 0 where
    pub steps : ReachesBySteps does fault_reply calls limits 0 a w s b v t
    pub below : (place : ℕ) → place < count → HasTurnAt b place → ⊥
    pub seated : AreSeatedBelow b end

  pub places_none : (limits : ServeLimits) (end : ℕ) (a : ServerValue) (w : S) (s : Endpoint)
      → AreSeatedBelow a end → ServesBelow limits end 0 a w s a w s
  places_none limits end a w s seated = record {
    steps = steps_none calls does fault_reply limits a w s;
    below = λ place within has. let no : place < 0 = within in omega (arith, no);
    seated = seated;
  }

  pub places_more : (limits : ServeLimits) (end place : ℕ) (a b c : ServerValue) (w v x : S)
      (s t u : Endpoint) → place < end → ServesBelow limits end place a w s b v t
      → ReachesBySteps does fault_reply calls limits 0 b v t c x u → KeepsOthers place b c
      → (HasTurnAt c place → ⊥) → ServesBelow limits end (place + 1) a w s c x u
  places_more limits end place a b c w v x s t u within far steps others here = record {
    steps = steps_on calls does fault_reply limits 0 0 a b c w v x s t u far.steps steps;
    below = no_turn_more place b c others far.below here;
    seated = seated_kept place end b c others within far.seated;
  }

  pub places_over : (limits : ServeLimits) (end count : ℕ) (a b : ServerValue) (w v : S) (s t :
      Endpoint) → end ≤ count → ServesBelow limits end count a w s b v t → AreTurnsOver b
  places_over limits end count a b w v s t all far =
      turns_over b count (seated_more b end count far.seated all) far.below

  -- ---- a round

  -- a wait, and the service of the connections that it reported
  wait_and_serve : (limits : ServeLimits) (a b c : ServerValue) (w v : S) (s t u : Endpoint)
      → ReachesByWait calls limits a s b t → ReachesBySteps does fault_reply calls limits 0 b w t c
      v u
      → ReachesBySteps does fault_reply calls limits 1 a w s c v u
  wait_and_serve limits a b c w v s t u waited steps =
      steps_on calls does fault_reply limits 1 0 a b c w w v s t u
      (steps_of_wait calls does fault_reply limits a b w s t waited) steps

  then_acts : (limits : ServeLimits) (a b c : ServerValue) (w v : S) (s t u : Endpoint)
      → ReachesBySteps does fault_reply calls limits 1 a w s b v t
      → ReachesByActs calls limits b t c u
      → ReachesBySteps does fault_reply calls limits 1 a w s c v u
  then_acts limits a b c w v s t u steps acts =
      steps_on calls does fault_reply limits 1 0 a b c w v v s t u steps
      (steps_of_acts calls does fault_reply limits b c v t u acts)

  -- the server after the wait, after the service, after the expiry, and after accepting
  module _ (limits : ServeLimits) (a b c d e : ServerValue) (w v : S) (s t u x y : Endpoint)
      (waited : ReachesByWait calls limits a s b t) (served : ReachesBySteps does fault_reply calls
      limits 0 b w t c v u) (expired : ReachesByActs calls limits c u d x) where
    before_accepting : ReachesBySteps does fault_reply calls limits 1 a w s d v x
    before_accepting = then_acts limits a c d w v s u x (wait_and_serve limits a b c w v s t u
        waited served) expired

    pub round_done : ReachesByActs calls limits d x e y → AreTurnsOver c → KeepsTurnsOver c d
        → NoneExpired limits d → KeepsTurnsOver d e → KeepsNoneExpired limits d e
        → accepts_at limits.connections e e.time ≡ false
        → ServesRound does fault_reply calls limits a w s e v y
    round_done accepted over turns none_expired turns_kept unexpired_kept none_awaited =
        let all : ReachesBySteps does fault_reply calls limits 1 a w s e v y =
        then_acts limits a d e w v s x y before_accepting accepted in
        record {
          steps = all;
          ready = record {
            served = turns_kept (turns over);
            none_expired = unexpired_kept none_expired;
            none_awaited = none_awaited;
          };
          places = steps_places does fault_reply calls limits 1 a e w v s y all;
        }

    pub round_failed : (why : EndpointFault) → FailsAfterActs calls limits why d x e y
        → FailsInRound does fault_reply calls limits why a w s e v y
    round_failed why failed = inr (record {
      waits = 1;
      between = d;
      middle = x;
      steps = before_accepting;
      failed = failed;
    })

  pub round_not_begun : (limits : ServeLimits) (why : EndpointFault) (a b : ServerValue) (w : S)
      (s t : Endpoint) → FailsAtWait calls limits why a s b t
      → FailsInRound does fault_reply calls limits why a w s b w t
  round_not_begun limits why a b w s t failed = inl (failed, refl)

  -- ---- all rounds

  -- this number of waits was made since the start, and nothing is left to do before the next
  pub record RoundsSoFar (limits : ServeLimits) (waits : ℕ) (w : S) (s : Endpoint) (b : ServerValue)
      (v : S) (t : Endpoint) : Type 0 where
    pub reached : ReachesBySteps does fault_reply calls limits waits (new_server limits.together) w
        s b v t
    pub ready : IsReadyToWait limits b
    pub places : length b.seats ≡ limits.together

  pub rounds_none : (limits : ServeLimits) (w : S) (s : Endpoint) (a : ServerValue)
      → a ≡ new_server limits.together → RoundsSoFar limits 0 w s a w s
  rounds_none limits w s a is = subst (λ (x : ServerValue). RoundsSoFar limits 0 w s x w s) (sym is)
      (record {
        reached = steps_none calls does fault_reply limits (new_server limits.together) w s;
        ready = new_is_ready limits;
        places = new_places limits.together;
      })

  pub rounds_more : (limits : ServeLimits) (waits : ℕ) (b c : ServerValue) (w v x : S) (s t u :
      Endpoint) → RoundsSoFar limits waits w s b v t → ServesRound does fault_reply calls limits b v
      t c x u
      → RoundsSoFar limits (waits + 1) w s c x u
  rounds_more limits waits b c w v x s t u far round = record {
    reached = steps_on calls does fault_reply limits waits 1 (new_server limits.together) b c w v x
        s t u far.reached round.steps;
    ready = round.ready;
    places = round.places ∙ far.places;
  }

  -- all connections were served
  pub rounds_served : (limits : ServeLimits) (waits : ℕ) (b : ServerValue) (w v : S) (s t : Endpoint)
      → RoundsSoFar limits waits w s b v t → IsServerDone limits.connections b
      → ServesAll does fault_reply calls limits w s v t
  rounds_served limits waits b w v s t far done = record {
    after = b;
    run = record { waits = waits; reached = far.reached };
    done = done;
  }

  -- a round failed
  rounds_failed_waiting : (limits : ServeLimits) (why : EndpointFault) (waits : ℕ) (b c :
      ServerValue) (w v x : S) (s t u : Endpoint) → RoundsSoFar limits waits w s b v t
      → FailsAtWait calls limits why b t c u → v ≡ x → StopsAtEndpoint does fault_reply calls limits
      why w s x u
  rounds_failed_waiting limits why waits b c w v x s t u far failed same =
      let stops : FailsToAwait does fault_reply calls limits w s v u = record {
        after = b;
        between = t;
        run = record { waits = waits; reached = far.reached };
        until = failed.until;
        may_wait = failed.may_wait;
        failed = failed.failed;
      } in
      subst (λ (f : EndpointFault). StopsAtEndpoint does fault_reply calls limits f w s x u)
      (sym failed.fault_is) (subst (λ (z : S). FailsToAwait does fault_reply calls limits w s z
      u) same stops)

  rounds_failed_accepting : (limits : ServeLimits) (why : EndpointFault) (waits : ℕ) (b c :
      ServerValue) (w v x : S) (s t u : Endpoint) → RoundsSoFar limits waits w s b v t
      → FailsAfterSteps does fault_reply calls limits why b v t c x u
      → StopsAtEndpoint does fault_reply calls limits why w s x u
  rounds_failed_accepting limits why waits b c w v x s t u far fails =
      let stops : FailsToAccept does fault_reply calls limits w s x u = record {
        after = c;
        between = fails.failed.between;
        run = record {
          waits = (waits + fails.waits) + 0;
          reached = steps_on calls does fault_reply limits (waits + fails.waits) 0
              (new_server limits.together) fails.between c w x x s fails.middle
              fails.failed.between (steps_on calls does fault_reply limits waits fails.waits
              (new_server limits.together) b fails.between w v x s t fails.middle far.reached
              fails.steps) (steps_of_acts calls does fault_reply limits fails.between c x
              fails.middle fails.failed.between fails.failed.acts);
        };
        place = fails.failed.place;
        may_accept = fails.failed.may_accept;
        failed = fails.failed.failed;
      } in
      subst (λ (f : EndpointFault). StopsAtEndpoint does fault_reply calls limits f w s x u)
      (sym fails.failed.fault_is) stops

  pub rounds_failed : (limits : ServeLimits) (why : EndpointFault) (waits : ℕ) (b c : ServerValue)
      (w v x : S) (s t u : Endpoint) → RoundsSoFar limits waits w s b v t
      → FailsInRound does fault_reply calls limits why b v t c x u
      → StopsAtEndpoint does fault_reply calls limits why w s x u
  rounds_failed limits why waits b c w v x s t u far (inl failed) =
      rounds_failed_waiting limits why waits b c w v x s t u far failed.0 failed.1
  rounds_failed limits why waits b c w v x s t u far (inr fails) =
      rounds_failed_accepting limits why waits b c w v x s t u far fails

  pub nothing_done : (limits : ServeLimits) (why : EndpointFault) (w : S) (s : Endpoint)
      → why ≡ fault.Memory → StopsAtEndpoint does fault_reply calls limits why w s w s
  nothing_done limits why w s is = subst (λ (f : EndpointFault). StopsAtEndpoint does fault_reply
      calls limits f w s w s) (sym is) (refl, refl)
