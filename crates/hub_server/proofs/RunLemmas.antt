-- Runs of a server, one after another.
use Rattle.std.proofs.Common.{◌≡◌, ◌+◌, ◌∙◌, ℕ, List, [], ◌∷◌, ◌++◌, refl, sym, ap, subst}
use Rattle.std.proofs.Common.{append_assoc, map, arith}
use Rattle.http_requests.specs.HandlerRuns.{HandlerRelation, FaultReplies}
use Rattle.hub_server.specs.Endpoints.{EndpointEvent}
use Rattle.hub_server.specs.EndpointRuns.{ActRuns, EndpointRelation, EndpointRuns, ReachesByActs}
use Rattle.hub_server.specs.EndpointRuns.{ReachesByWait, events_of_acts, wait_count_of_act}
use Rattle.hub_server.specs.EndpointRuns.{wait_count_of_acts}
use Rattle.hub_server.specs.ServerActs.{DoesAct, ServerAct, events_of_act}
use Rattle.hub_server.specs.ServerActs.ServerAct.{Awaits}
use Rattle.hub_server.specs.ServerRuns.{FeedsNext, ReachesBySteps, ServerRuns, ServerStep}
use Rattle.hub_server.specs.ServerRuns.{events_of_step, events_of_steps, wait_count}
use Rattle.hub_server.specs.ServerRuns.ServerStep.{Acts, Feeds}
use Rattle.hub_server.specs.Servers.{ServerValue}
use Rattle.hub_server.specs.declared.limits.ServeLimits.{ServeLimits}

-- ---- lists of acts and of steps

act_events_on : (xs ys : List ServerAct) → events_of_acts (xs ++ ys) ≡ events_of_acts xs
    ++ events_of_acts ys
act_events_on [] ys = refl
act_events_on (x ∷ xs) ys = ap (λ t. events_of_act x ++ t) (act_events_on xs ys)
    ∙ sym (append_assoc (events_of_act x) (events_of_acts xs) (events_of_acts ys))

act_waits_on : (xs ys : List ServerAct) → wait_count_of_acts (xs ++ ys) ≡ wait_count_of_acts xs +
    wait_count_of_acts ys
act_waits_on [] ys = omega arith
act_waits_on (x ∷ xs) ys = let more : wait_count_of_acts (xs ++ ys) ≡ wait_count_of_acts xs +
    wait_count_of_acts ys = act_waits_on xs ys in omega (arith, more)

act_runs_on : (limits : ServeLimits) (xs ys : List ServerAct) (a b c : ServerValue)
    → ActRuns limits a xs b → ActRuns limits b ys c → ActRuns limits a (xs ++ ys) c
unfolding ActRuns
act_runs_on limits [] ys a b c first more = subst (λ h. ActRuns limits h ys c) (sym first) more
act_runs_on limits (x ∷ xs) ys a b c (between, done, rest) more =
    (between, done, act_runs_on limits xs ys between b c rest more)

step_events_on : (xs ys : List ServerStep) → events_of_steps (xs ++ ys) ≡ events_of_steps xs
    ++ events_of_steps ys
step_events_on [] ys = refl
step_events_on (x ∷ xs) ys = ap (λ t. events_of_step x ++ t) (step_events_on xs ys)
    ∙ sym (append_assoc (events_of_step x) (events_of_steps xs) (events_of_steps ys))

step_waits_on : (xs ys : List ServerStep) → wait_count (xs ++ ys) ≡ wait_count xs + wait_count ys
step_waits_on [] ys = omega arith
step_waits_on (Acts x ∷ xs) ys = let more : wait_count (xs ++ ys) ≡ wait_count xs + wait_count ys =
    step_waits_on xs ys in omega (arith, more)
step_waits_on (Feeds place serial piece ∷ xs) ys = step_waits_on xs ys

events_of_map : (xs : List ServerAct) → events_of_steps (map Acts xs) ≡ events_of_acts xs
events_of_map [] = refl
events_of_map (x ∷ xs) = ap (λ t. events_of_act x ++ t) (events_of_map xs)

waits_of_map : (xs : List ServerAct) → wait_count (map Acts xs) ≡ wait_count_of_acts xs
waits_of_map [] = refl
waits_of_map (x ∷ xs) = ap (λ n. wait_count_of_act x + n) (waits_of_map xs)

module _ {Endpoint : Type 0} (calls : EndpointRelation Endpoint) where
  calls_on : (xs ys : List EndpointEvent) (s t u : Endpoint) → EndpointRuns calls s xs t
      → EndpointRuns calls t ys u → EndpointRuns calls s (xs ++ ys) u
  unfolding EndpointRuns
  calls_on [] ys s t u first more = subst (λ e. EndpointRuns calls e ys u) (sym first) more
  calls_on (x ∷ xs) ys s t u (middle, called, rest) more =
      (middle, called, calls_on xs ys middle t u rest more)

  -- ---- acts

  pub acts_none : (limits : ServeLimits) (a : ServerValue) (s : Endpoint)
      → ReachesByActs calls limits a s a s
  unfolding ActRuns EndpointRuns
  acts_none limits a s = record { acts = []; runs = refl; called = refl; no_wait = refl }

  pub acts_on : (limits : ServeLimits) (a b c : ServerValue) (s t u : Endpoint)
      → ReachesByActs calls limits a s b t → ReachesByActs calls limits b t c u
      → ReachesByActs calls limits a s c u
  acts_on limits a b c s t u first more = record {
    acts = first.acts ++ more.acts;
    runs = act_runs_on limits first.acts more.acts a b c first.runs more.runs;
    called = subst (λ e. EndpointRuns calls s e u) (sym (act_events_on first.acts more.acts))
        (calls_on (events_of_acts first.acts) (events_of_acts more.acts) s t u first.called
        more.called);
    no_wait =
        let none : wait_count_of_acts first.acts ≡ 0 = first.no_wait in
        let none_more : wait_count_of_acts more.acts ≡ 0 = more.no_wait in
        omega (arith, act_waits_on first.acts more.acts, none, none_more);
  }

  -- an act with one call
  pub act_one : (limits : ServeLimits) (act : ServerAct) (event : EndpointEvent) (a b : ServerValue)
      (s t : Endpoint) → DoesAct limits a act b → events_of_act act ≡ event ∷ [] → calls s event t
      → wait_count_of_act act ≡ 0 → ReachesByActs calls limits a s b t
  unfolding ActRuns EndpointRuns
  act_one limits act event a b s t done is called no_wait = record {
    acts = act ∷ [];
    runs = (b, done, refl);
    called = subst (λ e. EndpointRuns calls s (e ++ []) t) (sym is) (t, called, refl);
    no_wait = ap (λ n. n + 0) no_wait;
  }

  -- an act with two calls
  pub act_two : (limits : ServeLimits) (act : ServerAct) (event other : EndpointEvent) (a b :
      ServerValue) (s t u : Endpoint) → DoesAct limits a act b
      → events_of_act act ≡ event ∷ other ∷ [] → calls s event t
      → calls t other u → wait_count_of_act act ≡ 0 → ReachesByActs calls limits a s b u
  unfolding ActRuns EndpointRuns
  act_two limits act event other a b s t u done is called also no_wait = record {
    acts = act ∷ [];
    runs = (b, done, refl);
    called = subst (λ e. EndpointRuns calls s (e ++ []) u) (sym is) (t, called, (u, also, refl));
    no_wait = ap (λ n. n + 0) no_wait;
  }

  module _ {S : Type 0} (does : HandlerRelation S) (fault_reply : FaultReplies) where
    runs_of_acts : (limits : ServeLimits) (xs : List ServerAct) (a b : ServerValue) (w : S)
        → ActRuns limits a xs b → ServerRuns does fault_reply limits a w (map Acts xs) w b
    unfolding ActRuns ServerRuns
    runs_of_acts limits [] a b w same = (same, refl)
    runs_of_acts limits (x ∷ xs) a b w (between, done, rest) =
        (between, w, (refl, done), runs_of_acts limits xs between b w rest)

    step_runs_on : (limits : ServeLimits) (xs ys : List ServerStep) (a b c : ServerValue) (w v u :
        S) → ServerRuns does fault_reply limits a w xs v b
        → ServerRuns does fault_reply limits b v ys u c
        → ServerRuns does fault_reply limits a w (xs ++ ys) u c
    unfolding ServerRuns
    step_runs_on limits [] ys a b c w v u first more =
        subst (λ h. ServerRuns does fault_reply limits h w ys u c) (sym first.0)
        (subst (λ x. ServerRuns does fault_reply limits b x ys u c) (sym first.1) more)
    step_runs_on limits (x ∷ xs) ys a b c w v u (between, middle, done, rest) more =
        (between, middle, done, step_runs_on limits xs ys between b c middle v u rest more)

    pub steps_none : (limits : ServeLimits) (a : ServerValue) (w : S) (s : Endpoint)
        → ReachesBySteps does fault_reply calls limits 0 a w s a w s
    unfolding ServerRuns EndpointRuns
    steps_none limits a w s = record {
      steps = [];
      runs = (refl, refl);
      called = refl;
      waits_are = refl;
    }

    pub steps_on : (limits : ServeLimits) (m n : ℕ) (a b c : ServerValue) (w v x : S) (s t u :
        Endpoint) → ReachesBySteps does fault_reply calls limits m a w s b v t
        → ReachesBySteps does fault_reply calls limits n b v t c x u
        → ReachesBySteps does fault_reply calls limits (m + n) a w s c x u
    steps_on limits m n a b c w v x s t u first more = record {
      steps = first.steps ++ more.steps;
      runs = step_runs_on limits first.steps more.steps a b c w v x first.runs more.runs;
      called = subst (λ e. EndpointRuns calls s e u) (sym (step_events_on first.steps more.steps))
          (calls_on (events_of_steps first.steps) (events_of_steps more.steps) s t u first.called
          more.called);
      waits_are = step_waits_on first.steps more.steps
          ∙ ap (λ k. k + wait_count more.steps) first.waits_are ∙ ap (λ k. m + k) more.waits_are;
    }

    pub steps_of_acts : (limits : ServeLimits) (a b : ServerValue) (w : S) (s t : Endpoint)
        → ReachesByActs calls limits a s b t → ReachesBySteps does fault_reply calls limits 0 a w s
        b w t
    steps_of_acts limits a b w s t reached = record {
      steps = map Acts reached.acts;
      runs = runs_of_acts limits reached.acts a b w reached.runs;
      called = subst (λ e. EndpointRuns calls s e t) (sym (events_of_map reached.acts))
          reached.called;
      waits_are = waits_of_map reached.acts ∙ reached.no_wait;
    }

    pub steps_of_feed : (limits : ServeLimits) (place serial : ℕ) (piece : List ℕ) (a b :
        ServerValue) (w v : S) (s : Endpoint) → FeedsNext does fault_reply limits.held a w place
        serial piece v b
        → ReachesBySteps does fault_reply calls limits 0 a w s b v s
    unfolding ServerRuns EndpointRuns
    steps_of_feed limits place serial piece a b w v s fed =
        record {
          steps = Feeds place serial piece ∷ [];
          runs = (b, v, fed, (refl, refl));
          called = refl;
          waits_are = refl;
        }

    pub steps_of_wait : (limits : ServeLimits) (a b : ServerValue) (w : S) (s t : Endpoint)
        → ReachesByWait calls limits a s b t → ReachesBySteps does fault_reply calls limits 1 a w s
        b w t
    unfolding ServerRuns EndpointRuns
    steps_of_wait limits a b w s t waited = record {
      steps = Acts (Awaits waited.until waited.ready waited.listener waited.time) ∷ [];
      runs = (b, w, (refl, waited.waits), (refl, refl));
      called = (t, waited.called, refl);
      waits_are = refl;
    }
