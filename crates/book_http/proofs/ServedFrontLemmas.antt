-- What the connections to a service with a front before it are: the other requests are one run.
use Rattle.std.proofs.Common.{◌≡◌, ℕ, Bool, true, false, List, [], ◌∷◌, None, refl, ap, subst}
use Rattle.std.specs.List.{AllByRecursion}
use Rattle.book_http.proofs.ServedHubLemmas.{guard_serves, handled_run, pair_path, served}
use Rattle.book_http.proofs.ServedSiteLemmas.{all_beside, all_replied}
use Rattle.book_http.specs.OctetPromise.{ServiceStep}
use Rattle.book_http.specs.ServedFronts.{FrontedSiteStep, FrontedSitesAreOneRun, FrontedStep}
use Rattle.book_http.specs.ServedFronts.{GetsFrontReply, IsAnsweredIf, ServedFrontsAreOneRun}
use Rattle.book_http.specs.ServedFronts.{behind_front, is_for_front, unless_answered}
use Rattle.book_http.specs.ServedHubs.{behind_guard}
use Rattle.book_http.specs.ServedSites.{beside_site}
use Rattle.http_fronts.specs.Fronts.{AnswersBehind, FrontRelation, with_front}
use Rattle.http_hub.proofs.HubLemmas.{hubs_separate_connections}
use Rattle.http_hub.specs.HandledRequests.{HandledInTurn, HandledRequest}
use Rattle.http_replies.specs.Replies.{head_fault_octets}
use Rattle.http_requests.specs.Fields.{fault_of_head}
use Rattle.http_requests.specs.GuardedHandlers.{first_fault, guarded}
use Rattle.http_requests.specs.Guards.{guard}
use Rattle.http_requests.specs.HandlerRuns.{HandlerRelation, KeepsScreens, Screen, screened}
use Rattle.http_requests.specs.ParsedHeads.{head_of}
use Rattle.site_files.specs.SiteHandlers.{with_site}
use Rattle.sync_core.specs.StoreModels.{StoreModel}

module _ {State : Type 0} (front : FrontRelation) (does : HandlerRelation State) where
  -- a request of the front's changed nothing, and any other one is a step of the handler
  handled_behind : (is : Bool) (one : HandledRequest) (others : List HandledRequest)
      (old middle new : List (List ℕ) × State) → fault_of_head one.request.head ≡ None
      → screened (guarded does) old one.request.head ≡ None → middle.0 ≡ old.0
      → AnswersBehind front does is old.1 (head_of one.request.head) one.request.body one.reply
      middle.1
      → HandledInTurn (guarded does) middle others new
      → HandledInTurn (guarded does) old (unless_answered is one others) new
  unfolding HandledInTurn
  handled_behind true one others old middle new good admitted names done rest =
      subst (λ (s : List (List ℕ) × State). HandledInTurn (guarded does) s others new)
      (pair_path middle old names done.1) rest
  handled_behind false one others old middle new good admitted names done rest =
      (middle, good, (admitted, (names, done)), rest)

  -- a request of the front's got a reply that the front may give
  answered_if : (is : Bool) (one : HandledRequest) (old middle : State)
      → AnswersBehind front does is old (head_of one.request.head) one.request.body one.reply middle
      → IsAnsweredIf front is one
  answered_if true one old middle done = done.0
  answered_if false one old middle done = tt

  -- the requests behind the front, in turn
  pub all_behind : (handled : List HandledRequest) (old new : List (List ℕ) × State)
      → HandledInTurn (guarded (with_front front does)) old handled new
      → HandledInTurn (guarded does) old (behind_front front handled) new
  unfolding HandledInTurn
  all_behind [] old new same = same
  all_behind (one ∷ handled) old new (middle, good, done, rest) =
      handled_behind (is_for_front front one) one (behind_front front handled) old middle new good
      done.0 done.1.0 done.1.1 (all_behind handled middle new rest)

  pub all_answered : (handled : List HandledRequest) (old new : List (List ℕ) × State)
      → HandledInTurn (guarded (with_front front does)) old handled new
      → AllByRecursion (GetsFrontReply front) handled
  unfolding HandledInTurn
  all_answered [] old new same = tt
  all_answered (one ∷ handled) old new (middle, good, done, rest) = (
    answered_if (is_for_front front one) one old.1 middle.1 done.1.1,
    all_answered handled middle new rest,
  )

module _ {S : Type 0} (model : StoreModel S) (front : FrontRelation) where
  -- no step changes the names
  pub front_keeps : KeepsScreens (FrontedStep model front)
  front_keeps old new head body reply done =
      let screen : List (List ℕ) → Screen =
      λ names method fields. first_fault (guard names method fields) None in
      ap screen done.0

  pub front_and_site_keep : KeepsScreens (FrontedSiteStep model front)
  front_and_site_keep old new head body reply done =
      let screen : List (List ℕ) → Screen =
      λ names method fields. first_fault (guard names method fields) None in
      ap screen done.0

  pub served_fronts : ServedFrontsAreOneRun model front
  served_fronts now limit old new steps after starts runs =
      let apart = hubs_separate_connections (FrontedStep model front) head_fault_octets front_keeps
      limit old new steps after runs in
      let handled = apart.one_run.handled in
      let in_turn = all_behind front (ServiceStep model) handled old new apart.one_run.in_turn in
      record {
        separate = apart;
        front_replies = all_answered front (ServiceStep model) handled old new
            apart.one_run.in_turn;
        ran = handled_run (behind_guard model) (behind_front front handled) now old new
            (record { at = starts.at; premise_holds = starts.premise_holds })
            (served (behind_guard model) (guarded (ServiceStep model)) (guard_serves model)
            (behind_front front handled) old new in_turn);
      }

  pub fronted_sites : FrontedSitesAreOneRun model front
  fronted_sites now limit old new steps after starts runs =
      let apart = hubs_separate_connections (FrontedSiteStep model front) head_fault_octets
      front_and_site_keep limit old new steps after runs in
      let handled = apart.one_run.handled in
      let files = old.1.0 in
      let others = behind_front front handled in
      let in_turn = all_behind front (with_site (ServiceStep model)) handled old new
      apart.one_run.in_turn in
      record {
        separate = apart;
        front_replies = all_answered front (with_site (ServiceStep model)) handled old new
            apart.one_run.in_turn;
        site_replies = all_replied model files others old new refl in_turn;
        ran = handled_run model (beside_site files others) now old.1.1 new.1.1 starts
            (all_beside model files others old new refl in_turn);
      }
