-- What the connections to a service with a site are: the requests beside the site's are one run.
use Rattle.std.proofs.Common.{◌≡◌, ◌∙◌, ℕ, List, [], ◌∷◌, Option, Some, None, IfSome, refl, ap}
use Rattle.std.proofs.Common.{subst}
use Rattle.std.specs.List.{AllByRecursion}
use Rattle.book_http.proofs.ServedHubLemmas.{handled_run}
use Rattle.book_http.specs.OctetPromise.{ServiceStep}
use Rattle.book_http.specs.ServedSites.{GetsOwnReply, ServedSitesAreOneRun, ServerState, ServerStep}
use Rattle.book_http.specs.ServedSites.{beside_site, own_reply, unless_own}
use Rattle.http_hub.proofs.HubLemmas.{hubs_separate_connections}
use Rattle.http_hub.specs.HandledRequests.{HandledInTurn, HandledRequest}
use Rattle.http_replies.specs.Replies.{head_fault_octets}
use Rattle.http_requests.specs.Fields.{fault_of_head}
use Rattle.http_requests.specs.GuardedHandlers.{first_fault}
use Rattle.http_requests.specs.Guards.{guard}
use Rattle.http_requests.specs.HandlerRuns.{KeepsScreens, Screen}
use Rattle.http_requests.specs.ParsedHeads.{head_of}
use Rattle.site_files.specs.SiteHandlers.{AnswersBeside}
use Rattle.site_files.specs.Sites.{SiteFile}
use Rattle.sync_core.specs.StoreModels.{StoreModel}

module _ {S : Type 0} (model : StoreModel S) where
  -- the site's request changed nothing, and any other one is a step of the service
  handled_beside : (own : Option (List ℕ)) (one : HandledRequest) (others : List HandledRequest)
      (old middle new : S) → fault_of_head one.request.head ≡ None
      → AnswersBeside (ServiceStep model) own old (head_of one.request.head) one.request.body
      one.reply middle → HandledInTurn (ServiceStep model) middle others new
      → HandledInTurn (ServiceStep model) old (unless_own own one others) new
  unfolding HandledInTurn
  handled_beside (Some own) one others old middle new good done rest =
      subst (λ (s : S). HandledInTurn (ServiceStep model) s others new) done.1 rest
  handled_beside None one others old middle new good done rest = (middle, good, (refl, done), rest)

  -- the site's request got the site's reply
  replied_own : (own : Option (List ℕ)) (one : HandledRequest) (old middle : S)
      → AnswersBeside (ServiceStep model) own old (head_of one.request.head) one.request.body
      one.reply middle
      → IfSome own (λ reply. one.reply ≡ reply)
  replied_own (Some own) one old middle done = done.0
  replied_own None one old middle done = tt

  -- the requests beside the site's, in turn; no step changes the files
  pub all_beside : (files : List SiteFile) (handled : List HandledRequest) (old new : ServerState S)
      → old.1.0 ≡ files → HandledInTurn (ServerStep model) old handled new
      → HandledInTurn (ServiceStep model) old.1.1 (beside_site files handled) new.1.1
  unfolding HandledInTurn
  all_beside files [] old new is same = ap (λ (s : ServerState S). s.1.1) same
  all_beside files (one ∷ handled) old new is (middle, good, done, rest) =
      let step = done.1.1 in
      let kept : middle.1.0 ≡ files = step.0 ∙ is in
      let answers = subst (λ (f : List SiteFile). AnswersBeside (ServiceStep model)
      (own_reply f one) old.1.1 (head_of one.request.head) one.request.body one.reply
      middle.1.1) is step.1 in
      handled_beside (own_reply files one) one (beside_site files handled) old.1.1 middle.1.1
      new.1.1 good answers (all_beside files handled middle new kept rest)

  pub all_replied : (files : List SiteFile) (handled : List HandledRequest) (old new :
      ServerState S) → old.1.0 ≡ files → HandledInTurn (ServerStep model) old handled new
      → AllByRecursion (GetsOwnReply files) handled
  unfolding HandledInTurn
  all_replied files [] old new is same = tt
  all_replied files (one ∷ handled) old new is (middle, good, done, rest) =
      let step = done.1.1 in
      let kept : middle.1.0 ≡ files = step.0 ∙ is in
      let answers = subst (λ (f : List SiteFile). AnswersBeside (ServiceStep model)
      (own_reply f one) old.1.1 (head_of one.request.head) one.request.body one.reply
      middle.1.1) is step.1 in (
        replied_own (own_reply files one) one old.1.1 middle.1.1 answers,
        all_replied files handled middle new kept rest,
      )

  -- no step changes the names
  pub server_keeps : KeepsScreens (ServerStep model)
  server_keeps old new head body reply done =
      let screen : List (List ℕ) → Screen =
      λ names method fields. first_fault (guard names method fields) None in
      ap screen done.0

  pub served_sites : ServedSitesAreOneRun model
  served_sites now limit old new steps after starts runs =
      let apart = hubs_separate_connections (ServerStep model) head_fault_octets server_keeps limit
      old new steps after runs in
      let files = old.1.0 in
      let handled = apart.one_run.handled in
      record {
        separate = apart;
        site_replies = all_replied files handled old new refl apart.one_run.in_turn;
        ran = handled_run model (beside_site files handled) now old.1.1 new.1.1 starts
            (all_beside files handled old new refl apart.one_run.in_turn);
      }
