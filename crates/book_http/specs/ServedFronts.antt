-- Any number of connections to a service behind a guard, with a front before it, and with the files
-- of a site beside it or without.
use Rattle.std.specs.Prelude.{ℕ, Bool, true, false, List, [], ◌∷◌}
use Rattle.std.specs.List.{AllByRecursion}
use Rattle.book_http.specs.OctetPromise.{ServiceStep, StartsAt}
use Rattle.book_http.specs.ServedHubs.{RunsHandled}
use Rattle.book_http.specs.ServedSites.{GetsOwnReply, ServerState, beside_site}
use Rattle.book_service.specs.Runs.{SystemState}
use Rattle.http_fronts.specs.Fronts.{FrontRelation, with_front}
use Rattle.http_hub.specs.HandledRequests.{HandledRequest}
use Rattle.http_hub.specs.HubRuns.{HubRuns, HubStep, SeparatesConnections}
use Rattle.http_hub.specs.Hubs.{HubValue, new_hub}
use Rattle.http_replies.specs.Replies.{head_fault_octets}
use Rattle.http_requests.specs.GuardedHandlers.{guarded}
use Rattle.http_requests.specs.HandlerRuns.{HandlerRelation}
use Rattle.http_requests.specs.ParsedHeads.{head_of}
use Rattle.site_files.specs.SiteHandlers.{with_site}
use Rattle.sync_core.specs.StoreModels.{StoreModel}

-- ---- the front's requests, and the others

-- the request is the front's own
abbrev pub is_for_front : FrontRelation → HandledRequest → Bool
is_for_front front one = front.is_own (head_of one.request.head)

-- a request before others, unless it is the front's, as the flag says
abbrev pub unless_answered : Bool → HandledRequest → List HandledRequest → List HandledRequest
unless_answered true one others = others
unless_answered false one others = one ∷ others

-- the requests that aren't the front's, in order
abbrev pub behind_front : FrontRelation → List HandledRequest → List HandledRequest
behind_front front [] = []
behind_front front (one ∷ handled) =
    unless_answered (is_for_front front one) one (behind_front front handled)

-- if the request is the front's, as the flag says, its reply is one that the front may give
abbrev pub IsAnsweredIf : FrontRelation → Bool → HandledRequest → Type 0
IsAnsweredIf front true one = front.replies (head_of one.request.head) one.request.body one.reply
IsAnsweredIf front false one = Unit {0}

-- a request of the front's got a reply that the front may give
abbrev pub GetsFrontReply : FrontRelation → HandledRequest → Type 0
GetsFrontReply front one = IsAnsweredIf front (is_for_front front one) one

-- ---- the laws

-- the names of a server, and its store
abbrev pub FrontedState : Type 0 → Type 0
FrontedState S = List (List ℕ) × S

module _ {S : Type 0} (model : StoreModel S) (front : FrontRelation) where
  -- one step of the server without a site
  abbrev pub FrontedStep : HandlerRelation (FrontedState S)
  FrontedStep = guarded (with_front front (ServiceStep model))

  -- one step of the server with a site
  abbrev pub FrontedSiteStep : HandlerRelation (ServerState S)
  FrontedSiteStep = guarded (with_front front (with_site (ServiceStep model)))

  -- Each connection is sent the replies to its own requests. Each request of the front's got a reply
  -- that the front may give. The other requests of all connections, in the order of the pieces that
  -- complete them, are one run of the service, with these replies.
  pub record RunsBehindFront
      (now : SystemState) (limit : ℕ) (old : FrontedState S) (steps : List HubStep)
      (new : FrontedState S) (after : HubValue) : Type 0 where
    pub separate : SeparatesConnections FrontedStep head_fault_octets limit old steps new after
    pub front_replies : AllByRecursion (GetsFrontReply front) separate.one_run.handled
    pub ran : RunsHandled now (behind_front front separate.one_run.handled) (model.books new.1)

  -- from each state of the store, every run of a hub that starts without connections is such a run
  abbrev pub ServedFrontsAreOneRun : Type 0
  ServedFrontsAreOneRun =
      (now : SystemState) (limit : ℕ) (old new : FrontedState S) (steps : List HubStep) →
      (after : HubValue) → StartsAt model now old.1 new.1 →
      HubRuns FrontedStep head_fault_octets (new_hub limit) old steps new after →
      RunsBehindFront now limit old steps new after

  -- The same with the files of a site: of the requests that aren't the front's, each for a file of
  -- the site got the site's reply, and the others are one run of the service.
  pub record RunsBehindFrontAndSite
      (now : SystemState) (limit : ℕ) (old : ServerState S) (steps : List HubStep)
      (new : ServerState S) (after : HubValue) : Type 0 where
    pub separate : SeparatesConnections FrontedSiteStep head_fault_octets limit old steps new after
    pub front_replies : AllByRecursion (GetsFrontReply front) separate.one_run.handled
    pub site_replies :
        AllByRecursion (GetsOwnReply old.1.0) (behind_front front separate.one_run.handled)
    pub ran : RunsHandled now
        (beside_site old.1.0 (behind_front front separate.one_run.handled))
        (model.books new.1.1)

  -- from each state of the store, every run of a hub that starts without connections is such a run
  abbrev pub FrontedSitesAreOneRun : Type 0
  FrontedSitesAreOneRun =
      (now : SystemState) (limit : ℕ) (old new : ServerState S) (steps : List HubStep) →
      (after : HubValue) → StartsAt model now old.1.1 new.1.1 →
      HubRuns FrontedSiteStep head_fault_octets (new_hub limit) old steps new after →
      RunsBehindFrontAndSite now limit old steps new after
