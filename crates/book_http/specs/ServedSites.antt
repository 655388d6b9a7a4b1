-- Any number of connections to a service with the files of a site beside it, behind a guard.
use Rattle.std.specs.Prelude.{◌≡◌, ℕ, List, [], ◌∷◌, Option, Some, None, IfSome}
use Rattle.std.specs.List.{AllByRecursion}
use Rattle.book_http.specs.OctetPromise.{ServiceStep, StartsAt}
use Rattle.book_http.specs.ServedHubs.{RunsHandled}
use Rattle.book_service.specs.Runs.{SystemState}
use Rattle.http_hub.specs.HandledRequests.{HandledRequest}
use Rattle.http_hub.specs.HubRuns.{HubRuns, HubStep, SeparatesConnections}
use Rattle.http_hub.specs.Hubs.{HubValue, new_hub}
use Rattle.http_replies.specs.Replies.{head_fault_octets}
use Rattle.http_requests.specs.GuardedHandlers.{guarded}
use Rattle.http_requests.specs.HandlerRuns.{HandlerRelation}
use Rattle.http_requests.specs.ParsedHeads.{head_of}
use Rattle.site_files.specs.SiteHandlers.{with_site}
use Rattle.site_files.specs.SiteReplies.{site_reply}
use Rattle.site_files.specs.Sites.{SiteFile}
use Rattle.sync_core.specs.StoreModels.{StoreModel}

-- ---- the site's requests, and the others

-- the site's own reply to the request, or None if it isn't for a file of the site
abbrev pub own_reply : List SiteFile → HandledRequest → Option (List ℕ)
own_reply files one = site_reply files (head_of one.request.head)

-- a request before others, unless it is the site's
abbrev pub unless_own : Option (List ℕ) → HandledRequest → List HandledRequest → List HandledRequest
unless_own (Some reply) one others = others
unless_own None one others = one ∷ others

-- the requests that aren't the site's, in order
abbrev pub beside_site : List SiteFile → List HandledRequest → List HandledRequest
beside_site files [] = []
beside_site files (one ∷ handled) = unless_own (own_reply files one) one (beside_site files handled)

-- a request of the site's got the site's own reply
abbrev pub GetsOwnReply : List SiteFile → HandledRequest → Type 0
GetsOwnReply files one = IfSome (own_reply files one) (λ own. one.reply ≡ own)

-- ---- the law

-- the names of a server, the files of its site, and its store
abbrev pub ServerState : Type 0 → Type 0
ServerState S = List (List ℕ) × (List SiteFile × S)

module _ {S : Type 0} (model : StoreModel S) where
  -- one step of the server
  abbrev pub ServerStep : HandlerRelation (ServerState S)
  ServerStep = guarded (with_site (ServiceStep model))

  -- Each connection is sent the replies to its own requests. Each request for a file of the site got
  -- the site's reply. The other requests of all connections, in the order of the pieces that
  -- complete them, are one run of the service, with these replies.
  pub record RunsBesideSite
      (now : SystemState) (limit : ℕ) (old : ServerState S) (steps : List HubStep)
      (new : ServerState S) (after : HubValue) : Type 0 where
    pub separate : SeparatesConnections ServerStep head_fault_octets limit old steps new after
    pub site_replies : AllByRecursion (GetsOwnReply old.1.0) separate.one_run.handled
    pub ran : RunsHandled now (beside_site old.1.0 separate.one_run.handled) (model.books new.1.1)

  -- from each state of the store, every run of a hub that starts without connections is such a run
  abbrev pub ServedSitesAreOneRun : Type 0
  ServedSitesAreOneRun =
      (now : SystemState) (limit : ℕ) (old new : ServerState S) (steps : List HubStep) →
      (after : HubValue) → StartsAt model now old.1.1 new.1.1 →
      HubRuns ServerStep head_fault_octets (new_hub limit) old steps new after →
      RunsBesideSite now limit old steps new after
