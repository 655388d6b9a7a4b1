-- Any number of connections as one run of the service over a store.
use Rattle.std.specs.Prelude.{◌≡◌, ℕ, List, [], ◌∷◌, ◌++◌}
use Rattle.book_http.specs.OctetPromise.{StartsAt}
use Rattle.book_http.specs.OctetRuns.{IsReplyToRequest}
use Rattle.book_model.specs.Books.{Books}
use Rattle.book_service.specs.Runs.{MatchesRows, Run, SystemState, TraceStep, end_of}
use Rattle.http_hub.specs.HandledRequests.{HandledRequest}
use Rattle.http_hub.specs.HubRuns.{HubRuns, HubStep, SeparatesConnections}
use Rattle.http_hub.specs.Hubs.{HubValue, new_hub}
use Rattle.http_replies.specs.Replies.{head_fault_octets}
use Rattle.http_requests.specs.HandlerRuns.{HandlerRelation}
use Rattle.sync_core.specs.StoreModels.{StoreModel}

-- the trace has the steps of these requests in turn and no others, and each reply is the request's
unfoldable pub AreOwnReplies : List HandledRequest → List TraceStep → Type 0
AreOwnReplies [] run = run ≡ []
AreOwnReplies (one ∷ handled) run =
    (own : List TraceStep) × (more : List TraceStep) × IsReplyToRequest one.request own one.reply
    × AreOwnReplies handled more × (run ≡ own ++ more)

-- From this state the requests ran: the trace is a run of the service, each request got its reply,
-- the store has these rows afterwards, and no device was changed.
pub record RunsHandled (now : SystemState) (handled : List HandledRequest) (books : Books)
    : Type 0 where
  pub run : List TraceStep
  pub runs : Run now run
  pub own_replies : AreOwnReplies handled run
  pub at : MatchesRows (end_of now run) now.model.limits books
  pub devices_are : (end_of now run).devices ≡ now.devices

module _ {S : Type 0} (model : StoreModel S) (does : HandlerRelation S) where
  -- Each connection is sent the replies to its own requests, and after them that of a refusal, if it
  -- was refused. The requests of all connections, in the order of the pieces that complete them, are
  -- one run of the service, with these replies.
  pub record RunsForEach
      (now : SystemState) (limit : ℕ) (old : S) (steps : List HubStep) (new : S)
      (after : HubValue) : Type 0 where
    pub separate : SeparatesConnections does head_fault_octets limit old steps new after
    pub ran : RunsHandled now separate.one_run.handled (model.books new)

  -- from each state of the store, every run of a hub that starts without connections is such a run
  abbrev pub HubsAreOneRun : Type 0
  HubsAreOneRun =
      (now : SystemState) (limit : ℕ) (old new : S) (steps : List HubStep) (after : HubValue) →
      StartsAt model now old new →
      HubRuns does head_fault_octets (new_hub limit) old steps new after →
      RunsForEach now limit old steps new after

-- what contracts know of a store behind a guard, whose names it is beside
abbrev pub behind_guard : {S : Type 0} → StoreModel S → StoreModel (List (List ℕ) × S)
behind_guard model = record {
  books = λ now. model.books now.1;
  limits = λ now. model.limits now.1;
  premise = λ now. model.premise now.1;
  may_fault = model.may_fault;
  may_leave = λ now. model.may_leave now.1;
}
