-- The connections of a listener as one run of the service over a store.
use Rattle.std.specs.Prelude.{◌≡◌, ◌⊎◌, ℕ, Bool, List, [], ◌∷◌, ◌++◌, Option, None}
use Rattle.std.specs.Io.KnownBytes.{Appends, Consumes}
use Rattle.book_http.specs.declared.serve_fault.ServeFault.{ServeFault}
use Rattle.book_http.specs.OctetPromise.{ServiceStep, StartsAt}
use Rattle.book_http.specs.OctetRuns.{AreReplies}
use Rattle.book_model.specs.Books.{Books}
use Rattle.sync_core.specs.StoreModels.{StoreModel}
use Rattle.book_http.specs.Listening.{ServesInTurn, ServedConnection}
use Rattle.book_http.specs.ConnectionModels.{ConnectionModel}
use Rattle.book_service.specs.Runs.{TraceStep, MatchesRows, SystemState, Run, end_of}
use Rattle.http_replies.specs.Replies.{head_fault_octets}
use Rattle.http_requests.specs.SessionFeeding.{RefusesHead}
use Rattle.http_requests.specs.Requests.{AreAllRequests, StartsWithRequests, Request}

module _ {S Connection : Type 0} (model : StoreModel S) (stream : ConnectionModel Connection) where
  -- These are all requests of the octets, and the octets written are their replies and at most one
  -- more, to octets that never become a head.
  pub record RepliesToAll (output written : Option (List ℕ)) (octets : List ℕ)
      (requests : List Request) (replies : List ℕ) (ended : Bool) (rest : List ℕ) : Type 0 where
    pub requests_are : AreAllRequests octets requests ended rest
    pub last : List ℕ
    pub sent : Appends output written (replies ++ last)
    pub last_is : (last ≡ [])
        ⊎ RefusesHead (ServiceStep model) head_fault_octets rest last

  -- The trace steps of a connection are those of some requests of the octets read, from the first
  -- on. If it was served to its end these are all requests, and were replied to.
  pub record RunsOneConnection
      (connection : Connection) (end : Option ServeFault) (own : List TraceStep)
      : Type 0 where
    pub connection_after : Connection
    pub octets : List ℕ
    pub read : Consumes (stream.remaining connection) (stream.remaining connection_after) octets
    pub requests : List Request
    pub replies : List ℕ
    pub ended : Bool
    pub rest : List ℕ
    pub first : StartsWithRequests octets requests ended rest
    pub are_replies : AreReplies requests own replies
    pub all_replied : end ≡ None →
        RepliesToAll (stream.contents connection) (stream.contents connection_after)
        octets requests replies ended rest

  -- The trace is that of the connections in turn, each from the state after the one before it. No
  -- device is changed, and the store has these rows afterwards.
  unfoldable pub RunsInTurn :
      SystemState → List (ServedConnection Connection) → List TraceStep → Books → Type 0
  RunsInTurn now [] run new = (run ≡ []) × MatchesRows now now.model.limits new
  RunsInTurn now (turn ∷ turns) run new =
      (own : List TraceStep) × (more : List TraceStep) × (run ≡ own ++ more)
      × RunsOneConnection turn.connection turn.end own × ((end_of now own).devices ≡ now.devices)
      × RunsInTurn (end_of now own) turns more new

  -- the connections in turn are a run
  pub record RunsOverAll
      (now : SystemState) (turns : List (ServedConnection Connection)) (new : Books)
      : Type 0 where
    pub run : List TraceStep
    pub runs : Run now run
    pub in_turn : RunsInTurn now turns run new

  -- from each state of the store, connections that are served in turn are such a run
  abbrev pub ConnectionsAreOneRun : Type 0
  ConnectionsAreOneRun =
      (now : SystemState) (old new : S) (turns : List (ServedConnection Connection)) →
      StartsAt model now old new →
      ServesInTurn (ServiceStep model) head_fault_octets stream old turns new →
      RunsOverAll now turns (model.books new)
