-- Serving the connections of a listener, one after another.
use Rattle.std.specs.Prelude.{◌≡◌, ◌<◌, ⊤, ℕ, List, [], ◌∷◌, ◌++◌, length, map, Option, Some, None}
use Rattle.std.specs.Option.{option_or}
use Rattle.http_requests.specs.HandlerRuns.{HandlerRelation, FaultReplies}
use Rattle.book_http.specs.ConnectionCalls.{AddsCalls, Closes, EndsInOrder}
use Rattle.book_http.specs.ServedConnections.{ServesUntil}
use Rattle.book_http.specs.declared.serve_fault.ServeFault.{ServeFault}
use Rattle.book_http.specs.declared.listen_fault.ListenFault.{ListenFault}
use Rattle.book_http.specs.declared.listen_fault.ListenFault.TheVariants.{Serve, Device}
use Rattle.book_http.specs.ConnectionModels.{ConnectionModel}

-- ---- arrivals

-- The results of some waits at a listener: a connection that arrived, or `None` if the wait
-- failed. They are the first of the results to come, and the rest is still to come, if known.
abbrev pub NextArrival : {Connection : Type 0} → Option (List (Option Connection))
    → List (Option Connection) → Option (List (Option Connection)) → Type 0
NextArrival None arrival_is coming_after = ⊤
NextArrival (Some all) arrival_is None = ⊥
NextArrival (Some all) arrival_is (Some coming_after) = all ≡ arrival_is ++ coming_after

-- ---- served connections

-- a connection as it arrived, and the fault for which it was aborted, if any
pub record ServedConnection (Connection : Type 0) : Type 0 where
  pub connection : Connection
  pub end : Option ServeFault

-- the fault of the first connection that was aborted
abbrev pub first_serve_fault :
    {Connection : Type 0} → List (ServedConnection Connection) → Option ServeFault
first_serve_fault [] = None
first_serve_fault (turn ∷ turns) = option_or turn.end (first_serve_fault turns)

-- the results of the waits for these connections, in order
abbrev pub arrivals_of :
    {Connection : Type 0} → List (ServedConnection Connection) → List (Option Connection)
arrivals_of turns = map (λ turn. Some turn.connection) turns

-- ---- why not all connections were served to their ends

-- a condition on the fault of an aborted connection
abbrev pub IfAborted : (ServeFault → Type 0) → ListenFault → Type 0
IfAborted Then (Serve fault) = Then fault
IfAborted Then Device = ⊤

-- a condition where a wait failed
abbrev pub IfWaitFailed : Type 0 → ListenFault → Type 0
IfWaitFailed Then (Serve fault) = ⊤
IfWaitFailed Then Device = Then

-- A connection is represented by the octets that are still to be read and by those that were
-- written to it, if known.
module _ {State Connection : Type 0} (does : HandlerRelation State) (fault_reply : FaultReplies)
    (stream : ConnectionModel Connection) where
  -- it was served to its end, or aborted with a fault
  abbrev pub ServesConnection : Option ServeFault → Connection → Connection → State → State → Type 0
  ServesConnection end before connection_after old new =
      ServesUntil does fault_reply end
      (stream.remaining before) (stream.remaining connection_after)
      (stream.contents before) (stream.contents connection_after) old new

  -- it was served with a new session, with this result, and then closed
  pub record ServesOne (old : State) (turn : ServedConnection Connection) (new : State)
      : Type 0 where
    pub connection_after : Connection
    pub closed : Connection
    pub ended : ServesConnection turn.end turn.connection connection_after old new
    pub in_order : EndsInOrder turn.end (stream.calls turn.connection)
        (stream.calls connection_after)
    pub closes : AddsCalls (stream.calls connection_after) (stream.calls closed) (Closes ∷ [])

  -- they were served in turn, with these results
  unfoldable pub ServesInTurn : State → List (ServedConnection Connection) → State → Type 0
  ServesInTurn old [] new = old ≡ new
  ServesInTurn old (turn ∷ turns) new =
      (middle : State) × ServesOne old turn middle × ServesInTurn middle turns new

  -- Connections that arrived were served in turn, each of them and no other.
  pub record ServesArrivals
      (coming coming_after : Option (List (Option Connection))) (old : State)
      (turns : List (ServedConnection Connection)) (new : State) : Type 0 where
    pub served : ServesInTurn old turns new
    pub arrival_is : NextArrival coming (arrivals_of turns) coming_after

  -- the requested number were served, and none was aborted
  pub record ServesEach
      (connections : ℕ) (coming : Option (List (Option Connection))) (old new : State)
      : Type 0 where
    pub turns : List (ServedConnection Connection)
    pub coming_after : Option (List (Option Connection))
    pub arrivals : ServesArrivals coming coming_after old turns new
    pub count : length turns ≡ connections
    pub ended : first_serve_fault turns ≡ None

  -- the requested number were served, and this is the fault of the first that was aborted
  pub record AbortsSome
      (fault : ServeFault) (connections : ℕ) (coming : Option (List (Option Connection)))
      (old new : State) : Type 0 where
    pub turns : List (ServedConnection Connection)
    pub coming_after : Option (List (Option Connection))
    pub arrivals : ServesArrivals coming coming_after old turns new
    pub count : length turns ≡ connections
    pub aborted : first_serve_fault turns ≡ Some fault

  -- fewer were served, and then a wait failed
  pub record FailsToWait
      (connections : ℕ) (coming : Option (List (Option Connection))) (old new : State)
      : Type 0 where
    pub turns : List (ServedConnection Connection)
    pub between : Option (List (Option Connection))
    pub coming_after : Option (List (Option Connection))
    pub arrivals : ServesArrivals coming between old turns new
    pub fewer : length turns < connections
    pub failed : NextArrival between (None ∷ []) coming_after

  -- ---- one connection

  -- one connection arrived and was served, with this result
  pub record ServesNext
      (coming coming_after : Option (List (Option Connection))) (old : State)
      (end : Option ServeFault)
      (new : State) : Type 0 where
    pub turn : ServedConnection Connection
    pub end_is : turn.end ≡ end
    pub arrival_is : NextArrival coming (Some turn.connection ∷ []) coming_after
    pub served : ServesOne old turn new
