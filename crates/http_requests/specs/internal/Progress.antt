-- What a session holds of the request at the front, and what one step does with more octets.
use Rattle.std.specs.Prelude.{◌≡◌, ◌≢◌, ◌<◌, ◌≤◌, ◌+◌, ℕ, Bool, true, false, List, [], ◌++◌, length}
use Rattle.std.specs.Prelude.{Option, Some, None, ⊤, Result, Ok, Err, take}
use Rattle.base_types.specs.declared.memory.NoMemory.{NoMemory}
use Rattle.httparse.specs.Grammar.{RequestHead, print_request}
use Rattle.http_requests.specs.Fields.{body_length, fault_of_head, longest_body}
use Rattle.http_requests.specs.ParsedHeads.{head_of}
use Rattle.http_requests.specs.SessionFeeding.{ClosesSession, HandlesSomePrefix}
use Rattle.http_requests.specs.HandlerRuns.{HandlerRelation, FaultReplies, HandlesPrefix}
use Rattle.http_requests.specs.HandlerRuns.{screened}
use Rattle.http_requests.specs.HeadEnds.{EndsAtLastOctet, head_state_after}
use Rattle.http_requests.specs.Requests.{StartsWithHead, longest_head}
use Rattle.http_requests.specs.declared.head.Head.{Head}
use Rattle.http_requests.specs.declared.head_state.HeadState.{HeadState}
use Rattle.http_requests.specs.declared.head_state.HeadState.TheVariants.{Blank, Ended}
use Rattle.http_requests.specs.declared.progress.Progress.{Progress}
use Rattle.http_requests.specs.declared.progress.Stage.{Stage}
use Rattle.http_requests.specs.declared.progress.Stage.TheVariants as stage

-- ---- what is held

-- the start of a head, which hasn't ended
pub record IsPartialHead (held : List ℕ) (state : HeadState) : Type 0 where
  pub state_is : state ≡ head_state_after Blank held
  pub not_ended : state ≢ Ended
  pub short : length held < longest_head

-- the octets are a good head, which ends at `start`, and the octets after it
pub record HoldsHead (held : List ℕ) (start : ℕ) (body : List ℕ) : Type 0 where
  pub whole_head : RequestHead
  pub begins : StartsWithHead held whole_head body
  pub good : fault_of_head whole_head ≡ None
  pub ends : EndsAtLastOctet (print_request whole_head)
  pub start_is : start ≡ length (print_request whole_head)

-- the octets are a good head and a part of its body, which ends at `end`
pub record HoldsBody (held : List ℕ) (start end : ℕ) : Type 0 where
  pub body : List ℕ
  pub has_head : HoldsHead held start body
  pub end_is : end ≡ start + body_length has_head.whole_head
  pub small : body_length has_head.whole_head ≤ longest_body

-- the same, and the body is incomplete
pub record IsPartialBody (held : List ℕ) (start end : ℕ) : Type 0 where
  pub holds : HoldsBody held start end
  pub not_whole : length held < end

abbrev pub MatchesStage : List ℕ → Stage → Type 0
MatchesStage held (stage.Head state) = IsPartialHead held state
MatchesStage held (stage.Body start end) = IsPartialBody held start end
MatchesStage held stage.Closed = ⊤

abbrev pub IsClosed : Stage → Type 0
IsClosed (stage.Head state) = ⊥
IsClosed (stage.Body start end) = ⊥
IsClosed stage.Closed = ⊤

-- a head is held whole, and octets of its body are awaited
abbrev pub AwaitsBody : Stage → Type 0
AwaitsBody (stage.Head state) = ⊥
AwaitsBody (stage.Body start end) = ⊤
AwaitsBody stage.Closed = ⊥

abbrev pub IsOpen : Stage → Type 0
IsOpen at = ¬ (IsClosed at)

-- a closed session holds no octets
abbrev pub HoldsNoneIfClosed : List ℕ → Stage → Type 0
HoldsNoneIfClosed held at = IsClosed at → held ≡ []

-- the value of a session in contracts
abbrev pub open_octets : List ℕ → Stage → Option (List ℕ)
open_octets held (stage.Head state) = Some held
open_octets held (stage.Body start end) = Some held
open_octets held stage.Closed = None

-- ---- one step

-- the octets are one complete request without a fault, and the handler doesn't refuse its head
pub record IsCompleteRequest
    {State : Type 0} (does : HandlerRelation State) (now : State)
    (held : List ℕ) (head : Head) (start : ℕ) : Type 0 where
  pub body : List ℕ
  pub has_head : HoldsHead held start body
  pub head_is : head ≡ head_of has_head.whole_head
  pub all : length body ≡ head.length
  pub admitted : screened does now has_head.whole_head ≡ None

module _ {State : Type 0} (does : HandlerRelation State) (fault_reply : FaultReplies) where
  -- the octets were handled up to what is held, and these replies were appended
  pub record StaysOpen
      (octets : List ℕ) (old : State) (before out : List ℕ) (new : State)
      (progress : Progress) : Type 0 where
    pub holds : MatchesStage progress.held.items progress.stage
    pub is_open : IsOpen progress.stage
    pub added : List ℕ
    pub out_is : out ≡ before ++ added
    pub runs : HandlesPrefix does fault_reply octets old added new false progress.held.items

  -- the same, and the session is closed
  pub record BecomesClosed
      (octets : List ℕ) (old : State) (before out : List ℕ) (new : State)
      (progress : Progress) : Type 0 where
    pub is_closed : IsClosed progress.stage
    pub added : List ℕ
    pub out_is : out ≡ before ++ added
    pub stopped : ClosesSession does fault_reply octets old added new

  abbrev pub StepsSession :
      List ℕ → State → List ℕ → List ℕ → State → Progress → Bool → Type 0
  StepsSession octets old before out new progress true =
      StaysOpen octets old before out new progress
  StepsSession octets old before out new progress false =
      BecomesClosed octets old before out new progress

  -- The step was made over all of these octets, and says whether the session stays open. Or memory
  -- ran out: some of the requests were handled, and the session is closed.
  abbrev pub StepsOrFails :
      List ℕ → State → List ℕ → List ℕ → State → Progress → Result Bool NoMemory → Type 0
  StepsOrFails octets old before out new progress (Ok stays_open) =
      StepsSession octets old before out new progress stays_open
  StepsOrFails octets old before out new progress (Err lack) =
      HandlesSomePrefix does fault_reply octets old new × IsClosed progress.stage

  -- the same over the octets that were held and so many of the piece, or, if memory ran out, all
  abbrev pub ConsumesOrFails : List ℕ → List ℕ → State → List ℕ → List ℕ → State → Progress
      → Result (ℕ × Bool) NoMemory → Type 0
  ConsumesOrFails held piece old before out new progress (Ok outcome) =
      StepsSession (held ++ take outcome.0 piece) old before out new progress outcome.1
  ConsumesOrFails held piece old before out new progress (Err lack) =
      HandlesSomePrefix does fault_reply (held ++ piece) old new × IsClosed progress.stage
