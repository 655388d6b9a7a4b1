-- What a handler does with requests in turn, and what it replies.
use Rattle.std.specs.Prelude.{◌≡◌, ℕ, Bool, List, [], ◌∷◌, ◌++◌, Option, Some, None}
use Rattle.httparse.specs.Grammar.{RequestHead}
use Rattle.http_requests.specs.Fields.{fault_of_head, fields_of}
use Rattle.http_requests.specs.ParsedHeads.{head_of}
use Rattle.http_requests.specs.Requests.{Request, StartsWithRequests}
use Rattle.http_requests.specs.declared.head.Head.{Head}
use Rattle.http_requests.specs.declared.head_fault.HeadFault.{HeadFault}

-- A handler. One step of it has the old state, a head and its body, the reply, and the new state.
-- And it may refuse a head that has no fault, by its method and its fields.
pub record HandlerRelation (State : Type 0) : Type 1 where
  pub step : State → Head → List ℕ → List ℕ → State → Type 0
  pub screens : State → List ℕ → List (List ℕ × List ℕ) → Option HeadFault

-- why a head with this method and these fields is refused, or None if it isn't
abbrev pub Screen : Type 0
Screen = List ℕ → List (List ℕ × List ℕ) → Option HeadFault

-- no step changes which heads the handler refuses
abbrev pub KeepsScreens : {State : Type 0} → HandlerRelation State → Type 0
KeepsScreens does = (old new : _) (head : Head) (body reply : List ℕ)
    → does.step old head body reply new → does.screens new ≡ does.screens old

-- why the handler refuses the head, or None if it doesn't
abbrev pub screened : {State : Type 0} → HandlerRelation State → State → RequestHead → Option HeadFault
screened does now head = does.screens now head.method (fields_of head)

-- the whole replies to faults of heads
abbrev pub FaultReplies : Type 0
FaultReplies = HeadFault → List ℕ

-- the handler doesn't refuse the head, and this is its step
abbrev pub HandlesAdmitted :
    {State : Type 0} → HandlerRelation State → State → Request → List ℕ → State → Type 0
HandlesAdmitted does old request reply new =
    (screened does old request.head ≡ None)
    × does.step old (head_of request.head) request.body reply new

module _ {State : Type 0} (does : HandlerRelation State) (fault_reply : FaultReplies) where
  abbrev pub RepliesGivenFault : State → Request → List ℕ → State → Option HeadFault → Type 0
  RepliesGivenFault old request reply new None = HandlesAdmitted does old request reply new
  RepliesGivenFault old request reply new (Some found) = (reply ≡ fault_reply found) × (old ≡ new)

  -- a head with a fault gets the fault's reply; the handler replies to every other request, unless
  -- it refuses the head
  abbrev pub RepliesToRequest : State → Request → List ℕ → State → Type 0
  RepliesToRequest old request reply new =
      RepliesGivenFault old request reply new (fault_of_head request.head)

  -- the requests in turn, with all replies joined
  unfoldable pub HandlesRequests : State → List Request → List ℕ → State → Type 0
  HandlesRequests old [] replies new = (replies ≡ []) × (old ≡ new)
  HandlesRequests old (request ∷ requests) replies new =
      (reply : List ℕ) × (more : List ℕ) × (middle : State)
      × RepliesToRequest old request reply middle × HandlesRequests middle requests more new
      × (replies ≡ reply ++ more)

  -- the octets are these requests and then the rest, and the requests were handled in turn
  pub record HandlesPrefix
      (octets : List ℕ) (old : State) (replies : List ℕ) (new : State)
      (ended : Bool) (rest : List ℕ) : Type 0 where
    pub requests : List Request
    pub leads : StartsWithRequests octets requests ended rest
    pub handles : HandlesRequests old requests replies new
