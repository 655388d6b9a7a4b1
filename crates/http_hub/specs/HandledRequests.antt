-- The requests that a handler handled, with the connection and the reply of each.
use Rattle.std.specs.Prelude.{◌≡◌, ◌==◌, ℕ, List, [], ◌∷◌, None, cond}
use Rattle.http_requests.specs.Fields.{fault_of_head}
use Rattle.http_requests.specs.HandlerRuns.{HandlerRelation, HandlesAdmitted, Screen}
use Rattle.http_requests.specs.declared.head.Head.{Head}
use Rattle.http_requests.specs.ParsedHeads.{head_of}
use Rattle.http_requests.specs.Requests.{Request}

-- a request that the handler handled, the number of its connection, and the reply
pub record HandledRequest : Type 0 where
  pub connection : ℕ
  pub request : Request
  pub reply : List ℕ

-- the requests of one connection, in order
abbrev pub handled_for : ℕ → List HandledRequest → List HandledRequest
handled_for connection [] = []
handled_for connection (one ∷ more) =
    cond (one.connection == connection) (one ∷ handled_for connection more)
    (handled_for connection more)

-- the handler handled these requests in turn, and nothing else; no head has a fault or is refused
unfoldable pub HandledInTurn :
    {State : Type 0} → HandlerRelation State → State → List HandledRequest → State → Type 0
HandledInTurn does old [] new = old ≡ new
HandledInTurn does old (one ∷ more) new =
    (middle : _) × (fault_of_head one.request.head ≡ None)
    × HandlesAdmitted does old one.request one.reply middle
    × HandledInTurn does middle more new

-- one step of a handler that expects a list of requests: it handles the first one and gives the
-- recorded reply
abbrev pub ReplaysFirst :
    List HandledRequest → Head → List ℕ → List ℕ → List HandledRequest → Type 0
ReplaysFirst expected head body reply left =
    (one : HandledRequest) × (expected ≡ one ∷ left) × (head_of one.request.head ≡ head)
    × (one.request.body ≡ body) × (one.reply ≡ reply)

-- the handler that expects a list of requests, and refuses these heads
abbrev pub ReplaysHandled : Screen → HandlerRelation (List HandledRequest)
ReplaysHandled screen = record { step = ReplaysFirst; screens = λ expected. screen }
