-- Requests in octets as a trace of the service: their commands are performed in turn, and the
-- octets are the replies.
use Rattle.std.specs.Prelude.{◌≡◌, ℕ, Bool, List, [], ◌∷◌, ◌++◌, Option, Some, None, Result, Ok}
use Rattle.std.specs.Prelude.{Err}
use Rattle.std.specs.List.{AllByRecursion}
use Rattle.book_model.specs.Books.{Books}
use Rattle.book_commands.specs.declared.command.Command.{Command}
use Rattle.book_service.specs.declared.event.Event.TheVariants.{Do}
use Rattle.book_service.specs.Faults.{IfFaultReply}
use Rattle.book_service.specs.Runs.{SystemState, TraceStep, Run, end_of, MatchesRows}
use Rattle.http_replies.specs.Replies.{reply_octets, head_fault_octets, route_fault_octets}
use Rattle.http_requests.specs.Fields.{fault_of_head, closes}
use Rattle.http_requests.specs.Requests.{Request, StartsWithRequests, AreAllRequests}
use Rattle.http_requests.specs.declared.head_fault.HeadFault.{HeadFault}
use Rattle.http_routes.specs.Commands.{requested_command}
use Rattle.http_routes.specs.declared.fault.RouteFault.{RouteFault}

-- ---- replies as octets

-- A request with a command is one trace step, and the octets are its reply. A request without one
-- is no step, and the octets are its fault.
abbrev pub IsReplyToCommand : Result Command RouteFault → Bool → List TraceStep → List ℕ → Type 0
IsReplyToCommand (Ok command) close run octets =
    (h : TraceStep) × (run ≡ h ∷ []) × (h.event ≡ Do command)
    × (octets ≡ reply_octets h.reply close)
IsReplyToCommand (Err found) close run octets =
    (run ≡ []) × (octets ≡ route_fault_octets found close)

-- a request whose head has a fault is no step, and the octets are that fault
abbrev pub IsReplyGivenFault : Option HeadFault → Request → List TraceStep → List ℕ → Type 0
IsReplyGivenFault None request run octets =
    IsReplyToCommand (requested_command request.head.method request.head.target request.body)
    (closes request.head) run octets
IsReplyGivenFault (Some found) request run octets = (run ≡ []) × (octets ≡ head_fault_octets found)

-- the octets are the reply to the request, and these are its trace steps
abbrev pub IsReplyToRequest : Request → List TraceStep → List ℕ → Type 0
IsReplyToRequest request run octets =
    IsReplyGivenFault (fault_of_head request.head) request run octets

-- the octets are the replies to the requests in turn, and the trace has their steps alone
unfoldable pub AreReplies : List Request → List TraceStep → List ℕ → Type 0
AreReplies [] run octets = (run ≡ []) × (octets ≡ [])
AreReplies (request ∷ requests) run octets =
    (own : List TraceStep) × (more : List TraceStep) × (run_replies : List ℕ) × (rest : List ℕ)
    × IsReplyToRequest request own run_replies × AreReplies requests more rest
    × (run ≡ own ++ more) × (octets ≡ run_replies ++ rest)

-- ---- runs

-- From this state the requests ran: the trace is a run of the service, the octets are its replies,
-- the store has these rows afterwards, and no device was changed.
pub record RunsRequests
    (now : SystemState) (requests : List Request) (octets : List ℕ) (books : Books)
    : Type 0 where
  pub run : List TraceStep
  pub runs : Run now run
  pub are_replies : AreReplies requests run octets
  pub at : MatchesRows (end_of now run) now.model.limits books
  pub devices_are : (end_of now run).devices ≡ now.devices

-- no reply of the trace is a fault
abbrev pub IsFaultless : List TraceStep → Type 0
IsFaultless run = AllByRecursion (λ (h : TraceStep). IfFaultReply h.reply (λ _. ⊥)) run

-- all requests of the octets ran
pub record RunsAllRequests
    (now : SystemState) (octets replies : List ℕ) (books : Books) (ended : Bool) (rest : List ℕ)
    : Type 0 where
  pub requests : List Request
  pub requests_are : AreAllRequests octets requests ended rest
  pub ran : RunsRequests now requests replies books

-- some requests of the octets, from the first on, ran; perhaps none, perhaps all
pub record RunsFirstRequests (now : SystemState) (octets : List ℕ) (books : Books) : Type 0 where
  pub requests : List Request
  pub replies : List ℕ
  pub ended : Bool
  pub rest : List ℕ
  pub lead : StartsWithRequests octets requests ended rest
  pub ran : RunsRequests now requests replies books
