-- The calls on a connection, one after another, and the order in which `serve` makes them.
use Rattle.std.specs.Prelude.{◌≡◌, ◌≢◌, ◌⊎◌, ◌+◌, ◌≤◌, ◌^◌, ◌-◌, ⊤, ℕ, zero, suc, Bool, List, []}
use Rattle.std.specs.Prelude.{◌∷◌, ◌++◌, length, take, Option, Some, None, Result, Ok, Err}
use Rattle.std.specs.IoError.{error_kind}
use Rattle.std.specs.declared.io.Error.{Error}
use Rattle.std.specs.declared.io.ErrorKind.{ErrorKind}
use Rattle.book_http.specs.declared.serve_fault.ServeFault.{ServeFault}
use Rattle.book_http.specs.declared.serve_fault.ServeFault.TheVariants.{Read, Write, TooManyTurns}
use Rattle.book_http.specs.declared.serve_fault.ServeFault.TheVariants.{Memory}
use Rattle.book_http.specs.Pieces.{pieces_max}

-- ---- calls

-- a call, with its result
pub data ConnectionCall : Type 0 where
  -- these octets were read; none at the end of the input
  Receives : List ℕ → ConnectionCall
  -- the read failed
  FailsToReceive : ErrorKind → ConnectionCall
  -- that many octets were written
  Sends : ℕ → ConnectionCall
  -- the write failed
  FailsToSend : ErrorKind → ConnectionCall
  Flushes : ConnectionCall
  FailsToFlush : ConnectionCall
  Closes : ConnectionCall

-- a read into a buffer that then holds these octets
abbrev pub receive_call : Result ℕ Error → List ℕ → ConnectionCall
receive_call (Ok count) room = Receives (take count room)
receive_call (Err error) room = FailsToReceive (error_kind error)

abbrev pub send_call : Result ℕ Error → ConnectionCall
send_call (Ok count) = Sends count
send_call (Err error) = FailsToSend (error_kind error)

abbrev pub flush_call : Result Unit Error → ConnectionCall
flush_call (Ok done) = Flushes
flush_call (Err error) = FailsToFlush

-- the calls so far, if known, and then these
abbrev pub AddsCalls : Option (List ConnectionCall) → Option (List ConnectionCall)
    → List ConnectionCall → Type 0
AddsCalls None after added = ⊤
AddsCalls (Some before) None added = ⊥
AddsCalls (Some before) (Some after) added = after ≡ before ++ added

-- ---- their order

-- where a connection is between two calls
pub data DialogueState : Type 0 where
  -- that many pieces were read, and all replies to them were written and flushed
  Waits : ℕ → DialogueState
  -- that many pieces were read, and the replies to the last are being written
  Replies : ℕ → DialogueState
  InputEnded : DialogueState
  ReaderFailed : DialogueState
  WriterFailed : DialogueState

-- an interrupted read or write changes nothing, and any other failure leads to `failed`
abbrev pub FailsUnlessInterrupted : DialogueState → DialogueState → ErrorKind → DialogueState
    → Type 0
FailsUnlessInterrupted state failed kind next =
    ((kind ≡ ErrorKind.Interrupted) × (next ≡ state))
    ⊎ ((kind ≢ ErrorKind.Interrupted) × (next ≡ failed))

-- The call may follow the state, and leads to the next one. A piece is read once all replies were
-- written and flushed. No call follows the end of the input or a failure.
abbrev pub MayFollow : DialogueState → ConnectionCall → DialogueState → Type 0
MayFollow (Waits pieces) (Receives []) next = next ≡ InputEnded
MayFollow (Waits pieces) (Receives (x ∷ xs)) next = next ≡ Replies (pieces + 1)
MayFollow (Waits pieces) (FailsToReceive kind) next =
    FailsUnlessInterrupted (Waits pieces) ReaderFailed kind next
MayFollow (Replies pieces) (Sends zero) next = next ≡ WriterFailed
MayFollow (Replies pieces) (Sends (suc count)) next = next ≡ Replies pieces
MayFollow (Replies pieces) (FailsToSend kind) next =
    FailsUnlessInterrupted (Replies pieces) WriterFailed kind next
MayFollow (Replies pieces) Flushes next = next ≡ Waits pieces
MayFollow (Replies pieces) FailsToFlush next = next ≡ WriterFailed
MayFollow state call next = ⊥

-- the calls, in turn, lead from one state to another
unfoldable pub Leads : DialogueState → List ConnectionCall → DialogueState → Type 0
Leads state [] next = state ≡ next
Leads state (call ∷ calls) next =
    (between : DialogueState) × MayFollow state call between × Leads between calls next

-- calls were made that lead from one state to another
pub record LeadsOn
    (before after : Option (List ConnectionCall)) (state next : DialogueState) : Type 0 where
  pub calls : List ConnectionCall
  pub added : AddsCalls before after calls
  pub lead : Leads state calls next

-- how often an interrupted call is made
abbrev pub tries_max : ℕ
tries_max = 2 ^ 64 - 1

-- so many calls were made that one of them was made as often as it may be
pub record TriesTooOften (before after : Option (List ConnectionCall)) (state : DialogueState)
    : Type 0 where
  pub calls : List ConnectionCall
  pub added : AddsCalls before after calls
  pub next : DialogueState
  pub lead : Leads state calls next
  pub many : tries_max ≤ length calls

-- ---- one piece

-- a piece was read, or the input was at its end, or the reader failed
abbrev pub ReadsInOrder : ℕ → Option (List ConnectionCall) → Option (List ConnectionCall)
    → Result ℕ ServeFault → Type 0
ReadsInOrder pieces before after (Ok zero) = LeadsOn before after (Waits pieces) InputEnded
ReadsInOrder pieces before after (Ok (suc count)) =
    LeadsOn before after (Waits pieces) (Replies (pieces + 1))
ReadsInOrder pieces before after (Err fault) =
    LeadsOn before after (Waits pieces) ReaderFailed ⊎ TriesTooOften before after (Waits pieces)

-- replies were written, which led to the next state, or the writer failed
abbrev pub SendsInOrder : ℕ → DialogueState → Option (List ConnectionCall)
    → Option (List ConnectionCall) → Result Unit ServeFault → Type 0
SendsInOrder pieces next before after (Ok done) = LeadsOn before after (Replies pieces) next
SendsInOrder pieces next before after (Err fault) =
    LeadsOn before after (Replies pieces) WriterFailed
    ⊎ TriesTooOften before after (Replies pieces)

-- a piece was fed to the session, and the replies written and flushed; or the writer failed, or
-- memory ran out before any call
abbrev pub AnswersInOrder : ℕ → Option (List ConnectionCall) → Option (List ConnectionCall)
    → Result Bool ServeFault → Type 0
AnswersInOrder pieces before after (Ok closed) =
    LeadsOn before after (Replies pieces) (Waits pieces)
AnswersInOrder pieces before after (Err Memory) = after ≡ before
AnswersInOrder pieces before after (Err fault) =
    LeadsOn before after (Replies pieces) WriterFailed
    ⊎ TriesTooOften before after (Replies pieces)

-- ---- a whole connection

-- a connection was served in that order, with this result
abbrev pub EndsInOrder : Option ServeFault → Option (List ConnectionCall)
    → Option (List ConnectionCall) → Type 0
EndsInOrder None before after =
    LeadsOn before after (Waits 0) InputEnded
    ⊎ ((pieces : ℕ) × LeadsOn before after (Waits 0) (Waits pieces))
EndsInOrder (Some Read) before after =
    LeadsOn before after (Waits 0) ReaderFailed ⊎ TriesTooOften before after (Waits 0)
EndsInOrder (Some Write) before after =
    LeadsOn before after (Waits 0) WriterFailed ⊎ TriesTooOften before after (Waits 0)
EndsInOrder (Some TooManyTurns) before after = LeadsOn before after (Waits 0) (Waits pieces_max)
EndsInOrder (Some Memory) before after =
    (pieces : ℕ) × (LeadsOn before after (Waits 0) (Waits pieces)
    ⊎ LeadsOn before after (Waits 0) (Replies pieces))
