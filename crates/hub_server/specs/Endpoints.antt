-- The calls of a server at its endpoint, each with its outcome.
use Rattle.std.specs.Prelude.{ℕ, Bool, List, Option, take, ◌<◌, ◌≤◌, length, ⊤}
use Rattle.hub_server.specs.declared.outcome.Accepted.{Accepted}
use Rattle.hub_server.specs.declared.outcome.Accepted.TheVariants as accepted
use Rattle.hub_server.specs.declared.outcome.Received.{Received}
use Rattle.hub_server.specs.declared.outcome.Received.TheVariants as received
use Rattle.hub_server.specs.declared.outcome.Sent.{Sent}
use Rattle.hub_server.specs.declared.outcome.Sent.TheVariants as sent

-- One call with its outcome. A connection is named by its place.
pub data EndpointEvent : Type 0 where
  -- a wait until this time at the latest: which places are ready, whether the listener is ready,
  -- and the time
  WaitEvent : Option ℕ → List Bool → Bool → ℕ → EndpointEvent
  -- a wait until this time at the latest failed
  WaitFault : Option ℕ → EndpointEvent
  -- a connection was accepted at this place
  AcceptEvent : ℕ → EndpointEvent
  -- no connection waits to be accepted at this place
  AcceptNone : ℕ → EndpointEvent
  -- accepting at this place failed for now, for lack of descriptors
  AcceptLater : ℕ → EndpointEvent
  -- accepting at this place failed
  AcceptFault : ℕ → EndpointEvent
  -- these octets were read from the connection
  ReadEvent : ℕ → List ℕ → EndpointEvent
  -- the connection has no octets for now
  ReadNone : ℕ → EndpointEvent
  -- the input of the connection has ended
  ReadEnd : ℕ → EndpointEvent
  -- reading failed
  ReadFault : ℕ → EndpointEvent
  -- these octets were offered to the connection, and it accepted this number of them
  WriteEvent : ℕ → List ℕ → ℕ → EndpointEvent
  -- these octets were offered, and it accepts none for now
  WriteNone : ℕ → List ℕ → EndpointEvent
  -- writing these octets failed
  WriteFault : ℕ → List ℕ → EndpointEvent
  -- the connection was closed
  CloseEvent : ℕ → EndpointEvent

-- ---- the event of a call

abbrev pub accept_event : ℕ → Accepted → EndpointEvent
accept_event place accepted.Connection = AcceptEvent place
accept_event place accepted.NoneNow = AcceptNone place
accept_event place accepted.Later = AcceptLater place
accept_event place accepted.Failed = AcceptFault place

abbrev pub read_event : ℕ → List ℕ → Received → EndpointEvent
read_event place buffer (received.Octets count) = ReadEvent place (take count buffer)
read_event place buffer received.NoneNow = ReadNone place
read_event place buffer received.End = ReadEnd place
read_event place buffer received.Failed = ReadFault place

abbrev pub write_event : ℕ → List ℕ → Sent → EndpointEvent
write_event place offered (sent.Octets count) = WriteEvent place offered count
write_event place offered sent.NoneNow = WriteNone place offered
write_event place offered sent.Failed = WriteFault place offered

-- at least one octet was read, and no more than fit
abbrev pub FitsBuffer : List ℕ → Received → Type 0
FitsBuffer buffer (received.Octets count) = (0 < count) × (count ≤ length buffer)
FitsBuffer buffer received.NoneNow = ⊤
FitsBuffer buffer received.End = ⊤
FitsBuffer buffer received.Failed = ⊤

-- at least one octet was accepted, and no more than were offered
abbrev pub IsWithinOffer : List ℕ → Sent → Type 0
IsWithinOffer offered (sent.Octets count) = (0 < count) × (count ≤ length offered)
IsWithinOffer offered sent.NoneNow = ⊤
IsWithinOffer offered sent.Failed = ⊤
