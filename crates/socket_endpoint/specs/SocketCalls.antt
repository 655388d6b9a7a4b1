-- The calls that are made of a system of sockets, each with its answer.
use Rattle.std.specs.Prelude.{◌≡◌, ◌+◌, ℕ, List, ◌∷◌, Option, None, Some, Result}
use Rattle.std.specs.declared.io.Error.{Error}
use Rattle.mio.specs.declared.event.event.Event.{Event}

-- One call with its answer. A listener and a stream are the socket that the call is about.
pub data SocketCall (Listener Stream : Type 0) : Type 0 where
  -- the milliseconds since the system was made
  ReadsClock : Result ℕ Error → SocketCall Listener Stream
  -- a wait for at most this number of events and of nanoseconds, and the events that it gave
  Polls : ℕ → Option ℕ → Result (Unit {0}) Error → List Event → SocketCall Listener Stream
  -- having connections that wait at the listener reported under the token
  WatchesListener : Listener → ℕ → Result (Unit {0}) Error → SocketCall Listener Stream
  -- accepting a connection at the listener
  Accepts : Listener → Result Stream Error → SocketCall Listener Stream
  -- having what is written to the socket sent without delay
  SendsAtOnce : Stream → SocketCall Listener Stream
  -- having input of the socket, and room for output, reported under the token
  Watches : Stream → ℕ → Result (Unit {0}) Error → SocketCall Listener Stream
  -- having input of the socket alone reported, under another token
  WatchesInput : Stream → ℕ → Result (Unit {0}) Error → SocketCall Listener Stream
  -- reading from the socket: the buffer afterwards, and how many of its octets were read
  ReadsSocket : Stream → List ℕ → Result ℕ Error → SocketCall Listener Stream
  -- writing to the socket: the octets that were offered, and how many of them it took
  WritesSocket : Stream → List ℕ → Result ℕ Error → SocketCall Listener Stream
  -- ending the sending side of the socket
  EndsSending : Stream → Result (Unit {0}) Error → SocketCall Listener Stream

-- the most events of one poll
abbrev pub most_events : ℕ
most_events = 1024

-- all calls that were made of a system so far, the newest first, if they are known
abbrev pub SocketLog : Type 0 → Type 0 → Type 0
SocketLog Listener Stream = Option (List (SocketCall Listener Stream))

-- these calls, and then this one
abbrev pub logged : {L C : Type 0} → SocketCall L C → SocketLog L C → SocketLog L C
logged call None = None
logged call (Some calls) = Some (call ∷ calls)

-- from the first log on, this number of calls was made, each of which is such a one
pub data Repeats {L C : Type 0} (IsSuch : SocketCall L C → Type 0)
    : ℕ → SocketLog L C → SocketLog L C → Type 0 where
  no_call : {log : SocketLog L C} → Repeats IsSuch 0 log log
  one_more_call : {count : ℕ} {before middle after : SocketLog L C} (call : SocketCall L C)
      → Repeats IsSuch count before middle → IsSuch call → after ≡ logged call middle
      → Repeats IsSuch (count + 1) before after
