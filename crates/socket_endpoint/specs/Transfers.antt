-- What is read from a socket and written to it.
use Rattle.std.specs.Prelude.{◌≡◌, ◌≢◌, ◌⊎◌, ◌<◌, ℕ, List, Ok, Err, length}
use Rattle.std.specs.IoError.{error_kind}
use Rattle.std.specs.declared.io.Error.{Error}
use Rattle.hub_server.specs.declared.outcome.Received.{Received}
use Rattle.hub_server.specs.declared.outcome.Received.TheVariants as received
use Rattle.hub_server.specs.declared.outcome.Sent.{Sent}
use Rattle.hub_server.specs.declared.outcome.Sent.TheVariants as sent
use Rattle.std.specs.declared.io.ErrorKind.TheVariants.{Interrupted, WouldBlock}
use Rattle.socket_endpoint.specs.SocketCalls.{Repeats, SocketCall, SocketLog, logged}
use Rattle.socket_endpoint.specs.SocketCalls.SocketCall.{ReadsSocket, WritesSocket}

-- the most tries of a call that is interrupted
abbrev pub most_tries : ℕ
most_tries = 1000

module _ {L C : Type 0} where
  -- a read from the socket, or a write of these octets to it, that was interrupted
  abbrev pub IsInterruptedRead : C → SocketCall L C → Type 0
  IsInterruptedRead stream (ReadsSocket at buffer (Err error)) =
      (at ≡ stream) × (error_kind error ≡ Interrupted)
  IsInterruptedRead stream _ = ⊥

  abbrev pub IsInterruptedWrite : C → List ℕ → SocketCall L C → Type 0
  IsInterruptedWrite stream offered (WritesSocket at octets (Err error)) =
      (at ≡ stream) × (octets ≡ offered) × (error_kind error ≡ Interrupted)
  IsInterruptedWrite stream offered _ = ⊥

  -- the call failed, and neither would it have had to wait nor was it interrupted
  abbrev pub FailsWith : (Error → SocketCall L C) → SocketLog L C → SocketLog L C → Type 0
  FailsWith call before after =
      (error : Error) × (error_kind error ≢ WouldBlock) × (error_kind error ≢ Interrupted)
      × (after ≡ logged (call error) before)

  -- the call would have had to wait
  abbrev pub WouldWait : (Error → SocketCall L C) → SocketLog L C → SocketLog L C → Type 0
  WouldWait call before after =
      (error : Error) × (error_kind error ≡ WouldBlock) × (after ≡ logged (call error) before)

  -- The last of the reads, after this number of interrupted ones. What is reported is what the
  -- system gave: the octets at the front of the buffer.
  abbrev pub EndsReading : C → List ℕ → Received → ℕ → SocketLog L C → SocketLog L C → Type 0
  EndsReading stream buffer (received.Octets count) tries before after =
      after ≡ logged (ReadsSocket stream buffer (Ok count)) before
  EndsReading stream buffer received.End tries before after =
      after ≡ logged (ReadsSocket stream buffer (Ok 0)) before
  EndsReading stream buffer received.NoneNow tries before after =
      WouldWait (λ error. ReadsSocket stream buffer (Err error)) before after
  EndsReading stream buffer received.Failed tries before after =
      FailsWith (λ error. ReadsSocket stream buffer (Err error)) before after
      ⊎ ((tries ≡ most_tries) × (after ≡ before))

  -- Interrupted reads from the socket, and then one whose answer is the outcome. There is room for
  -- an octet: a read into none would give 0, as at the end.
  pub record ReadsFrom (stream : C) (buffer : List ℕ) (outcome : Received)
      (before after : SocketLog L C) : Type 0 where
    pub room : 0 < length buffer
    pub tries : ℕ
    pub middle : SocketLog L C
    pub interrupted : Repeats (IsInterruptedRead stream) tries before middle
    pub last : EndsReading stream buffer outcome tries middle after

  -- The last of the writes. What is reported is what the system took: the first of the octets.
  abbrev pub EndsWriting : C → List ℕ → Sent → ℕ → SocketLog L C → SocketLog L C → Type 0
  EndsWriting stream offered (sent.Octets count) tries before after =
      after ≡ logged (WritesSocket stream offered (Ok count)) before
  EndsWriting stream offered sent.NoneNow tries before after =
      WouldWait (λ error. WritesSocket stream offered (Err error)) before after
  EndsWriting stream offered sent.Failed tries before after =
      FailsWith (λ error. WritesSocket stream offered (Err error)) before after
      ⊎ ((tries ≡ most_tries) × (after ≡ before))
      ⊎ (after ≡ logged (WritesSocket stream offered (Ok 0)) before)

  -- interrupted writes of these octets to the socket, and then one whose answer is the outcome
  pub record WritesTo (stream : C) (offered : List ℕ) (outcome : Sent)
      (before after : SocketLog L C) : Type 0 where
    pub tries : ℕ
    pub middle : SocketLog L C
    pub interrupted : Repeats (IsInterruptedWrite stream offered) tries before middle
    pub last : EndsWriting stream offered outcome tries middle after
