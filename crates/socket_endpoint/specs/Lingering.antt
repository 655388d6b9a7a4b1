-- What is done with the sockets that linger.
use Rattle.std.specs.Prelude.{◌≡◌, ◌≢◌, ◌⊎◌, ◌≤◌, ◌<◌, ◌^◌, ◌-◌, ℕ, Bool, true, false, List, length}
use Rattle.std.specs.Prelude.{[], ◌∷◌, map, min, set, slice_index_or, if◌then◌else◌}
use Rattle.std.specs.Prelude.{Option, Some, None, Result, Ok, Err}
use Rattle.std.specs.IoError.{error_kind}
use Rattle.std.specs.declared.io.Error.{Error}
use Rattle.std.specs.declared.io.ErrorKind.{ErrorKind}
use Rattle.std.specs.declared.io.ErrorKind.TheVariants.{Interrupted, WouldBlock}
use Rattle.socket_endpoint.specs.Lingers.{is_given_up, linger_after, new_linger, octets_left}
use Rattle.socket_endpoint.specs.LingerSlots.{IsFirstSlot, is_slot_given_up, slot_after}
use Rattle.socket_endpoint.specs.SocketCalls.{Repeats, SocketCall, SocketLog, logged}
use Rattle.socket_endpoint.specs.SocketCalls.SocketCall.{EndsSending, ReadsSocket}
use Rattle.socket_endpoint.specs.SocketCalls.SocketCall.{WatchesInput}
use Rattle.socket_endpoint.specs.Subjects.{subject_of}
use Rattle.socket_endpoint.specs.declared.dropping.Dropped.{Dropped}
use Rattle.socket_endpoint.specs.declared.dropping.Dropped.TheVariants as dropped
use Rattle.socket_endpoint.specs.declared.lingerers.Lingerer.{Lingerer}
use Rattle.socket_endpoint.specs.declared.subject.Subject.{Subject}
use Rattle.socket_endpoint.specs.declared.subject.Subject.TheVariants as subject

-- the most octets of one read whose octets are dropped
abbrev pub room_octets : ℕ
room_octets = 16384

-- ---- which sockets linger

module _ {C : Type 0} where
  -- a socket that is closed now
  abbrev pub new_lingerer : C → ℕ → Lingerer C
  new_lingerer stream now = record { stream = stream; linger = new_linger now }

  -- the slots with the socket in this one, if it stays
  abbrev pub slots_with : List (Option (Lingerer C)) → ℕ → Lingerer C → Bool
      → List (Option (Lingerer C))
  slots_with slots slot lingerer true = set slots slot (Some lingerer)
  slots_with slots slot lingerer false = slots

  -- the socket in the slot, and when it was closed
  abbrev pub lingering : Option (Lingerer C) → Option (C × ℕ)
  lingering None = None
  lingering (Some lingerer) = Some (lingerer.stream, lingerer.linger.closed_at)

  abbrev pub lingering_at : List (Option (Lingerer C)) → ℕ → Option (C × ℕ)
  lingering_at slots slot = lingering (slice_index_or slots slot None)

  -- no socket came, and none moved or has another time: each lingers as before, or is gone
  abbrev pub OnlyLeave : List (Option (Lingerer C)) → List (Option (Lingerer C)) → Type 0
  OnlyLeave old new = (slot : ℕ)
      → (lingering_at new slot ≡ None) ⊎ (lingering_at new slot ≡ lingering_at old slot)

  -- the socket lingers in one of the slots
  abbrev pub IsLingering : List (Option (Lingerer C)) → C → Type 0
  IsLingering slots stream =
      (slot closed_at : ℕ) × (lingering_at slots slot ≡ Some (stream, closed_at))

  -- it lingers in the slot of which this is the token
  abbrev pub IsLingeringUnder : List (Option (Lingerer C)) → ℕ → C → Type 0
  IsLingeringUnder slots token stream =
      (slot closed_at : ℕ) × (subject_of token ≡ subject.Lingerer slot)
      × (lingering_at slots slot ≡ Some (stream, closed_at))

  -- none of the sockets is to be given up
  abbrev pub NoneIsOver : ℕ → List (Option (Lingerer C)) → Type 0
  NoneIsOver now slots =
      (slot : ℕ) → is_slot_given_up now (slice_index_or slots slot None) ≡ false

-- ---- one read of what a client still sends

-- what an error of reading means: the connection failed, nothing is there for now, or it was
-- interrupted
abbrev pub IsDroppedError : ErrorKind → Dropped → Type 0
IsDroppedError kind dropped.Ended = (kind ≢ WouldBlock) × (kind ≢ Interrupted)
IsDroppedError kind dropped.NoneNow = kind ≡ WouldBlock
IsDroppedError kind dropped.More = kind ≡ Interrupted

-- what a number of octets means: that the client has ended its side, or that there may be more
abbrev pub IsDroppedCount : ℕ → Dropped → Type 0
IsDroppedCount count dropped.Ended = count ≡ 0
IsDroppedCount count dropped.NoneNow = ⊥
IsDroppedCount count dropped.More = 0 < count

-- the answer of the read, the number of octets that were dropped, and what is expected of the next
abbrev pub IsDropped : Result ℕ Error → ℕ → Dropped → Type 0
IsDropped (Ok octets) count expected = (count ≡ octets) × IsDroppedCount octets expected
IsDropped (Err error) count expected = (count ≡ 0) × IsDroppedError (error_kind error) expected

module _ {L C : Type 0} where
  -- no octets may be dropped or fit
  pub record ReadsNothing (room most count : ℕ) (expected : Dropped) (before after : SocketLog L C)
      : Type 0 where
    pub unread : after ≡ before
    pub none : count ≡ 0
    pub goes_on : expected ≡ dropped.More
    pub no_room : (most ≡ 0) ⊎ (room ≡ 0)

  -- One read from the socket, into the whole room, as far as octets may be dropped. It is room for
  -- an octet: a read into none would give 0, as at the end.
  pub record ReadsOnce (stream : C) (room most count : ℕ) (expected : Dropped)
      (before after : SocketLog L C) : Type 0 where
    pub buffer : List ℕ
    pub whole : length buffer ≡ min most room
    pub some : 0 < length buffer
    pub answer : Result ℕ Error
    pub made : after ≡ logged (ReadsSocket stream buffer answer) before
    pub meant : IsDropped answer count expected

  -- one read from the socket, if octets may be dropped
  abbrev pub DropsInput : C → ℕ → ℕ → ℕ → Dropped → SocketLog L C → SocketLog L C → Type 0
  DropsInput stream room most count expected before after =
      ReadsNothing room most count expected before after
      ⊎ ReadsOnce stream room most count expected before after

  -- What has come to the socket is dropped, and it is over if the client has ended its side, or the
  -- socket is to be given up.
  pub record LooksAt (old new : Lingerer C) (room now : ℕ) (over : Bool)
      (before after : SocketLog L C) : Type 0 where
    pub count : ℕ
    pub expected : Dropped
    pub reads : DropsInput old.stream room (octets_left old.linger) count expected before after
    pub stream_is : new.stream ≡ old.stream
    pub linger_is : new.linger ≡ linger_after old.linger count now
    pub ended : over ≡ true → (expected ≡ dropped.Ended) ⊎ (is_given_up new.linger now ≡ true)
    pub goes_on : over ≡ false → (expected ≢ dropped.Ended) × (is_given_up new.linger now ≡ false)

  -- Input of the socket is reported under the token of the slot. If it isn't, the system can't, or
  -- there is no such slot or token.
  abbrev pub IsWatched : C → ℕ → ℕ → Bool → SocketLog L C → SocketLog L C → Type 0
  IsWatched stream slots slot true before after =
      (token : ℕ) × (subject_of token ≡ subject.Lingerer slot)
      × (after ≡ logged (WatchesInput stream token (Ok tt)) before)
  IsWatched stream slots slot false before after =
      ((token : ℕ) × (error : Error) × (subject_of token ≡ subject.Lingerer slot)
      × (after ≡ logged (WatchesInput stream token (Err error)) before))
      ⊎ ((after ≡ before) × ((slots ≤ slot) ⊎ (2 ^ 63 - 1 ≤ slot)))

  abbrev pub WatchesUnlessOver : Bool → C → ℕ → ℕ → Bool → SocketLog L C → SocketLog L C → Type 0
  WatchesUnlessOver true stream slots slot stays before after =
      (stays ≡ false) × (after ≡ before)
  WatchesUnlessOver false stream slots slot stays before after =
      IsWatched stream slots slot stays before after

  -- What has come to the socket is dropped, and what is left is reported. The socket stays in the
  -- slot if it isn't over, and its input is reported.
  pub record StaysOrGoes (old new : Lingerer C) (room now slots slot : ℕ) (stays : Bool)
      (before after : SocketLog L C) : Type 0 where
    pub over : Bool
    pub middle : SocketLog L C
    pub looks : LooksAt old new room now over before middle
    pub watches : WatchesUnlessOver over new.stream slots slot stays middle after

  -- ---- a socket that is closed

  -- the socket lingers in the first of the slots, or goes
  pub record Lingers (stream : C) (room now : ℕ) (old new : List (Option (Lingerer C)))
      (before after : SocketLog L C) : Type 0 where
    pub slot : ℕ
    pub lingerer : Lingerer C
    pub stays : Bool
    pub first : IsFirstSlot old slot
    pub looks : StaysOrGoes (new_lingerer stream now) lingerer room now (length old) slot stays
        before after
    pub slots : new ≡ slots_with old slot lingerer stays

  -- it lingers if its sending side could be ended
  abbrev pub LingersIfEnded : Result (Unit {0}) Error → C → ℕ → ℕ → List (Option (Lingerer C))
      → List (Option (Lingerer C)) → SocketLog L C → SocketLog L C → Type 0
  LingersIfEnded (Ok ended) stream room now old new before after =
      Lingers stream room now old new before after
  LingersIfEnded (Err error) stream room now old new before after =
      (new ≡ old) × (after ≡ before)

  -- the sending side of the socket is ended, and it lingers
  pub record EndsAndLingers (stream : C) (room now : ℕ) (old new : List (Option (Lingerer C)))
      (before after : SocketLog L C) : Type 0 where
    pub ended : Result (Unit {0}) Error
    pub lingers : LingersIfEnded ended stream room now old new
        (logged (EndsSending stream ended) before) after

  -- ---- sockets that linger, while the server waits

  -- what has come to the socket in the slot is dropped, and it stays there or goes
  pub record LooksAtSlot (room now slot : ℕ) (lingerer : Lingerer C)
      (old new : List (Option (Lingerer C))) (before after : SocketLog L C) : Type 0 where
    pub seen : Lingerer C
    pub stays : Bool
    pub looks : StaysOrGoes lingerer seen room now (length old) slot stays before after
    pub slots : new ≡ set old slot (if stays then Some seen else None)

  -- the same, if a socket is there
  abbrev pub LooksIfThere : ℕ → ℕ → ℕ → Option (Lingerer C) → List (Option (Lingerer C))
      → List (Option (Lingerer C)) → SocketLog L C → SocketLog L C → Type 0
  LooksIfThere room now slot None old new before after = (new ≡ old) × (after ≡ before)
  LooksIfThere room now slot (Some lingerer) old new before after =
      LooksAtSlot room now slot lingerer old new before after

  -- the same, if the event is about a slot
  abbrev pub LooksAtSubject : ℕ → ℕ → Subject → List (Option (Lingerer C))
      → List (Option (Lingerer C)) → SocketLog L C → SocketLog L C → Type 0
  LooksAtSubject room now subject.Listener old new before after =
      (new ≡ old) × (after ≡ before)
  LooksAtSubject room now (subject.Place place) old new before after =
      (new ≡ old) × (after ≡ before)
  LooksAtSubject room now (subject.Lingerer slot) old new before after =
      LooksIfThere room now slot (slice_index_or old slot None) old new before after

  -- the same for each of these, one after the other
  abbrev pub LooksAtEach : ℕ → ℕ → List Subject → List (Option (Lingerer C))
      → List (Option (Lingerer C)) → SocketLog L C → SocketLog L C → Type 0
  LooksAtEach room now [] old new before after = (new ≡ old) × (after ≡ before)
  LooksAtEach room now (first ∷ others) old new before after =
      (slots : List (Option (Lingerer C))) × (middle : SocketLog L C)
      × LooksAtSubject room now first old slots before middle
      × LooksAtEach room now others slots new middle after

  -- the sockets are looked at that the events are about, and then those are given up whose time is
  -- over
  pub record ServesSlots (room now : ℕ) (subjects : List Subject)
      (old new : List (Option (Lingerer C))) (before after : SocketLog L C) : Type 0 where
    pub looked : List (Option (Lingerer C))
    pub looks : LooksAtEach room now subjects old looked before after
    pub gives_up : new ≡ map (slot_after now) looked

  -- the call reads from one of these sockets, or has its input reported under the token of its slot
  abbrev pub IsDrain : List (Option (Lingerer C)) → SocketCall L C → Type 0
  IsDrain slots (ReadsSocket stream buffer answer) = IsLingering slots stream
  IsDrain slots (WatchesInput stream token answer) = IsLingeringUnder slots token stream
  IsDrain slots _ = ⊥

  -- some calls, each about one of the sockets that linger, of which some are given up
  pub record DrainsSlots (old new : List (Option (Lingerer C))) (before after : SocketLog L C)
      : Type 0 where
    pub count : ℕ
    pub calls : Repeats (IsDrain old) count before after
    pub leave : OnlyLeave old new
