-- What one look at a socket that was closed amounts to, and what becomes of the socket.
use Rattle.std.proofs.Common.{◌≡◌, ◌≢◌, ◌∙◌, ℕ, zero, suc, Bool, true, false, List, [], ◌∷◌, Option}
use Rattle.std.proofs.Common.{Some, None, Result, Ok, Err, inl, inr, refl, sym, ap, subst, get_or}
use Rattle.std.proofs.Common.{length, map, set, if◌then◌else◌}
use Rattle.std.specs.Prelude.{is_ok, is_err}
use Rattle.std.specs.declared.io.Error.{Error}
use Rattle.mio.specs.declared.event.event.Event.{Event}
use Rattle.socket_endpoint.specs.Lingering.{DropsInput, EndsAndLingers, IsWatched, Lingers, LooksAt}
use Rattle.socket_endpoint.specs.Lingering.{LooksAtEach, LooksAtSlot, LooksAtSubject, LooksIfThere}
use Rattle.socket_endpoint.specs.Lingering.{StaysOrGoes, slots_with}
use Rattle.socket_endpoint.specs.LingerSlots.{IsFirstSlot}
use Rattle.socket_endpoint.specs.Lingers.{is_given_up, linger_after, new_linger, octets_left}
use Rattle.socket_endpoint.specs.Reports.{event_subject}
use Rattle.socket_endpoint.specs.SocketCalls.{SocketLog, logged}
use Rattle.socket_endpoint.specs.SocketCalls.SocketCall.{EndsSending, WatchesInput}
use Rattle.socket_endpoint.specs.Subjects.{subject_of}
use Rattle.socket_endpoint.specs.declared.dropping.Dropped.{Dropped}
use Rattle.socket_endpoint.specs.declared.dropping.Dropped.TheVariants as dropped
use Rattle.socket_endpoint.specs.declared.linger.Linger.{Linger}
use Rattle.socket_endpoint.specs.declared.lingerers.Lingerer.{Lingerer}
use Rattle.socket_endpoint.specs.declared.subject.Subject.{Subject}
use Rattle.socket_endpoint.specs.declared.subject.Subject.TheVariants as subject

module _ {L C : Type 0} where
  -- the client has ended its side
  pub looks_ended : (old new : Lingerer C) (room now most count : ℕ) (expected : Dropped) (x y :
      SocketLog L C) → most ≡ octets_left old.linger → DropsInput old.stream room most count
      expected x y → new.stream ≡ old.stream → new.linger ≡ linger_after old.linger count now
      → expected ≡ dropped.Ended → LooksAt old new room now true x y
  looks_ended old new room now most count expected x y most_is reads stream_is linger_is end =
      record {
        count = count;
        expected = expected;
        reads = subst (λ m. DropsInput old.stream room m count expected x y) most_is reads;
        stream_is = stream_is;
        linger_is = linger_is;
        ended = λ over. inl end;
        goes_on = λ over. absurd (cc over);
      }

  -- it hasn't
  pub looks_on : (old new : Lingerer C) (room now most count : ℕ) (expected : Dropped) (over : Bool)
      (x y : SocketLog L C) → most ≡ octets_left old.linger → DropsInput old.stream room most count
      expected x y → new.stream ≡ old.stream → new.linger ≡ linger_after old.linger count now
      → expected ≢ dropped.Ended → over ≡ is_given_up new.linger now
      → LooksAt old new room now over x y
  looks_on old new room now most count expected over x y most_is reads stream_is linger_is goes_on
      over_is = record {
        count = count;
        expected = expected;
        reads = subst (λ m. DropsInput old.stream room m count expected x y) most_is reads;
        stream_is = stream_is;
        linger_is = linger_is;
        ended = λ is. inr (sym over_is ∙ is);
        goes_on = λ is. (goes_on, sym over_is ∙ is);
      }

  -- the system was asked to report its input, and answered
  pub watched_by : (stream : C) (slots slot token : ℕ) (answer : Result (Unit {0}) Error) (x y :
      SocketLog L C) → subject_of token ≡ subject.Lingerer slot
      → y ≡ logged (WatchesInput stream token answer) x → IsWatched stream slots slot (is_ok answer)
      x y
  watched_by stream slots slot token (Ok done) x y of_slot made = (token, of_slot, made)
  watched_by stream slots slot token (Err error) x y of_slot made = inl (
    token,
    error,
    of_slot,
    made,
  )

  pub goes_over : (old new : Lingerer C) (room now slots slot : ℕ) (over : Bool) (x y : SocketLog L
      C) → over ≡ true → LooksAt old new room now over x y → StaysOrGoes old new room now slots slot
      false x y
  goes_over old new room now slots slot over x y is looks = record {
    over = true;
    middle = y;
    looks = subst (λ o. LooksAt old new room now o x y) is looks;
    watches = (refl, refl);
  }

  pub stays_if : (old looked new : Lingerer C) (room now slots slot : ℕ) (over stays : Bool) (x y z
      : SocketLog L C) → over ≡ false → LooksAt old looked room now over x y → new ≡ looked
      → IsWatched looked.stream slots slot stays y z → StaysOrGoes old new room now slots slot stays
      x z
  stays_if old looked new room now slots slot over stays x y z is looks same watches =
      let it : StaysOrGoes old looked room now slots slot stays x z = record {
        over = false;
        middle
            = y;
        looks = subst (λ o. LooksAt old looked room now o x y) is looks;
        watches = watches;
      }
      in
      subst (λ l. StaysOrGoes old l room now slots slot stays x z) (sym same) it

  -- the socket lingers in the slot, or goes
  pub lingers_by : (stream : C) (linger : Linger) (last : Lingerer C) (room now slot : ℕ) (answer
      stays : Bool) (old new : List (Option (Lingerer C))) (x y : SocketLog L C)
      → linger ≡ new_linger now → IsFirstSlot old slot → answer ≡ stays
      → StaysOrGoes (record { stream = stream; linger = linger }) last room now (length old) slot
      answer x y → new ≡ slots_with old slot last stays → Lingers stream room now old new x y
  lingers_by stream linger last room now slot answer stays old new x y linger_is first is looks
      slots = record {
        slot = slot;
        lingerer = last;
        stays = stays;
        first = first;
        looks = subst (λ l. StaysOrGoes (record { stream = stream; linger = l }) last room now (length
            old) slot stays x y) linger_is
            (subst (λ s. StaysOrGoes (record { stream = stream; linger = linger }) last room now (length
            old) slot s x y) is looks);
        slots = slots;
      }

  -- its sending side was ended
  pub lingers_if : (stream : C) (room now : ℕ) (answer : Result (Unit {0}) Error) (old new : List
      (Option (Lingerer C))) (x y z : SocketLog L C) → is_err answer ≡ false
      → y ≡ logged (EndsSending stream answer) x → Lingers stream room now old new y z
      → EndsAndLingers stream room now old new x z
  lingers_if stream room now (Ok done) old new x y z ended made lingers = record {
    ended = Ok done;
    lingers = subst (λ t. Lingers stream room now old new t z) made lingers;
  }
  lingers_if stream room now (Err error) old new x y z ended made lingers = absurd (cc ended)

  -- it couldn't be
  pub lingers_not : (stream : C) (room now : ℕ) (answer : Result (Unit {0}) Error) (old : List
      (Option (Lingerer C))) (x y : SocketLog L C) → is_err answer ≡ true
      → y ≡ logged (EndsSending stream answer) x → EndsAndLingers stream room now old old x y
  lingers_not stream room now (Ok done) old x y failed made = absurd (cc failed)
  lingers_not stream room now (Err error) old x y failed made = record {
    ended = Err error;
    lingers
        = (refl, made);
  }

-- to free a slot that is free changes nothing
pub free_stays : {A : Type 0} (slots : List (Option A)) (slot : ℕ) → get_or slots slot None ≡ None
    → set slots slot None ≡ slots
free_stays [] slot free = refl
free_stays (x ∷ xs) zero free = ap (λ o. o ∷ xs) (sym free)
free_stays (x ∷ xs) (suc slot) free = ap (λ t. x ∷ t) (free_stays xs slot free)

module _ {L C : Type 0} (room now : ℕ) where
  -- it isn't about a socket that lingers
  pub looks_elsewhere : (about : Subject) (old : List (Option (Lingerer C))) (x : SocketLog L C)
      → ((slot : ℕ) → about ≡ subject.Lingerer slot → ⊥) → LooksAtSubject room now about old old x x
  looks_elsewhere subject.Listener old x other = (refl, refl)
  looks_elsewhere (subject.Place place) old x other = (refl, refl)
  looks_elsewhere (subject.Lingerer slot) old x other = absurd (other slot refl)

  module _ (about : Subject) (slot : ℕ) (is : about ≡ subject.Lingerer slot) where
    -- no socket is in the slot
    pub looks_at_none : (old new : List (Option (Lingerer C))) (x : SocketLog L C)
        → get_or old slot None ≡ None → new ≡ old → LooksAtSubject room now about old new x x
    looks_at_none old new x none same =
        subst (λ s. LooksAtSubject room now s old new x x) (sym is)
        (subst (λ o. LooksIfThere room now slot o old new x x) (sym none) (same, refl))

    -- the socket in the slot stays there, or goes
    pub looks_at_one : (count : ℕ) (old new : List (Option (Lingerer C))) (lingerer seen : Lingerer
        C) (stays : Bool) (x y : SocketLog L C) → get_or old slot None ≡ Some lingerer
        → count ≡ length old → StaysOrGoes lingerer seen room now count slot stays x y
        → new ≡ set old slot (if stays then Some seen else None)
        → LooksAtSubject room now about old new x y
    looks_at_one count old new lingerer seen stays x y found count_is looks slots =
        let it : LooksAtSlot room now slot lingerer old new x y = record {
          seen = seen;
          stays =
              stays;
          looks = subst (λ n. StaysOrGoes lingerer seen room now n slot stays x y) count_is
              looks;
          slots = slots;
        } in
        subst (λ s. LooksAtSubject room now s old new x y) (sym is)
        (subst (λ o. LooksIfThere room now slot o old new x y) (sym found) it)

  -- no event is left
  pub looks_last : (events : List Event) (slots : List (Option (Lingerer C))) (x : SocketLog L C)
      → length events ≡ 0 → LooksAtEach room now (map event_subject events) slots slots x x
  looks_last [] slots x none = (refl, refl)
  looks_last (event ∷ events) slots x none = absurd (cc none)

  -- one more is looked at before the others
  pub looks_next : (about : Subject) (all rest : List Subject) (old middle new : List (Option
      (Lingerer C))) (x y z : SocketLog L C) → all ≡ about ∷ rest
      → LooksAtSubject room now about old middle x y → LooksAtEach room now rest middle new y z
      → LooksAtEach room now all old new x z
  looks_next about all rest old middle new x y z is first later =
      subst (λ s. LooksAtEach room now s old new x z) (sym is) (middle, y, first, later)
