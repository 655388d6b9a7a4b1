-- What the calls of one function amount to.
use Rattle.std.proofs.Common.{◌≡◌, ◌∙◌, ◌≤◌, ℕ, List, Option, Some, None, Result, Ok, Err, refl, ap}
use Rattle.std.proofs.Common.{subst, length, get_or}
use Rattle.std.proofs.lemmas.List.{get_or_past}
use Rattle.std.specs.Prelude.{OnErr}
use Rattle.std.specs.Result.{result_unwrap_or}
use Rattle.std.specs.declared.io.Error.{Error}
use Rattle.mio.specs.declared.event.event.Event.{Event}
use Rattle.socket_endpoint.specs.Lingering.{EndsAndLingers, room_octets}
use Rattle.socket_endpoint.specs.LingerSlots.{first_deadline}
use Rattle.socket_endpoint.specs.PollTimes.{earlier, nanos_of, time_left}
use Rattle.socket_endpoint.specs.SocketCalls.{SocketLog, logged, most_events}
use Rattle.socket_endpoint.specs.SocketCalls.SocketCall.{Polls, ReadsClock}
use Rattle.socket_endpoint.specs.SocketEvents.{ClosesStream, polled, timeout_from}
use Rattle.socket_endpoint.specs.declared.polling.Polling.{Polling}

pub on_err : {T E P : Type 0} (r : Result T E) → P → OnErr r P
on_err (Ok x) p = tt
on_err (Err e) p = p

-- what is no value is None
pub none_is : {A : Type 0} (o : Option A) → ((x : A) → o ≡ Some x → ⊥) → o ≡ None
none_is None never = refl
none_is (Some x) never = absurd (never x refl)

pub nothing_past : {A : Type 0} (xs : List (Option A)) (i : ℕ) → length xs ≤ i
    → get_or xs i None ≡ None
nothing_past xs i past = get_or_past xs i None past

module _ {S L C : Type 0} (log : S → SocketLog L C) where
  -- the clock was read, and the system polled
  pub polled_by : (until : Option ℕ) (old : Polling S C) (start count : ℕ) (first left nanos :
      Option ℕ) (answer : Result (Unit {0}) Error) (events : List Event) (x y : SocketLog L C)
      → first ≡ first_deadline old.lingerers.slots.items → left ≡ time_left (earlier until first)
      start → nanos ≡ nanos_of left → count ≡ most_events
      → x ≡ logged (ReadsClock (Ok start)) (log old.system) → y ≡ logged (Polls count nanos answer
      events) x → y ≡ polled log until old start answer events
  polled_by until old start count first left nanos answer events x y first_is left_is nanos_is
      count_is clock made =
      let time : nanos ≡ timeout_from until old start = nanos_is ∙ ap nanos_of (left_is
      ∙ ap (λ d. time_left (earlier until d) start) first_is) in
      made ∙ ap (λ n. logged (Polls n nanos answer events) x) count_is
      ∙ ap (λ t. logged (Polls most_events t answer events) x) time
      ∙ ap (λ t. logged (Polls most_events (timeout_from until old start) answer events) t)
      clock

  -- the clock was read, and the sending side of the socket ended
  pub closes_by : (stream : C) (old new : Polling S C) (clock : Result ℕ Error) (time : ℕ) (x :
      SocketLog L C) → time ≡ result_unwrap_or clock old.waited_at
      → x ≡ logged (ReadsClock clock) (log old.system)
      → EndsAndLingers stream room_octets time old.lingerers.slots.items new.lingerers.slots.items x
      (log new.system) → new.waited_at ≡ old.waited_at → ClosesStream log stream old new
  closes_by stream old new clock time x time_is made ends waited = record {
    clock = clock;
    ends = subst (λ n. EndsAndLingers stream room_octets n old.lingerers.slots.items
        new.lingerers.slots.items (logged (ReadsClock clock) (log old.system)) (log new.system))
        time_is
        (subst (λ t. EndsAndLingers stream room_octets time old.lingerers.slots.items
        new.lingerers.slots.items t (log new.system)) made ends);
    waited = waited;
  }
