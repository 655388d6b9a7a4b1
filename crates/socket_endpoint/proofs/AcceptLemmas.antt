-- What accepting amounts to, after tries at which a connection failed before it was accepted.
use Rattle.std.proofs.Common.{◌≡◌, ◌∙◌, ℕ, Ok, Err, Some, inl, ap, subst, set}
use Rattle.std.specs.IoError.{raw_os_error}
use Rattle.std.specs.declared.io.Error.{Error}
use Rattle.hub_server.specs.declared.outcome.Accepted.{Accepted}
use Rattle.hub_server.specs.declared.outcome.Accepted.TheVariants as accepted
use Rattle.socket_endpoint.specs.AcceptCauses.{accept_cause}
use Rattle.socket_endpoint.specs.SocketCalls.{SocketLog, logged}
use Rattle.socket_endpoint.specs.SocketCalls.SocketCall.{Accepts, SendsAtOnce}
use Rattle.socket_endpoint.specs.SocketEvents.{EndsAccepting, GetsSocket, KeepsSockets, SeatsOrNot}
use Rattle.socket_endpoint.specs.SocketEvents.{StopsAccepting, log_of}
use Rattle.socket_endpoint.specs.declared.accept_causes.AcceptCause.{AcceptCause}
use Rattle.socket_endpoint.specs.declared.endpoint.EndpointOver.{EndpointOver}

pub keeps_trans : {S L C : Type 0} (a b c : EndpointOver S L C) → KeepsSockets a b
    → KeepsSockets b c → KeepsSockets a c
keeps_trans a b c first later = record {
  listener = later.listener
      ∙ first.listener;
  places = later.places ∙ first.places;
  slots = later.slots ∙ first.slots;
}

module _ {S L C : Type 0} (log : S → SocketLog L C) where
  seats_earlier : (place : ℕ) (stream : C) (outcome : Accepted) (old mid new : EndpointOver S L C)
      (x : SocketLog L C) → KeepsSockets old mid → SeatsOrNot log place stream outcome mid new x
      → SeatsOrNot log place stream outcome old new x
  seats_earlier place stream accepted.Connection old mid new x keeps it = record {
    token = it.token;
    of_place = it.of_place;
    watched = it.watched;
    listener = it.listener ∙ keeps.listener;
    places = it.places ∙ ap (λ ps. set ps place (Some stream)) keeps.places;
    slots = it.slots ∙ keeps.slots;
  }
  seats_earlier place stream accepted.NoneNow old mid new x keeps it = it
  seats_earlier place stream accepted.Later old mid new x keeps it = record {
    token = it.token;
    error = it.error;
    of_place = it.of_place;
    refused = it.refused;
    kept = keeps_trans old mid new
        keeps it.kept;
  }
  seats_earlier place stream accepted.Failed old mid new x keeps it = record {
    too_great =
        it.too_great;
    same = it.same;
    kept = keeps_trans old mid new keeps it.kept;
  }

  ends_with : (place tries : ℕ) (outcome : Accepted) (old new : EndpointOver S L C) (x : SocketLog L
      C) → GetsSocket log place outcome old new x → EndsAccepting log place tries outcome old new x
  ends_with place tries accepted.Connection old new x it = it
  ends_with place tries accepted.NoneNow old new x it = absurd it.seats
  ends_with place tries accepted.Later old new x it = inl it
  ends_with place tries accepted.Failed old new x it = inl it

  -- the system gave a socket, of which this became
  pub accepts_by : (place tries : ℕ) (stream : C) (listener : L) (outcome : Accepted) (old mid new :
      EndpointOver S L C) (x y : SocketLog L C) → KeepsSockets old mid → listener ≡ old.listener
      → y ≡ logged (Accepts listener (Ok stream)) x → SeatsOrNot log place stream outcome mid new
      (logged (SendsAtOnce stream) y)
      → EndsAccepting log place tries outcome old new x
  accepts_by place tries stream listener outcome old mid new x y keeps at made it =
      let log_is : y ≡ logged (Accepts old.listener (Ok stream)) x = made
      ∙ ap (λ l. logged (Accepts l (Ok stream)) x) at in
      let seats = seats_earlier place stream outcome old mid new (logged (SendsAtOnce stream) y)
      keeps it in
      ends_with place tries outcome old new x (record {
        stream = stream;
        seats = subst (λ t.
            SeatsOrNot log place stream outcome old new (logged (SendsAtOnce stream) t)) log_is seats;
      })

  -- a try failed, and the error means this
  pub stops_by : (which : AcceptCause) (listener : L) (error : Error) (old new : EndpointOver S L C)
      (x : SocketLog L C) → KeepsSockets old new → listener ≡ old.listener
      → accept_cause (raw_os_error error) ≡ which → log_of log new ≡ logged (Accepts listener (Err
      error)) x → StopsAccepting log which old new x
  stops_by which listener error old new x keeps at means made = record {
    call = Accepts listener
        (Err error);
    fails = (at, means);
    made = made;
    kept = keeps;
  }
