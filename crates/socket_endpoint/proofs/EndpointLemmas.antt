-- What each outcome of a call at an endpoint amounts to.
use Rattle.std.proofs.Common.{ℕ, List, refl}
use Rattle.hub_server.specs.Endpoints.{accept_event, read_event, write_event}
use Rattle.hub_server.specs.declared.outcome.Accepted.{Accepted}
use Rattle.hub_server.specs.declared.outcome.Accepted.TheVariants as accepted
use Rattle.hub_server.specs.declared.outcome.Received.{Received}
use Rattle.hub_server.specs.declared.outcome.Received.TheVariants as received
use Rattle.hub_server.specs.declared.outcome.Sent.{Sent}
use Rattle.hub_server.specs.declared.outcome.Sent.TheVariants as sent
use Rattle.socket_endpoint.specs.SocketCalls.{SocketLog}
use Rattle.socket_endpoint.specs.SocketEvents.{Accepting, DoesAtSockets, ReadsPlace, WritesPlace}
use Rattle.socket_endpoint.specs.declared.endpoint.EndpointOver.{EndpointOver}

module _ {S L C : Type 0} (log : S → SocketLog L C) where
  pub accept_does : (place : ℕ) (outcome : Accepted) (old new : EndpointOver S L C)
      → Accepting log place outcome old new → DoesAtSockets log old (accept_event place outcome) new
  accept_does place accepted.Connection old new it = it
  accept_does place accepted.NoneNow old new it = it
  accept_does place accepted.Later old new it = it
  accept_does place accepted.Failed old new it = it

  pub read_does : (place : ℕ) (buffer : List ℕ) (outcome : Received) (old new : EndpointOver S L C)
      → ReadsPlace log place buffer outcome old new → DoesAtSockets log old (read_event place buffer
      outcome) new
  read_does place buffer (received.Octets count) old new it = record {
    buffer = buffer;
    count =
        count;
    octets_are = refl;
    reads = it;
  }
  read_does place buffer received.NoneNow old new it = record { buffer = buffer; reads = it }
  read_does place buffer received.End old new it = record { buffer = buffer; reads = it }
  read_does place buffer received.Failed old new it = record { buffer = buffer; reads = it }

  pub write_does : (place : ℕ) (offered : List ℕ) (outcome : Sent) (old new : EndpointOver S L C)
      → WritesPlace log place offered outcome old new → DoesAtSockets log old (write_event place
      offered outcome) new
  write_does place offered (sent.Octets count) old new it = it
  write_does place offered sent.NoneNow old new it = it
  write_does place offered sent.Failed old new it = it
