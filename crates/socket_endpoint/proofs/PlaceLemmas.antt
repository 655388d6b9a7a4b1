-- What becomes of the sockets at places.
use Rattle.std.proofs.Common.{◌≡◌, ℕ, List, Option, sym, subst}
use Rattle.hub_server.specs.declared.outcome.Received.{Received}
use Rattle.hub_server.specs.declared.outcome.Sent.{Sent}
use Rattle.socket_endpoint.specs.SocketCalls.{SocketLog}
use Rattle.socket_endpoint.specs.SocketEvents.{ClosesSocket, KeepsSockets, ReadsAt, ReadsPlace}
use Rattle.socket_endpoint.specs.SocketEvents.{WritesAt, WritesPlace, socket_at}
use Rattle.socket_endpoint.specs.declared.endpoint.EndpointOver.{EndpointOver}
use Rattle.socket_endpoint.specs.declared.polling.Polling.{Polling}

module _ {S L C : Type 0} (log : S → SocketLog L C) where
  pub reads_by : (place : ℕ) (found : Option C) (buffer : List ℕ) (outcome : Received) (old new :
      EndpointOver S L C) → socket_at old.places.items place ≡ found
      → ReadsAt log found buffer outcome old new → KeepsSockets old new
      → ReadsPlace log place buffer outcome old new
  reads_by place found buffer outcome old new is reads kept = record {
    reads = subst (λ o. ReadsAt
        log o buffer outcome old new) (sym is) reads;
    kept = kept;
  }

  pub writes_by : (place : ℕ) (found : Option C) (offered : List ℕ) (outcome : Sent) (old new :
      EndpointOver S L C) → socket_at old.places.items place ≡ found
      → WritesAt log found offered outcome old new → KeepsSockets old new
      → WritesPlace log place offered outcome old new
  writes_by place found offered outcome old new is writes kept = record {
    writes = subst (λ o.
        WritesAt log o offered outcome old new) (sym is) writes;
    kept = kept;
  }

  pub closes_if : (found place : Option C) (old new : Polling S C) → place ≡ found
      → ClosesSocket log found old new → ClosesSocket log place old new
  closes_if found place old new is closes = subst (λ o. ClosesSocket log o old new) (sym is) closes
