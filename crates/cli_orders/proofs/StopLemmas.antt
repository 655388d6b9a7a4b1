-- Why an order stops, and what is written then.
use Rattle.std.proofs.Common.{◌≡◌, ◌⊎◌, ℕ, List, Option, Some, None, inl, inr, refl, subst, sym}
use Rattle.std.specs.Io.KnownBytes.{Appends, Keeps}
use Rattle.book_commands.specs.declared.reply.Reply.{Reply}
use Rattle.http_requests.specs.HandlerRuns.{HandlerRelation, FaultReplies}
use Rattle.hub_server.specs.EndpointRuns.{EndpointRelation}
use Rattle.hub_server.specs.ServedEndpoints.{StopsAtEndpoint}
use Rattle.hub_server.specs.declared.endpoint_fault.EndpointFault.{EndpointFault}
use Rattle.hub_server.specs.declared.endpoint_fault.EndpointFault.TheVariants as endpoint
use Rattle.hub_server.specs.declared.limits.ServeLimits.{ServeLimits}
use Rattle.cli_orders.specs.declared.address.Address.{Address}
use Rattle.cli_orders.specs.declared.stop.Stop.{Stop}
use Rattle.cli_orders.specs.declared.stop.Stop.TheVariants.{Refused, Fault, Open, Serve, Device}
use Rattle.cli_orders.specs.Announcements.{StopsServing, WritesListeningLine, listening_line}
use Rattle.cli_orders.specs.Stops.{out_of_memory, stop_of_endpoint}
use Rattle.book_http.specs.Streams.{WritesPrefix}
use Rattle.cli_orders.specs.ReplyTexts.{KeepsOutput, StopsOnReply}

pub kept_same : (w : Option (List ℕ)) → Keeps w w
kept_same None = tt
kept_same (Some octets) = refl

pub keeps_leaves : (stop : Stop) (before after : Option (List ℕ)) → Keeps before after
    → KeepsOutput stop before after
keeps_leaves (Refused refusal) before after k = k
keeps_leaves (Fault fault) before after k = k
keeps_leaves (Open fault) before after k = k
keeps_leaves (Serve fault) before after k = tt
keeps_leaves Device before after k = tt

-- a writer that failed may have anything
pub output_kept_by_device : (stop : Stop) (before after : Option (List ℕ)) → stop ≡ Device
    → KeepsOutput stop before after
output_kept_by_device stop before after is =
    subst (λ (s : Stop). KeepsOutput s before after) (sym is) tt

-- ---- of a reply

pub stop_leaves : (r : Reply) (stop : Stop) (before after : Option (List ℕ))
    → StopsOnReply r stop before after → KeepsOutput stop before after
stop_leaves r stop before after (inl said) = keeps_leaves stop before after said.1
stop_leaves r stop before after (inr cut) = output_kept_by_device stop before after cut.0

-- ---- of connections

module _ {State Endpoint : Type 0} (does : HandlerRelation State) (fault_reply : FaultReplies)
    (calls : EndpointRelation Endpoint) where
  abbrev Stopped : Address → ServeLimits → State → Endpoint → Option (List ℕ) → Option (List ℕ)
      → Stop → State → Endpoint → Type 0
  Stopped address limits old start before after stop new end =
      StopsServing does fault_reply calls address limits old start before after stop new end

  pub stops_without_line : (address : Address) (limits : ServeLimits) (old : State) (start :
      Endpoint) (w : Option (List ℕ)) → Stopped address limits old start w w out_of_memory old start
  stops_without_line address limits old start w =
      inl (record { stop_is = refl; unwritten = kept_same w; unhandled = refl; uncalled = refl })

  pub stops_mute : (address : Address) (limits : ServeLimits) (old : State) (start : Endpoint)
      (before after : Option (List ℕ)) (stop : Stop) → stop ≡ Device
      → WritesPrefix (listening_line address) before after
      → Stopped address limits old start before after stop old start
  stops_mute address limits old start before after stop is front =
      inr (inl (record { stop_is = is; front = front; unhandled = refl; uncalled = refl }))

  pub stops_announced : (address : Address) (limits : ServeLimits) (old new : State) (start end :
      Endpoint) (before after : Option (List ℕ)) (fault : EndpointFault)
      → Appends before after (listening_line address)
      → StopsAtEndpoint does fault_reply calls limits fault old start new end
      → Stopped address limits old start before after (stop_of_endpoint fault) new end
  stops_announced address limits old new start end before after fault written serves =
      inr (inr (record { written = written; fault = fault; stop_is = refl; serves = serves }))

  -- a fault may have come after the line was written; no other stop but `Device` comes then
  pub serving_stop_leaves : (address : Address) (limits : ServeLimits) (old new : State)
      (start end : Endpoint) (before after : Option (List ℕ)) (stop : Stop)
      → Stopped address limits old start before after stop new end
      → KeepsOutput stop before after ⊎ ((stop ≡ out_of_memory) × WritesListeningLine before after)
  serving_stop_leaves address limits old new start end before after stop (inl s) =
      inl (keeps_leaves stop before after s.unwritten)
  serving_stop_leaves address limits old new start end before after stop (inr (inl s)) =
      inl (output_kept_by_device stop before after s.stop_is)
  serving_stop_leaves address limits old new start end before after stop (inr (inr s)) =
      by_fault s.fault s.stop_is
    where
      by_fault : (fault : EndpointFault) → stop ≡ stop_of_endpoint fault
          → KeepsOutput stop before after
          ⊎ ((stop ≡ out_of_memory) × WritesListeningLine before after)
      by_fault endpoint.Wait is = inl (output_kept_by_device stop before after is)
      by_fault endpoint.Accept is = inl (output_kept_by_device stop before after is)
      by_fault endpoint.TooManyWaits is = inl (output_kept_by_device stop before after is)
      by_fault endpoint.Memory is = inr (is, record { address = address; written = s.written })
