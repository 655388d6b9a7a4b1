-- Serving connections after a line that announces the address.
use Rattle.std.specs.Prelude.{◌≡◌, ◌⊎◌, ℕ, List, [], ◌∷◌, ◌++◌, codes, decimal, Option}
use Rattle.std.specs.Io.KnownBytes.{Appends, Keeps}
use Rattle.base_types.specs.Octets.{line_feed}
use Rattle.book_http.specs.Streams.{WritesPrefix}
use Rattle.http_requests.specs.HandlerRuns.{HandlerRelation, FaultReplies}
use Rattle.hub_server.specs.EndpointRuns.{EndpointRelation}
use Rattle.hub_server.specs.ServedEndpoints.{ServesAll, StopsAtEndpoint}
use Rattle.hub_server.specs.declared.endpoint_fault.EndpointFault.{EndpointFault}
use Rattle.hub_server.specs.declared.limits.ServeLimits.{ServeLimits}
use Rattle.cli_orders.specs.declared.address.Address.{Address}
use Rattle.cli_orders.specs.declared.address.Address.TheVariants.{Port, Socket}
use Rattle.cli_orders.specs.declared.stop.Stop.{Stop}
use Rattle.cli_orders.specs.declared.stop.Stop.TheVariants.{Device}
use Rattle.cli_orders.specs.Stops.{out_of_memory, stop_of_endpoint}

-- the line that announces the address
abbrev pub listening_line : Address → List ℕ
listening_line (Port port) = codes "listening 127.0.0.1:" ++ (decimal port ++ line_feed ∷ [])
listening_line (Socket path) = codes "listening unix:" ++ (path ++ line_feed ∷ [])

-- the line that announces some address was written
pub record WritesListeningLine (before after : Option (List ℕ)) : Type 0 where
  pub address : Address
  pub written : Appends before after (listening_line address)

-- A handler is represented by what it does, and an endpoint by the effect of each call.
module _ {State Endpoint : Type 0} (does : HandlerRelation State) (fault_reply : FaultReplies)
    (calls : EndpointRelation Endpoint) where
  -- the line was written, and all connections were served
  pub record AnnouncesAndServes (address : Address) (limits : ServeLimits)
      (old : State) (start : Endpoint) (before after : Option (List ℕ))
      (new : State) (end : Endpoint) : Type 0 where
    pub written : Appends before after (listening_line address)
    pub serves : ServesAll does fault_reply calls limits old start new end

  -- memory ran out for the line: nothing was written, handled or called
  pub record LacksLine (old : State) (start : Endpoint) (before after : Option (List ℕ))
      (stop : Stop) (new : State) (end : Endpoint) : Type 0 where
    pub stop_is : stop ≡ out_of_memory
    pub unwritten : Keeps before after
    pub unhandled : new ≡ old
    pub uncalled : end ≡ start

  -- the writer failed: a prefix of the line is written, and nothing was handled or called
  pub record FailsToAnnounce (address : Address) (old : State) (start : Endpoint)
      (before after : Option (List ℕ)) (stop : Stop) (new : State) (end : Endpoint) : Type 0 where
    pub stop_is : stop ≡ Device
    pub front : WritesPrefix (listening_line address) before after
    pub unhandled : new ≡ old
    pub uncalled : end ≡ start

  -- the line was written, and then serving ended with this fault
  pub record FailsToServe (address : Address) (limits : ServeLimits)
      (old : State) (start : Endpoint) (before after : Option (List ℕ))
      (stop : Stop) (new : State) (end : Endpoint) : Type 0 where
    pub written : Appends before after (listening_line address)
    pub fault : EndpointFault
    pub stop_is : stop ≡ stop_of_endpoint fault
    pub serves : StopsAtEndpoint does fault_reply calls limits fault old start new end

  -- why not all connections were served
  abbrev pub StopsServing : Address → ServeLimits → State → Endpoint
      → Option (List ℕ) → Option (List ℕ) → Stop → State → Endpoint → Type 0
  StopsServing address limits old start before after stop new end =
      LacksLine old start before after stop new end
      ⊎ (FailsToAnnounce address old start before after stop new end
      ⊎ FailsToServe address limits old start before after stop new end)
