-- Serving connections one after another, after a line that announces the port.
use Rattle.std.specs.Prelude.{◌≡◌, ◌⊎◌, ℕ, List, Option}
use Rattle.std.specs.Io.KnownBytes.{Appends, Keeps}
use Rattle.book_http.specs.ConnectionModels.{ConnectionModel}
use Rattle.book_http.specs.Listening.{AbortsSome, FailsToWait, ServesEach}
use Rattle.book_http.specs.Streams.{WritesPrefix}
use Rattle.http_requests.specs.HandlerRuns.{HandlerRelation, FaultReplies}
use Rattle.cli_orders.specs.Announcements.{listening_line}
use Rattle.cli_orders.specs.declared.address.Address.TheVariants.{Port}
use Rattle.cli_orders.specs.declared.stop.Stop.{Stop}
use Rattle.cli_orders.specs.declared.stop.Stop.TheVariants.{Refused, Fault, Open, Serve, Device}
use Rattle.cli_orders.specs.Stops.{out_of_memory}

-- the whole line was written, and this was done
pub record Announces (port : ℕ) (before after : Option (List ℕ)) (Serves : Type 0) : Type 0 where
  pub written : Appends before after (listening_line (Port port))
  pub serves : Serves

-- A handler is represented by what it does, a connection by its octets, and a listener by the
-- connections that arrive at it.
module _ {State Connection : Type 0} (does : HandlerRelation State) (fault_reply : FaultReplies)
    (stream : ConnectionModel Connection) where
  -- the line was written, and the requested number of connections was served, each to its end
  abbrev pub AnnouncesAndServesInTurn : ℕ → ℕ → Option (List (Option Connection)) → State
      → Option (List ℕ) → Option (List ℕ) → State → Type 0
  AnnouncesAndServesInTurn port connections coming old before after new =
      Announces port before after
      (ServesEach does fault_reply stream connections coming old new)

  -- the writer failed: a prefix of the line is written, and nothing was handled
  pub record FailsToAnnounceTurns (port : ℕ) (old : State) (before after : Option (List ℕ))
      (new : State) : Type 0 where
    pub front : WritesPrefix (listening_line (Port port)) before after
    pub unhandled : new ≡ old

  -- Why not all connections were served to their ends. `Serve` has the fault of the first that was
  -- aborted, and all of them were served.
  abbrev pub StopsServingInTurn : ℕ → ℕ → Option (List (Option Connection)) → State
      → Option (List ℕ) → Option (List ℕ) → Stop → State → Type 0
  StopsServingInTurn port connections coming old before after (Serve fault) new =
      Announces port before after
      (AbortsSome does fault_reply stream fault connections coming old new)
  StopsServingInTurn port connections coming old before after Device new =
      Announces port before after
      (FailsToWait does fault_reply stream connections coming old new)
      ⊎ FailsToAnnounceTurns port old before after new
  StopsServingInTurn port connections coming old before after (Fault fault) new =
      (Fault fault ≡ out_of_memory) × Keeps before after × (new ≡ old)
  StopsServingInTurn port connections coming old before after (Refused refusal) new = ⊥
  StopsServingInTurn port connections coming old before after (Open fault) new = ⊥
