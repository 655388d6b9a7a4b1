-- Why serving connections one after another stops, and what is written then.
use Rattle.std.proofs.Common.{◌≡◌, ℕ, List, Option, inl, inr, refl, subst, sym}
use Rattle.std.specs.Io.KnownBytes.{Appends}
use Rattle.book_http.specs.ConnectionModels.{ConnectionModel}
use Rattle.book_http.specs.Listening.{AbortsSome, FailsToWait, IfAborted, IfWaitFailed}
use Rattle.book_http.specs.Streams.{WritesPrefix}
use Rattle.book_http.specs.declared.listen_fault.ListenFault.{ListenFault}
use Rattle.book_http.specs.declared.listen_fault.ListenFault.TheVariants.{Serve as Aborted}
use Rattle.book_http.specs.declared.listen_fault.ListenFault.TheVariants.{Device as ListenerFailed}
use Rattle.http_requests.specs.HandlerRuns.{HandlerRelation, FaultReplies}
use Rattle.cli_orders.specs.Announcements.{listening_line}
use Rattle.cli_orders.specs.ReplyTexts.{KeepsOutput}
use Rattle.cli_orders.specs.Stops.{out_of_memory, stop_of_listening}
use Rattle.cli_orders.specs.TurnServing.{StopsServingInTurn}
use Rattle.cli_orders.specs.declared.address.Address.TheVariants.{Port}
use Rattle.cli_orders.specs.declared.stop.Stop.{Stop}
use Rattle.cli_orders.specs.declared.stop.Stop.TheVariants.{Refused, Fault, Open, Serve, Device}
use Rattle.cli_orders.proofs.StopLemmas.{kept_same}

module _ {State Connection : Type 0} (does : HandlerRelation State) (fault_reply : FaultReplies)
    (stream : ConnectionModel Connection) where
  abbrev Stopped : ℕ → ℕ → Option (List (Option Connection)) → State → Option (List ℕ)
      → Option (List ℕ) → Stop → State → Type 0
  Stopped port connections coming old before after stop new =
      StopsServingInTurn does fault_reply stream port connections coming old before after stop new

  pub turns_without_line : (port connections : ℕ) (coming : Option (List (Option Connection)))
      (old : State) (w : Option (List ℕ)) → Stopped port connections coming old w w out_of_memory
      old
  turns_without_line port connections coming old w = (refl, kept_same w, refl)

  pub turns_mute : (port connections : ℕ) (coming : Option (List (Option Connection))) (old : State)
      (before after : Option (List ℕ)) (stop : Stop) → stop ≡ Device
      → WritesPrefix (listening_line (Port port)) before after
      → Stopped port connections coming old before after stop old
  turns_mute port connections coming old before after stop is front =
      subst (λ (s : Stop). Stopped port connections coming old before after s old) (sym is)
      (inr (record { front = front; unhandled = refl }))

  pub turns_announced : (port connections : ℕ) (coming : Option (List (Option Connection)))
      (old new : State) (before after : Option (List ℕ)) (fault : ListenFault)
      → Appends before after (listening_line (Port port))
      → IfAborted (λ f. AbortsSome does fault_reply stream f connections coming old new) fault
      → IfWaitFailed (FailsToWait does fault_reply stream connections coming old new) fault
      → Stopped port connections coming old before after (stop_of_listening fault) new
  turns_announced port connections coming old new before after (Aborted fault) written aborted
      failed = record { written = written; serves = aborted }
  turns_announced port connections coming old new before after ListenerFailed written aborted
      failed = inl (record { written = written; serves = failed })

  pub turn_stop_leaves : (port connections : ℕ) (coming : Option (List (Option Connection)))
      (old new : State) (before after : Option (List ℕ)) (stop : Stop)
      → Stopped port connections coming old before after stop new
      → KeepsOutput stop before after
  turn_stop_leaves port connections coming old new before after (Refused refusal) s = absurd s
  turn_stop_leaves port connections coming old new before after (Fault fault) s = s.1
  turn_stop_leaves port connections coming old new before after (Open fault) s = absurd s
  turn_stop_leaves port connections coming old new before after (Serve fault) s = tt
  turn_stop_leaves port connections coming old new before after Device s = tt
