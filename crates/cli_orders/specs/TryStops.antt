-- Why the order `try` stops.
use Rattle.std.specs.Prelude.{ℕ, ◌≡◌, List}
use Rattle.book_model.specs.declared.denied.Fault.TheVariants.{Memory}
use Rattle.book_service.specs.Texts.{IsBadCard}
use Rattle.cli_orders.specs.declared.stop.Stop.{Stop}
use Rattle.cli_orders.specs.declared.stop.Stop.TheVariants.{Refused, Fault, Open, Serve, Device}

-- A refusal is the text's first fault; otherwise memory ran out, or the reader or the writer
-- failed. A stop that doesn't depend on the text is no refusal.
abbrev pub IsTryStop : List ℕ → Stop → Type 0
IsTryStop text (Refused refusal) = IsBadCard text refusal
IsTryStop text (Fault fault) = fault ≡ Memory
IsTryStop text (Open fault) = ⊥
IsTryStop text (Serve fault) = ⊥
IsTryStop text Device = Unit {0}
