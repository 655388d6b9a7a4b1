-- Which octets of an output were flushed.
use Rattle.std.specs.Prelude.{◌≡◌, ◌⊎◌, ℕ, List, Option, Result, IfErr, OnOk}
use Rattle.cli_orders.specs.declared.stop.Stop.{Stop}
use Rattle.cli_orders.specs.declared.stop.Stop.TheVariants.{Device}

-- An output is represented by the octets that were written to it, and those of them that were
-- flushed.
module _ {W : Type 0} (contents flushed : W → Option (List ℕ)) where
  -- all octets that were written were flushed
  pub record IsFlushed (output : W) : Type 0 where
    pub all : flushed output ≡ contents output

  -- nothing was written, or all that was written was flushed
  abbrev pub LeavesFlushed : W → W → Type 0
  LeavesFlushed old new = (new ≡ old) ⊎ IsFlushed new

  -- What succeeds has flushed all that was written. What stops has written nothing, or has flushed
  -- all, too, unless a device failed.
  pub record Flushes (old new : W) (result : Result (Unit {0}) Stop) : Type 0 where
    pub done : OnOk result (IsFlushed new)
    pub stopped : IfErr result (λ stop. (stop ≡ Device) ⊎ LeavesFlushed old new)
