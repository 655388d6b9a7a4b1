-- Why an order stops before its output is whole: a file or a device can't be used, or memory ran
-- out.
use Rattle.std.specs.Prelude.{◌≡◌, ℕ, List, Option}
use Rattle.std.specs.Io.KnownBytes.{Keeps}
use Rattle.book_http.specs.Streams.{WritesPrefix}
use Rattle.cli_orders.specs.Stops.{out_of_memory}
use Rattle.cli_orders.specs.declared.stop.Stop.{Stop}
use Rattle.cli_orders.specs.declared.stop.Stop.TheVariants.{Open, Device}
use Rattle.store_schema.specs.declared.open_fault.OpenFault.{OpenFault}

-- the file couldn't be used, as this fault says, and nothing is written
pub record StopsUnopened (fault : OpenFault) (stop : Stop) (before after : Option (List ℕ))
    : Type 0 where
  pub stop_is : stop ≡ Open fault
  pub unwritten : Keeps before after

-- the text was built, and the writer failed
pub record StopsOverText (text : List ℕ) (stop : Stop) (before after : Option (List ℕ))
    : Type 0 where
  pub stop_is : stop ≡ Device
  pub front : WritesPrefix text before after

-- memory ran out before anything was written
pub record StopsForMemory (stop : Stop) (before after : Option (List ℕ)) : Type 0 where
  pub stop_is : stop ≡ out_of_memory
  pub unwritten : Keeps before after

-- a device can't be used, and nothing is written
pub record StopsAtDevice (stop : Stop) (before after : Option (List ℕ)) : Type 0 where
  pub stop_is : stop ≡ Device
  pub unwritten : Keeps before after
