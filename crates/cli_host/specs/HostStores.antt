-- The store of a file: how an order gets it from the host, and gives it back.
use Rattle.std.specs.Prelude.{◌≡◌, ◌⊎◌, ℕ, Bool, true, false, List, [], ◌∷◌, ◌++◌, Option, Result}
use Rattle.std.specs.Prelude.{Ok, Err}
use Rattle.cli_host.specs.EarlyStops.{StopsUnopened}
use Rattle.cli_host.specs.Hosts.{HostCall, Closes, Creates, Looks, Opens}
use Rattle.cli_orders.specs.declared.stop.Stop.{Stop}
use Rattle.store_schema.specs.declared.open_fault.OpenFault.{OpenFault}

-- The file's store was opened, or that failed. If it may be created, the host was first asked
-- whether the file is missing or empty; if it is, the store was created in it, or that failed.
abbrev pub GetsStore : {S P L : Type 0} → List ℕ → Bool → Result S OpenFault
    → List (HostCall S P L) → Type 0
GetsStore file false result log = log ≡ Opens file result ∷ []
GetsStore file true result log = (log ≡ Looks file true ∷ Creates file result ∷ [])
    ⊎ (log ≡ Looks file false ∷ Opens file result ∷ [])

module _ {S P L : Type 0} where
  -- the file's store was neither opened nor created, and nothing is written
  abbrev pub GetsNoStore : List ℕ → Bool → Stop → Option (List ℕ) → Option (List ℕ)
      → List (HostCall S P L) → Type 0
  GetsNoStore file creates stop before after log =
      (fault : OpenFault) × GetsStore file creates (Err fault) log
      × StopsUnopened fault stop before after

  -- The file's store was opened or created. This was done with it, with the calls that it makes of
  -- the host. At last the store, as that left it, was closed.
  pub record UsesStore (file : List ℕ) (creates : Bool)
      (Does : S → S → List (HostCall S P L) → Type 0) (log : List (HostCall S P L))
      : Type 0 where
    pub store : S
    pub store_after : S
    pub first : List (HostCall S P L)
    pub later : List (HostCall S P L)
    pub calls : log ≡ first ++ (later ++ Closes store_after ∷ [])
    pub gets : GetsStore file creates (Ok store) first
    pub does : Does store store_after later
