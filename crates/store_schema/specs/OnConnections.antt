-- Definitions over connections, for contracts, as in `store_tables`.
use Rattle.std.specs.Prelude.{Result}
use Rattle.sqlite.specs.Held.{Held, state}
use Rattle.store_tables.specs.OnConnections.{Ghosts}
use Rattle.store_schema.specs.FirstSchema as first
use Rattle.store_schema.specs.OpenFaults as faults
use Rattle.store_schema.specs.StoredSchema as schemas
use Rattle.store_schema.specs.declared.open_fault.OpenFault.{OpenFault}

module _ {S : Type 0} (store : Ghosts S) (conn : Held S) where
  abbrev pub ClassifiesSchema : Result (Unit {0}) OpenFault → Type 0
  ClassifiesSchema = schemas.ClassifiesSchema (state store conn).now

  abbrev pub ClassifiesFirstSchema : Result (Unit {0}) OpenFault → Type 0
  ClassifiesFirstSchema = first.ClassifiesFirstSchema (state store conn).now

  abbrev pub IsCurrentSchema : Type 0
  IsCurrentSchema = schemas.IsCurrentSchema (state store conn).now

  abbrev pub IsFirstSchema : Type 0
  IsFirstSchema = first.IsFirstSchema (state store conn).now

module _ {S : Type 0} (store : Ghosts S) (old new : Held S) where
  abbrev pub ChangesNothing : Type 0
  ChangesNothing = schemas.ChangesNothing (state store old) (state store new)

  abbrev pub GivenStoreSchema : Type 0 → Type 0
  GivenStoreSchema = schemas.GivenStoreSchema (state store old) (state store new)

  -- memory ran out, or the fault is `Store` and its cause lies outside the tables
  abbrev pub ComesFromOutside : OpenFault → Type 0
  ComesFromOutside = faults.ComesFromOutside (state store old) (state store new)
