-- Definitions over connections, for contracts, as in `store_tables`.
use Rattle.std.specs.Prelude.{Result}
use Rattle.sqlite.specs.Held.{Held, state}
use Rattle.sqlite.specs.Tree.{Trees}
use Rattle.book_model.specs.Bounds.{Bounds}
use Rattle.store_tables.specs.OnConnections.{Ghosts}
use Rattle.store_schema.specs.declared.open_fault.OpenFault.{OpenFault}
use Rattle.store_migration.specs.Migration as migration

module _ {S : Type 0} (store : Ghosts S) (conn : Held S) where
  abbrev pub IsMigrationRefusal : Bounds → OpenFault → Type 0
  IsMigrationRefusal limits = migration.IsMigrationRefusal limits (state store conn).now

  abbrev pub CommitsMigration : Bounds → Trees → Type 0
  CommitsMigration limits = migration.CommitsMigration limits (state store conn).now

abbrev pub MigrationFailsFromOutside :
    {S T : Type 0} → Ghosts S → Held S → Held S → Bounds → Result T OpenFault → Type 0
MigrationFailsFromOutside store old new limits =
    migration.MigrationFailsFromOutside limits (state store old) (state store new)

abbrev pub IsMigrated : {S : Type 0} → Ghosts S → Held S → Held S → Type 0
IsMigrated store old new = migration.IsMigrated (state store old).now (state store new).now
