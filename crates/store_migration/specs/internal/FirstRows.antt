-- The rows of tables of the first schema, and the state after reading them.
use Rattle.std.specs.Prelude.{◌≡◌, ℤ, false, List, [], ◌∷◌, map, IsTrue}
use Rattle.std.specs.List.Sorted.{IsPermutation}
use Rattle.sqlite.specs.declared.types.Value.TheVariants.{Int}
use Rattle.sqlite.specs.Effect.{Database}
use Rattle.sqlite.specs.Order.{Row, column}
use Rattle.sqlite.specs.State.{State, HasCleanDisk, Survives}
use Rattle.store_tables.specs.Books.{book_listed}
use Rattle.store_tables.specs.Imports.{import_cells}
use Rattle.store_tables.specs.SchemaCreation.{first_schema}
use Rattle.store_tables.specs.Members.{member_cells}
use Rattle.store_tables.specs.Meta.{schema_row}
use Rattle.store_tables.specs.StatementEffects.{HasNoPendingWrites, KeepsState}

-- the disk has returned what was written so far, and the tables are of the first schema
abbrev pub GivenFirstSchema : State → State → Type 0 → Type 0
GivenFirstSchema old new Then = HasCleanDisk new → old.now.schema ≡ first_schema → Then

-- The state after a reading statement, whether it succeeds or fails. It begins no transaction. Over
-- tables of the first schema it commits nothing, so that a crash leaves what it could leave before.
-- If no write was pending and the connection is still open, its state is unchanged.
pub record OnlyReadsFirstSchema (old new : State) : Type 0 where
  pub mode : old.in_transaction ≡ false → new.in_transaction ≡ false
  pub was_open : HasCleanDisk new → IsTrue new.is_open → IsTrue old.is_open
  pub survives : Survives old new (λ _. ¬ (old.now.schema ≡ first_schema))
  pub same : HasCleanDisk new → old.now.schema ≡ first_schema
      → IsTrue new.is_open → HasNoPendingWrites old → KeepsState old new

-- the rows of the three tables, each table's in any order
pub record AreListedFirstRows (db : Database) (books members imports : List Row) : Type 0 where
  pub all_books : IsPermutation (map book_listed (db.trees 2)) books
  pub all_members : IsPermutation (map member_cells (db.trees 4)) members
  pub all_imports : IsPermutation (map import_cells (db.trees 7)) imports

-- the row's id alone
abbrev pub id_cell : Row → Row
id_cell r = column r 0 ∷ []

-- the row's id and the columns of the table `meta`
abbrev pub meta_cells : Row → Row
meta_cells r = column r 0 ∷ column r 1 ∷ column r 2 ∷ []

-- the table `meta` has exactly one row, with this id and this schema number
abbrev pub HasOneSchemaNumber : ℤ → ℤ → Database → Type 0
HasOneSchemaNumber id number db = map meta_cells (db.trees 0) ≡ (Int id ∷ schema_row number) ∷ []
