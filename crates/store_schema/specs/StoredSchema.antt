-- The test of schema 2, and the effect of a test.
use Rattle.std.specs.Prelude.{◌≡◌, ◌⊎◌, ⊤, ℤ, [], ◌∷◌, map, false, IsTrue, Result, Ok, Err}
use Rattle.sqlite.specs.Effect.{Database}
use Rattle.sqlite.specs.Schema.{Schema}
use Rattle.sqlite.specs.State.{State, HasCleanDisk, Survives}
use Rattle.store_tables.specs.SchemaCreation.{first_schema}
use Rattle.store_tables.specs.Meta.{meta_listed, schema_row, schema_number}
use Rattle.store_tables.specs.StatementEffects.{HasNoPendingWrites, KeepsState}
use Rattle.store_tables.specs.Tables.{book_schema}
use Rattle.store_schema.specs.declared.open_fault.OpenFault.{OpenFault}
use Rattle.store_schema.specs.declared.open_fault.OpenFault.TheVariants.{Store, NotOurs}
use Rattle.store_schema.specs.declared.open_fault.OpenFault.TheVariants.{OtherSchema, Damaged}
use Rattle.store_schema.specs.declared.open_fault.OpenFault.TheVariants.{NotEmpty, Memory}

-- ---- the tables of a store

-- exactly the tables of schema 2 or of schema 1 are declared
abbrev pub IsStoreSchema : Schema → Type 0
IsStoreSchema schema = (schema ≡ book_schema) ⊎ (schema ≡ first_schema)

-- the only row of the table `meta` is this schema number
abbrev pub HasSchemaNumber : ℤ → Database → Type 0
HasSchemaNumber number db = map meta_listed (db.trees 0) ≡ schema_row number ∷ []

-- exactly the five tables are declared, and the schema number is 2
pub record IsCurrentSchema (db : Database) : Type 0 where
  pub schema : db.schema ≡ book_schema
  pub meta : HasSchemaNumber schema_number db

-- the tables are those of either schema, and the schema number is not 2
pub record IsOtherSchema (has : ℤ) (db : Database) : Type 0 where
  pub schema : IsStoreSchema db.schema
  pub meta : HasSchemaNumber has db
  pub other : ¬ (has ≡ schema_number)

-- ---- the result

-- The result of the test: `Ok`, another schema number, or neither. The three exclude each other. An
-- error of the database is possible in every case.
abbrev pub ClassifiesSchema : Database → Result (Unit {0}) OpenFault → Type 0
ClassifiesSchema db (Ok done) = IsCurrentSchema db
ClassifiesSchema db (Err Store) = ⊤
ClassifiesSchema db (Err NotOurs) = ¬ IsCurrentSchema db × ((has : ℤ) → ¬ IsOtherSchema has db)
ClassifiesSchema db (Err (OtherSchema has)) = IsOtherSchema has db
ClassifiesSchema db (Err Damaged) = ⊥
ClassifiesSchema db (Err NotEmpty) = ⊥
ClassifiesSchema db (Err Memory) = ⊤

-- ---- the effect

-- The effect of a read over any tables, on success and on error: no transaction began, nothing was
-- committed, a crash leaves what it could leave before, and outside a transaction the state is
-- unchanged.
pub record ChangesNothing (old new : State) : Type 0 where
  pub mode : old.in_transaction ≡ false → new.in_transaction ≡ false
  pub was_open : HasCleanDisk new → IsTrue new.is_open → IsTrue old.is_open
  pub survives : Survives old new (λ _. ⊥)
  pub same : HasCleanDisk new → IsTrue new.is_open → HasNoPendingWrites old → KeepsState old new

-- the disk has returned what was written, and the tables are those of either schema
abbrev pub GivenStoreSchema : State → State → Type 0 → Type 0
GivenStoreSchema old new Then = HasCleanDisk new → IsStoreSchema old.now.schema → Then
