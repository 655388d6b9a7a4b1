-- The test of schema 1, which has no table `keeping`.
use Rattle.std.specs.Prelude.{◌≡◌, ⊤, ℤ, pos, Result, Ok, Err}
use Rattle.sqlite.specs.Effect.{Database}
use Rattle.store_tables.specs.SchemaCreation.{first_schema}
use Rattle.store_schema.specs.StoredSchema.{IsStoreSchema, HasSchemaNumber}
use Rattle.store_schema.specs.declared.open_fault.OpenFault.{OpenFault}
use Rattle.store_schema.specs.declared.open_fault.OpenFault.TheVariants.{Store, NotOurs}
use Rattle.store_schema.specs.declared.open_fault.OpenFault.TheVariants.{OtherSchema, Damaged}
use Rattle.store_schema.specs.declared.open_fault.OpenFault.TheVariants.{NotEmpty, Memory}

-- the number of schema 1
abbrev pub first_number : ℤ
first_number = pos 1

-- exactly the four tables are declared, and the schema number is 1
pub record IsFirstSchema (db : Database) : Type 0 where
  pub schema : db.schema ≡ first_schema
  pub meta : HasSchemaNumber first_number db

-- the tables are those of either schema, and the schema number is not 1
pub record IsLaterSchema (has : ℤ) (db : Database) : Type 0 where
  pub schema : IsStoreSchema db.schema
  pub meta : HasSchemaNumber has db
  pub other : ¬ (has ≡ first_number)

-- The result of the test: `Ok`, another schema number, or neither. The three exclude each other. An
-- error of the database is possible in every case.
abbrev pub ClassifiesFirstSchema : Database → Result (Unit {0}) OpenFault → Type 0
ClassifiesFirstSchema db (Ok done) = IsFirstSchema db
ClassifiesFirstSchema db (Err Store) = ⊤
ClassifiesFirstSchema db (Err NotOurs) = ¬ IsFirstSchema db × ((has : ℤ) → ¬ IsLaterSchema has db)
ClassifiesFirstSchema db (Err (OtherSchema has)) = IsLaterSchema has db
ClassifiesFirstSchema db (Err Damaged) = ⊥
ClassifiesFirstSchema db (Err NotEmpty) = ⊥
ClassifiesFirstSchema db (Err Memory) = ⊤
