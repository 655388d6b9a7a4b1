-- The creation of the tables, one after another.
use Rattle.std.specs.Prelude.{◌≡◌, ℕ, List, [], ◌∷◌, take, IsTrue}
use Rattle.std.specs.List.{AllByRecursion}
use Rattle.sqlite.specs.Effect.{Database}
use Rattle.sqlite.specs.Schema.{Schema}
use Rattle.sqlite.specs.State.{State, HasCleanDisk, KeepsCommit, Survives}
use Rattle.sqlite.specs.Table.{Table}
use Rattle.sqlite_catalog.specs.Listing.{IsSound}
use Rattle.sqlite_schema.specs.declared.schema.Index.{Index}
use Rattle.store_tables.specs.Tables.{meta, book, member, import_key, key_indexes}

abbrev pub schema_of : List Table → List Index → Schema
schema_of tables indexes = record { tables = tables; indexes = indexes; views = [] }

abbrev pub empty_schema : Schema
empty_schema = schema_of [] []

abbrev pub with_meta : Schema
with_meta = schema_of (meta ∷ []) (take 1 key_indexes)

abbrev pub with_books : Schema
with_books = schema_of (meta ∷ book ∷ []) (take 2 key_indexes)

abbrev pub with_members : Schema
with_members = schema_of (meta ∷ book ∷ member ∷ []) (take 4 key_indexes)

-- schema 1: all tables but `keeping`
abbrev pub first_schema : Schema
first_schema = schema_of (meta ∷ book ∷ member ∷ import_key ∷ []) key_indexes

-- a table was created and is empty; the rows of the others are unchanged
pub record IsTableCreated (before after : Schema) (tree : ℕ) (old new : Database) : Type 0 where
  pub schema : new.schema ≡ after
  -- the list of objects declares the tables, and the rows obey their constraints
  pub obeys : IsSound after new.trees
  pub empty : new.trees tree ≡ []
  pub others : AllByRecursion (λ t. new.trees t.tree ≡ old.trees t.tree) before.tables

-- the first three tables are declared and empty
pub record HasFirstTables (db : Database) : Type 0 where
  pub schema : db.schema ≡ with_members
  pub meta_rows : db.trees 0 ≡ []
  pub books : db.trees 2 ≡ []
  pub members : db.trees 4 ≡ []

-- The effect of statements inside a transaction, over any tables, on success and on error: nothing
-- is committed, and a crash leaves what it could leave before.
pub record StaysUncommitted (old new : State) : Type 0 where
  pub kept : HasCleanDisk new → IsTrue old.in_transaction → KeepsCommit old new
  pub survives : Survives old new (λ _. ⊥)

-- afterwards the fact holds of the database, and the transaction is still open
pub record HoldsInTx (new : State) (Holds : Database → Type 0) : Type 0 where
  pub holds : Holds new.now
  pub inside : IsTrue new.in_transaction
