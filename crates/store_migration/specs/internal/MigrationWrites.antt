-- The tables after writing the second schema.
use Rattle.std.specs.Prelude.{◌≡◌, ℤ, FitsSigned, List, IsTrue, Result, Ok, Err}
use Rattle.std.specs.Int.{w64}
use Rattle.std.specs.List.{AllByRecursion}
use Rattle.sqlite.specs.declared.error.Error.{Error}
use Rattle.sqlite.specs.Effect.{Database}
use Rattle.sqlite.specs.State.{State}
use Rattle.sqlite.specs.Tree.{Trees}
use Rattle.store_tables.specs.Acceptance.{HasBook}
use Rattle.store_tables.specs.Books.{BookRow}
use Rattle.store_tables.specs.Keeps.{AreKeeps, HoldKeeps, KeepRow}
use Rattle.store_tables.specs.SchemaCreation.{first_schema}
use Rattle.store_tables.specs.StatementEffects.{KeepsOtherTables}
use Rattle.store_tables.specs.Tables.{book_schema}
use Rattle.store_schema.specs.FirstSchema.{first_number}
use Rattle.store_migration.specs.internal.FirstRows.{HasOneSchemaNumber}
use Rattle.store_migration.specs.Migration.{AddsKeeps}

-- the tables are of the first schema, and the row with its number has this id
pub record IsFirstWithId (id : ℤ) (db : Database) : Type 0 where
  pub schema : db.schema ≡ first_schema
  pub one : HasOneSchemaNumber id first_number db
  pub fits : FitsSigned w64 id

-- each keep is of another one of the books
pub record AcceptKeeps (bs : List BookRow) (keep_rows : List KeepRow) : Type 0 where
  pub apart : AreKeeps keep_rows
  pub listed : AllByRecursion (λ k. HasBook bs k.book) keep_rows

-- no other table than that of the keeps changed, and the transaction is still open
pub record ChangesKeeps (old new : State) : Type 0 where
  pub schema : new.now.schema ≡ book_schema
  pub other_tables : KeepsOtherTables 9 old.now.trees new.now.trees
  pub inside : IsTrue new.in_transaction

-- these keeps were written, and no other table changed
pub record WroteKeeps (keep_rows : List KeepRow) (old new : State) : Type 0 where
  pub wrote : ChangesKeeps old new
  pub hold : HoldKeeps (new.now.trees 9) keep_rows
  pub apart : AreKeeps keep_rows

-- the same for the trees alone, which are all that a crash leaves
abbrev pub TreesAddKeeps : List KeepRow → Database → Trees → Type 0
TreesAddKeeps keep_rows old trees =
    AddsKeeps keep_rows old (record { schema = book_schema; trees = trees })

-- It was committed and this holds; or nothing changed, unless the connection was closed.
abbrev pub CommitsKeeps : State → State → Result (Unit {0}) Error → (Database → Type 0) → Type 0
CommitsKeeps old new (Ok done) Holds = Holds new.now × (new.now ≡ new.committed)
CommitsKeeps old new (Err e) Holds =
    IsTrue new.is_open → (new.now ≡ old.now) × (new.now ≡ new.committed)
