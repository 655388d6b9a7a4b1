-- The clauses of a statement that writes rows, from its execution and what it does to its table.
use Rattle.std.specs.Prelude.{IfErr, OnOk, IsTrue}
use Rattle.std.proofs.Common.{◌≡◌, ◌≢◌, ℕ, List, [], Result}
use Rattle.std.proofs.lemmas.Result.{on_ok_weaker}
use Rattle.sqlite.specs.Command.{Command}
use Rattle.sqlite.specs.Held.{state}
use Rattle.sqlite.specs.Listing.{understood}
use Rattle.sqlite.specs.Order.{Row}
use Rattle.sqlite.specs.Schema.{Schema}
use Rattle.sqlite.specs.State.{ExecutesInside, HasCleanDisk, State, Survives}
use Rattle.sqlite.specs.declared.error.Error.{Error}
use Rattle.sqlite.specs.declared.error.Error.TheVariants.{SqliteFailure}
use Rattle.sqlite.specs.declared.error.ErrorCode.TheVariants.{OutOfMemory}
use Rattle.sqlite.specs.declared.transaction.Transaction.{Transaction}
use Rattle.sqlite.proofs.Callers.{IsPlain, command_of}
use Rattle.sqlite_trees.specs.declared.store.Store.{Ghosts}
use Rattle.store_tables.specs.Failures.{HasOutsideCause}
use Rattle.store_tables.specs.OnConnections as on
use Rattle.store_tables.specs.SchemaCreation.{IsTableCreated}
use Rattle.store_tables.specs.StatementEffects.{KeepsOtherTables, WritesOnly}
use Rattle.store_tables.specs.Tables.{book_schema}
use Rattle.store_tables.specs.Writes.{CreatesTable, WritesRow}
use Rattle.store_tables.proofs.ObeyLemmas.{executed_obeys}
use Rattle.store_tables.proofs.ReturningLemmas.{executed_inside, keeps_executed, stays_executed}
use Rattle.store_tables.proofs.ReturningLemmas.{undone_executed, written_by}
use Rattle.store_tables.proofs.WriteFailures.{IsChange}

-- only this table was written, by a statement that writes rows
pub only_wrote : (sql : List ℕ) (params : Row) (command : Command)
    → (command_of (understood book_schema sql) ≡ command) × IsPlain (understood book_schema sql)
    → IsChange command → (tree : ℕ) (old new : State) (r : Result ℕ Error)
    → old.now.schema ≡ book_schema → ExecutesInside 0 sql params old new r
    → OnOk r ((new.now.schema ≡ book_schema) × KeepsOtherTables tree old.now.trees new.now.trees)
    → OnOk r (WritesOnly tree old new)
only_wrote sql params command is rows tree old new r has ran did =
    written_by tree old new r did (executed_obeys sql params old new has command is.0 is.1 rows r
    ran
    (on_ok_weaker r (λ h. h.0) did)) (executed_inside sql params old new r ran)

module _ {S : Type 0} (store : Ghosts S) (old new : Transaction S)
    (same : new.conn.ghost_name ≡ old.conn.ghost_name) (sql : List ℕ) (params : Row)
    (r : Result ℕ Error) (runs : HasCleanDisk (state store new.conn.now)
    → IsTrue (state store old.conn.now).in_transaction
    → ExecutesInside 0 sql params (state store old.conn.now) (state store new.conn.now) r)
    (survives : Survives (state store old.conn.now) (state store new.conn.now) (λ _. ⊥)) where
  -- a statement that writes rows
  pub writes_row : {X : Type 0} (tree : ℕ) (Given : (List X → Type 0) → Type 0)
      (Changes : List X → Type 0) (Accepted : Type 0 → Type 0) → Given Changes
      → Given (λ _. OnOk r (on.WritesOnly store old.conn.now new.conn.now tree))
      → Accepted (on.WriteFailsFromOutside store old.conn.now new.conn.now r)
      → WritesRow store old new tree r Given Changes Accepted
  writes_row tree Given Changes Accepted changes writes fails = record {
    same_reference = same;
    changes = changes;
    writes = writes;
    no_commit = stays_executed sql params (state store old.conn.now) (state store new.conn.now) r
        runs survives;
    rolled_back = λ clean inside. undone_executed sql params (state store old.conn.now)
        (state store new.conn.now) r (runs clean inside);
    fails_from_outside = fails;
  }

-- a statement that creates a table
pub creates_table : {S : Type 0} (store : Ghosts S) (old new : Transaction S)
    → new.conn.ghost_name ≡ old.conn.ghost_name → (sql : List ℕ) (before after : Schema) (tree : ℕ)
    (r : Result ℕ Error) → (HasCleanDisk (state store new.conn.now)
    → IsTrue (state store old.conn.now).in_transaction
    → ExecutesInside 0 sql [] (state store old.conn.now) (state store new.conn.now) r)
    → Survives (state store old.conn.now) (state store new.conn.now) (λ _. ⊥)
    → ((a b : State) (r : Result ℕ Error) → a.now.schema ≡ before → ExecutesInside 0 sql [] a b r
    → OnOk r (IsTableCreated before after tree a.now b.now))
    → ((a b : State) (r : Result ℕ Error) → a.now.schema ≡ before → ExecutesInside 0 sql [] a b r
    → IfErr r (λ e. e ≢ SqliteFailure OutOfMemory → HasOutsideCause a b))
    → CreatesTable store old new before after tree r
creates_table store old new same sql before after tree r runs survives creates fails =
    let a = state store old.conn.now in
    let b = state store new.conn.now in
    record {
      same_reference = same;
      creates = λ clean inside has. creates a b r has (runs clean inside);
      stays_in_tx = λ clean inside. executed_inside sql [] a b r (runs clean inside);
      keeps_commit = λ clean inside. keeps_executed sql [] a b r (runs clean inside);
      survives = survives;
      rolled_back = λ clean inside. undone_executed sql [] a b r (runs clean inside);
      fails_from_outside = λ clean inside has. fails a b r has (runs clean inside);
    }
