-- After a write of rows or the creation of a table, the declared tables are listed, and the rows
-- obey their constraints.
use Rattle.std.proofs.Common.{◌≡◌, ℕ, List, Option, None, Ok, Err, Result, subst}
use Rattle.std.specs.Prelude.{OnOk}
use Rattle.sqlite.specs.Command.{Command}
use Rattle.sqlite.specs.Command.TheVariants.{CreateTable, Insert, InsertOr, Update, Delete}
use Rattle.sqlite.specs.Effect.{IsDatabase}
use Rattle.sqlite.specs.Listing.{understood}
use Rattle.sqlite.specs.Order.{Row}
use Rattle.sqlite.specs.State.{ExecutesInside, Runs, State}
use Rattle.sqlite.specs.declared.error.Error.{Error}
use Rattle.sqlite.proofs.Callers.{IsPlain, command_of, runs_as, statement_of}
use Rattle.sqlite_catalog.specs.Listing.{IsSound}
use Rattle.sqlite_schema.specs.declared.command.Returning.{Returning}
use Rattle.store_tables.specs.Tables.{ObeyTables, book_schema}
use Rattle.store_tables.proofs.WriteFailures.{IsChange}

obeyed : (old new : State) (what : Option Returning) (command : Command) (text : List ℕ) (params :
    Row) (count : ℕ) → IsChange command → Runs old new what command text params count
    → IsDatabase new.now
obeyed old new what (Insert at from) text params count rows h = h.sound
obeyed old new what (InsertOr at way from clauses) text params count rows h = h.sound
obeyed old new what (Update at q) text params count rows h = h.sound
obeyed old new what (Delete at q) text params count rows h = h.sound
obeyed old new what CreateTable text params count rows h = h.sound
obeyed old new what _ text params count rows h = absurd rows

module _ (sql : List ℕ) (params : Row) (old new : State) (has : old.now.schema ≡ book_schema)
    (command : Command) (is : command_of (understood book_schema sql) ≡ command) where
  pub executed_obeys : IsPlain (understood book_schema sql) → IsChange command
      → (r : Result ℕ Error) → ExecutesInside 0 sql params old new r
      → OnOk r (new.now.schema ≡ book_schema) → OnOk r (ObeyTables new.now.trees)
  executed_obeys plain rows (Ok count) h schema =
      subst (λ s. IsSound s new.now.trees) schema (obeyed old new None command
      (statement_of sql (understood book_schema sql)) params count rows
      (runs_as sql params old new book_schema has command is plain count h.0))
  executed_obeys plain rows (Err e) h schema = tt
