-- Definitions over connections, for private contracts, as in `store_tables`.
use Rattle.std.specs.Prelude.{◌+◌, ◌<◌, ◌^◌, ℕ, pos, List, Option, Result, IsTrue}
use Rattle.sqlite.specs.Held.{Held, state}
use Rattle.vcard_lines.specs.declared.line.Line.{Line}
use Rattle.book_model.specs.declared.denied.Denied.{Denied}
use Rattle.store_tables.specs.OnConnections.{Ghosts, HasCleanDisk, Survives, table_rows}
use Rattle.store_rows.specs.TableBooks.{HeaderRow}
use Rattle.store_rows.specs.TableRows.{TableRows}
use Rattle.store_lookups.specs.ChangeFaults.{AcceptChanges, HaveFreeIds}
use Rattle.store_lookups.specs.OnConnections.{HasOutsideCauseOfFault, WriteFaultsFromOutside}
use Rattle.store_writes.specs.OnConnections.{AcceptsMemberOf, IsAtomic}
use Rattle.store_writes.specs.TableChanges.{HoldsBooks, TreesHold}
use Rattle.store_removals.specs.internal.Moves as moves
use Rattle.store_removals.specs.internal.Moves.{table_books_after_move}

abbrev pub HasBothRows :
    {S : Type 0} → Ghosts S → Held S → TableRows → List ℕ → HeaderRow → List ℕ → HeaderRow → Type 0
HasBothRows store conn = moves.HasBothRows (state store conn).now

module _ {S : Type 0} (store : Ghosts S) (old new : Held S) where
  -- inside a transaction, over tables that held the rows of the books with these headers
  abbrev pub InTxWithBothBooks :
      HeaderRow → HeaderRow → (TableRows → List ℕ → List ℕ → Type 0) → Type 0
  InTxWithBothBooks source target Then = (rows : TableRows) (from to : List ℕ) →
      HasCleanDisk store new → IsTrue old.in_transaction →
      HasBothRows store old rows from source to target → Then rows from to

  -- A success commits the move of the card from the one book to the other. A failure changes
  -- nothing, unless the connection was closed.
  abbrev pub CommitsMove : {T E : Type 0} →
      HeaderRow → HeaderRow → Result T E → List ℕ → List Line → Option ℕ → Type 0
  CommitsMove source target result uid card drop = (rows : TableRows) (from to : List ℕ) →
      HasCleanDisk store new → HasBothRows store old rows from source to target →
      IsAtomic store old new result
      (λ _ db. HoldsBooks db (table_books_after_move rows from source to target uid card drop))

  -- a crash leaves what it could leave before, or the one commit, with the books after the move
  abbrev pub CommitsMoveOnce :
      HeaderRow → HeaderRow → List ℕ → List Line → Option ℕ → Type 0
  CommitsMoveOnce source target uid card drop = (rows : TableRows) (from to : List ℕ) →
      HasBothRows store old rows from source to target →
      Survives store old new
      (TreesHold (table_books_after_move rows from source to target uid card drop))

  -- Inside a transaction over tables that accept a member with this card and the next number in the
  -- book with this header, a fault of the store comes only from an outside cause.
  abbrev pub NextMemberFaultsFromOutside :
      {A : Type 0} → HeaderRow → List ℕ → Option (List ℕ) → Result A Denied → Type 0
  NextMemberFaultsFromOutside header uid card result = (rows : TableRows) (name : List ℕ) →
      AcceptsMemberOf store old rows name header uid (pos (header.number + 1)) card →
      header.id < 2 ^ 63 → WriteFaultsFromOutside store old new result

  -- Inside a transaction over rows that can be changed, among them those of both books, a fault of
  -- the store comes only from an outside cause.
  abbrev pub MoveFaultsFromOutsideTx :
      {A : Type 0} → HeaderRow → HeaderRow → Result A Denied → Type 0
  MoveFaultsFromOutsideTx source target result = (rows : TableRows) (from to : List ℕ) →
      HasBothRows store old rows from source to target → AcceptChanges rows →
      HaveFreeIds (table_rows store old) → WriteFaultsFromOutside store old new result

  -- the same for a whole transaction
  abbrev pub MoveFaultsFromOutside : {A : Type 0} → HeaderRow → HeaderRow → Result A Denied → Type 0
  MoveFaultsFromOutside source target result = (rows : TableRows) (from to : List ℕ) →
      HasCleanDisk store new → HasBothRows store old rows from source to target →
      AcceptChanges rows → HaveFreeIds (table_rows store old) →
      HasOutsideCauseOfFault store old new result
