-- Definitions over connections, for private contracts, as in `store_tables`.
use Rattle.std.specs.Prelude.{◌≡◌, ◌+◌, ℕ, ℤ, pos, List, Result, OnOk, IsTrue}
use Rattle.std.specs.FinMap as finite
use Rattle.sqlite.specs.Held.{Held, state}
use Rattle.book_model.specs.Books.{Book}
use Rattle.book_model.specs.declared.denied.Denied.{Denied}
use Rattle.store_tables.specs.Acceptance.{HasFreeIds}
use Rattle.store_tables.specs.OnConnections.{Ghosts, HasCleanDisk, HoldsInTx, KeepsCommit}
use Rattle.store_tables.specs.OnConnections.{ObeyTables, Survives, table_rows}
use Rattle.store_rows.specs.TableBooks.{HeaderRow, books_of}
use Rattle.store_rows.specs.TableRows.{TableRows}
use Rattle.store_lookups.specs.OnConnections.{HasOutsideCauseOfFault}
use Rattle.store_writes.specs.OnConnections.{IsAtomic, LacksBookRow}
use Rattle.store_writes.specs.TableChanges.{HoldsBooks, TreesHold}
use Rattle.store_inserts.specs.internal.Creating as creating
use Rattle.store_inserts.specs.internal.Importing as importing

abbrev pub AcceptsNewBook : {S : Type 0} → Ghosts S → Held S → TableRows → ℤ → List ℕ → Type 0
AcceptsNewBook store conn = creating.AcceptsNewBook (state store conn).now

module _ {S : Type 0} (store : Ghosts S) (conn : Held S) where
  abbrev pub WritesBook : TableRows → List ℕ → HeaderRow → Book → Type 0
  WritesBook = importing.WritesBook (state store conn).now

  abbrev pub AcceptsCards : TableRows → List ℕ → HeaderRow → Book → ℕ → Type 0
  AcceptsCards = importing.AcceptsCards (state store conn).now

  abbrev pub AcceptsImportOf : TableRows → List ℕ → HeaderRow → List ℕ → Type 0
  AcceptsImportOf = importing.AcceptsImportOf (state store conn).now

  abbrev pub AcceptsKey : TableRows → List ℕ → HeaderRow → Book → List ℕ → Type 0
  AcceptsKey = importing.AcceptsKey (state store conn).now

module _ {S : Type 0} (store : Ghosts S) (old new : Held S) where
  -- ---- creating

  -- inside a transaction, over tables without a book of this name
  abbrev pub InTxWithoutBook : List ℕ → (TableRows → Type 0) → Type 0
  InTxWithoutBook name Then = (rows : TableRows) → HasCleanDisk store new →
      IsTrue old.in_transaction → LacksBookRow store old rows name → Then rows

  -- a success adds the book under the name
  abbrev pub AddsNewBookInTx : {T E : Type 0} → List ℕ → Result T E → Book → Type 0
  AddsNewBookInTx name result book = InTxWithoutBook name (λ rows. OnOk result
      (HoldsInTx store new (λ db. HoldsBooks db (finite.insert (books_of rows) name book))))

  -- A success commits the book under the name. A failure changes nothing, unless the connection was
  -- closed.
  abbrev pub CommitsNewBook : {T E : Type 0} → List ℕ → Result T E → Book → Type 0
  CommitsNewBook name result book = (rows : TableRows) → HasCleanDisk store new →
      LacksBookRow store old rows name → IsAtomic store old new result
      (λ _ db. HoldsBooks db (finite.insert (books_of rows) name book))

  -- a crash leaves what it could leave before, or the one commit, with the book under the name
  abbrev pub CommitsNewBookOnce : List ℕ → Book → Type 0
  CommitsNewBookOnce name book = (rows : TableRows) → LacksBookRow store old rows name →
      Survives store old new (TreesHold (finite.insert (books_of rows) name book))

  -- Over rows that can be changed and that accept the new book, a fault of the store comes only
  -- from an outside cause.
  abbrev pub CreationFaultsFromOutside :
      {A : Type 0} → ℕ → List ℕ → Result A Denied → Type 0
  CreationFaultsFromOutside id name result = (rows : TableRows) → HasCleanDisk store new →
      AcceptsNewBook store old rows (pos id) name →
      HasOutsideCauseOfFault store old new result

  -- ---- importing

  abbrev pub InWrittenBookTx : HeaderRow → (TableRows → List ℕ → Book → Type 0) → Type 0
  InWrittenBookTx = importing.InWrittenBookTx (state store old) (state store new)

  -- nothing is committed
  abbrev pub KeepsCommitInWrittenBook : HeaderRow → Type 0
  KeepsCommitInWrittenBook header =
      InWrittenBookTx header (λ rows name book. KeepsCommit store old new)

  -- inside a transaction, a success leaves tables that obey their constraints
  abbrev pub ObeysInWrittenBook : {T E : Type 0} → HeaderRow → Result T E → Type 0
  ObeysInWrittenBook header result =
      InWrittenBookTx header (λ _ _ _. ObeyTables store old → OnOk result (ObeyTables store new))

  -- Inside a transaction, a success leaves this many fewer ids for new members, and all ids for new
  -- imports.
  abbrev pub TakesIds : {T E : Type 0} → HeaderRow → ℕ → Result T E → Type 0
  TakesIds header taken result = InWrittenBookTx header (λ _ _ _.
      ((count : ℕ) → HasFreeIds (count + taken) (table_rows store old 4) →
      OnOk result (HasFreeIds count (table_rows store new 4)))
      × OnOk result (table_rows store new 7 ≡ table_rows store old 7))
