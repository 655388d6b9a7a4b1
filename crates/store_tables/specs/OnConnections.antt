-- Definitions over connections, for contracts. Their parameters are the store's ghosts and a
-- connection, or the connection before and after a call. Most apply the definition of the same name
-- over states or databases to the state of the connection; the others combine such definitions.
use Rattle.std.specs.Prelude.{◌≡◌, ℕ, ℤ, List, map, Option, Result, IfOk, OnErr, OnOk, IsTrue}
use Rattle.std.specs.Prelude.{⊤}
use Rattle.std.specs.Prelude.{Vec}
use Rattle.std.specs.declared.alloc.Global.{Global}
use Rattle.std.specs.List.Sorted.{IsPermutation}
use Rattle.sqlite.specs.declared.error.Error.{Error}
use Rattle.sqlite.specs.Effect.{Database}
use Rattle.sqlite.specs.Held.{Held, state}
use Rattle.sqlite.specs.Order.{Row}
use Rattle.sqlite.specs.Schema.{Schema}
use Rattle.sqlite.specs.State as states
use Rattle.sqlite.specs.Tree.{Trees}
pub use Rattle.sqlite_trees.specs.declared.store.Store.{Ghosts}
use Rattle.store_tables.specs.Acceptance as acceptance
use Rattle.store_tables.specs.Books as books
use Rattle.store_tables.specs.Failures as failures
use Rattle.store_tables.specs.Imports as imports
use Rattle.store_tables.specs.Keeps as keeps
use Rattle.store_tables.specs.Members as members
use Rattle.store_tables.specs.Meta as meta
use Rattle.store_tables.specs.NamedMembers as named
use Rattle.store_tables.specs.Reads as reads
use Rattle.store_tables.specs.SchemaCreation as creation
use Rattle.store_tables.specs.StatementEffects as effects
use Rattle.store_tables.specs.Tables as tables
use Rattle.store_tables.specs.Tables.{member_tree}

-- ---- one connection

module _ {S : Type 0} (store : Ghosts S) (conn : Held S) where
  -- the connection is open
  abbrev pub IsConnectionOpen : Type 0
  IsConnectionOpen = IsTrue (state store conn).is_open

  abbrev pub HasCleanDisk : Type 0
  HasCleanDisk = states.HasCleanDisk (state store conn)

  abbrev pub HasNoPendingWrites : Type 0
  HasNoPendingWrites = effects.HasNoPendingWrites (state store conn)

  -- what the connection shows is committed
  abbrev pub IsCommitted : Type 0
  IsCommitted = (state store conn).now ≡ (state store conn).committed

  -- the rows of the table in the tree with this number
  abbrev pub table_rows : ℕ → List Row
  table_rows = (state store conn).now.trees

  -- the rows obey the constraints of the declared tables
  abbrev pub ObeyTables : Type 0
  ObeyTables = tables.ObeyTables table_rows

  -- on success, the result is every row of this table, as `show` returns it, in any order
  abbrev pub ListsTable :
      {E : Type 0} → ℕ → (Row → Row) → Result (Vec Row Global) E → Type 0
  ListsTable tree show result =
      IfOk result (λ rows. IsPermutation (map show (table_rows tree)) rows.items)

  -- the fact holds of the database that the connection shows
  abbrev pub HoldsNow : (Database → Type 0) → Type 0
  HoldsNow Holds = Holds (state store conn).now

  abbrev pub HoldsInTx : (Database → Type 0) → Type 0
  HoldsInTx = creation.HoldsInTx (state store conn)

  abbrev pub HasBooks : List books.BookRow → Type 0
  HasBooks = books.HasBooks (state store conn)

  abbrev pub AddsBook : ℤ → List ℕ → List books.BookRow → Type 0
  AddsBook = books.AddsBook (state store conn)

  abbrev pub HasMembers : List members.MemberRow → Type 0
  HasMembers = members.HasMembers (state store conn)

  abbrev pub PutsRow : ℤ → List ℕ → ℤ → Option (List ℕ) → List members.MemberRow → Type 0
  PutsRow = members.PutsRow table_rows

  abbrev pub AddsImport : ℤ → List ℕ → ℤ → ℤ → ℤ → ℤ → List imports.ImportRow → Type 0
  AddsImport = imports.AddsImport (state store conn)

  abbrev pub AddsKeep : ℤ → ℤ → List keeps.KeepRow → Type 0
  AddsKeep = keeps.AddsKeep (state store conn)

-- ---- a connection before and after a call

module _ {S : Type 0} (store : Ghosts S) (old new : Held S) where
  -- the conditions of a clause

  abbrev pub GivenTables : Type 0 → Type 0
  GivenTables = effects.GivenTables (state store old) (state store new)

  abbrev pub InsideTx : Type 0 → Type 0
  InsideTx = effects.InsideTx (state store old) (state store new)

  abbrev pub GivenMembers : (List members.MemberRow → Type 0) → Type 0
  GivenMembers = members.GivenMembers (state store old) (state store new)

  abbrev pub GivenBooksAndMembers : (List books.BookRow → List members.MemberRow → Type 0) → Type 0
  GivenBooksAndMembers = named.GivenBooksAndMembers (state store old) (state store new)

  -- what a call does

  abbrev pub IsUnchanged : Type 0
  IsUnchanged = states.IsUnchanged (state store old) (state store new)

  -- the connection shows the same database as before
  abbrev pub ShowsTheSame : Type 0
  ShowsTheSame = (state store new).now ≡ (state store old).now

  abbrev pub KeepsCommit : Type 0
  KeepsCommit = states.KeepsCommit (state store old) (state store new)

  abbrev pub Survives : (Trees → Type 0) → Type 0
  Survives = states.Survives (state store old) (state store new)

  abbrev pub OnlyReads : Type 0
  OnlyReads = effects.OnlyReads (state store old) (state store new)

  abbrev pub WritesOnly : ℕ → Type 0
  WritesOnly tree = effects.WritesOnly tree (state store old) (state store new)

  abbrev pub AddsSchema : ℤ → Type 0
  AddsSchema number = meta.AddsSchema number ((state store old).now.trees 0) (state store new)

  abbrev pub NoCommit : Type 0
  NoCommit = effects.NoCommit (state store old) (state store new)

  abbrev pub StaysUncommitted : Type 0
  StaysUncommitted = creation.StaysUncommitted (state store old) (state store new)

  -- what a statement does

  abbrev pub ReadsTables : {T : Type 0} → Result T Error → Type 0 → Type 0
  ReadsTables = reads.ReadsTables (state store old) (state store new)

  abbrev pub LooksUpRow : Result Row Error → Type 0 → Type 0
  LooksUpRow = reads.LooksUpRow (state store old) (state store new)

  -- a read of one table, for the items that it held before
  abbrev pub Reads :
      {X T : Type 0} → effects.StoredTable X → Result T Error → (List X → Type 0) → Type 0
  Reads table result Returns = ReadsTables result
      (effects.GivenRows table.Hold table.tree (state store old) (state store new) Returns)

  -- a look-up in one table, for the items that it held before
  abbrev pub LooksUp :
      {X : Type 0} → effects.StoredTable X → Result Row Error → (List X → Type 0) → Type 0
  LooksUp table result Returns = LooksUpRow result
      (effects.GivenRows table.Hold table.tree (state store old) (state store new) Returns)

  -- the condition of a write: the transaction is open over the declared tables, and the table holds
  -- these items, of which no two share the id or a key
  abbrev pub GivenTx :
      {X : Type 0} → effects.StoredTable X → (List X → Type 0) → Type 0
  GivenTx table =
      effects.GivenRowsTx table.AreDistinct table.Hold table.tree (state store old)
      (state store new)

  -- The table accepts the member: a book has the id, none of its other members has the number, the
  -- UID and the card are short, and the engine has an id for a new row. Given that, and the books
  -- of the table `book`, the fact holds.
  abbrev pub GivenAcceptedMember :
      ℤ → List ℕ → ℤ → Option (List ℕ) → Type 0 → Type 0
  GivenAcceptedMember book uid changed card Then = GivenTx members.member_table
      (λ ms. (bs : List books.BookRow) → HasBooks store old bs
      → acceptance.HasFreeIds 1 (table_rows store old member_tree)
      → acceptance.AcceptsMember bs ms book uid changed card → Then)

  -- clauses of many functions

  -- a read of the declared tables that succeeds changes nothing
  abbrev pub UnchangedOnOk : {T E : Type 0} → Result T E → Type 0
  UnchangedOnOk result = GivenTables (OnOk result IsUnchanged)

  -- the cause of an error lies outside the tables
  abbrev pub HasOutsideCause : Type 0
  HasOutsideCause = failures.HasOutsideCause (state store old) (state store new)

  -- if the result is an error but for lack of memory, it has an outside cause
  abbrev pub HasOutsideCauseOfError : {T : Type 0} → Result T Error → Type 0
  HasOutsideCauseOfError = failures.HasOutsideCauseOfError (state store old) (state store new)

  -- a query of the declared tables fails only for lack of memory or for an outside cause
  abbrev pub FailsFromOutside : {T : Type 0} → Result T Error → Type 0
  FailsFromOutside = failures.FailsFromOutside (state store old) (state store new)

  -- inside a transaction over the declared tables, a write fails only for lack of memory or for an
  -- outside cause
  abbrev pub WriteFailsFromOutside : {T : Type 0} → Result T Error → Type 0
  WriteFailsFromOutside = acceptance.WriteFailsFromOutside (state store old) (state store new)

  -- only an open connection succeeds
  abbrev pub WasOpenOnOk : {T E : Type 0} → Result T E → Type 0
  WasOpenOnOk result =
      states.HasCleanDisk (state store new) → OnOk result (IsTrue (state store old).is_open)

  -- inside a transaction, a failed statement has no effect, or undoes the whole transaction
  abbrev pub UndoneOnErr : {T E : Type 0} → Result T E → Type 0
  UndoneOnErr result =
      InsideTx (OnErr result (effects.IsUndone (state store old) (state store new)))

  -- inside a transaction, nothing is committed
  abbrev pub KeepsCommitInTx : Type 0
  KeepsCommitInTx = InsideTx KeepsCommit

  -- a transaction stays open on success
  abbrev pub StaysInTxOnOk : {T E : Type 0} → Result T E → Type 0
  StaysInTxOnOk result = InsideTx (OnOk result (IsTrue new.in_transaction))

  -- no fault is forgotten, and a crash leaves what it could leave before
  abbrev pub SurvivesAsBefore : Type 0
  SurvivesAsBefore = Survives (λ _. ⊥)

  -- No fault is forgotten, and only a fault closes the connection. Nothing is said of a crash.
  abbrev pub CountsFaults : Type 0
  CountsFaults = Survives (λ _. ⊤)

  -- Inside a transaction over exactly the tables `before`, the call fails only for lack of memory or
  -- for an outside cause.
  abbrev pub FailsFromOutsideOver : {T : Type 0} → Schema → Result T Error → Type 0
  FailsFromOutsideOver before result =
      InsideTx (old.schema ≡ before → HasOutsideCauseOfError result)

  -- Inside a transaction over the tables `before`, a success creates the table in the tree with
  -- this number. The tables are then `after`, and the rows of the others are unchanged.
  abbrev pub IsTableCreatedInTx : {T E : Type 0} → Schema → Schema → ℕ → Result T E → Type 0
  IsTableCreatedInTx before after tree result =
      InsideTx (old.schema ≡ before → OnOk result
      (creation.IsTableCreated before after tree (state store old).now (state store new).now))
