-- The effect of a statement on a connection, by the states of the `sqlite` crate.
use Rattle.std.specs.Prelude.{◌≡◌, ◌≢◌, ◌⊎◌, ℕ, List, false, IsTrue}
use Rattle.std.specs.List.{AllByRecursion}
use Rattle.sqlite.specs.Order.{Row}
use Rattle.sqlite.specs.Tree.{Trees}
use Rattle.sqlite.specs.State.{State, HasCleanDisk, IsUnchanged, IsRolledBack}
use Rattle.sqlite.specs.State.{KeepsCommit, Survives}
use Rattle.store_tables.specs.Tables.{ObeyTables, book_schema}

-- ---- the conditions of a clause

-- the disk has returned what was written, and the tables are declared
abbrev pub GivenTables : State → State → Type 0 → Type 0
GivenTables old new Then = HasCleanDisk new → old.now.schema ≡ book_schema → Then

-- the disk has returned what was written, and the connection was inside a transaction before
abbrev pub InsideTx : State → State → Type 0 → Type 0
InsideTx old new Then = HasCleanDisk new → IsTrue old.in_transaction → Then

-- a declared table for rows of some kind
pub record StoredTable (X : Type 0) : Type 1 where
  -- the number of the tree with its rows
  pub tree : ℕ
  -- the rows are those of the items, in any order
  pub Hold : List Row → List X → Type 0
  -- no two items share the id or a key
  pub AreDistinct : List X → Type 0

-- the condition of a read: the table holds these items before it
abbrev pub GivenRows :
    {X : Type 0} → (List Row → List X → Type 0) → ℕ → State → State → (List X → Type 0) → Type 0
GivenRows {X} Hold tree old new Then = (xs : List X) →
    HasCleanDisk new → old.now.schema ≡ book_schema → Hold (old.now.trees tree) xs → Then xs

-- the condition of a write inside a transaction: the table holds these items before it, and they
-- are sound
abbrev pub GivenRowsTx :
    {X : Type 0} → (List X → Type 0) → (List Row → List X → Type 0) → ℕ → State → State
    → (List X → Type 0) → Type 0
GivenRowsTx {X} AreSound Hold tree old new Then = (xs : List X) →
    HasCleanDisk new → IsTrue old.in_transaction → old.now.schema ≡ book_schema
    → AreSound xs → Hold (old.now.trees tree) xs → Then xs

-- ---- reads

-- if the connection is open, it shows the committed state: no write is pending
abbrev pub HasNoPendingWrites : State → Type 0
HasNoPendingWrites s = IsTrue s.is_open → s.now ≡ s.committed

-- the connection was open, and its state is unchanged
pub record KeepsState (old new : State) : Type 0 where
  pub was_open : IsTrue old.is_open
  pub now_is : new.now ≡ old.now
  pub committed_is : new.committed ≡ old.committed

-- The effect of a read, on success and on error. It begins no transaction, and commits nothing
-- whatever tables are declared, so a crash leaves what it could leave before. If no write was
-- pending over the declared tables and the connection is still open, its state is unchanged.
pub record OnlyReads (old new : State) : Type 0 where
  pub mode : old.in_transaction ≡ false → new.in_transaction ≡ false
  pub was_open : HasCleanDisk new → IsTrue new.is_open → IsTrue old.is_open
  pub survives : Survives old new (λ _. ⊥)
  pub same : HasCleanDisk new → old.now.schema ≡ book_schema
      → IsTrue new.is_open → HasNoPendingWrites old → KeepsState old new

-- ---- writes

-- every other table is unchanged
abbrev pub KeepsOtherTables : ℕ → Trees → Trees → Type 0
KeepsOtherTables tree old new =
    AllByRecursion (λ t. t.tree ≢ tree → new t.tree ≡ old t.tree) book_schema.tables

-- only this table was written, the rows still obey the tables, and the transaction is still open
pub record WritesOnly (tree : ℕ) (old new : State) : Type 0 where
  pub schema : new.now.schema ≡ book_schema
  pub obeys : ObeyTables new.now.trees
  pub other_tables : KeepsOtherTables tree old.now.trees new.now.trees
  pub inside : IsTrue new.in_transaction

-- The effect of a statement inside a transaction, on success and on error: nothing is committed,
-- and a crash leaves what it could leave before.
pub record NoCommit (old new : State) : Type 0 where
  pub kept : HasCleanDisk new → IsTrue old.in_transaction → old.now.schema ≡ book_schema
      → KeepsCommit old new
  pub was_open : HasCleanDisk new → IsTrue old.in_transaction
      → IsTrue new.is_open → IsTrue old.is_open
  pub survives : Survives old new (λ _. ⊥)

-- the effect of a failed statement: none, or the whole transaction is rolled back
abbrev pub IsUndone : State → State → Type 0
IsUndone old new = IsUnchanged old new ⊎ IsRolledBack old new
