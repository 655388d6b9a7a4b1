-- What a call that writes inside a transaction does, on success and on error. A record is over a
-- disk that returned what was written.
use Rattle.std.specs.Prelude.{◌≡◌, ◌≢◌, ◌+◌, ℕ, ℤ, List, Option, Result, IfOk, OnOk}
use Rattle.std.specs.Prelude.{length, filter}
use Rattle.sqlite.specs.Schema.{Schema}
use Rattle.sqlite.specs.declared.error.Error.{Error}
use Rattle.sqlite.specs.declared.transaction.Transaction.{Transaction}
use Rattle.sqlite_rules.specs.Lists.{Has}
use Rattle.store_tables.specs.Acceptance.{AcceptsBook, AcceptsImport, AcceptsKeep, AcceptsNumbers}
use Rattle.store_tables.specs.Acceptance.{HasFreeIds}
use Rattle.store_tables.specs.Books.{BookRow, Numbers, book_table, with_book_numbers}
use Rattle.store_tables.specs.Imports.{import_table}
use Rattle.store_tables.specs.Keeps.{keep_table}
use Rattle.store_tables.specs.Members.{MemberRow, has_uid, is_removed_up_to, member_table}
use Rattle.store_tables.specs.Members.{without_removed}
use Rattle.store_tables.specs.OnConnections.{FailsFromOutsideOver, Ghosts, GivenAcceptedMember}
use Rattle.store_tables.specs.OnConnections.{GivenTx, HasBooks, HasMembers, IsTableCreatedInTx}
use Rattle.store_tables.specs.OnConnections.{KeepsCommit, KeepsCommitInTx, NoCommit, PutsRow}
use Rattle.store_tables.specs.OnConnections.{StaysInTxOnOk, SurvivesAsBefore, UndoneOnErr}
use Rattle.store_tables.specs.OnConnections.{WriteFailsFromOutside, WritesOnly, table_rows}
use Rattle.store_tables.specs.StatementEffects.{StoredTable}
use Rattle.store_tables.specs.Tables.{book_tree, import_tree, member_tree}

-- ---- rows

-- A write of rows of one declared table by one statement. `Given` assumes the items that the table
-- holds before, of which no two share the id or a key. `Accepted` assumes that the table accepts the
-- write.
pub record WritesRow {S X T : Type 0} (store : Ghosts S) (old new : Transaction S) (tree : ℕ)
    (result : Result T Error) (Given : (List X → Type 0) → Type 0) (Changes : List X → Type 0)
    (Accepted : Type 0 → Type 0) : Type 0 where
  -- the transaction still borrows the same connection
  pub same_reference : new.conn.ghost_name ≡ old.conn.ghost_name
  -- what the call does to the rows
  pub changes : Given Changes
  -- after a success only this table was written, the rows obey the declared tables, and the
  -- transaction is open
  pub writes : Given (λ _. OnOk result (WritesOnly store old.conn.now new.conn.now tree))
  -- nothing was committed, and a crash leaves what it could leave before
  pub no_commit : NoCommit store old.conn.now new.conn.now
  -- an error changed nothing, or rolled the whole transaction back
  pub rolled_back : UndoneOnErr store old.conn.now new.conn.now result
  -- if the rows obey the tables, an error but for lack of memory has an outside cause
  pub fails_from_outside :
      Accepted (WriteFailsFromOutside store old.conn.now new.conn.now result)

-- The same by one statement or two. After an error the first one may have written, so the caller
-- rolls the transaction back.
pub record WritesRowInSteps {S X T : Type 0} (store : Ghosts S) (old new : Transaction S)
    (tree : ℕ) (result : Result T Error) (Given : (List X → Type 0) → Type 0)
    (Changes : List X → Type 0) (Accepted : Type 0 → Type 0) : Type 0 where
  pub same_reference : new.conn.ghost_name ≡ old.conn.ghost_name
  pub changes : Given Changes
  pub writes : Given (λ _. OnOk result (WritesOnly store old.conn.now new.conn.now tree))
  -- nothing was committed
  pub keeps_commit : Given (λ _. KeepsCommit store old.conn.now new.conn.now)
  -- a crash leaves what it could leave before
  pub survives : SurvivesAsBefore store old.conn.now new.conn.now
  pub fails_from_outside :
      Accepted (WriteFailsFromOutside store old.conn.now new.conn.now result)

-- what a put of a member does to the members `ms`
pub record PutsIntoMembers {S T : Type 0} (store : Ghosts S) (old new : Transaction S) (book : ℤ)
    (uid : List ℕ) (changed : ℤ) (card : Option (List ℕ)) (result : Result T Error)
    (ms : List MemberRow) : Type 0 where
  -- After a success the member has the number and the card, in its own row or in a new one. The
  -- others stay, and no two members share an id, or a UID in one book.
  pub puts : OnOk result (PutsRow store new.conn.now book uid changed card ms)
  -- it takes at most one id: if the engine had ids for count + 1 new rows before, it has ids for
  -- count of them after a success
  pub takes_one_id : (count : ℕ) → HasFreeIds (count + 1) (table_rows store old.conn.now
      member_tree)
      → OnOk result (HasFreeIds count (table_rows store new.conn.now member_tree))

-- what an update of a member does to the members `ms`; the result is the number of updated rows
pub record UpdatesMember {S : Type 0} (store : Ghosts S) (old new : Transaction S) (book : ℤ)
    (uid : List ℕ) (changed : ℤ) (card : Option (List ℕ)) (result : Result ℕ Error)
    (ms : List MemberRow) : Type 0 where
  -- it counts the members of the book with the UID
  pub counts : IfOk result (λ count. count ≡ length (filter (has_uid book uid) ms))
  -- such a member has the number and the card
  pub updates : IfOk result (λ count. count ≢ 0
      → PutsRow store new.conn.now book uid changed card ms)
  -- without such a member the rows are as they were
  pub missed : IfOk result (λ count. count ≡ 0
      → table_rows store new.conn.now member_tree ≡ table_rows store old.conn.now member_tree)
  pub takes_one_id : (count : ℕ) → HasFreeIds (count + 1) (table_rows store old.conn.now
      member_tree)
      → OnOk result (HasFreeIds count (table_rows store new.conn.now member_tree))

-- what a deletion of removed members does to the members `ms`
pub record ForgetsAmongMembers {S : Type 0} (store : Ghosts S) (new : Transaction S) (book upto : ℤ)
    (result : Result ℕ Error) (ms : List MemberRow) : Type 0 where
  -- after a success the removed members of the book with a number of at most `upto` are gone
  pub forgets : OnOk result (HasMembers store new.conn.now (without_removed book upto ms))
  -- the result is their number
  pub dropped : IfOk result (λ count. count ≡ length (filter (is_removed_up_to book upto) ms))

-- ---- the writes of each table

module _ {S : Type 0} (store : Ghosts S) (old new : Transaction S) where
  -- a put of a member, which gets the number and the card; without a card it is a removed member
  abbrev pub PutsMember :
      {T : Type 0} → ℤ → List ℕ → ℤ → Option (List ℕ) → Result T Error → Type 0
  PutsMember book uid changed card result = WritesRow store old new member_tree result
      (GivenTx store old.conn.now new.conn.now member_table)
      (PutsIntoMembers store old new book uid changed card result)
      (GivenAcceptedMember store old.conn.now new.conn.now book uid changed card)

  -- the same by one statement or two
  abbrev pub PutsMemberInSteps :
      {T : Type 0} → ℤ → List ℕ → ℤ → Option (List ℕ) → Result T Error → Type 0
  PutsMemberInSteps book uid changed card result = WritesRowInSteps store old new member_tree result
      (GivenTx store old.conn.now new.conn.now member_table)
      (PutsIntoMembers store old new book uid changed card result)
      (GivenAcceptedMember store old.conn.now new.conn.now book uid changed card)

  -- the removed members of the book with a number of at most `upto` are deleted
  abbrev pub ForgetsMembers : ℤ → ℤ → Result ℕ Error → Type 0
  ForgetsMembers book upto result = WritesRow store old new member_tree result
      (GivenTx store old.conn.now new.conn.now member_table)
      (ForgetsAmongMembers store new book upto result) (λ Then. Then)

  -- a new row of the table
  abbrev pub InsertsRow :
      {X T : Type 0} → StoredTable X → Result T Error → (List X → Type 0) → (Type 0 → Type 0)
      → Type 0
  InsertsRow table result Adds Accepted = WritesRow store old new table.tree result
      (GivenTx store old.conn.now new.conn.now table) (λ xs. OnOk result (Adds xs)) Accepted

  -- The nine numbers of the book with the id are set; its name stays. On success a book has the id.
  abbrev pub RenumbersBook : {T : Type 0} → ℤ → Numbers → Result T Error → Type 0
  RenumbersBook id numbers result = WritesRow store old new book_tree result
      (λ Then. GivenTx store old.conn.now new.conn.now book_table
      (λ bs. (b : BookRow) → Has bs b → id ≡ b.id → Then bs))
      (λ bs. OnOk result (HasBooks store new.conn.now (with_book_numbers id numbers bs)))
      (λ Then. GivenTx store old.conn.now new.conn.now book_table
      (λ bs. AcceptsNumbers bs id → Then))

  -- no book has the id or the name, and the name is short
  abbrev pub GivenAcceptedBook : ℤ → List ℕ → Type 0 → Type 0
  GivenAcceptedBook id name Then = GivenTx store old.conn.now new.conn.now book_table
      (λ bs. AcceptsBook bs id name → Then)

  -- a book has the id but no import with the key, the key is short, and the engine has an id for a
  -- new row
  abbrev pub GivenAcceptedImport : ℤ → List ℕ → Type 0 → Type 0
  GivenAcceptedImport book key Then = GivenTx store old.conn.now new.conn.now import_table
      (λ imports. (bs : List BookRow) → HasBooks store old.conn.now bs
      → HasFreeIds 1 (table_rows store old.conn.now import_tree)
      → AcceptsImport bs imports book key → Then)

  -- a book has the id, but no keep
  abbrev pub GivenAcceptedKeep : ℤ → Type 0 → Type 0
  GivenAcceptedKeep book Then = GivenTx store old.conn.now new.conn.now keep_table
      (λ keeps. (bs : List BookRow) → HasBooks store old.conn.now bs
      → AcceptsKeep bs keeps book → Then)

-- ---- tables

-- the creation of a table, in the tree with this number
pub record CreatesTable {S T : Type 0} (store : Ghosts S) (old new : Transaction S)
    (before after : Schema) (tree : ℕ) (result : Result T Error) : Type 0 where
  -- the transaction still borrows the same connection
  pub same_reference : new.conn.ghost_name ≡ old.conn.ghost_name
  -- if exactly the tables `before` were declared, after a success the table is declared too and has
  -- no row, and the rows of the others are unchanged
  pub creates :
      IsTableCreatedInTx store old.conn.now new.conn.now before after tree result
  -- after a success the transaction is open
  pub stays_in_tx : StaysInTxOnOk store old.conn.now new.conn.now result
  -- on success and on error nothing was committed
  pub keeps_commit : KeepsCommitInTx store old.conn.now new.conn.now
  -- no fault of the disk is forgotten, and a crash leaves what it could leave before
  pub survives : SurvivesAsBefore store old.conn.now new.conn.now
  -- an error changed nothing, or rolled the whole transaction back
  pub rolled_back : UndoneOnErr store old.conn.now new.conn.now result
  -- over exactly the tables `before`, an error but for lack of memory has an outside cause
  pub fails_from_outside :
      FailsFromOutsideOver store old.conn.now new.conn.now before result
