-- The tables before and after a change, and the contract of a changing call.
use Rattle.std.specs.Prelude.{◌≡◌, ◌+◌, false, ℕ, ℤ, pos, List, IsTrue, OnOk, Option, Result}
use Rattle.std.specs.Prelude.{Ok, Err}
use Rattle.std.specs.Ordering.{int_eq}
use Rattle.sqlite.specs.Effect.{Database}
use Rattle.sqlite.specs.State.{State, HasCleanDisk, Survives}
use Rattle.sqlite.specs.Tree.{Trees}
use Rattle.sqlite_rules.specs.Lists.{Has}
use Rattle.book_model.specs.declared.change.Change.{Change}
use Rattle.book_model.specs.declared.denied.Denied.{Denied}
use Rattle.book_model.specs.declared.refusal.Refusal.{Refusal}
use Rattle.book_model.specs.Books.{Books}
use Rattle.book_model.specs.CallOutcomes.{MatchesStep}
use Rattle.store_rows.specs.ChangeLaws.{IsRowOfChange, header_after}
use Rattle.store_rows.specs.LookupLaws.{IsNameFree}
use Rattle.store_rows.specs.SoundTables.{AreSoundRows, HoldsSoundRows}
use Rattle.store_rows.specs.TableBooks.{HeaderRow, line_row, numbers_row, row_book, books_in}
use Rattle.store_rows.specs.TableBooks.{books_of}
use Rattle.store_rows.specs.TableRows.{TableRows, HoldsRows}
use Rattle.store_tables.specs.Books.{BookRow, numbers_of}
use Rattle.store_tables.specs.Tables.{book_schema}
use Rattle.store_tables.specs.declared.books.BookNumbers.{BookNumbers}
use Rattle.store_lookups.specs.StoredBooks.{IsOpenOnHonestDisk, IsCommittedAndSound, stored_books}

-- ---- the contents of tables

-- the tables are sound and hold these books
pub record HoldsBooks (db : Database) (books : Books) : Type 0 where
  pub sound : HoldsSoundRows db
  pub books_are : books_in db.trees ≡ books

-- the same for the trees alone, which are all that is left after a crash
abbrev pub TreesHold : Books → Trees → Type 0
TreesHold books trees = HoldsBooks (record { schema = book_schema; trees = trees }) books

-- ---- assumptions about the tables before a change

-- the tables hold these sound rows, among them the row of the named book with this header
pub record HasBookRow (db : Database) (rows : TableRows) (name : List ℕ) (header : HeaderRow)
    : Type 0 where
  pub holds : HoldsRows db rows
  pub sound : AreSoundRows rows
  pub there : Has rows.books (line_row name header)

-- the tables hold these sound rows, and no book has the name
pub record LacksBookRow (db : Database) (rows : TableRows) (name : List ℕ) : Type 0 where
  pub holds : HoldsRows db rows
  pub sound : AreSoundRows rows
  pub free : IsNameFree rows name

-- inside a transaction, over tables that held these rows
abbrev pub InBookTx :
    State → State → (TableRows → List ℕ → HeaderRow → Type 0) → Type 0
InBookTx old new Then = (rows : TableRows) (name : List ℕ) (header : HeaderRow) →
    HasCleanDisk new → IsTrue old.in_transaction → HasBookRow old.now rows name header →
    Then rows name header

-- the column values are those of a book with this header
pub record AreHeaderColumns (header : HeaderRow) (id : ℤ) (columns : BookNumbers) : Type 0 where
  pub id_is : id ≡ pos header.id
  pub numbers : numbers_of columns ≡ numbers_row header.number header.horizon header.counts

-- The condition of a write of one member: the column `changed` holds the book's next number, the
-- member with this UID and card is the row of the change, and the columns are those of the header
-- after it.
abbrev pub GivenChange : ℤ → List ℕ → ℤ → Option (List ℕ) → BookNumbers
    → (HeaderRow → Change → Type 0) → Type 0
GivenChange id uid changed card numbers Then = (header : HeaderRow) (change : Change)
    → changed ≡ pos (header.number + 1) → IsRowOfChange uid card change
    → AreHeaderColumns (header_after change header) id numbers → Then header change

-- the condition of a write that forgets the tombstones up to the number `last`
abbrev pub GivenForget : ℤ → ℤ → BookNumbers → (HeaderRow → ℕ → Type 0) → Type 0
GivenForget id upto numbers Then = (header : HeaderRow) (last : ℕ) → upto ≡ pos last
    → AreHeaderColumns (record header { horizon = last }) id numbers → Then header last

-- After a change of the book `id`, the tables hold rows that represent these books. All other rows
-- of `book` remain, and the books that they represent are unchanged.
pub record HoldsChange (db : Database) (rows : TableRows) (id : ℤ) (books : Books) : Type 0 where
  pub rows_after : TableRows
  pub holds : HoldsRows db rows_after
  pub sound : AreSoundRows rows_after
  pub books_are : books_of rows_after ≡ books
  pub others : (b : BookRow) → Has rows.books b → int_eq b.id id ≡ false
      → Has rows_after.books b × (row_book rows_after b ≡ row_book rows b)

-- ---- the outcome of a transaction

-- It was committed, the connection is open, and this holds; or nothing changed, unless the
-- connection was closed.
abbrev pub IsAtomic : {A E : Type 0} → State → State → Result A E → (A → Database → Type 0) → Type 0
IsAtomic old new (Ok answer) Then =
    Then answer new.now × (new.now ≡ new.committed) × IsTrue new.is_open
IsAtomic old new (Err e) Then =
    IsTrue new.is_open → (new.now ≡ old.now) × (new.now ≡ new.committed)

-- After a crash, the tables hold the books of the whole step, which is one commit.
abbrev pub HoldBooksAfter : {A : Type 0} → Result (A × Books) Refusal → Trees → Type 0
HoldBooksAfter (Ok done) trees = TreesHold done.1 trees
HoldBooksAfter (Err refusal) trees = ⊥

-- the same, and the connection was open on an honest disk before
abbrev pub CommitsStep : {A : Type 0} → State → (Books → Result (A × Books) Refusal) → Trees
    → Type 0
CommitsStep old step trees =
    IsOpenOnHonestDisk old × HoldBooksAfter (step (stored_books old)) trees

-- ---- the contract of a changing call

-- A success leaves the connection open. The condition is that the tables of a connection that was
-- open on an honest disk were committed and sound.
abbrev pub StaysOpenOnOk : {A E : Type 0} → State → State → Result A E → Type 0
StaysOpenOnOk old new result = HasCleanDisk new
    → (IsOpenOnHonestDisk old → IsCommittedAndSound old) → OnOk result (IsTrue new.is_open)

-- No transaction is open after the call. If the connection is open on an honest disk after it, it
-- was so before; and then the tables are sound again and hold the books that the step returns. A
-- success leaves the connection open.
pub record AppliesStep {A : Type 0} (old new : State) (r : Result A Denied)
    (step : Books → Result (A × Books) Refusal) : Type 0 where
  pub settled : new.in_transaction ≡ false
  pub was_open_on_honest_disk : IsOpenOnHonestDisk new → IsOpenOnHonestDisk old
  pub stays_sound : IsOpenOnHonestDisk new → IsCommittedAndSound old → IsCommittedAndSound new
  pub matches_step : IsOpenOnHonestDisk new → IsCommittedAndSound old →
      MatchesStep r (step (stored_books old)) (stored_books old) (stored_books new)
  pub stays_open : StaysOpenOnOk old new r

-- A crash leaves what it could leave before the call, or the one commit, which is the whole step.
-- It is made only over a connection that was open on an honest disk. The condition is that the
-- tables of such a connection were committed and sound.
abbrev pub CommitsOnce : {A : Type 0} → State → State → (Books → Result (A × Books) Refusal)
    → Type 0
CommitsOnce old new step = (IsOpenOnHonestDisk old → IsCommittedAndSound old) →
    Survives old new (CommitsStep old step)
