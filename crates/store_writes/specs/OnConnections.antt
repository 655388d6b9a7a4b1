-- Definitions over connections, for contracts, as in `store_tables`.
use Rattle.std.specs.Prelude.{◌≡◌, ℕ, ℤ, pos, List, Option, Result, OnOk, IsTrue}
use Rattle.std.specs.FinMap as finite
use Rattle.sqlite.specs.Effect.{Database}
use Rattle.sqlite.specs.Held.{Held, state}
use Rattle.book_model.specs.Books.{Book, Books}
use Rattle.book_model.specs.Forgetting.{book_after_forget, dropped_row_count}
use Rattle.book_model.specs.declared.denied.Denied.{Denied}
use Rattle.book_model.specs.declared.refusal.Refusal.{Refusal}
use Rattle.store_rows.specs.TableBooks.{HeaderRow, books_of, line_row, row_book}
use Rattle.store_rows.specs.TableRows.{TableRows}
use Rattle.store_tables.specs.OnConnections.{Ghosts, HasCleanDisk, HoldsInTx, KeepsCommit, Survives}
use Rattle.store_writes.specs.AcceptedChanges as accepted
use Rattle.store_writes.specs.TableChanges as changes
use Rattle.store_writes.specs.TableChanges.{HoldsBooks, HoldsChange, TreesHold}

-- ---- one connection

module _ {S : Type 0} (store : Ghosts S) (conn : Held S) where
  abbrev pub HasBookRow : TableRows → List ℕ → HeaderRow → Type 0
  HasBookRow = changes.HasBookRow (state store conn).now

  abbrev pub LacksBookRow : TableRows → List ℕ → Type 0
  LacksBookRow = changes.LacksBookRow (state store conn).now

  abbrev pub AcceptsHeader : TableRows → List ℕ → HeaderRow → Type 0
  AcceptsHeader = accepted.AcceptsHeader (state store conn).now

  abbrev pub AcceptsMemberOf :
      TableRows → List ℕ → HeaderRow → List ℕ → ℤ → Option (List ℕ) → Type 0
  AcceptsMemberOf = accepted.AcceptsMemberOf (state store conn).now

-- the books of the rows, with the book of this name and header replaced by `after` of it
abbrev pub with_book_after : TableRows → List ℕ → HeaderRow → (Book → Book) → Books
with_book_after rows name header after =
    finite.insert (books_of rows) name (after (row_book rows (line_row name header)))

-- ---- a connection before and after a call

module _ {S : Type 0} (store : Ghosts S) (old new : Held S) where
  abbrev pub IsAtomic : {A E : Type 0} → Result A E → (A → Database → Type 0) → Type 0
  IsAtomic = changes.IsAtomic (state store old) (state store new)

  abbrev pub AppliesStep :
      {A : Type 0} → Result A Denied → (Books → Result (A × Books) Refusal) → Type 0
  AppliesStep = changes.AppliesStep (state store old) (state store new)

  abbrev pub CommitsOnce : {A : Type 0} → (Books → Result (A × Books) Refusal) → Type 0
  CommitsOnce = changes.CommitsOnce (state store old) (state store new)

  abbrev pub InBookTx : (TableRows → List ℕ → HeaderRow → Type 0) → Type 0
  InBookTx = changes.InBookTx (state store old) (state store new)

  -- inside a transaction, over tables that held the row of the book with this header
  abbrev pub InTxWithBook : HeaderRow → (TableRows → List ℕ → Type 0) → Type 0
  InTxWithBook header Then = (rows : TableRows) (name : List ℕ) → HasCleanDisk store new →
      IsTrue old.in_transaction → HasBookRow store old rows name header → Then rows name

  -- nothing is committed
  abbrev pub KeepsCommitWithBook : HeaderRow → Type 0
  KeepsCommitWithBook header = InTxWithBook header (λ rows name. KeepsCommit store old new)

  -- a success replaces the book with this header by `after` of it
  abbrev pub ChangesBookInTx : {T E : Type 0} → HeaderRow → Result T E → (Book → Book) → Type 0
  ChangesBookInTx header result after = InTxWithBook header (λ rows name.
      OnOk result (HoldsInTx store new
      (λ db. HoldsChange db rows (pos header.id) (with_book_after rows name header after))))

  -- the condition of a transaction: the tables hold the row of the book with this header before it
  abbrev pub GivenBookRow : HeaderRow → (TableRows → List ℕ → Type 0) → Type 0
  GivenBookRow header Then = (rows : TableRows) (name : List ℕ) → HasCleanDisk store new →
      HasBookRow store old rows name header → Then rows name

  -- A success commits `after` of the book with this header. A failure changes nothing, unless the
  -- connection was closed.
  abbrev pub CommitsBook : {T E : Type 0} → HeaderRow → Result T E → (Book → Book) → Type 0
  CommitsBook header result after = GivenBookRow header (λ rows name.
      IsAtomic result (λ _ db. HoldsBooks db (with_book_after rows name header after)))

  -- A success commits the book with this header without the tombstones up to `last`, and returns
  -- their number. A failure changes nothing, unless the connection was closed.
  abbrev pub CommitsForget : {E : Type 0} → HeaderRow → Result ℕ E → ℕ → Type 0
  CommitsForget header result last = GivenBookRow header (λ rows name. IsAtomic result (λ count db.
      (count ≡ dropped_row_count (row_book rows (line_row name header)).members last)
      × HoldsBooks db (with_book_after rows name header (λ book. book_after_forget book last))))

  -- a crash leaves what it could leave before, or the one commit, with `after` of the book
  abbrev pub CommitsBookOnce : HeaderRow → (Book → Book) → Type 0
  CommitsBookOnce header after = (rows : TableRows) (name : List ℕ) →
      HasBookRow store old rows name header →
      Survives store old new (TreesHold (with_book_after rows name header after))
