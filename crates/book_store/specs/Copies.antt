-- Copies of a store, also without some of its books.
use Rattle.std.specs.Prelude.{ℕ, ℤ, ◌*◌, List}
use Rattle.sqlite.specs.State.{State}
use Rattle.sqlite_disk.specs.declared.Disk.{Ghosts}
use Rattle.sqlite_disk.specs.declared.Files.{Files}
use Rattle.book_model.specs.Books.{Books}
use Rattle.book_model.specs.Bounds.{Bounds}
use Rattle.book_resync.specs.ResyncLaws.{IsResync}
use Rattle.store_copy.specs.BooksWithout.{AreBooksWithout, HaveNumbersBelow}
use Rattle.store_copy.specs.CopiedRows.{HasRows}
use Rattle.store_copy.specs.RowsWithout.{HasNewRows, LeavesOut, ids_named}
use Rattle.store_copy.specs.declared.reading.StoredRows.{StoredRows}
use Rattle.store_lookups.specs.StoredBooks.{IsCommittedAndSound}
use Rattle.store_rows.specs.SoundTables.{HoldsSoundRows}
use Rattle.book_store.specs.ClosedFiles.{AreBooksAlone}

-- ---- tables

-- these are all rows of the tables, which are sound
pub record AreStoreRows (s : State) (rows : StoredRows) : Type 0 where
  pub has : HasRows s.now rows
  pub sound : HoldsSoundRows s.now

-- the tables are committed and sound, and have these rows with the ids after these were left out
pub record AreMade (s : State) (ids : List ℤ) (rows : StoredRows) : Type 0 where
  pub has : HasNewRows ids s.now rows
  pub sound : IsCommittedAndSound s

-- the tables were made from these rows, but those of the books with these names
pub record AreMadeWithout (s : State) (names : List (List ℕ)) (all : StoredRows) : Type 0 where
  pub kept : StoredRows
  pub leaves : LeavesOut (ids_named names all) all kept
  pub made : AreMade s (ids_named names all) kept

-- ---- in files

module _ {D : Type 0} (g : Ghosts D) (files : Files D) where
  -- the file holds the books after a resync of these, with its log and without it
  pub record AreRestarted (limits : Bounds) (books : Books) (pairs : ℕ) : Type 0 where
    pub after : Books
    pub alone : AreBooksAlone g files after
    pub resynced : IsResync limits books pairs after

  -- The file holds the books but those with these names, after a resync that took each book past
  -- all numbers of all books. So a token of the old books is refused by each of the new ones, also
  -- if a book has the id of another one (`resyncs_restart_devices` of `book_resync`).
  pub record AreRestWithout (limits : Bounds) (names : List (List ℕ)) (old : Books)
      : Type 0 where
    pub rest : Books
    pub without : AreBooksWithout names old rest
    pub pairs : ℕ
    pub above : HaveNumbersBelow (2 * pairs) old
    pub restarted : AreRestarted limits rest pairs
