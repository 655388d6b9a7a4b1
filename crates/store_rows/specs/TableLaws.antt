-- Laws of sound tables.
use Rattle.std.specs.Prelude.{◌≡◌}
use Rattle.std.specs.FinMap as finite
use Rattle.sqlite.specs.Effect.{Database}
use Rattle.store_rows.specs.TableRows.{TableRows, HoldsRows, no_rows}
use Rattle.store_rows.specs.TableBooks.{books_of, books_in}
use Rattle.store_rows.specs.SoundTables.{AreSoundRows}

-- The books of the tables are those of their rows, in any order of the rows.
abbrev pub BooksAreHeld : Type 0
BooksAreHeld = (db : Database) (rows : TableRows) → HoldsRows db rows → AreSoundRows rows →
    books_in db.trees ≡ books_of rows

-- two databases that hold the same rows have the same books
abbrev pub OrderIsIrrelevant : Type 0
OrderIsIrrelevant = (a b : Database) (rows : TableRows) → HoldsRows a rows → HoldsRows b rows →
    AreSoundRows rows → books_in a.trees ≡ books_in b.trees

-- tables without rows are sound and have no books
pub record HoldsNoBooks (db : Database) : Type 0 where
  pub sound : AreSoundRows no_rows
  pub books : books_in db.trees ≡ finite.empty

abbrev pub EmptyTablesHoldNoBooks : Type 0
EmptyTablesHoldNoBooks = (db : Database) → HoldsRows db no_rows → HoldsNoBooks db
