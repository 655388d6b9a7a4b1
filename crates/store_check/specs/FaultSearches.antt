-- The result of searching the tables for a row that is not good.
use Rattle.std.specs.Prelude.{◌≡◌, ⊤, List, map, Option, Some, None, Result, Ok, Err, Vec}
use Rattle.std.specs.declared.alloc.Global.{Global}
use Rattle.sqlite.specs.Effect.{Database}
use Rattle.sqlite.specs.Order.{Row}
use Rattle.book_model.specs.Bounds.{Bounds}
use Rattle.store_rows.specs.SoundTables.{HoldsWellFormed}
use Rattle.store_rows.specs.TableBooks.{books_in}
use Rattle.store_rows.specs.TableRows.{load_member}
use Rattle.store_tables.specs.Members.{MemberRow}
use Rattle.store_schema.specs.StoredSchema.{IsCurrentSchema, ClassifiesSchema}
use Rattle.store_schema.specs.declared.open_fault.OpenFault.{OpenFault}
use Rattle.store_schema.specs.declared.open_fault.OpenFault.TheVariants.{Store, NotOurs}
use Rattle.store_schema.specs.declared.open_fault.OpenFault.TheVariants.{OtherSchema, Damaged}
use Rattle.store_schema.specs.declared.open_fault.OpenFault.TheVariants.{NotEmpty, Memory}
use Rattle.store_check.specs.declared.counts.TombstoneCount.{TombstoneCount}
use Rattle.store_check.specs.declared.faults.FaultyRow.{FaultyRow}
use Rattle.store_check.specs.declared.tallies.BookTally.{BookTally}
use Rattle.store_check.specs.BookChecks.{AreCheckedBooks}
use Rattle.store_check.specs.ListedRows.{AreListedRows}
use Rattle.store_check.specs.MemberTallies.{AreCounted}
use Rattle.store_check.specs.RowChecks.{AreWellStored, decode_book, decode_keep}
use Rattle.store_check.specs.RowFaults.{IsFaultyRow}
use Rattle.store_check.specs.StoredTests.{PassBookTests}
use Rattle.store_check.specs.TombstoneCounts.{AreTombstoneCounts}

-- one of the rows that the tables hold has this fault
pub record HoldsFaultyRow (limits : Bounds) (db : Database) (f : FaultyRow) : Type 0 where
  pub books : List Row
  pub members : List Row
  pub imports : List Row
  pub keeps : List Row
  pub listed : AreListedRows db books members imports keeps
  pub faulty : IsFaultyRow limits books members imports keeps f

-- the tables are this project's, hold this faulty row, and so don't hold well-formed books
pub record AreFaulty (limits : Bounds) (db : Database) (f : FaultyRow) : Type 0 where
  pub ours : IsCurrentSchema db
  pub damaged : ¬ HoldsWellFormed limits db
  pub held : HoldsFaultyRow limits db f

-- Why tables could not be searched: as the schema test says. A fault of the database can replace
-- each result.
abbrev pub IsSearchFault : Database → OpenFault → Type 0
IsSearchFault db Store = ⊤
IsSearchFault db NotOurs = ClassifiesSchema db (Err NotOurs)
IsSearchFault db (OtherSchema has) = ClassifiesSchema db (Err (OtherSchema has))
IsSearchFault db Damaged = ⊥
IsSearchFault db NotEmpty = ⊥
IsSearchFault db Memory = ⊤

-- the result of the search: none if the tables hold well-formed books, or else a faulty row
abbrev pub IsFaultSearch : Bounds → Database → Result (Option FaultyRow) OpenFault → Type 0
IsFaultSearch limits db (Ok None) = HoldsWellFormed limits db
IsFaultSearch limits db (Ok (Some f)) = AreFaulty limits db f
IsFaultSearch limits db (Err fault) = IsSearchFault db fault

-- the result of testing all rows: how many tombstones each book has, or a faulty row
abbrev pub IsTestResult : Bounds → Database
    → Result (Result (Vec TombstoneCount Global) FaultyRow) OpenFault → Type 0
IsTestResult limits db (Ok (Ok counts)) =
    HoldsWellFormed limits db × AreTombstoneCounts (books_in db.trees) counts.items
IsTestResult limits db (Ok (Err f)) = AreFaulty limits db f
IsTestResult limits db (Err fault) = IsSearchFault db fault

-- Rows of which one is faulty are not well stored.
abbrev pub FaultyAreNotStored : Type 0
FaultyAreNotStored = (limits : Bounds) (books members imports keeps : List Row) (f : FaultyRow) →
    IsFaultyRow limits books members imports keeps f →
    ¬ AreWellStored limits books members imports keeps

-- ---- the parts of the search

-- the rows of books, imports and keeps pass their tests, or one of them has the fault
abbrev pub ChecksListed : Bounds → List Row → List Row → List Row → Option FaultyRow → Type 0
ChecksListed limits books imports keeps None = PassBookTests limits books imports keeps
ChecksListed limits books imports keeps (Some f) =
    (members : List Row) → IsFaultyRow limits books members imports keeps f

-- the books agree with the members that were counted, or one of them has the fault
abbrev pub ChecksBooks : Bounds → List Row → List Row → List BookTally
    → Result (Vec BookTally Global) FaultyRow → Type 0
ChecksBooks limits books keeps tallies (Ok same) = (same.items ≡ tallies)
    × ((ms : List MemberRow) → AreCounted ms (map decode_book books) tallies →
    AreCheckedBooks limits ms (map decode_keep keeps) (map decode_book books))
ChecksBooks limits books keeps tallies (Err f) = (members : List Row) →
    AreCounted (map load_member members) (map decode_book books) tallies →
    (imports : List Row) → IsFaultyRow limits books members imports keeps f
