-- Definitions over connections, for contracts, as in `store_tables`.
use Rattle.std.specs.Prelude.{◌≡◌, List, Option, Result, Vec, IsTrue, map}
use Rattle.std.specs.declared.alloc.Global.{Global}
use Rattle.sqlite.specs.Held.{Held, state}
use Rattle.sqlite.specs.Order.{Row}
use Rattle.book_model.specs.Bounds.{Bounds}
use Rattle.store_tables.specs.OnConnections.{Ghosts}
use Rattle.store_tables.specs.Tables.{ObeyTables, book_schema}
use Rattle.store_schema.specs.declared.open_fault.OpenFault.{OpenFault}
use Rattle.store_check.specs.declared.counts.TombstoneCount.{TombstoneCount}
use Rattle.store_check.specs.declared.tallies.BookTally.{BookTally}
use Rattle.store_check.specs.declared.faults.FaultyRow.{FaultyRow}
use Rattle.store_check.specs.FaultSearches as searches
use Rattle.store_check.specs.ListedRows as listed
use Rattle.store_check.specs.MemberScans as scans
use Rattle.store_check.specs.MemberTallies.{HaveDistinctIds}
use Rattle.store_check.specs.RowChecks.{decode_book}
use Rattle.store_check.specs.OpenResults as results
use Rattle.store_check.specs.TombstoneCounts as counts

-- ---- one connection

module _ {S : Type 0} (store : Ghosts S) (conn : Held S) where
  abbrev pub AreBookRows : List Row → List Row → List Row → Type 0
  AreBookRows = listed.AreBookRows (state store conn).now

  -- the rows of the declared tables obey their constraints, if the connection is open
  abbrev pub ObeySchema : Type 0
  ObeySchema = IsTrue (state store conn).is_open → (state store conn).now.schema ≡ book_schema →
      ObeyTables (state store conn).now.trees

  abbrev pub ChecksMembers : Bounds → List Row → List Row
      → Result (Vec BookTally Global) FaultyRow → Type 0
  ChecksMembers limits books keeps found = HaveDistinctIds (map decode_book books) →
      scans.TestedMembers ((state store conn).now.trees 4) limits books keeps found

  abbrev pub IsOpenResult : Bounds → Result (Unit {0}) OpenFault → Type 0
  IsOpenResult limits = results.IsOpenResult limits (state store conn).now

  abbrev pub IsCountedResult : Bounds → Result (Vec TombstoneCount Global) OpenFault → Type 0
  IsCountedResult limits = counts.IsCountedResult limits (state store conn).now

  abbrev pub IsTestResult : Bounds → Result (Result (Vec TombstoneCount Global) FaultyRow) OpenFault
      → Type 0
  IsTestResult limits = searches.IsTestResult limits (state store conn).now

  abbrev pub IsFaultSearch : Bounds → Result (Option FaultyRow) OpenFault → Type 0
  IsFaultSearch limits = searches.IsFaultSearch limits (state store conn).now

-- ---- a connection before and after a call

module _ {S : Type 0} (store : Ghosts S) (old new : Held S) where
  -- tables of well-formed books open, but for lack of memory or for an outside cause
  abbrev pub OpensWellFormed : {T : Type 0} → Bounds → Result T OpenFault → Type 0
  OpensWellFormed limits = results.OpensWellFormed limits (state store old) (state store new)
