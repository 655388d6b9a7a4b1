-- The members of the table, read and tested one at a time.
use Rattle.std.specs.Prelude.{◌≡◌, ℤ, Bool, true, List, [], Option, Some, None, Result}
use Rattle.std.specs.Prelude.{IfErr, IfOk, IfSome, Vec, int_lt, map}
use Rattle.std.specs.declared.alloc.Global.{Global}
use Rattle.std.specs.List.{AllByRecursion}
use Rattle.std.specs.List.Sorted.{IsPermutation}
use Rattle.sqlite.specs.Order.{Row}
use Rattle.sqlite_rules.specs.Lists.{Has}
use Rattle.sqlite_trees.specs.Tree.{IsAscending}
use Rattle.book_model.specs.Bounds.{Bounds}
use Rattle.store_tables.specs.Books.{BookRow}
use Rattle.store_tables.specs.Members.{MemberRow, member_cells}
use Rattle.store_rows.specs.TableRows.{load_member}
use Rattle.store_check.specs.declared.faults.FaultyRow.{FaultyRow}
use Rattle.store_check.specs.declared.tallies.BookTally.{BookTally}
use Rattle.store_check.specs.MemberTallies.{AreCounted, DoesTally, HaveDistinctIds, IsGoodMember}
use Rattle.store_check.specs.RowChecks.{decode_book, int_cell}
use Rattle.store_check.specs.RowFaults.{IsFaultyMember, IsFaultyRow}
use Rattle.store_check.specs.StoredTests.{PassMemberTests}

abbrev pub is_above : Option ℤ → ℤ → Bool
is_above None id = true
is_above (Some last) id = int_lt last id

-- The member is good, was counted, and its id is above that of the member before; or it has the
-- fault.
abbrev pub DoesTake : List Row → List BookTally → List BookTally → Option ℤ → Option ℤ → Row
    → Option FaultyRow → Type 0
DoesTake books old new before after r None = DoesTally old new r None
    × (is_above before (int_cell 0 r) ≡ true) × (after ≡ Some (int_cell 0 r))
DoesTake books old new before after r (Some f) = (ms : List MemberRow) →
    HaveDistinctIds (map decode_book books) → AreCounted ms (map decode_book books) old →
    IsFaultyMember books r f

-- the row ids rise
abbrev pub HaveRisingIds : List Row → Type 0
HaveRisingIds = IsAscending (λ a b. int_lt (int_cell 0 a) (int_cell 0 b) ≡ true)

-- these rows, which are good and have rising ids, were counted
pub record AreTaken (books : List BookRow) (tallies : List BookTally) (rows : List Row)
    : Type 0 where
  pub good : AllByRecursion (IsGoodMember books) rows
  pub rising : HaveRisingIds rows
  pub counted : AreCounted (map load_member rows) books tallies

-- The rows of the table are all good and have rising ids, and all were counted; or one has the
-- fault.
pub record Scanned (table books : List Row) (tallies : List BookTally) (found : Option FaultyRow)
    : Type 0 where
  pub rows : List Row
  pub all : IsPermutation (map member_cells table) rows
  pub taken : found ≡ None → AreTaken (map decode_book books) tallies rows
  pub faulty : IfSome found (λ f. (r : Row) × Has rows r × IsFaultyMember books r f)

abbrev pub Scans : List Row → List Row → List BookTally → List BookTally → Option FaultyRow
    → Type 0
Scans table books old new found = HaveDistinctIds (map decode_book books) →
    AreCounted [] (map decode_book books) old → Scanned table books new found

-- The rows of the table pass the tests of the members, have rising ids and were counted; or one of
-- them, or one of the books, has the fault.
pub record TestedMembers (table : List Row) (limits : Bounds) (books keeps : List Row)
    (found : Result (Vec BookTally Global) FaultyRow) : Type 0 where
  pub rows : List Row
  pub all : IsPermutation (map member_cells table) rows
  pub passed : IfOk found (λ tallies. PassMemberTests limits books rows keeps
      × AreTaken (map decode_book books) tallies.items rows)
  pub faulty : IfErr found (λ f. (imports : List Row) →
      IsFaultyRow limits books rows imports keeps f)
