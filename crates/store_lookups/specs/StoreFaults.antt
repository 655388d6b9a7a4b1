-- The cause of a fault of the store, and rows that cause none.
use Rattle.std.specs.Prelude.{◌≡◌, ◌<◌, ◌≤◌, ◌^◌, IfErr, IsUtf8, Result, length}
use Rattle.std.specs.List.{AllByRecursion}
use Rattle.sqlite.specs.Order.{Row}
use Rattle.sqlite.specs.State.{State, HasCleanDisk}
use Rattle.book_model.specs.Counting.{total_changes}
use Rattle.book_model.specs.declared.denied.Denied.{Denied}
use Rattle.book_model.specs.declared.denied.Fault.TheVariants.{Memory, Store}
use Rattle.store_tables.specs.Books.{BookRow, book_shown}
use Rattle.store_tables.specs.Failures.{HasOutsideCause}
use Rattle.store_tables.specs.Members.{MemberRow, member_shown}
use Rattle.store_rows.specs.SoundTables.{AreSoundRows, IsReadableBook, IsReadableImport}
use Rattle.store_rows.specs.SoundTables.{IsReadableMember}
use Rattle.store_rows.specs.TableBooks.{HeaderRow, row_counts}
use Rattle.store_rows.specs.TableRows.{TableRows, HoldsRows}
use Rattle.store_rows.specs.Values.{natural}
use Rattle.store_lookups.specs.Faults.{denied_by_fault}

-- ---- rows that cause no fault

-- The id and the number are below 2^63, the counts sum to the number, and the horizon is at most
-- the number. The name is UTF-8.
pub record IsFaultlessBook (b : BookRow) : Type 0 where
  pub readable : IsReadableBook b
  pub name : IsUtf8 b.name
  pub id : natural b.id < 2 ^ 63
  pub number : natural b.numbers.number < 2 ^ 63
  pub sum : total_changes (row_counts b.numbers) ≡ natural b.numbers.number
  pub horizon : natural b.numbers.horizon ≤ natural b.numbers.number

-- the UID is UTF-8
pub record IsFaultlessMember (m : MemberRow) : Type 0 where
  pub readable : IsReadableMember m
  pub uid : IsUtf8 m.uid

-- No row makes a call that reads fail. There are fewer than 2^63 - 1 members, so that each count of
-- them is below the greatest column value.
pub record AreFaultless (rows : TableRows) : Type 0 where
  pub sound : AreSoundRows rows
  pub books : AllByRecursion IsFaultlessBook rows.books
  pub members : AllByRecursion IsFaultlessMember rows.members
  pub imports : AllByRecursion IsReadableImport rows.imports
  pub few_members : length rows.members < 9223372036854775807

-- the result row of such a book, as `all_books` returns it
abbrev pub ShowsFaultlessBook : Row → Type 0
ShowsFaultlessBook row = (b : BookRow) × IsFaultlessBook b × (row ≡ book_shown b)

-- the result row of such a member, as `members_of` and `first_due` return it
abbrev pub ShowsFaultlessMember : Row → Type 0
ShowsFaultlessMember row = (m : MemberRow) × IsFaultlessMember m × (row ≡ member_shown m)

-- the header of such a book
pub record IsFaultlessHeader (header : HeaderRow) : Type 0 where
  pub id : header.id < 2 ^ 63
  pub number : header.number < 2 ^ 63
  pub horizon : header.horizon ≤ header.number

-- ---- faults

-- the result is an error only for lack of memory
abbrev pub FailsOnlyForMemory : {A : Type 0} → Result A Denied → Type 0
FailsOnlyForMemory result = IfErr result (λ denied. denied ≡ denied_by_fault Memory)

-- if the result is a fault of the store, it has an outside cause
abbrev pub HasOutsideCauseOfFault : {A : Type 0} → State → State → Result A Denied → Type 0
HasOutsideCauseOfFault old new result =
    IfErr result (λ denied. denied ≡ denied_by_fault Store → HasOutsideCause old new)

-- Over rows that cause no fault, a fault of the store comes only from an outside cause.
abbrev pub FaultsFromOutside : {A : Type 0} → State → State → Result A Denied → Type 0
FaultsFromOutside old new result = (rows : TableRows) → HasCleanDisk new →
    HoldsRows old.now rows → AreFaultless rows → HasOutsideCauseOfFault old new result

-- the same, for a book whose row has this header
abbrev pub FaultsFromOutsideInBook :
    {A : Type 0} → State → State → HeaderRow → Result A Denied → Type 0
FaultsFromOutsideInBook old new header result =
    IsFaultlessHeader header → FaultsFromOutside old new result
