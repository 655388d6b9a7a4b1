-- What is counted of the members of each book, while they are read one at a time.
use Rattle.std.specs.Prelude.{◌≡◌, ◌+◌, ◌++◌, ◌↔◌, ℕ, ℤ, Bool, List, [], ◌∷◌, IsTrue, filter}
use Rattle.std.specs.Prelude.{◌<◌, if◌then◌else◌, Option, Some, None}
use Rattle.std.specs.Prelude.{false, true, find, length, map, slice_get}
use Rattle.sqlite_trees.specs.Tree.{IsAscending}
use Rattle.std.specs.List.{AllByRecursion}
use Rattle.std.specs.Ordering.{int_eq}
use Rattle.sqlite.specs.Order.{Row}
use Rattle.store_tables.specs.Books.{BookRow}
use Rattle.store_tables.specs.Members.{MemberRow, is_removed_above}
use Rattle.store_rows.specs.TableRows.{load_member}
use Rattle.store_rows.specs.Values.{natural}
use Rattle.store_check.specs.declared.tallies.BookTally.{BookTally}
use Rattle.store_check.specs.declared.faults.MemberFault.{MemberFault}
use Rattle.store_check.specs.BookChecks.{is_live_in}
use Rattle.store_check.specs.RowChecks.{IsMemberRow, IsBookAnd, IsValidMember}
use Rattle.store_check.specs.RowFaults.{HasMemberFault}

-- ---- one book

-- the book, and how many of these members are live in it, or tombstones of it above its horizon
abbrev pub tally_of : List MemberRow → BookRow → BookTally
tally_of ms b = record {
  id = b.id;
  number = natural b.numbers.number;
  horizon = b.numbers.horizon;
  live = length (filter (is_live_in b.id) ms);
  removed = length (filter (is_removed_above b.id b.numbers.horizon) ms);
}

abbrev pub has_book : ℤ → BookTally → Bool
has_book id t = int_eq t.id id

abbrev pub one_more : Bool → ℕ → ℕ
one_more counts n = if counts then n + 1 else n

-- one more member is counted, if it is of the book
abbrev pub counted : MemberRow → BookTally → BookTally
counted m t = record t {
  live = one_more (is_live_in t.id m) t.live;
  removed = one_more (is_removed_above t.id t.horizon m) t.removed;
}

-- ---- all books

-- these members are counted in each of the books
abbrev pub AreCounted : List MemberRow → List BookRow → List BookTally → Type 0
AreCounted ms books tallies = tallies ≡ map (tally_of ms) books

-- no two books have the same id
abbrev pub HaveDistinctIds : List BookRow → Type 0
HaveDistinctIds = IsAscending (λ a b. int_eq a.id b.id ≡ false)

-- at this place stands this tally, of the book with the id
pub record IsTallyAt (tallies : List BookTally) (place : ℕ) (id : ℤ) (tally : BookTally)
    : Type 0 where
  pub within : place < length tallies
  pub there : slice_get tallies place ≡ Some tally
  pub of_book : has_book id tally ≡ true

-- the place of the book's tally, or none if the book has none
abbrev pub FindsTally : ℤ → List BookTally → Option (ℕ × BookTally) → Type 0
FindsTally id tallies None = find (has_book id) tallies ≡ None
FindsTally id tallies (Some found) = IsTallyAt tallies found.0 id found.1

-- the row is that of a member, whose book is listed, and in which the member is valid
abbrev pub IsGoodMember : List BookRow → Row → Type 0
IsGoodMember books r =
    IsMemberRow r × IsBookAnd books (load_member r).book (IsValidMember (load_member r))

-- The member was tested against its book: it is good and was counted, or it has the fault.
abbrev pub TalliesOne : List MemberRow → List BookRow → List BookTally → Row
    → Option MemberFault → Type 0
TalliesOne ms books new r None =
    IsGoodMember books r × AreCounted (ms ++ load_member r ∷ []) books new
TalliesOne ms books new r (Some fault) = HasMemberFault books r fault

abbrev pub DoesTally : List BookTally → List BookTally → Row → Option MemberFault → Type 0
DoesTally old new r found = (ms : List MemberRow) (books : List BookRow) →
    HaveDistinctIds books → AreCounted ms books old → TalliesOne ms books new r found

-- The same for several members: whether all are good.
abbrev pub TallyAll : List BookTally → List BookTally → List Row → Bool → Type 0
TallyAll old new rows good = (books : List BookRow) → HaveDistinctIds books →
    AreCounted [] books old → (IsTrue good ↔ AllByRecursion (IsGoodMember books) rows)
    × (IsTrue good → AreCounted (map load_member rows) books new)
