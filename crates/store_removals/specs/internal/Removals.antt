-- The plan of a removal, computed from the tables before anything is written.
use Rattle.std.specs.Prelude.{◌≡◌, ◌≤◌, ◌+◌, ℕ, ℤ, pos, nat_le, if◌then◌else◌, List, Option, Some}
use Rattle.std.specs.Prelude.{None, Result, Ok, Err}
use Rattle.book_model.specs.declared.change.Change.TheVariants.{TakesAway}
use Rattle.book_model.specs.declared.change.RemovalReason.{RemovalReason}
use Rattle.book_model.specs.declared.change.RemovalReason.TheVariants.{Deletion}
use Rattle.book_model.specs.declared.denied.Denied.{Denied}
use Rattle.book_model.specs.declared.refusal.Refusal.{Refusal}
use Rattle.book_model.specs.Bounds.{Bounds}
use Rattle.book_model.specs.Books.{Book, book_named}
use Rattle.book_model.specs.BookChanges.{forced_horizon, book_with_row}
use Rattle.book_model.specs.CallOutcomes.{◌>>=◌}
use Rattle.book_model.specs.Putting.{found_in_book}
use Rattle.book_model.specs.BookQueries.{tombstone_count}
use Rattle.book_model.specs.Removing.{remove_number}
use Rattle.store_rows.specs.ChangeLaws.{header_after}
use Rattle.store_rows.specs.ForgetLaws.{first_with_next}
use Rattle.store_rows.specs.LookupLaws.{IsBookNamed}
use Rattle.store_rows.specs.TableBooks.{HeaderRow, row_book, books_of, line_row}
use Rattle.store_rows.specs.TableRows.{TableRows}
use Rattle.store_rows.specs.Values.{IsLegalUid}
use Rattle.store_tables.specs.declared.books.BookNumbers.{BookNumbers}
use Rattle.store_lookups.specs.CallResults.{FollowsStep, IsExactly}
use Rattle.store_writes.specs.TableChanges.{AreHeaderColumns}
use Rattle.store_removals.specs.declared.remove_call.Removal.{Removal}

-- the number of a removal in a book
abbrev pub removal_number_in : Bounds → List ℕ → Option ℕ → Book → Result ℕ Refusal
removal_number_in limits uid expect book = remove_number limits (found_in_book book uid) expect

-- how far the book forgets tombstones if its next change removes one more member
abbrev pub drop_by_next_removal : Book → Option ℕ
drop_by_next_removal book =
    if nat_le (tombstone_count book + 1) book.keep then None else Some (first_with_next book)

-- How many tombstones a book with this number has after its next change removed a member and it
-- dropped tombstones up to a number: one more, or as many as before if it dropped one. Not known if
-- it dropped the new one too, which no well-formed book does.
abbrev pub tombstones_after_removal : ℕ → ℕ → Option ℕ → Option ℕ
tombstones_after_removal count number None = Some (count + 1)
tombstones_after_removal count number (Some upto) = if nat_le upto number then Some count else None

-- a valid plan for the named book: its header, the removal's number, how far it forgets, and how
-- many tombstones it has afterwards
pub record IsRemovalOf (limits : Bounds) (rows : TableRows) (name uid : List ℕ)
    (expect : Option ℕ) (plan : Removal) : Type 0 where
  pub named : IsBookNamed rows name plan.header
  pub horizon : plan.header.horizon ≤ plan.header.number
  pub number : removal_number_in limits uid expect (row_book rows (line_row name plan.header))
      ≡ Ok plan.number
  pub drop : forced_horizon (TakesAway Deletion)
      (book_with_row (row_book rows (line_row name plan.header)) uid (TakesAway Deletion))
      ≡ plan.drop
  pub tombstones : tombstones_after_removal
      (tombstone_count (row_book rows (line_row name plan.header))) plan.header.number plan.drop
      ≡ plan.tombstones

-- the plan is valid for the named book, or the error is the model's refusal or a fault
abbrev pub IsRemovalPlanned : Bounds → TableRows → List ℕ → List ℕ → Option ℕ
    → Result Removal Denied → Type 0
IsRemovalPlanned limits rows name uid expect (Ok plan) =
    IsRemovalOf limits rows name uid expect plan
IsRemovalPlanned limits rows name uid expect (Err denied) =
    FollowsStep {T = ℕ} {A = ℕ} IsExactly (Err denied)
    (book_named (books_of rows) name >>= removal_number_in limits uid expect)

-- the header of a book after a removal that forgets tombstones up to the number
abbrev pub header_after_drop : RemovalReason → ℕ → HeaderRow → HeaderRow
header_after_drop why upto header =
    record (header_after (TakesAway why) header) { horizon = upto }

-- The condition of a write that removes a member with the book's next number and forgets the
-- tombstones up to the number `last`: the columns hold these numbers, and those of the header after
-- both.
abbrev pub GivenRemoval : ℤ → List ℕ → ℤ → ℤ → BookNumbers
    → (HeaderRow → RemovalReason → ℕ → Type 0) → Type 0
GivenRemoval id uid changed upto numbers Then =
    (header : HeaderRow) (why : RemovalReason) (last : ℕ)
    → IsLegalUid uid → changed ≡ pos (header.number + 1) → upto ≡ pos last
    → AreHeaderColumns (header_after_drop why last header) id numbers → Then header why last
