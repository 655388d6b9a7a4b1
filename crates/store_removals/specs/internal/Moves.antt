-- The plan of a move, computed from the tables, and the books after it.
use Rattle.std.specs.Prelude.{◌≡◌, ◌≤◌, false, not, ℕ, pos, List, Option, Result, Ok, Err}
use Rattle.std.specs.FinMap as finite
use Rattle.std.specs.Ordering.{int_eq}
use Rattle.sqlite.specs.Effect.{Database}
use Rattle.sqlite_rules.specs.Lists.{Has}
use Rattle.vcard_lines.specs.declared.line.Line.{Line}
use Rattle.book_model.specs.declared.change.Change.TheVariants.{Stores, TakesAway}
use Rattle.book_model.specs.declared.change.RemovalReason.TheVariants.{MoveOut}
use Rattle.book_model.specs.declared.change.StoreReason.TheVariants.{MoveIn}
use Rattle.book_model.specs.declared.denied.Denied.{Denied}
use Rattle.book_model.specs.declared.refusal.Refusal.{Refusal}
use Rattle.book_model.specs.declared.refusal.Refusal.TheVariants.{SameBook}
use Rattle.book_model.specs.Counts.{is_tombstone_at}
use Rattle.book_model.specs.Bounds.{Bounds}
use Rattle.book_model.specs.BookQueries.{tombstone_count}
use Rattle.book_model.specs.Books.{Book, Books, book_named, same_name}
use Rattle.book_model.specs.BookChanges.{book_after_drop, forced_horizon, book_with_row}
use Rattle.book_model.specs.Moving.{Moving, move_answer, moving_of}
use Rattle.book_model.specs.CallOutcomes.{◌>>=◌, refuse_unless}
use Rattle.book_model.specs.Putting.{found_in_book}
use Rattle.store_rows.specs.LookupLaws.{IsBookNamed}
use Rattle.store_rows.specs.SoundTables.{AreSoundRows}
use Rattle.store_rows.specs.TableBooks.{HeaderRow, line_row, row_book, books_of}
use Rattle.store_rows.specs.TableRows.{TableRows, HoldsRows}
use Rattle.store_lookups.specs.CallResults.{FollowsStep, IsExactly}
use Rattle.store_removals.specs.declared.move_call.Transfer.{Transfer}
use Rattle.store_removals.specs.internal.Removals.{tombstones_after_removal}

-- ---- the two books

-- Before a move, the tables hold these sound rows, among them the rows of the two books, which have
-- different ids.
pub record HasBothRows (db : Database) (rows : TableRows) (from : List ℕ) (source : HeaderRow)
    (to : List ℕ) (target : HeaderRow) : Type 0 where
  pub holds : HoldsRows db rows
  pub sound : AreSoundRows rows
  pub has_source : Has rows.books (line_row from source)
  pub has_target : Has rows.books (line_row to target)
  pub apart : int_eq (pos source.id) (pos target.id) ≡ false

-- The books after the card moved from one book to the other. The source forgets tombstones up to
-- `drop`, if it is some.
abbrev pub table_books_after_move : TableRows → List ℕ → HeaderRow → List ℕ → HeaderRow → List ℕ
    → List Line → Option ℕ → Books
table_books_after_move rows from source to target uid card drop =
    finite.insert (finite.insert (books_of rows) to
    (book_with_row (row_book rows (line_row to target)) uid (Stores card MoveIn))) from
    (book_after_drop
    (book_with_row (row_book rows (line_row from source)) uid (TakesAway MoveOut)) drop)

-- ---- the plan

-- the two named books, or the refusal for the first name that no book has
abbrev pub both_named : Books → List ℕ → List ℕ → Result (Book × Book) Refusal
both_named books from to = do
  source ← book_named books from
  target ← book_named books to
  Ok (source, target)

-- the headers are those of the named books, or the error is the model's refusal or a fault
abbrev pub AreBothNamed : TableRows → List ℕ → List ℕ → Result (HeaderRow × HeaderRow) Denied
    → Type 0
AreBothNamed rows from to (Ok both) = IsBookNamed rows from both.0 × IsBookNamed rows to both.1
AreBothNamed rows from to (Err denied) = FollowsStep {T = Book × Book} {A = Book × Book} IsExactly
    (Err denied) (both_named (books_of rows) from to)

-- what the move returns for two books
abbrev pub moving_between_books : Bounds → List ℕ → Option ℕ → Book → Book → Result Moving Refusal
moving_between_books limits uid expect source target =
    move_answer limits (found_in_book source uid) (found_in_book target uid) expect

-- the same for two named books
abbrev pub moving_between_named : Bounds → Books → List ℕ → List ℕ → List ℕ → Option ℕ
    → Result Moving Refusal
moving_between_named limits books from to uid expect = do
  both ← both_named books from to
  apart ← refuse_unless (not (same_name from to)) SameBook
  moving_between_books limits uid expect both.0 both.1

-- a valid plan for the named books: their headers, what moves, how far the source forgets and how
-- many tombstones it has afterwards, and whether the target has one under the UID
pub record IsMoveOf (limits : Bounds) (rows : TableRows) (from to uid : List ℕ)
    (expect : Option ℕ) (plan : Transfer) : Type 0 where
  pub source : IsBookNamed rows from plan.source
  pub target : IsBookNamed rows to plan.target
  pub apart : same_name from to ≡ false
  pub horizon : plan.source.horizon ≤ plan.source.number
  pub moving : moving_between_books limits uid expect (row_book rows (line_row from plan.source))
      (row_book rows (line_row to plan.target)) ≡ Ok (moving_of plan.card plan.moved)
  pub drop : forced_horizon (TakesAway MoveOut)
      (book_with_row (row_book rows (line_row from plan.source)) uid (TakesAway MoveOut))
      ≡ plan.drop
  pub tombstones : tombstones_after_removal
      (tombstone_count (row_book rows (line_row from plan.source))) plan.source.number plan.drop
      ≡ plan.tombstones
  pub comes_back : is_tombstone_at (row_book rows (line_row to plan.target)) uid
      ≡ plan.comes_back

-- the plan is valid for the named books, or the error is the model's refusal or a fault
abbrev pub IsMovePlanned : Bounds → TableRows → List ℕ → List ℕ → List ℕ → Option ℕ
    → Result Transfer Denied → Type 0
IsMovePlanned limits rows from to uid expect (Ok plan) =
    IsMoveOf limits rows from to uid expect plan
IsMovePlanned limits rows from to uid expect (Err denied) =
    FollowsStep {T = Moving} {A = Moving} IsExactly (Err denied)
    (moving_between_named limits (books_of rows) from to uid expect)
