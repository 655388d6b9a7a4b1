-- The tables before, between and after the writes of a resync.
use Rattle.std.specs.Prelude.{◌≡◌, ◌≢◌, ◌<◌, ◌≤◌, ℕ, pos, false, IfSome, List, map, Some}
use Rattle.std.specs.List.{slice_get}
use Rattle.std.specs.Ordering.{int_eq}
use Rattle.sqlite.specs.Effect.{Database}
use Rattle.sqlite.specs.Tree.{Trees}
use Rattle.sqlite_rules.specs.Lists.{Has}
use Rattle.store_tables.specs.Books.{BookRow}
use Rattle.store_tables.specs.Tables.{book_schema}
use Rattle.store_rows.specs.ChangeLaws.{WritesWithin}
use Rattle.store_rows.specs.SoundTables.{AreSoundRows}
use Rattle.store_rows.specs.TableBooks.{line_row, row_book}
use Rattle.store_rows.specs.TableRows.{TableRows, HoldsRows}
use Rattle.store_resync.specs.declared.planning.BookPlan.{BookPlan}
use Rattle.store_resync.specs.declared.stages.Stage.{Stage}
use Rattle.store_resync.specs.declared.stages.Stage.TheVariants.{Pairs, Forgetting}
use Rattle.store_resync.specs.internal.Plans.{HasLegalRow}
use Rattle.store_resync.specs.internal.Stages.{header_before, header_after, book_after_stage}

-- ---- one book

-- the book of the plan after the stage, over the rows before it
abbrev pub IsBookAfter : TableRows → TableRows → List ℕ → BookPlan → Stage → Type 0
IsBookAfter rows now name plan stage =
    row_book now (line_row name (header_after stage plan))
    ≡ book_after_stage stage plan (row_book rows (line_row name (header_before stage plan)))

-- the members of the book are written, and its own row isn't yet
pub record HoldsMembers (db : Database) (rows : TableRows) (name : List ℕ) (plan : BookPlan)
    (stage : Stage) : Type 0 where
  pub now : TableRows
  pub holds : HoldsRows db now
  pub within : WritesWithin (pos plan.header.id) rows now
  pub is : IsBookAfter rows now name plan stage

-- the row of the book is written too
pub record IsRowAfter (rows now : TableRows) (name : List ℕ) (plan : BookPlan) (stage : Stage)
    : Type 0 where
  pub there : Has now.books (line_row name (header_after stage plan))
  pub is : IsBookAfter rows now name plan stage

abbrev pub book_name : BookRow → List ℕ
book_name b = b.name

-- The stage is written for this book. All other rows of `book` remain, and so do their books.
pub record HoldsStage (db : Database) (rows : TableRows) (name : List ℕ) (plan : BookPlan)
    (stage : Stage) : Type 0 where
  pub now : TableRows
  pub holds : HoldsRows db now
  pub sound : AreSoundRows now
  pub names : map book_name now.books ≡ map book_name rows.books
  pub row : IsRowAfter rows now name plan stage
  pub others : (b : BookRow) → Has rows.books b → int_eq b.id (pos plan.header.id) ≡ false
      → Has now.books b × (row_book now b ≡ row_book rows b)

-- ---- all books

-- no two plans have the same id
abbrev pub AreApart : List BookPlan → Type 0
AreApart plans = (i j : ℕ) (a b : BookPlan) → slice_get plans i ≡ Some a →
    slice_get plans j ≡ Some b → i ≢ j → int_eq (pos a.header.id) (pos b.header.id) ≡ false

-- The tables hold these sound rows, among them the row of each plan before the stage. Of each
-- renewed card the UID is legal, and the text canonical.
pub record HasPlannedRows (db : Database) (rows : TableRows) (plans : List BookPlan)
    (stage : Stage) : Type 0 where
  pub holds : HoldsRows db rows
  pub sound : AreSoundRows rows
  pub each : (i : ℕ) (plan : BookPlan) → slice_get plans i ≡ Some plan
      → Has rows.books (line_row plan.name (header_before stage plan))
  pub apart : AreApart plans
  pub legal : (i : ℕ) (plan : BookPlan) → slice_get plans i ≡ Some plan
      → IfSome plan.renewed HasLegalRow

-- the row and the book of the plan are as before the stage
abbrev pub IsRowBefore : TableRows → TableRows → BookPlan → Stage → Type 0
IsRowBefore rows now plan stage =
    Has now.books (line_row plan.name (header_before stage plan))
    × (row_book now (line_row plan.name (header_before stage plan))
    ≡ row_book rows (line_row plan.name (header_before stage plan)))

-- the stage is written for the first plans, this many
pub record HoldsStages (db : Database) (rows : TableRows) (plans : List BookPlan) (stage : Stage)
    (count : ℕ) : Type 0 where
  pub now : TableRows
  pub holds : HoldsRows db now
  pub sound : AreSoundRows now
  pub names : map book_name now.books ≡ map book_name rows.books
  pub written : (i : ℕ) (plan : BookPlan) → i < count → slice_get plans i ≡ Some plan
      → IsRowAfter rows now plan.name plan stage
  pub unwritten : (i : ℕ) (plan : BookPlan) → count ≤ i → slice_get plans i ≡ Some plan
      → IsRowBefore rows now plan stage

-- the book of the plan after both stages
abbrev pub IsBookResynced : TableRows → TableRows → BookPlan → Type 0
IsBookResynced rows now plan =
    row_book now (line_row plan.name (header_after Forgetting plan))
    ≡ book_after_stage Forgetting plan (book_after_stage Pairs plan
    (row_book rows (line_row plan.name plan.header)))

-- both stages are written for all plans
pub record HoldsResync (db : Database) (rows : TableRows) (plans : List BookPlan) : Type 0 where
  pub now : TableRows
  pub holds : HoldsRows db now
  pub sound : AreSoundRows now
  pub names : map book_name now.books ≡ map book_name rows.books
  pub there : (i : ℕ) (plan : BookPlan) → slice_get plans i ≡ Some plan
      → Has now.books (line_row plan.name (header_after Forgetting plan))
  pub books : (i : ℕ) (plan : BookPlan) → slice_get plans i ≡ Some plan
      → IsBookResynced rows now plan

-- the same for the trees alone, which are all that is left after a crash
abbrev pub TreesHoldResync : TableRows → List BookPlan → Trees → Type 0
TreesHoldResync rows plans trees =
    HoldsResync (record { schema = book_schema; trees = trees }) rows plans
