-- What a resync is planned to do to each book.
use Rattle.std.specs.Prelude.{◌≡◌, ◌<◌, ◌≤◌, ◌^◌, ⊤, ℕ, List, map, Option, Some, None, IfSome}
use Rattle.std.specs.List.{AllByRecursion}
use Rattle.std.specs.FinMap as finite
use Rattle.book_model.specs.declared.answers.Stored.{Stored}
use Rattle.book_model.specs.Bounds.{Bounds}
use Rattle.book_model.specs.Books.{Book}
use Rattle.book_model.specs.Counting.{total_changes}
use Rattle.book_resync.specs.Resyncing.{number_after_pairs, counts_after_pairs, renewed_card}
use Rattle.store_tables.specs.Acceptance.{IsShort}
use Rattle.store_rows.specs.LookupLaws.{IsBookNamed}
use Rattle.store_rows.specs.TableBooks.{books_of, line_row, row_book}
use Rattle.store_rows.specs.TableRows.{TableRows}
use Rattle.store_rows.specs.Values.{IsCanonical, IsLegalUid, text_card}
use Rattle.store_resync.specs.declared.planning.BookPlan.{BookPlan}
use Rattle.store_resync.specs.declared.planning.Renewal.{Renewal}

-- ---- the renewed card

-- the renewal is of this card, or there is neither
abbrev pub IsRenewed : Option Renewal → Option (List ℕ × Stored) → Type 0
IsRenewed None None = ⊤
IsRenewed None (Some card) = ⊥
IsRenewed (Some renewal) None = ⊥
IsRenewed (Some renewal) (Some card) =
    (renewal.uid ≡ card.0) × (text_card renewal.text ≡ card.1.card)

abbrev pub HasShortText : Renewal → Type 0
HasShortText renewal = IsShort renewal.text

abbrev pub HasCanonicalText : Renewal → Type 0
HasCanonicalText renewal = IsCanonical renewal.text

-- the UID is legal, and the text canonical
pub record HasLegalRow (renewal : Renewal) : Type 0 where
  pub uid : IsLegalUid renewal.uid
  pub text : IsCanonical renewal.text

-- ---- one book

-- The plan is that of the named book, with its header before. Its numbers fit into columns.
pub record IsBookPlan (limits : Bounds) (pairs : ℕ) (rows : TableRows) (plan : BookPlan)
    : Type 0 where
  pub named : IsBookNamed rows plan.name plan.header
  pub sum : total_changes plan.header.counts ≡ plan.header.number
  pub horizon : plan.header.horizon ≤ plan.header.number
  pub last : plan.last ≡ number_after_pairs plan.header.number pairs
  pub fits : plan.last < 2 ^ 62
  pub counts : plan.counts ≡ counts_after_pairs plan.header.counts pairs
  pub renewed : IsRenewed plan.renewed
      (renewed_card limits (row_book rows (line_row plan.name plan.header)))
  pub short : IfSome plan.renewed HasShortText
  pub legal : IfSome plan.renewed HasLegalRow

-- ---- all books

-- the name of the plan, and its book before
abbrev pub planned_entry : TableRows → BookPlan → List ℕ × Book
planned_entry rows plan = (plan.name, row_book rows (line_row plan.name plan.header))

-- one plan for each book, in the order of the names
pub record ArePlans (limits : Bounds) (pairs : ℕ) (rows : TableRows) (plans : List BookPlan)
    : Type 0 where
  pub entries : map (planned_entry rows) plans ≡ finite.entries (books_of rows)
  pub each : AllByRecursion (IsBookPlan limits pairs rows) plans
