-- An import over tables: its plan, computed card by card before anything is written, and its
-- writes.
use Rattle.std.specs.Prelude.{◌≡◌, IsTrue, ◌+◌, ◌<◌, ◌^◌, ⊤, true, ℕ, pos, List, [], ◌∷◌, ◌++◌, map}
use Rattle.std.specs.Prelude.{fold, length, count_by, Option, None, Result, Ok, Err}
use Rattle.std.specs.FinMap as finite
use Rattle.vcard_lines.specs.declared.line.Line.{Line}
use Rattle.vcard_text.specs.Cards.{uid_of}
use Rattle.book_model.specs.declared.answers.ImportTally.{ImportTally}
use Rattle.book_model.specs.declared.change.StoreReason.{StoreReason}
use Rattle.book_model.specs.declared.counts.Counts.{Counts}
use Rattle.book_model.specs.declared.denied.Denied.{Denied}
use Rattle.book_model.specs.declared.denied.Denied.TheVariants.{Refused, Fault}
use Rattle.book_model.specs.declared.refusal.Refusal.{Refusal}
use Rattle.book_model.specs.Counts.{is_tombstone_at}
use Rattle.book_model.specs.Bounds.{Bounds}
use Rattle.book_model.specs.BookQueries.{tombstone_count}
use Rattle.book_model.specs.Books.{Book, Books, live_at}
use Rattle.book_model.specs.Importing.{Importing, import_cards, import_with_reason, import_reason}
use Rattle.book_model.specs.Importing.{import_state, import_step, is_legal_key, book_after_store}
use Rattle.book_model.specs.Importing.{book_import_tally, book_with_kept_import}
use Rattle.store_tables.specs.Acceptance.{HasFreeIds, IsShort}
use Rattle.store_rows.specs.ChangeLaws.{WritesWithin}
use Rattle.store_rows.specs.LookupLaws.{IsBookNamed}
use Rattle.store_rows.specs.SoundTables.{AreSoundRows}
use Rattle.store_rows.specs.TableBooks.{HeaderRow, row_book, books_of, line_row}
use Rattle.store_rows.specs.TableRows.{TableRows, HoldsRows}
use Rattle.store_lookups.specs.ChangeFaults.{HaveFreeIds, KnowsMembers}
use Rattle.sqlite.specs.Effect.{Database}
use Rattle.sqlite.specs.State.{State, HasCleanDisk}
use Rattle.sqlite_rules.specs.Lists.{Has}
use Rattle.store_writes.specs.AcceptedChanges.{AcceptsHeader}
use Rattle.store_inserts.specs.declared.import_plan.ImportDecision.{ImportDecision}
use Rattle.store_inserts.specs.declared.import_plan.ImportDecision.TheVariants.{Kept, New}
use Rattle.store_inserts.specs.declared.import_plan.ImportPlan.{ImportPlan}
use Rattle.store_inserts.specs.declared.import_plan.PlannedCard.{PlannedCard}

-- ---- the plan

-- a card that is stored, and why
abbrev pub planned_pair : PlannedCard → List Line × StoreReason
planned_pair stored = (stored.card.now, stored.why)

-- the plan so far, as the model has it
abbrev pub model_plan : ImportPlan → Importing (List (List Line × StoreReason))
model_plan plan =
    import_state (map planned_pair plan.stored.items) plan.added plan.edited plan.same

-- the list of planned cards with one more at its end
abbrev pub planning : List (List Line × StoreReason) → List Line → StoreReason
    → List (List Line × StoreReason)
planning planned_import card why = planned_import ++ (card, why) ∷ []

-- the plan with one more card, by the live card in the book
abbrev pub plan_next_card : Book → Importing (List (List Line × StoreReason)) → List Line
    → Importing (List (List Line × StoreReason))
plan_next_card book plan card =
    import_with_reason planning plan card (import_reason card (live_at book (uid_of card)))

-- the plan for the cards, by the book's live cards before all of them
abbrev pub planned_import : Book → List (List Line) → Importing (List (List Line × StoreReason))
planned_import book cards = fold (plan_next_card book) (import_state [] 0 0 0) cards

-- the number of cards in the plan, stored or unchanged
abbrev pub card_count : ImportPlan → ℕ
card_count plan = plan.added + plan.edited + plan.same

-- each card that is stored is added or edited
abbrev pub CountsStoredCards : ImportPlan → Type 0
CountsStoredCards plan = length plan.stored.items ≡ plan.added + plan.edited

-- ---- the book

-- the book with a card stored, and with all of them in their order
abbrev pub book_with_pair : Book → List Line × StoreReason → Book
book_with_pair book pair = book_after_store book pair.0 pair.1

abbrev pub book_with_stored : Book → List PlannedCard → Book
book_with_stored book stored = fold book_with_pair book (map planned_pair stored)

-- the book after the import, with the cards stored and the answer kept under the key
abbrev pub book_with_import : Book → List PlannedCard → List ℕ → ImportTally → Book
book_with_import book stored key tally =
    book_with_kept_import (book_with_stored book stored) key tally

-- ---- the tombstones that the cards replace

-- the number of cards whose UID has a tombstone in the book
abbrev pub replaced_count : Book → List (List Line) → ℕ
replaced_count book cards = count_by (λ card. is_tombstone_at book (uid_of card)) cards

-- the book has fewer tombstones after the import, by the number that the plan replaces
abbrev pub ReplacesTombstones : Book → ImportPlan → Type 0
ReplacesTombstones book plan =
    tombstone_count (book_with_stored book plan.stored.items) + plan.replaced
    ≡ tombstone_count book

-- the same if the decision is a plan
abbrev pub ReplacesFor : Book → ImportDecision → Type 0
ReplacesFor book (Kept tally) = ⊤
ReplacesFor book (New plan tally) = ReplacesTombstones book plan

-- ---- the plan against the model

-- no answer is kept under the key
abbrev pub IsImportKeyFree : Book → List ℕ → Type 0
IsImportKeyFree book key = finite.get book.imports key ≡ None

-- the refusal is the model's, or there is a fault
abbrev pub IsImportRefusal : {A : Type 0} → Denied → Result A Refusal → Type 0
IsImportRefusal (Refused refusal) due = due ≡ Err refusal
IsImportRefusal (Fault fault) due = ⊤

-- the counts of a book after the planned import
abbrev pub counts_after_plan : ImportPlan → Counts → Counts
counts_after_plan plan counts = record counts {
  imported = counts.imported + plan.added;
  import_edited = counts.import_edited + plan.edited;
}

-- the header is the named book's, and the answer is the one kept under the key; or the error is a
-- fault, or the model's refusal of every import under the key
abbrev pub IsImportKeyLookup : TableRows → List ℕ → List ℕ
    → Result (HeaderRow × Option ImportTally) Denied → Type 0
IsImportKeyLookup rows name key (Ok found) = IsBookNamed rows name found.0
    × (is_legal_key key ≡ true)
    × (finite.get (row_book rows (line_row name found.0)).imports key ≡ found.1)
IsImportKeyLookup rows name key (Err denied) = (limits : Bounds) (cards : List (List Line)) →
    IsImportRefusal denied (import_step limits (books_of rows) name key cards)

-- the plan stores the same cards as the model's import, with the same answer; or the error is the
-- model's refusal or a fault
abbrev pub IsBookImportPlanned : Bounds → Book → List (List Line)
    → Result (ImportPlan × ImportTally) Denied
    → Type 0
IsBookImportPlanned limits book cards (Ok order) =
    ((import_cards live_at book_after_store book cards).book
    ≡ book_with_stored book order.0.stored.items)
    × (book_import_tally limits (import_cards live_at book_after_store book cards) ≡ Ok order.1)
IsBookImportPlanned limits book cards (Err denied) =
    IsImportRefusal denied
    (book_import_tally limits (import_cards live_at book_after_store book cards))

-- the answer and the books after the decision
abbrev pub decision_step : Books → List ℕ → Book → List ℕ → ImportDecision → ImportTally × Books
decision_step books name book key (Kept tally) = (tally, books)
decision_step books name book key (New plan tally) =
    (tally, finite.insert books name (book_with_import book plan.stored.items key tally))

-- a plan to store cards has an unused key
abbrev pub IsKeyFreeFor : Book → List ℕ → ImportDecision → Type 0
IsKeyFreeFor book key (Kept tally) = ⊤
IsKeyFreeFor book key (New plan tally) = IsImportKeyFree book key

-- the header is the named book's, and the decision is the model's step; or the error is the model's
-- refusal or a fault
abbrev pub IsImportPlanned : Bounds → TableRows → List ℕ → List ℕ → List (List Line)
    → Result (HeaderRow × ImportDecision) Denied → Type 0
IsImportPlanned limits rows name key cards (Ok found) = IsBookNamed rows name found.0
    × IsKeyFreeFor (row_book rows (line_row name found.0)) key found.1
    × (import_step limits (books_of rows) name key cards
    ≡ Ok (decision_step (books_of rows) name (row_book rows (line_row name found.0)) key found.1))
IsImportPlanned limits rows name key cards (Err denied) =
    IsImportRefusal denied (import_step limits (books_of rows) name key cards)

-- the numbers of all cards to store are below 2^63
abbrev pub HasNumbersFor : HeaderRow → ImportDecision → Type 0
HasNumbersFor header (Kept tally) = ⊤
HasNumbersFor header (New plan tally) = header.number + length plan.stored.items < 2 ^ 63

-- ---- partial writes

-- Starting from these rows, rows of one book were written. They represent this book, if the header
-- replaces the one that the book's own row still has.
pub record WritesBook (db : Database) (rows : TableRows) (name : List ℕ) (header : HeaderRow)
    (book : Book) : Type 0 where
  pub line : HeaderRow
  pub there : Has rows.books (line_row name line)
  pub same_id : line.id ≡ header.id
  pub sound : AreSoundRows rows
  pub now : TableRows
  pub holds : HoldsRows db now
  pub within : WritesWithin (pos header.id) rows now
  pub is : row_book now (line_row name header) ≡ book

-- inside a transaction, after some rows of one book were written
abbrev pub InWrittenBookTx :
    State → State → HeaderRow → (TableRows → List ℕ → Book → Type 0) → Type 0
InWrittenBookTx old new header Then = (rows : TableRows) (name : List ℕ) (book : Book) →
    HasCleanDisk new → IsTrue old.in_transaction → WritesBook old.now rows name header book →
    Then rows name book

-- Rows of one book were written, and the book accepts a member with the next number. The table of
-- members has ids for this many new rows.
pub record AcceptsCards (db : Database) (rows : TableRows) (name : List ℕ) (header : HeaderRow)
    (book : Book) (count : ℕ) : Type 0 where
  pub wrote : WritesBook db rows name header book
  pub known : KnowsMembers book
  pub free_ids : HasFreeIds count (db.trees 4)
  pub id : header.id < 2 ^ 63

-- Rows of one book were written, and the book accepts an import under the key.
pub record AcceptsKey (db : Database) (rows : TableRows) (name : List ℕ) (header : HeaderRow)
    (book : Book) (key : List ℕ) : Type 0 where
  pub wrote : WritesBook db rows name header book
  pub unused : IsImportKeyFree book key
  pub short : IsShort key
  pub free_id : HasFreeIds 1 (db.trees 7)
  pub id : header.id < 2 ^ 63

-- each number of the answer is a column value
pub record HasColumnTally (tally : ImportTally) : Type 0 where
  pub added : tally.added < 2 ^ 63
  pub edited : tally.edited < 2 ^ 63
  pub same : tally.same < 2 ^ 63
  pub number : tally.number < 2 ^ 63

-- the tables hold the row of the book with this header, accept 2^62 next members in it, and an
-- import under the key
pub record AcceptsImportOf (db : Database) (rows : TableRows) (name : List ℕ) (header : HeaderRow)
    (key : List ℕ) : Type 0 where
  pub book : AcceptsHeader db rows name header
  pub known : KnowsMembers (row_book rows (line_row name header))
  pub unused : IsImportKeyFree (row_book rows (line_row name header)) key
  pub short : IsShort key
  pub free_ids : HaveFreeIds db.trees
  pub id : header.id < 2 ^ 63

-- the same of a new answer, and fewer than 2^62 cards are stored
abbrev pub HasTallyFor : ImportDecision → Type 0
HasTallyFor (Kept tally) = ⊤
HasTallyFor (New plan tally) = HasColumnTally tally × (length plan.stored.items < 2 ^ 62)
