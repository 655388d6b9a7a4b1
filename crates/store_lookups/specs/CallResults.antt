-- The result of a read call over tables with sound rows.
use Rattle.std.specs.Prelude.{◌≡◌, ⊤, ℕ, List, Result, Ok, Err}
use Rattle.sqlite.specs.State.{State, HasCleanDisk}
use Rattle.book_model.specs.declared.denied.Denied.{Denied}
use Rattle.book_model.specs.declared.denied.Denied.TheVariants.{Refused, Fault}
use Rattle.book_model.specs.declared.refusal.Refusal.{Refusal}
use Rattle.book_model.specs.declared.refusal.Refusal.TheVariants.{NoSuchBook}
use Rattle.book_model.specs.Books.{Book}
use Rattle.book_model.specs.Counts.{AreCountsOf, CountsByName}
use Rattle.store_rows.specs.LookupLaws.{IsBookNamed, IsNameFree}
use Rattle.store_rows.specs.SoundTables.{AreSoundRows}
use Rattle.store_rows.specs.TableBooks.{HeaderRow, books_of, line_row, row_book}
use Rattle.store_rows.specs.TableRows.{TableRows, HoldsRows}

-- the condition of a read call: the tables hold these rows before it, and they are sound
abbrev pub GivenSoundRows : State → State → (TableRows → Type 0) → Type 0
GivenSoundRows old new Then = (rows : TableRows) → HasCleanDisk new → HoldsRows old.now rows →
    AreSoundRows rows → Then rows

-- the same, for the book whose row has this header, under any name
abbrev pub GivenBook : State → State → HeaderRow → (Book → Type 0) → Type 0
GivenBook old new header Then = GivenSoundRows old new (λ rows. (name : List ℕ) →
    Then (row_book rows (line_row name header)))

-- the same, and these numbers of tombstones are right for the books
abbrev pub GivenCounts : State → State → CountsByName → (TableRows → Type 0) → Type 0
GivenCounts old new counts Then = GivenSoundRows old new (λ rows.
    AreCountsOf counts (books_of rows) → Then rows)

-- The result is one that the model's step allows, or its refusal. A fault is possible in place of
-- either.
abbrev pub FollowsStep : {T A : Type 0} → (T → A → Type 0) → Result A Denied → Result T Refusal
    → Type 0
FollowsStep allows (Ok answer) (Ok asked) = allows asked answer
FollowsStep allows (Ok answer) (Err refusal) = ⊥
FollowsStep allows (Err (Refused refusal)) (Ok asked) = ⊥
FollowsStep allows (Err (Refused refusal)) (Err wanted) = refusal ≡ wanted
FollowsStep allows (Err (Fault fault)) due = ⊤

-- the result is exactly the one of the model's step
abbrev pub IsExactly : {A : Type 0} → A → A → Type 0
IsExactly expected answer = answer ≡ expected

-- the header is that of the book with the name, or there is no such book, or a fault
abbrev pub FindsHeader : TableRows → List ℕ → Result HeaderRow Denied → Type 0
FindsHeader rows name (Ok header) = IsBookNamed rows name header
FindsHeader rows name (Err (Refused refusal)) = (refusal ≡ NoSuchBook) × IsNameFree rows name
FindsHeader rows name (Err (Fault fault)) = ⊤
