-- The plan of creating a book, computed from the tables before a write.
use Rattle.std.specs.Prelude.{◌≡◌, ℕ, ℤ, pos, Bool, true, false, List, Result, Ok, Err}
use Rattle.std.specs.List.{AllByRecursion}
use Rattle.std.specs.FinMap as finite
use Rattle.sqlite.specs.Effect.{Database}
use Rattle.book_model.specs.declared.denied.Denied.{Denied}
use Rattle.book_model.specs.declared.refusal.Refusal.{Refusal}
use Rattle.book_model.specs.Bounds.{Bounds}
use Rattle.book_model.specs.Books.{Books}
use Rattle.book_model.specs.Creating.{new_id}
use Rattle.store_tables.specs.Acceptance.{AcceptsBook}
use Rattle.store_tables.specs.Keeps.{is_keep_of}
use Rattle.store_rows.specs.LookupLaws.{IsNameFree}
use Rattle.store_rows.specs.TableBooks.{books_of}
use Rattle.store_rows.specs.TableRows.{TableRows}
use Rattle.store_lookups.specs.CallResults.{FollowsStep, IsExactly}
use Rattle.store_writes.specs.TableChanges.{LacksBookRow}

-- whether a book has the name: `true` if one of the books has it, `false` if neither a row nor a
-- book has it
abbrev pub IsNameFound : TableRows → List ℕ → Bool → Type 0
IsNameFound rows name true = finite.contains_key (books_of rows) name ≡ true
IsNameFound rows name false = IsNameFree rows name

-- whether a book has the name, and the number of books
abbrev pub AreNameAndCount : TableRows → List ℕ → Bool × ℕ → Type 0
AreNameAndCount rows name found =
    IsNameFound rows name found.0 × (finite.len (books_of rows) ≡ found.1)

-- the id that a new book with this name gets beside these books
abbrev pub new_id_among : Bounds → List ℕ → Books → Result ℕ Refusal
new_id_among limits name books =
    new_id limits name (finite.contains_key books name) (finite.len books)

-- no book has the name, and the id is the model's; or the error is its refusal or a fault
abbrev pub IsCreationPlanned : Bounds → TableRows → List ℕ → Result ℕ Denied → Type 0
IsCreationPlanned limits rows name (Ok id) =
    IsNameFree rows name × (new_id_among limits name (books_of rows) ≡ Ok id)
IsCreationPlanned limits rows name (Err denied) =
    FollowsStep {T = ℕ} {A = ℕ} IsExactly (Err denied) (new_id_among limits name (books_of rows))

-- the tables hold these sound rows, and accept a book with this id and name, and a keep of it
pub record AcceptsNewBook (db : Database) (rows : TableRows) (id : ℤ) (name : List ℕ)
    : Type 0 where
  pub lacks : LacksBookRow db rows name
  pub book : AcceptsBook rows.books id name
  pub no_keep : AllByRecursion (λ k. is_keep_of id k ≡ false) rows.keeps

-- the condition of a write of a new book: the columns hold its id and its keep
abbrev pub GivenNewBook : ℤ → ℤ → (ℕ → ℕ → Type 0) → Type 0
GivenNewBook id keep Then = (book most : ℕ) → id ≡ pos book → keep ≡ pos most → Then book most
