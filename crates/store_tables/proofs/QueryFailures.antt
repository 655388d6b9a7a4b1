-- The cause of an error of each query.
use Rattle.std.proofs.Common.{◌≡◌, ◌≢◌, ℕ, ℤ, List, [], ◌∷◌, Result, IfErr, refl}
use Rattle.std.specs.Prelude.{Vec}
use Rattle.std.specs.declared.alloc.Global.{Global}
use Rattle.sqlite.specs.Listing.{understood}
use Rattle.sqlite.specs.Order.{Row}
use Rattle.sqlite.specs.State.{State, QueriesRow, FailsToQuery}
use Rattle.sqlite.specs.declared.error.Error.{Error}
use Rattle.sqlite.specs.declared.error.Error.TheVariants.{QueryReturnedNoRows, SqliteFailure}
use Rattle.sqlite.specs.declared.error.ErrorCode.TheVariants.{OutOfMemory}
use Rattle.sqlite.specs.declared.types.Value.TheVariants.{Int, Text}
use Rattle.sqlite_tied.specs.Compute.{everything}
use Rattle.store_tables.specs.Failures.{HasOutsideCause}
use Rattle.store_tables.specs.Tables.{book_schema}
use Rattle.store_tables.proofs.FailureLemmas.{from_outside, row_fails, rows_fail, count_fails}
use Rattle.store_tables.proofs.Queries.{picks, book_text, book_query, find_text, find_query}
use Rattle.store_tables.proofs.Queries.{removed_text, removed_query, import_text, import_query}
use Rattle.store_tables.proofs.Queries.{keep_text, keep_query, books_count_text, count_text}
use Rattle.store_tables.proofs.Queries.{count_tests, books_text, books_query, members_text}
use Rattle.store_tables.proofs.Queries.{members_query, all_members_text, all_members_terms}
use Rattle.store_tables.proofs.Queries.{scan_text, scan_query, all_imports_text, all_imports_terms}
use Rattle.store_tables.proofs.Queries.{all_keeps_text, all_keeps_terms, due_text, due_query}
use Rattle.store_tables.proofs.Texts.{book_is, find_is, removed_is, import_is, keep_is}
use Rattle.store_tables.proofs.Texts.{books_count_is, count_is, books_is, members_is}
use Rattle.store_tables.proofs.Texts.{all_members_is, scan_is, all_imports_is, all_keeps_is, due_is}

pub find_book_fails : (old new : State) (name : List ℕ) (r : Result Row Error)
    → old.now.schema ≡ book_schema → QueriesRow book_text (Text name ∷ []) old new r
    → IfErr r (λ e. e ≢ QueryReturnedNoRows → e ≢ SqliteFailure OutOfMemory
    → HasOutsideCause old new)
unfolding understood everything
find_book_fails old new name r has = row_fails book_text (Text name ∷ []) old new has book_query _
    book_is (refl, refl) refl (λ db h. h) refl r

pub find_member_fails : (old new : State) (book : ℤ) (uid : List ℕ) (r : Result Row Error)
    → old.now.schema ≡ book_schema → QueriesRow find_text (Int book ∷ Text uid ∷ []) old new r
    → IfErr r (λ e. e ≢ QueryReturnedNoRows → e ≢ SqliteFailure OutOfMemory
    → HasOutsideCause old new)
unfolding understood everything
find_member_fails old new book uid r has =
    row_fails find_text (Int book ∷ Text uid ∷ []) old new has find_query _ find_is (
      refl,
      refl,
    ) refl (λ db h. h) refl r

pub first_removed_fails : (old new : State) (book : ℤ) (horizon : ℤ) (r : Result Row Error)
    → old.now.schema ≡ book_schema → QueriesRow removed_text (Int book ∷ Int horizon ∷ []) old new r
    → IfErr r (λ e. e ≢ QueryReturnedNoRows → e ≢ SqliteFailure OutOfMemory
    → HasOutsideCause old new)
unfolding understood everything
first_removed_fails old new book horizon r has =
    row_fails removed_text (Int book ∷ Int horizon ∷ []) old new has removed_query _ removed_is
    (refl, refl) refl (λ db h. h) refl r

pub find_import_fails : (old new : State) (book : ℤ) (key : List ℕ) (r : Result Row Error)
    → old.now.schema ≡ book_schema → QueriesRow import_text (Int book ∷ Text key ∷ []) old new r
    → IfErr r (λ e. e ≢ QueryReturnedNoRows → e ≢ SqliteFailure OutOfMemory
    → HasOutsideCause old new)
unfolding understood everything
find_import_fails old new book key r has =
    row_fails import_text (Int book ∷ Text key ∷ []) old new has import_query _ import_is (
      refl,
      refl,
    ) refl (λ db h. h) refl r

pub find_keep_fails : (old new : State) (book : ℤ) (r : Result Row Error)
    → old.now.schema ≡ book_schema → QueriesRow keep_text (Int book ∷ []) old new r
    → IfErr r (λ e. e ≢ QueryReturnedNoRows → e ≢ SqliteFailure OutOfMemory
    → HasOutsideCause old new)
unfolding understood everything
find_keep_fails old new book r has = row_fails keep_text (Int book ∷ []) old new has keep_query _
    keep_is (refl, refl) refl (λ db h. h) refl r

pub count_books_fails : (old new : State) (r : Result Row Error) → old.now.schema ≡ book_schema
    → QueriesRow books_count_text [] old new r → IfErr r (λ e. e ≢ SqliteFailure OutOfMemory
    → HasOutsideCause old new)
unfolding understood everything
count_books_fails old new r has = count_fails books_count_text [] old new has 2 [] _ books_count_is
    (refl, refl) refl r

pub count_removed_fails : (old new : State) (book : ℤ) (horizon : ℤ) (r : Result Row Error)
    → old.now.schema ≡ book_schema → QueriesRow count_text (Int book ∷ Int horizon ∷ []) old new r
    → IfErr r (λ e. e ≢ SqliteFailure OutOfMemory → HasOutsideCause old new)
unfolding understood everything
count_removed_fails old new book horizon r has =
    count_fails count_text (Int book ∷ Int horizon ∷ []) old new has 4 count_tests _ count_is (
      refl,
      refl,
    ) refl r

pub all_books_fails : (old new : State) (r : Result (Vec Row Global) Error)
    → old.now.schema ≡ book_schema → IfErr r (FailsToQuery books_text [] old new)
    → IfErr r (λ e. e ≢ SqliteFailure OutOfMemory → HasOutsideCause old new)
unfolding understood everything
all_books_fails old new r has = rows_fail books_text [] old new has books_query _ books_is (
  refl,
  refl,
) refl (λ db h. h) refl r

pub members_of_fails : (old new : State) (book : ℤ) (r : Result (Vec Row Global) Error)
    → old.now.schema ≡ book_schema → IfErr r (FailsToQuery members_text (Int book ∷ []) old new)
    → IfErr r (λ e. e ≢ SqliteFailure OutOfMemory → HasOutsideCause old new)
unfolding understood everything
members_of_fails old new book r has =
    rows_fail members_text (Int book ∷ []) old new has members_query _ members_is (refl, refl) refl
    (λ db h. h) refl r

pub all_members_fails : (old new : State) (r : Result (Vec Row Global) Error)
    → old.now.schema ≡ book_schema → IfErr r (FailsToQuery all_members_text [] old new)
    → IfErr r (λ e. e ≢ SqliteFailure OutOfMemory → HasOutsideCause old new)
unfolding understood everything
all_members_fails old new r has = rows_fail all_members_text [] old new has
    (picks 4 [] all_members_terms) _ all_members_is (refl, refl) refl (λ db h. h) refl r

pub all_imports_fails : (old new : State) (r : Result (Vec Row Global) Error)
    → old.now.schema ≡ book_schema → IfErr r (FailsToQuery all_imports_text [] old new)
    → IfErr r (λ e. e ≢ SqliteFailure OutOfMemory → HasOutsideCause old new)
unfolding understood everything
all_imports_fails old new r has = rows_fail all_imports_text [] old new has
    (picks 7 [] all_imports_terms) _ all_imports_is (refl, refl) refl (λ db h. h) refl r

pub all_keeps_fails : (old new : State) (r : Result (Vec Row Global) Error)
    → old.now.schema ≡ book_schema → IfErr r (FailsToQuery all_keeps_text [] old new)
    → IfErr r (λ e. e ≢ SqliteFailure OutOfMemory → HasOutsideCause old new)
unfolding understood everything
all_keeps_fails old new r has = rows_fail all_keeps_text [] old new has (picks 9 [] all_keeps_terms)
    _ all_keeps_is (refl, refl) refl (λ db h. h) refl r

-- the scan of the members, whose rows are read one at a time
pub scan_fails : (old new : State) (e : Error) → old.now.schema ≡ book_schema
    → FailsToQuery scan_text [] old new e → e ≢ SqliteFailure OutOfMemory → HasOutsideCause old new
unfolding understood everything
scan_fails old new e has = from_outside scan_text [] old new has scan_query _ scan_is (
  refl,
  refl,
) refl (λ db h. h) refl e

-- the query for the due members
pub first_due_fails : (old new : State) (book at base most : ℤ) (r : Result (Vec Row Global) Error)
    → old.now.schema ≡ book_schema → IfErr r
    (FailsToQuery due_text (Int book ∷ Int at ∷ Int base ∷ Int most ∷ []) old new)
    → IfErr r (λ e. e ≢ SqliteFailure OutOfMemory → HasOutsideCause old new)
unfolding understood everything
first_due_fails old new book at base most r has =
    rows_fail due_text (Int book ∷ Int at ∷ Int base ∷ Int most ∷ []) old new has due_query _ due_is
    (refl, refl) refl (λ db h. h) refl r
