-- The results of look-ups, against the steps of the model.
use Rattle.std.proofs.Common.{◌≡◌, ℕ, List, Result, Ok, Err, IfOk, IfErr, refl, sym, subst}
use Rattle.std.specs.Option.{option_map_or}
use Rattle.sqlite.specs.declared.error.Error.TheVariants.{QueryReturnedNoRows}
use Rattle.sqlite.specs.Effect.{Database}
use Rattle.sqlite.specs.Order.{Row}
use Rattle.sqlite.specs.State.{State, IsUnchanged, Survives}
use Rattle.sqlite.specs.Tree.{Trees}
use Rattle.book_model.specs.declared.denied.Denied.{Denied}
use Rattle.book_model.specs.declared.denied.Denied.TheVariants.{Refused, Fault}
use Rattle.book_model.specs.declared.refusal.Refusal.{Refusal}
use Rattle.book_model.specs.declared.refusal.Refusal.TheVariants.{NoSuchBook}
use Rattle.book_model.specs.Books.{Book, book_named}
use Rattle.book_model.specs.CallOutcomes.{◌>>=◌}
use Rattle.store_tables.specs.QueryResults.{FindsRow}
use Rattle.store_tables.specs.Books.{has_name, numbers_shown}
use Rattle.store_tables.specs.StatementEffects.{GivenTables}
use Rattle.store_tables.proofs.SchemaCreationLemmas.{clean_before}
use Rattle.store_rows.specs.LookupLaws.{IsBookNamed}
use Rattle.store_rows.specs.ShownRows.{ShowsHeader}
use Rattle.store_rows.specs.SoundTables.{AreSoundRows}
use Rattle.store_rows.specs.TableBooks.{HeaderRow, line_row, row_book, books_of}
use Rattle.store_rows.specs.TableRows.{TableRows, HoldsRows}
use Rattle.store_rows.proofs.LookupLemmas.{book_found, book_missing}
use Rattle.store_lookups.specs.CallResults.{FollowsStep, FindsHeader, IsExactly, GivenBook}
use Rattle.store_lookups.specs.CallResults.{GivenSoundRows}
use Rattle.store_lookups.specs.Faults.{IsDeniedFault}

-- ---- the book with a name

-- a row with the name was read
pub named_found : (rows : TableRows) (name : List ℕ) (row : Row) (r : Result HeaderRow Denied)
    → AreSoundRows rows → FindsRow (has_name name) numbers_shown rows.books (Ok row)
    → IfOk r (ShowsHeader row) → IfErr r IsDeniedFault → FindsHeader rows name r
named_found rows name row (Ok header) sound finds shows fault =
    book_found rows name row header sound finds shows
named_found rows name row (Err denied) sound finds shows fault =
    subst (λ d. FindsHeader rows name (Err d)) (sym fault.1) tt

-- there is no such row
pub named_missing : (rows : TableRows) (name : List ℕ)
    → FindsRow (has_name name) numbers_shown rows.books (Err QueryReturnedNoRows)
    → FindsHeader rows name (Err (Refused NoSuchBook))
named_missing rows name finds = (refl, book_missing rows name finds)

-- ---- steps

-- the step runs on the book with the name
pub in_book : {T A : Type 0} (allows : T → A → Type 0) (rows : TableRows) (name : List ℕ) (header :
    HeaderRow) (f : Book → Result T Refusal) (r : Result A Denied)
    → IsBookNamed rows name header → FollowsStep allows r (f (row_book rows (line_row name header)))
    → FollowsStep allows r (book_named (books_of rows) name >>= f)
in_book allows rows name header f r named expected =
    subst (λ found. FollowsStep allows r (option_map_or Ok found (Err NoSuchBook) >>= f))
    (sym named.book) expected

-- there is no such book, or its row was not read
pub in_none : {T A : Type 0} (allows : T → A → Type 0) (rows : TableRows) (name : List ℕ) (f : Book
    → Result T Refusal) (denied : Denied)
    → FindsHeader rows name (Err denied) → FollowsStep {T = T} {A = A} allows (Err denied)
    (book_named (books_of rows) name >>= f)
in_none {T = T} {A = A} allows rows name f (Refused refusal) is =
    subst (λ found. FollowsStep {T = T} {A = A} allows (Err (Refused refusal))
    (option_map_or Ok found (Err NoSuchBook) >>= f)) (sym is.1.book) is.0
in_none allows rows name f (Fault fault) is = tt

-- ---- one look-up after another

-- the tables are unchanged since the first look-up
pub over_then : (old mid new : State) (P : Trees → Type 0) (Then : TableRows → Type 0)
    → GivenTables old mid (IsUnchanged old mid) → Survives mid new P → GivenSoundRows mid new Then
    → GivenSoundRows old new Then
over_then old mid new P Then same survives after rows clean holds sound =
    let kept = same (clean_before P mid new survives clean) holds.schema in
    after rows clean (subst (λ (d : Database). HoldsRows d rows) (sym kept.0.now_is) holds) sound

-- ---- a call over the book with a name

module _ {T A : Type 0} (allows : T → A → Type 0) (f : Book → Result T Refusal) (name : List ℕ)
  where
    -- the name was looked up, and then the book with this header was read
    pub returns_then : (old mid new : State) (P : Trees → Type 0) (header : HeaderRow) (r :
        Result A Denied) → GivenSoundRows old mid (λ rows. FindsHeader rows name (Ok header))
        → GivenTables old mid (IsUnchanged old mid) → Survives mid new P
        → GivenBook mid new header (λ book. FollowsStep allows r (f book))
        → GivenSoundRows old new (λ rows. FollowsStep allows r (book_named (books_of rows) name
        >>= f))
    returns_then old mid new P header r named same survives expected rows clean holds sound =
        in_book allows rows name header f r (named rows (clean_before P mid new survives clean)
        holds
        sound)
        (over_then old mid new P (λ k. (n : List ℕ)
        → FollowsStep allows r (f (row_book k (line_row n header)))) same survives expected rows
        clean holds sound name)

    -- there is no such book, or its row was not read
    pub none_returned : (old new : State) (denied : Denied)
        → GivenSoundRows old new (λ rows. FindsHeader rows name (Err denied))
        → GivenSoundRows old new (λ rows. FollowsStep {T = T} {A = A} allows (Err denied)
        (book_named (books_of rows) name >>= f))
    none_returned old new denied named rows clean holds sound =
        in_none allows rows name f denied (named rows clean holds sound)

-- an exact result
pub exact_value : {A : Type 0} (value : A) (r : Result A Denied) → IfOk r (λ a. a ≡ value)
    → IfErr r IsDeniedFault → FollowsStep IsExactly r (Ok value)
exact_value value (Ok a) ok fault = ok
exact_value value (Err denied) ok fault =
    subst (λ d. FollowsStep IsExactly (Err d) (Ok value)) (sym fault.1) tt
