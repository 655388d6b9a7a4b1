-- The results of the look-ups by a key.
use Rattle.std.proofs.Common.{◌≡◌, ℕ, ℤ, false, List, [], ◌∷◌, Result, refl, ◌∙◌}
use Rattle.std.proofs.lemmas.Map.Text.{is_eq-slice_cmp}
use Rattle.sqlite.specs.declared.types.Value.TheVariants.{Int, Text}
use Rattle.sqlite.specs.Order.{Row}
use Rattle.sqlite.specs.declared.error.Error.{Error}
use Rattle.sqlite.specs.State.{State, QueriesRow}
use Rattle.sqlite_sql.specs.declared.ops.CompareOp.TheVariants.{Eq}
use Rattle.sqlite_typed.proofs.TestLemmas.{at_ints, at_texts, then_term, last_term}
use Rattle.store_tables.specs.Tables.{book_schema}
use Rattle.store_tables.proofs.Queries.{find_text, find_query, book_text, book_query, import_text}
use Rattle.store_tables.proofs.Queries.{import_query, keep_text, keep_query}
use Rattle.store_tables.specs.Members.{MemberRow, member_row, member_cells, number_card_shown}
use Rattle.store_tables.specs.Members.{has_uid, HoldMembers}
use Rattle.store_tables.specs.Books.{BookRow, book_row, book_cells, numbers_shown, has_name}
use Rattle.store_tables.specs.Books.{HoldBooks}
use Rattle.store_tables.specs.Imports.{ImportRow, import_row, import_cells, import_shown, has_key}
use Rattle.store_tables.specs.Imports.{HoldImports}
use Rattle.store_tables.specs.Keeps.{KeepRow, keep_row, keep_cells, keep_shown, is_keep_of}
use Rattle.store_tables.specs.Keeps.{HoldKeeps}
use Rattle.store_tables.specs.QueryResults.{FindsRow}
use Rattle.store_tables.proofs.Texts.{find_is, book_is, import_is, keep_is}
use Rattle.store_tables.proofs.Lookups.{finds}

pub finds_member : (old new : State) (book : ℤ) (uid : List ℕ) (ms : List MemberRow) (r :
    Result Row Error) → old.now.schema ≡ book_schema → HoldMembers (old.now.trees 4) ms
    → QueriesRow find_text (Int book ∷ Text uid ∷ []) old new r
    → FindsRow (has_uid book uid) number_card_shown ms r
finds_member old new book uid = finds find_text (Int book ∷ Text uid ∷ []) book_schema 4
    find_query.filter find_query.project _ find_is (λ _. refl) member_cells member_row
    number_card_shown (has_uid book uid) (λ _. refl) (λ _. refl)
    (λ m. then_term (at_ints false Eq m.book book) (last_term (at_texts false Eq m.uid uid
    ∙ is_eq-slice_cmp m.uid uid))) (λ _. refl) old new

pub finds_book : (old new : State) (name : List ℕ) (bs : List BookRow) (r : Result Row Error)
    → old.now.schema ≡ book_schema → HoldBooks (old.now.trees 2) bs
    → QueriesRow book_text (Text name ∷ []) old new r → FindsRow (has_name name) numbers_shown bs r
finds_book old new name = finds book_text (Text name ∷ []) book_schema 2 book_query.filter
    book_query.project _ book_is (λ _. refl) book_cells book_row numbers_shown (has_name name)
    (λ _. refl) (λ _. refl)
    (λ b. last_term (at_texts false Eq b.name name ∙ is_eq-slice_cmp b.name name)) (λ _. refl) old
    new

pub finds_import : (old new : State) (book : ℤ) (key : List ℕ) (imports : List ImportRow) (r :
    Result Row Error) → old.now.schema ≡ book_schema → HoldImports (old.now.trees 7) imports
    → QueriesRow import_text (Int book ∷ Text key ∷ []) old new r
    → FindsRow (has_key book key) import_shown imports r
finds_import old new book key = finds import_text (Int book ∷ Text key ∷ []) book_schema 7
    import_query.filter import_query.project _ import_is (λ _. refl) import_cells import_row
    import_shown (has_key book key) (λ _. refl) (λ _. refl)
    (λ i. then_term (at_ints false Eq i.book book) (last_term (at_texts false Eq i.key key
    ∙ is_eq-slice_cmp i.key key))) (λ _. refl) old new

pub finds_keep : (old new : State) (book : ℤ) (keeps : List KeepRow) (r : Result Row Error)
    → old.now.schema ≡ book_schema → HoldKeeps (old.now.trees 9) keeps
    → QueriesRow keep_text (Int book ∷ []) old new r → FindsRow (is_keep_of book) keep_shown keeps r
finds_keep old new book = finds keep_text (Int book ∷ []) book_schema 9 keep_query.filter
    keep_query.project _ keep_is (λ _. refl) keep_cells keep_row keep_shown (is_keep_of book)
    (λ _. refl) (λ _. refl)
    (λ k. last_term (at_ints false Eq k.book book)) (λ _. refl) old new
