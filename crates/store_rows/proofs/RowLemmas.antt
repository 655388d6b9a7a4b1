-- Members, imports, keeps and books of sound rows, each under its key.
use Rattle.std.proofs.Common.{◌≡◌, ℕ, ℤ, Bool, true, false, List, [], ◌∷◌, map, filter, find}
use Rattle.std.proofs.Common.{int_eq, IsPermutation, refl, sym, ap, ◌∙◌, arith}
use Rattle.std.proofs.lemmas.Int.{ints}
use Rattle.std.specs.Option.{option_map}
use Rattle.std.specs.FinMap as finite
use Rattle.sqlite_trees.proofs.ListLemmas.{ascending_weaker}
use Rattle.store_tables.specs.Books.{BookRow, AreBooks, has_name}
use Rattle.store_tables.specs.Members.{MemberRow, AreMembers, is_in_book, has_uid}
use Rattle.store_tables.specs.Imports.{ImportRow, AreImports, has_key}
use Rattle.store_tables.specs.Keeps.{KeepRow, AreKeeps, is_keep_of}
use Rattle.store_tables.proofs.KeyedRows.{same_int}
use Rattle.store_rows.specs.TableRows.{TableRows}
use Rattle.store_rows.specs.TableBooks.{model_row, members_in, row_tally, imports_in, row_book}
use Rattle.store_rows.specs.TableBooks.{book_entry, books_of}
use Rattle.store_rows.proofs.KeyedEntries.{Single, Once, once_single, map_of, get_is}

pub int_turned : (a b : ℤ) → int_eq a b ≡ int_eq b a
int_turned a b = grind (arith, ints)

-- ---- members

abbrev pub uid_of_row : MemberRow → List ℕ
uid_of_row m = m.uid

pub once_members : (book : ℤ) (ms : List MemberRow) → AreMembers ms
    → Once (is_in_book book) uid_of_row model_row ms
once_members book ms kept = ascending_weaker (λ (a b : MemberRow). (int_eq a.id b.id ≡ false)
    × (has_uid a.book a.uid b ≡ false)) (λ (a b : MemberRow). is_in_book book a ≡ true
    → has_uid book a.uid b ≡ false)
    (λ a b h e. ap (λ k. has_uid k a.uid b) (sym (same_int a.book book e)) ∙ h.1) ms kept

pub single_member : (book : ℤ) (uid : List ℕ) (ms : List MemberRow) → AreMembers ms
    → Single (has_uid book uid) ms
single_member book uid ms kept = once_single (is_in_book book) uid_of_row model_row uid ms
    (once_members book ms kept)

pub get-members_in : (book : ℤ) (ms : List MemberRow) (uid : List ℕ)
    → finite.get (members_in book ms) uid ≡ option_map model_row (find (has_uid book uid) ms)
get-members_in book ms uid = get_is (is_in_book book) uid_of_row model_row ms uid

-- ---- imports

abbrev pub import_of : ℤ → ImportRow → Bool
import_of book i = int_eq i.book book

abbrev pub key_of : ImportRow → List ℕ
key_of i = i.key

pub once_imports : (book : ℤ) (imports : List ImportRow) → AreImports imports
    → Once (import_of book) key_of row_tally imports
once_imports book imports kept = ascending_weaker (λ (a b : ImportRow). (int_eq a.id b.id ≡ false)
    × (has_key a.book a.key b ≡ false)) (λ (a b : ImportRow). import_of book a ≡ true
    → has_key book a.key b ≡ false)
    (λ a b h e. ap (λ k. has_key k a.key b) (sym (same_int a.book book e)) ∙ h.1) imports kept

pub single_import : (book : ℤ) (key : List ℕ) (imports : List ImportRow) → AreImports imports
    → Single (has_key book key) imports
single_import book key imports kept =
    once_single (import_of book) key_of row_tally key imports (once_imports book imports kept)

pub get-imports_in : (book : ℤ) (imports : List ImportRow) (key : List ℕ)
    → finite.get (imports_in book imports) key ≡ option_map row_tally
    (find (has_key book key) imports)
get-imports_in book imports key = get_is (import_of book) key_of row_tally imports key

-- ---- keeps

pub single_keep : (book : ℤ) (keeps : List KeepRow) → AreKeeps keeps
    → Single (is_keep_of book) keeps
single_keep book keeps kept = ascending_weaker (λ (a b : KeepRow). int_eq a.book b.book ≡ false)
    (λ (a b : KeepRow). is_keep_of book a ≡ true → is_keep_of book b ≡ false)
    (λ a b h e. int_turned b.book book ∙ ap (λ k. int_eq k b.book) (sym (same_int a.book book e))
    ∙ h) keeps kept

-- ---- books

abbrev pub each_book : BookRow → Bool
each_book b = true

abbrev pub name_of : BookRow → List ℕ
name_of b = b.name

pub every : {X : Type 0} (xs : List X) → filter (λ _. true) xs ≡ xs
every [] = refl
every (x ∷ xs) = ap (λ l. x ∷ l) (every xs)

pub books_map : (rows : TableRows) (bs : List BookRow) → map_of each_book name_of (row_book rows) bs
    ≡ finite.from_entries (map (book_entry rows) bs)
books_map rows bs = ap (λ l. finite.from_entries (map (book_entry rows) l)) (every bs)

pub once_books : (rows : TableRows) (bs : List BookRow) → AreBooks bs
    → Once each_book name_of (row_book rows) bs
once_books rows bs kept = ascending_weaker (λ (a b : BookRow). (int_eq a.id b.id ≡ false)
    × (has_name a.name b ≡ false)) (λ (a b : BookRow). true ≡ true → has_name a.name b ≡ false)
    (λ a b h e. h.1) bs kept

pub single_named : (name : List ℕ) (bs : List BookRow) → AreBooks bs → Single (has_name name) bs
single_named name bs kept = once_single each_book name_of
    (row_book Rattle.store_rows.specs.TableRows.no_rows) name bs
    (once_books Rattle.store_rows.specs.TableRows.no_rows bs kept)

pub get-books_of : (rows : TableRows) (name : List ℕ) → finite.get (books_of rows) name
    ≡ option_map (row_book rows) (find (has_name name) rows.books)
get-books_of rows name = ap (λ m. finite.get m name) (sym (books_map rows rows.books))
    ∙ get_is each_book name_of (row_book rows) rows.books name

-- ---- the order is irrelevant

pub record AreSame (a b : TableRows) : Type 0 where
  pub books : IsPermutation a.books b.books
  pub members : IsPermutation a.members b.members
  pub imports : IsPermutation a.imports b.imports
  pub keeps : IsPermutation a.keeps b.keeps
