-- The books of a copy of which some books are left out.
use Rattle.std.specs.Prelude.{⊤}
use Rattle.std.proofs.Common.{true, ◌≡◌, ℕ, ℤ, List, [], ◌∷◌, ◌++◌, map, filter, not, take, ◌<◌}
use Rattle.std.proofs.Common.{find, Option, Some, None, is_some, IsPermutation, refl, sym, ap, ap₂}
use Rattle.std.proofs.Common.{subst, ◌∙◌, arith}
use Rattle.std.specs.FinMap as finite
use Rattle.std.specs.List.{AllByRecursion, list_any}
use Rattle.std.specs.Option.{option_map}
use Rattle.book_model.specs.Books.{Book}
use Rattle.book_model.proofs.BasicLemmas.{is_some-map, same_Some_at}
use Rattle.sqlite.specs.Effect.{Database}
use Rattle.sqlite.specs.Order.{Row, column}
use Rattle.sqlite_rules.specs.Edit.{id_in}
use Rattle.sqlite_trees.proofs.ListLemmas.{all_weaker, filter-map}
use Rattle.store_tables.specs.Books.{BookRow, book_row, book_cells, book_listed, book_shown}
use Rattle.store_tables.specs.Books.{has_name, numbers}
use Rattle.store_tables.specs.Imports.{ImportRow, import_row, import_cells}
use Rattle.store_tables.specs.Keeps.{KeepRow, keep_row, keep_cells, keep_listed}
use Rattle.store_tables.proofs.KeyedRows.{all_has}
use Rattle.store_tables.specs.Members.{MemberRow, member_row, member_cells}
use Rattle.store_rows.specs.OpenLaws.{keep_pair}
use Rattle.store_rows.specs.SoundTables.{AreSoundRows, HoldsSoundRows}
use Rattle.store_rows.specs.TableBooks.{books_in, books_of, row_book}
use Rattle.store_rows.specs.TableRows.{TableRows, HoldsRows, load_member, load_import}
use Rattle.store_rows.specs.Values.{natural, text_or_empty, text_or_none}
use Rattle.store_rows.proofs.HeldRows.{member_loads, books_held, same_books}
use Rattle.store_rows.proofs.KeyedEntries.{found_has}
use Rattle.store_rows.proofs.RowLemmas.{AreSame, get-books_of}
use Rattle.store_check.specs.ListedRows.{AreListedRows}
use Rattle.store_check.specs.RowChecks.{decode_book, decode_keep, decode_rows, int_cell}
use Rattle.store_check.proofs.CheckedLemmas.{any_found}
use Rattle.store_check.proofs.ListedLemmas.{rows_same}
use Rattle.store_check.proofs.PermutedLemmas.{sound_moved}
use Rattle.store_copy.specs.BooksWithout.{AreBooksWithout}
use Rattle.store_copy.specs.RowsWithout.{is_left_out, id_after, rest, rows_without, kept_rows}
use Rattle.store_copy.specs.RowsWithout.{ids_named, HasNewId, HaveNewIds, CopiesHoldTheRest}
use Rattle.store_copy.specs.RowsWithout.{ListedNumbersAreBelow, ListedNamesAreBooks}
use Rattle.store_copy.specs.declared.reading.StoredRows.{StoredRows}
use Rattle.store_copy.proofs.WithoutLemmas.{books_without}

-- ---- one row more

pub one_more : (at columns : ℕ) (ids : List ℤ) (xs ys : List Row) (x y : Row)
    → HaveNewIds at columns ids xs ys → HasNewId at columns ids x y
    → HaveNewIds at columns ids (xs ++ x ∷ []) (ys ++ y ∷ [])
one_more at columns ids [] [] x y h k = (k, tt)
one_more at columns ids [] (b ∷ ys) x y h k = absurd h
one_more at columns ids (a ∷ xs) [] x y h k = absurd h
one_more at columns ids (a ∷ xs) (b ∷ ys) x y h k = (h.0, one_more at columns ids xs ys x y h.1 k)

-- ---- the entries of rows with new ids

module _ {X : Type 0} (decode : Row → X) (id_of : X → ℤ) (with_id : ℤ → X → X) (at columns : ℕ)
    (ids : List ℤ)
    (cell : (r : Row) → id_of (decode r) ≡ int_cell at r)
    (decodes : (found row : Row) → HasNewId at columns ids found row
    → decode found ≡ with_id (id_after ids (int_cell at row)) (decode row)) where
  new_decoded : (found rows : List Row) → HaveNewIds at columns ids found rows
      → map decode found ≡ map (λ x. with_id (id_after ids (id_of x)) x) (map decode rows)
  new_decoded [] [] h = refl
  new_decoded [] (r ∷ rs) h = absurd h
  new_decoded (f ∷ fs) [] h = absurd h
  new_decoded (f ∷ fs) (r ∷ rs) h = ap₂ (λ a l. a ∷ l) (decodes f r h.0
      ∙ ap (λ i. with_id (id_after ids i) (decode r)) (sym (cell r))) (new_decoded fs rs h.1)

  kept_decoded : (rows : List Row) → map decode (kept_rows at ids rows)
      ≡ filter (λ x. not (is_left_out ids (id_of x))) (map decode rows)
  kept_decoded rows = sym (filter-map (λ x. not (is_left_out ids (id_of x))) decode rows
      ∙ (λ i. map decode (filter (λ r. not (is_left_out ids (cell r i))) rows)))

  pub rest_decoded : (found kept rows : List Row) → kept ≡ kept_rows at ids rows
      → HaveNewIds at columns ids found kept
      → map decode found ≡ rest id_of with_id ids (map decode rows)
  rest_decoded found kept rows is h =
      new_decoded found kept h
      ∙ ap (λ l. map (λ x. with_id (id_after ids (id_of x)) x) (map decode l)) is
      ∙ ap (map (λ x. with_id (id_after ids (id_of x)) x)) (kept_decoded rows)

module _ (ids : List ℤ) (found row : Row) where
  new_book : HasNewId 0 11 ids found row
      → decode_book found ≡ record (decode_book row) { id = id_after ids (int_cell 0 row) }
  new_book h =
      let same : (k : ℕ) → k < 11 → Rattle.std.specs.Prelude.nat_eq k 0
      ≡ Rattle.std.proofs.Common.false → id_in (column found k) ≡ id_in (column row k) =
      λ k low other. ap id_in (h.others k low other) in
      let id = ap id_in h.new_id in
      let name = ap text_or_empty (h.others 1 (omega arith) refl) in
      let number = same 2 (omega arith) refl in
      let horizon = same 3 (omega arith) refl in
      let created = same 4 (omega arith) refl in
      let edited = same 5 (omega arith) refl in
      let imported = same 6 (omega arith) refl in
      let import_edited = same 7 (omega arith) refl in
      let moved_in = same 8 (omega arith) refl in
      let deleted = same 9 (omega arith) refl in
      let moved_out = same 10 (omega arith) refl in
      λ i. record {
        id = id i;
        name = name i;
        numbers = numbers (number i) (horizon i) (created i) (edited i) (imported i)
            (import_edited i) (moved_in i) (deleted i) (moved_out i);
      }

  new_member : HasNewId 1 5 ids found row
      → load_member found ≡ record (load_member row) { book = id_after ids (int_cell 1 row) }
  new_member h =
      let id = ap id_in (h.others 0 (omega arith) refl) in
      let book = ap id_in h.new_id in
      let uid = ap text_or_empty (h.others 2 (omega arith) refl) in
      let changed = ap id_in (h.others 3 (omega arith) refl) in
      let card = ap text_or_none (h.others 4 (omega arith) refl) in
      λ i. record { id = id i; book = book i; uid = uid i; changed = changed i; card = card i }

  new_import : HasNewId 1 7 ids found row
      → load_import found ≡ record (load_import row) { book = id_after ids (int_cell 1 row) }
  new_import h =
      let id = ap id_in (h.others 0 (omega arith) refl) in
      let book = ap id_in h.new_id in
      let key = ap text_or_empty (h.others 2 (omega arith) refl) in
      let added = ap id_in (h.others 3 (omega arith) refl) in
      let edited = ap id_in (h.others 4 (omega arith) refl) in
      let same = ap id_in (h.others 5 (omega arith) refl) in
      let number = ap id_in (h.others 6 (omega arith) refl) in
      λ i. record {
        id = id i;
        book = book i;
        key = key i;
        added = added i;
        edited = edited i;
        same = same i;
        number = number i;
      }

  new_keep : HasNewId 0 2 ids found row
      → decode_keep found ≡ record (decode_keep row) { book = id_after ids (int_cell 0 row) }
  new_keep h =
      let book = ap id_in h.new_id in
      let keep = ap id_in (h.others 1 (omega arith) refl) in
      λ i. record { book = book i; keep = keep i }

-- ---- rows that are listed

abbrev bare_row : Row → Row
bare_row [] = []
bare_row (id ∷ []) = id ∷ []
bare_row (id ∷ empty ∷ rest) = id ∷ rest

abbrev whole_row : Row → Row
whole_row r = r

-- the rows that a database holds are those that are listed
same_listed : (db : Database) (books members imports keeps : List Row)
    → AreListedRows db books members imports keeps → (had : TableRows) → HoldsRows db had
    → AreSame had (decode_rows books members imports keeps)
same_listed db books members imports keeps listed had holds = record {
  books = rows_same book_row book_cells book_listed bare_row book_shown (λ _. ⊤) decode_book
      (λ _. ⊤) (λ _. refl) (λ _. refl) (λ _ _. tt) (λ _. refl) had.books books (db.trees 2)
      holds.books listed.all_books;
  members = rows_same member_row member_cells member_cells whole_row member_row (λ _. ⊤) load_member
      (λ _. ⊤) (λ _. refl) (λ _. refl) (λ _ _. tt) member_loads had.members members (db.trees 4)
      holds.members listed.all_members;
  imports = rows_same import_row import_cells import_cells whole_row import_row (λ _. ⊤) load_import
      (λ _. ⊤) (λ _. refl) (λ _. refl) (λ _ _. tt) (λ _. refl) had.imports imports (db.trees 7)
      holds.imports listed.all_imports;
  keeps = rows_same keep_row keep_cells keep_listed bare_row keep_pair (λ _. ⊤) decode_keep (λ _. ⊤)
      (λ _. refl) (λ _. refl) (λ _ _. tt) (λ _. refl) had.keeps keeps (db.trees 9) holds.keeps
      listed.all_keeps;
}

record IsOf (db : Database) (rows : TableRows) : Type 0 where
  sound : AreSoundRows rows
  books : books_in db.trees ≡ books_of rows

listed_of : (db : Database) (books members imports keeps : List Row)
    → AreListedRows db books members imports keeps → HoldsSoundRows db
    → IsOf db (decode_rows books members imports keeps)
listed_of db books members imports keeps listed h =
    let same = same_listed db books members imports keeps listed h.rows h.holds in
    record {
      sound = sound_moved h.rows (decode_rows books members imports keeps) same h.sound;
      books = books_held db h.rows h.holds h.sound
          ∙ same_books h.rows (decode_rows books members imports keeps) h.sound same;
    }

-- ---- the law

abbrev entries_of : StoredRows → TableRows
entries_of all = decode_rows all.others.books.items all.members.items all.others.imports.items
    all.others.keeps.items

pub copies_hold_rest : CopiesHoldTheRest
copies_hold_rest names first copy all kept has leaves found was is =
    let ids = ids_named names all in
    let old = listed_of first all.others.books.items all.members.items all.others.imports.items
    all.others.keeps.items has was in
    let new = listed_of copy found.others.books.items found.members found.others.imports.items
    found.others.keeps.items found.listed is in
    let books = rest_decoded decode_book (λ (b : BookRow). b.id) (λ id b. record b { id = id }) 0 11
    ids (λ _. refl) (new_book ids) found.others.books.items kept.others.books.items
    all.others.books.items leaves.books found.new_others.books in
    let members = rest_decoded load_member (λ (m : MemberRow). m.book)
    (λ id m. record m { book = id }) 1 5 ids (λ _. refl) (new_member ids) found.members
    kept.members.items all.members.items leaves.members found.new_members in
    let imports = rest_decoded load_import (λ (i : ImportRow). i.book)
    (λ id i. record i { book = id }) 1 7 ids (λ _. refl) (new_import ids)
    found.others.imports.items kept.others.imports.items all.others.imports.items leaves.imports
    found.new_others.imports in
    let keeps = rest_decoded decode_keep (λ (k : KeepRow). k.book) (λ id k. record k { book = id })
    0 2 ids (λ _. refl) (new_keep ids) found.others.keeps.items kept.others.keeps.items
    all.others.keeps.items leaves.keeps found.new_others.keeps in
    let rows : decode_rows found.others.books.items found.members found.others.imports.items
    found.others.keeps.items ≡ rows_without ids (entries_of all) =
    λ i. record { books = books i; members = members i; imports = imports i; keeps = keeps i } in
    subst (λ b. AreBooksWithout names b (books_in copy.trees)) (sym old.books)
    (subst (AreBooksWithout names (books_of (entries_of all))) (sym (new.books ∙ ap books_of rows))
    (books_without names (entries_of all) old.sound (subst AreSoundRows rows new.sound)))

-- ---- what the listed rows say of the books

pub numbers_below : ListedNumbersAreBelow
numbers_below db all bound has sound below name book found =
    let rows = entries_of all in
    let old = listed_of db all.others.books.items all.members.items all.others.imports.items
    all.others.keeps.items has sound in
    go rows (find (has_name name) rows.books) refl below (sym (get-books_of rows name)
    ∙ ap (λ b. finite.get b name) (sym old.books) ∙ found)
  where
    go : (rows : TableRows) (o : Option BookRow) → find (has_name name) rows.books ≡ o
        → AllByRecursion (λ (b : BookRow). natural b.numbers.number < bound) rows.books
        → option_map (row_book rows) o ≡ Some book → book.number < bound
    go rows None e all h = absurd cc
    go rows (Some b) e all h =
        let it = found_has (has_name name) rows.books b e in
        subst (λ (x : Book). x.number < bound) (same_Some_at (row_book rows b) book h)
        (all_has (λ (b : BookRow). natural b.numbers.number < bound) rows.books b all it.0)

pub names_are_books : ListedNamesAreBooks
names_are_books db all names has sound listed =
    let rows = entries_of all in
    let old = listed_of db all.others.books.items all.members.items all.others.imports.items
    all.others.keeps.items has sound in
    all_weaker (λ name. list_any (has_name name) rows.books ≡ true)
    (λ name. is_some (finite.get (books_in db.trees) name) ≡ true) (λ name h.
    ap (λ b. is_some (finite.get b name)) old.books ∙ ap (λ o. is_some o) (get-books_of rows name)
    ∙ is_some-map (row_book rows) (find (has_name name) rows.books)
    ∙ any_found (has_name name) rows.books ∙ h) names listed
