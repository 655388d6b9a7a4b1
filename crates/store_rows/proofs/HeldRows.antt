-- The books of tables do not depend on the order of the rows.
use Rattle.std.proofs.Common.{◌≡◌, ℕ, List, [], ◌∷◌, map, Option, Some, None, IsPermutation, refl}
use Rattle.std.proofs.Common.{sym, ap, ap₂, subst, ◌∙◌}
use Rattle.std.specs.Option.{option_map_or}
use Rattle.std.specs.FinMap as finite
use Rattle.std.proofs.lemmas.List.Sorted.{IsPermutation-map}
use Rattle.sqlite.specs.Effect.{Database}
use Rattle.sqlite.specs.Order.{Row}
use Rattle.sqlite_trees.proofs.ListLemmas.{map-map}
use Rattle.store_tables.specs.Books.{BookRow, book_row, book_cells}
use Rattle.store_tables.specs.Members.{MemberRow, member_row, member_cells}
use Rattle.store_tables.specs.Imports.{import_row, import_cells}
use Rattle.store_tables.specs.Keeps.{KeepRow, keep_row, keep_cells, is_keep_of}
use Rattle.book_model.specs.Books.{Book}
use Rattle.store_rows.specs.Values.{natural}
use Rattle.store_rows.specs.TableRows.{TableRows, HoldsRows, no_rows, rows_in, load_book}
use Rattle.store_rows.specs.TableRows.{load_member, load_import, load_keep}
use Rattle.store_rows.specs.TableBooks.{model_row, row_tally, row_book, book_entry, books_of}
use Rattle.store_rows.specs.TableBooks.{books_in}
use Rattle.store_rows.specs.TableLaws.{HoldsNoBooks}
use Rattle.store_rows.specs.SoundTables.{AreSoundRows}
use Rattle.store_rows.proofs.KeyedEntries.{same_maps, find_moved}
use Rattle.store_rows.proofs.RowLemmas.{AreSame, once_members, once_imports, single_keep}
use Rattle.store_rows.proofs.RowLemmas.{once_books, uid_of_row, key_of, import_of, each_book}
use Rattle.store_rows.proofs.RowLemmas.{name_of, books_map}

-- ---- reading stored items

-- reading stored items returns the items
module _ {X : Type 0} (read : Row → X) (row : X → Row) (cells : Row → Row) (back : (x : X)
    → read (row x) ≡ x) (alike : (r : Row) → read (cells r) ≡ read r) where
  all_back : (xs : List X) → map (λ x. read (row x)) xs ≡ xs
  all_back [] = refl
  all_back (x ∷ xs) = ap₂ (λ a l. a ∷ l) (back x) (all_back xs)

  all_alike : (rows : List Row) → map (λ r. read (cells r)) rows ≡ map read rows
  all_alike [] = refl
  all_alike (r ∷ rs) = ap₂ (λ a l. a ∷ l) (alike r) (all_alike rs)

  pub items_held : (xs : List X) (rows : List Row) → IsPermutation (map row xs) (map cells rows)
      → IsPermutation xs (map read rows)
  items_held xs rows h =
      subst (λ l. IsPermutation l (map read rows)) (map-map read row xs ∙ all_back xs)
      (subst (IsPermutation (map read (map row xs))) (map-map read cells rows
      ∙ all_alike rows) (IsPermutation-map read _ _ h))

pub member_loads : (m : MemberRow) → load_member (member_row m) ≡ m
member_loads m = step m.card
  where
    step : (card : Option (List ℕ)) → load_member (member_row (record m { card = card }))
        ≡ record m { card = card }
    step None = refl
    step (Some t) = refl

pub rows_held : (db : Database) (rows : TableRows) → HoldsRows db rows
    → AreSame rows (rows_in db.trees)
rows_held db rows h = record {
  books = items_held load_book book_row book_cells (λ _. refl) (λ _. refl) rows.books _ h.books;
  members = items_held load_member member_row member_cells member_loads (λ _. refl) rows.members _
      h.members;
  imports = items_held load_import import_row import_cells (λ _. refl) (λ _. refl) rows.imports _
      h.imports;
  keeps = items_held load_keep keep_row keep_cells (λ _. refl) (λ _. refl) rows.keeps _ h.keeps;
}

-- ---- books

pub same_book : (a b : TableRows) → AreSoundRows a → AreSame a b → (x : BookRow)
    → row_book a x ≡ row_book b x
same_book a b sound same x =
    let members = same_maps (Rattle.store_tables.specs.Members.is_in_book x.id) uid_of_row model_row
    a.members b.members same.members (once_members x.id a.members sound.members) in
    let imports = same_maps (import_of x.id) key_of row_tally a.imports b.imports same.imports
    (once_imports x.id a.imports sound.imports) in
    let keep = ap (λ o. option_map_or (λ (k : KeepRow). natural k.keep) o 0)
    (find_moved (is_keep_of x.id) a.keeps b.keeps same.keeps
    (single_keep x.id a.keeps sound.keeps)) in
    λ i. record (row_book a x) { keep = keep i; members = members i; imports = imports i }

abbrev named_as : BookRow → Book → List ℕ × Book
named_as x book = (x.name, book)

pub same_books : (a b : TableRows) → AreSoundRows a → AreSame a b → books_of a ≡ books_of b
same_books a b sound same =
    ap finite.from_entries (each a.books) ∙ sym (books_map b a.books)
    ∙ same_maps each_book name_of (row_book b) a.books b.books same.books
    (once_books b a.books sound.books) ∙ books_map b b.books
  where
    each : (bs : List BookRow) → map (book_entry a) bs ≡ map (book_entry b) bs
    each [] = refl
    each (x ∷ xs) = ap₂ (λ e l. e ∷ l) (ap (named_as x) (same_book a b sound same x)) (each xs)

pub books_held : (db : Database) (rows : TableRows) → HoldsRows db rows → AreSoundRows rows
    → books_in db.trees ≡ books_of rows
books_held db rows h sound = sym (same_books rows (rows_in db.trees) sound (rows_held db rows h))

pub no_rows_sound : AreSoundRows no_rows
no_rows_sound = record {
  books = tt;
  members = tt;
  imports = tt;
  keeps = tt;
  listed_members = tt;
  listed_imports = tt;
  listed_keeps = tt;
  readable = record {
    books = tt;
    members = tt;
    imports = tt;
    keeps = tt;
  };
}

pub nothing_held : (db : Database) → HoldsRows db no_rows → HoldsNoBooks db
nothing_held db h = record { sound = no_rows_sound; books = books_held db no_rows h no_rows_sound }
