-- The rows that the statements return, and the rows that the tables hold.
use Rattle.std.proofs.Common.{◌≡◌, ℕ, ℤ, List, [], ◌∷◌, map, Option, Some, None, IsPermutation}
use Rattle.std.proofs.Common.{refl, sym, ap, ap₂, subst, ◌∙◌}
use Rattle.std.specs.List.{AllByRecursion}
use Rattle.std.proofs.lemmas.List.Sorted.{IsPermutation-map, IsPermutation-trans}
use Rattle.sqlite.specs.declared.types.Value.{Value}
use Rattle.sqlite.specs.declared.types.Value.TheVariants.{Int, Text}
use Rattle.sqlite.specs.Effect.{Database}
use Rattle.sqlite.specs.Order.{Row, column}
use Rattle.sqlite.specs.Values.{or_null}
use Rattle.sqlite_rules.specs.Edit.{id_in}
use Rattle.sqlite_trees.proofs.ListLemmas.{map-map, all-map, all_of, all_weaker, all-permutation}
use Rattle.sqlite_trees.proofs.ListLemmas.{IsPermutation-same}
use Rattle.book_model.specs.Bounds.{Bounds}
use Rattle.store_tables.specs.Books.{BookRow, book_row, book_cells, book_listed, book_shown}
use Rattle.store_tables.specs.Imports.{ImportRow, import_row, import_cells}
use Rattle.store_tables.specs.Keeps.{KeepRow, keep_row, keep_cells, keep_listed}
use Rattle.store_tables.specs.Members.{MemberRow, member_row, member_cells}
use Rattle.store_tables.specs.Meta.{meta_listed, schema_row, schema_number}
use Rattle.store_tables.specs.Tables.{ObeyTables}
use Rattle.store_rows.specs.OpenLaws.{ListsRows, keep_pair}
use Rattle.store_rows.specs.SoundTables.{AreReadable, HoldsWellFormed, IsReadableBook}
use Rattle.store_rows.specs.SoundTables.{IsReadableMember, IsReadableImport, IsReadableKeep}
use Rattle.store_rows.specs.TableRows.{TableRows, HoldsRows, load_member, load_import}
use Rattle.store_rows.specs.Values.{text_or_empty, text_or_none}
use Rattle.store_rows.proofs.OpenLemmas.{listed_held}
use Rattle.store_rows.proofs.RowLemmas.{AreSame}
use Rattle.store_rows.proofs.HeldRows.{member_loads}
use Rattle.store_check.specs.RowChecks.{AreWellStored, AreTableRows, IsBookRow, IsMemberRow}
use Rattle.store_check.specs.RowChecks.{IsImportRow, IsKeepRow, decode_book, decode_keep}
use Rattle.store_check.specs.RowChecks.{decode_rows}
use Rattle.store_schema.specs.StoredSchema.{IsCurrentSchema}
use Rattle.store_check.specs.ListedRows.{AreListedRows, WellStoredAreHeld}
use Rattle.store_check.proofs.PermutedLemmas.{well_formed_moved}

-- ---- a value that is an integer or a text

number_back : (v : Value) (z : ℤ) → v ≡ Int z → Int (id_in v) ≡ v
number_back v z e = ap (λ k. Int (id_in k)) e ∙ sym e

text_back : (v : Value) (t : List ℕ) → v ≡ Text t → Text (text_or_empty v) ≡ v
text_back v t e = ap (λ k. Text (text_or_empty k)) e ∙ sym e

-- ---- a row with the columns of its table is the row of its entry

abbrev IsBackBook : Row → Type 0
IsBackBook r = IsBookRow r → book_shown (decode_book r) ≡ r

book_back : (r : Row) → IsBackBook (book_listed r)
book_back r h =
    let id = number_back (column r 0) _ h.id in
    let name = text_back (column r 2) _ h.name in
    let number = number_back (column r 3) _ h.number in
    let horizon = number_back (column r 4) _ h.horizon in
    let created = number_back (column r 5) _ h.created in
    let edited = number_back (column r 6) _ h.edited in
    let imported = number_back (column r 7) _ h.imported in
    let import_edited = number_back (column r 8) _ h.import_edited in
    let moved_in = number_back (column r 9) _ h.moved_in in
    let deleted = number_back (column r 10) _ h.deleted in
    let moved_out = number_back (column r 11) _ h.moved_out in
    λ i. id i ∷ name i ∷ number i ∷ horizon i ∷ created i ∷ edited i ∷ imported i ∷ import_edited i
    ∷ moved_in i ∷ deleted i ∷ moved_out i ∷ []

abbrev pub IsBackMember : Row → Type 0
IsBackMember r = IsMemberRow r → member_row (load_member r) ≡ r

pub member_back : (r : Row) → IsBackMember (member_cells r)
member_back r h =
    let id = number_back (column r 0) _ h.id in
    let book = number_back (column r 1) _ h.book in
    let uid = text_back (column r 2) _ h.uid in
    let changed = number_back (column r 3) _ h.changed in
    let card = sym h.card in
    λ i. id i ∷ book i ∷ uid i ∷ changed i ∷ card i ∷ []

abbrev IsBackImport : Row → Type 0
IsBackImport r = IsImportRow r → import_row (load_import r) ≡ r

import_back : (r : Row) → IsBackImport (import_cells r)
import_back r h =
    let id = number_back (column r 0) _ h.id in
    let book = number_back (column r 1) _ h.book in
    let key = text_back (column r 2) _ h.key in
    let added = number_back (column r 3) _ h.added in
    let edited = number_back (column r 4) _ h.edited in
    let same = number_back (column r 5) _ h.same in
    let number = number_back (column r 6) _ h.number in
    λ i. id i ∷ book i ∷ key i ∷ added i ∷ edited i ∷ same i ∷ number i ∷ []

abbrev IsBackKeep : Row → Type 0
IsBackKeep r = IsKeepRow r → keep_pair (decode_keep r) ≡ r

keep_back : (r : Row) → IsBackKeep (keep_listed r)
keep_back r h =
    let book = number_back (column r 0) _ h.book in
    let keep = number_back (column r 2) _ h.keep in
    λ i. book i ∷ keep i ∷ []

-- ---- the returned rows decode to the entries of the table

book_shows : (b : BookRow) → IsReadableBook b → IsBookRow (book_shown b)
book_shows b h = record {
  id = ap Int h.id;
  name = refl;
  number = ap Int h.numbers.number;
  horizon = ap Int h.numbers.horizon;
  created = ap Int h.numbers.created;
  edited = ap Int h.numbers.edited;
  imported = ap Int h.numbers.imported;
  import_edited = ap Int h.numbers.import_edited;
  moved_in = ap Int h.numbers.moved_in;
  deleted = ap Int h.numbers.deleted;
  moved_out = ap Int h.numbers.moved_out;
}

if_any_again : (card : Option (List ℕ))
    → or_null Text card ≡ or_null Text (text_or_none (or_null Text card))
if_any_again None = refl
if_any_again (Some t) = refl

member_shows : (m : MemberRow) → IsReadableMember m → IsMemberRow (member_row m)
member_shows m h = record {
  id = refl;
  book = refl;
  uid = refl;
  changed = ap Int h.changed;
  card = if_any_again m.card;
}

import_shows : (i : ImportRow) → IsReadableImport i → IsImportRow (import_row i)
import_shows i h = record {
  id = refl;
  book = refl;
  key = refl;
  added = ap Int h.added;
  edited = ap Int h.edited;
  same = ap Int h.same;
  number = ap Int h.number;
}

keep_shows : (k : KeepRow) → IsReadableKeep k → IsKeepRow (keep_pair k)
keep_shows k h = record { book = refl; keep = ap Int h }

-- ---- lists of rows

map_all : {X : Type 0} (f : X → X) (xs : List X) → AllByRecursion (λ x. f x ≡ x) xs → map f xs ≡ xs
map_all f [] h = refl
map_all f (x ∷ xs) h = ap₂ (λ a l. a ∷ l) h.0 (map_all f xs h.1)

-- the returned rows of a table, if each decodes and encodes back to itself
module _ {X : Type 0} (listed : Row → Row) (Shows : Row → Type 0) (returned : Row → X) (shown : X
    → Row)
    (back : (r : Row) → Shows (listed r) → shown (returned (listed r)) ≡ listed r) where
  each_back : (rows table : List Row) → IsPermutation (map listed table) rows
      → AllByRecursion (λ r. Shows r → shown (returned r) ≡ r) rows
  each_back rows table same =
      all-permutation (λ r. Shows r → shown (returned r) ≡ r) (map listed table) rows same
      (all-map (λ r. Shows r → shown (returned r) ≡ r) listed table (all_of (λ r. Shows (listed r)
      → shown (returned (listed r)) ≡ listed r) back table))

  both : (rows : List Row) → AllByRecursion Shows rows → AllByRecursion (λ r. Shows r
      → shown (returned r) ≡ r) rows → AllByRecursion (λ r. shown (returned r) ≡ r) rows
  both [] h k = tt
  both (r ∷ rs) h k = (k.0 h.0, both rs h.1 k.1)

  pub decoded_shown : (rows table : List Row) → IsPermutation (map listed table) rows
      → AllByRecursion Shows rows → IsPermutation (map listed table) (map shown (map returned rows))
  decoded_shown rows table same shows =
      subst (IsPermutation (map listed table)) (sym (map-map shown returned rows
      ∙ map_all (λ r. shown (returned r)) rows (both rows shows (each_back rows table same))))
      same

-- the returned rows of the entries of a table
module _ {X : Type 0} (row : X → Row) (cells listed bare : Row → Row) (shown : X → Row) (Shows : Row
    → Type 0) (returned : Row → X) (Reads : X → Type 0)
    (of_item : (x : X) → bare (row x) ≡ shown x) (of_row : (r : Row) → bare (cells r) ≡ listed r)
    (shows : (x : X) → Reads x → Shows (shown x)) (again : (x : X) → returned (shown x) ≡ x) where
  all_items : (xs : List X) → map (λ x. bare (row x)) xs ≡ map shown xs
  all_items [] = refl
  all_items (x ∷ xs) = ap₂ (λ a l. a ∷ l) (of_item x) (all_items xs)

  all_rows : (rs : List Row) → map (λ r. bare (cells r)) rs ≡ map listed rs
  all_rows [] = refl
  all_rows (r ∷ rs) = ap₂ (λ a l. a ∷ l) (of_row r) (all_rows rs)

  all_again : (xs : List X) → map (λ x. returned (shown x)) xs ≡ xs
  all_again [] = refl
  all_again (x ∷ xs) = ap₂ (λ a l. a ∷ l) (again x) (all_again xs)

  shown_rows : (xs : List X) (rows table : List Row) → IsPermutation (map row xs) (map cells table)
      → IsPermutation (map listed table) rows → IsPermutation (map shown xs) rows
  shown_rows xs rows table held same =
      IsPermutation-trans _ _ _
      (subst (λ l. IsPermutation l (map listed table)) (map-map bare row xs ∙ all_items xs)
      (subst (IsPermutation (map bare (map row xs))) (map-map bare cells table
      ∙ all_rows table) (IsPermutation-map bare _ _ held)))
      same

  pub rows_show : (xs : List X) (rows table : List Row)
      → IsPermutation (map row xs) (map cells table) → IsPermutation (map listed table) rows
      → AllByRecursion Reads xs → AllByRecursion Shows rows
  rows_show xs rows table held same reads =
      all-permutation Shows (map shown xs) rows (shown_rows xs rows table held same)
      (all-map Shows shown xs (all_weaker Reads (λ x. Shows (shown x)) shows xs reads))

  pub rows_same : (xs : List X) (rows table : List Row)
      → IsPermutation (map row xs) (map cells table) → IsPermutation (map listed table) rows
      → IsPermutation xs (map returned rows)
  rows_same xs rows table held same =
      subst (λ l. IsPermutation l (map returned rows)) (map-map returned shown xs
      ∙ all_again xs) (IsPermutation-map returned _ _ (shown_rows xs rows table held same))

-- a row without its second column, which is empty
abbrev bare_row : Row → Row
bare_row [] = []
bare_row (id ∷ []) = id ∷ []
bare_row (id ∷ empty ∷ rest) = id ∷ rest

abbrev whole_row : Row → Row
whole_row r = r

-- ---- the law

module _ (limits : Bounds) (db : Database) (books members imports keeps : List Row) (ours :
    IsCurrentSchema db) (listed : AreListedRows db books members imports keeps) where
  lists : AreTableRows books members imports keeps
      → ListsRows db (decode_rows books members imports keeps)
  lists shown = record {
    meta = IsPermutation-same (map meta_listed (db.trees 0)) (schema_row schema_number ∷ [])
        ours.meta;
    books = decoded_shown book_listed IsBookRow decode_book book_shown book_back books (db.trees 2)
        listed.all_books shown.each_book;
    members = decoded_shown member_cells IsMemberRow load_member member_row member_back members
        (db.trees 4) listed.all_members shown.each_member;
    imports = decoded_shown import_cells IsImportRow load_import import_row import_back imports
        (db.trees 7) listed.all_imports shown.each_import;
    keeps = decoded_shown keep_listed IsKeepRow decode_keep keep_pair keep_back keeps (db.trees 9)
        listed.all_keeps shown.each_keep;
  }

  -- the tables hold the rows
  pub rows_are_held : ObeyTables db.trees → AreWellStored limits books members imports keeps
      → HoldsRows db (decode_rows books members imports keeps)
  rows_are_held obeys w = listed_held db (decode_rows books members imports keeps) ours.schema obeys
      (lists w.shown)

  held_of_stored : ObeyTables db.trees → AreWellStored limits books members imports keeps
      → HoldsWellFormed limits db
  held_of_stored obeys w = record {
    rows = decode_rows books members imports keeps;
    holds = rows_are_held obeys w;
    well_formed = w.well_formed;
  }

  module _ (had : TableRows) (holds : HoldsRows db had) (readable : AreReadable had) where
    shown_of_held : AreTableRows books members imports keeps
    shown_of_held = record {
      each_book = rows_show book_row book_cells book_listed bare_row book_shown IsBookRow
          decode_book IsReadableBook (λ _. refl) (λ _. refl) book_shows (λ _. refl) had.books books
          (db.trees 2) holds.books listed.all_books readable.books;
      each_member = rows_show member_row member_cells member_cells whole_row member_row IsMemberRow
          load_member IsReadableMember (λ _. refl) (λ _. refl) member_shows member_loads had.members
          members (db.trees 4) holds.members listed.all_members readable.members;
      each_import = rows_show import_row import_cells import_cells whole_row import_row IsImportRow
          load_import IsReadableImport (λ _. refl) (λ _. refl) import_shows (λ _. refl) had.imports
          imports (db.trees 7) holds.imports listed.all_imports readable.imports;
      each_keep = rows_show keep_row keep_cells keep_listed bare_row keep_pair IsKeepRow decode_keep
          IsReadableKeep (λ _. refl) (λ _. refl) keep_shows (λ _. refl) had.keeps keeps (db.trees 9)
          holds.keeps listed.all_keeps readable.keeps;
    }

    same_rows : AreSame had (decode_rows books members imports keeps)
    same_rows = record {
      books = rows_same book_row book_cells book_listed bare_row book_shown IsBookRow decode_book
          IsReadableBook (λ _. refl) (λ _. refl) book_shows (λ _. refl) had.books books (db.trees 2)
          holds.books listed.all_books;
      members = rows_same member_row member_cells member_cells whole_row member_row IsMemberRow
          load_member IsReadableMember (λ _. refl) (λ _. refl) member_shows member_loads had.members
          members (db.trees 4) holds.members listed.all_members;
      imports = rows_same import_row import_cells import_cells whole_row import_row IsImportRow
          load_import IsReadableImport (λ _. refl) (λ _. refl) import_shows (λ _. refl) had.imports
          imports (db.trees 7) holds.imports listed.all_imports;
      keeps = rows_same keep_row keep_cells keep_listed bare_row keep_pair IsKeepRow decode_keep
          IsReadableKeep (λ _. refl) (λ _. refl) keep_shows (λ _. refl) had.keeps keeps (db.trees 9)
          holds.keeps listed.all_keeps;
    }

  stored_of_held : HoldsWellFormed limits db → AreWellStored limits books members imports keeps
  stored_of_held h = record {
    shown = shown_of_held h.rows h.holds h.well_formed.sound.readable;
    well_formed = well_formed_moved h.rows (decode_rows books members imports keeps)
        (same_rows h.rows h.holds h.well_formed.sound.readable) limits h.well_formed;
  }

pub well_stored_held : WellStoredAreHeld
well_stored_held limits db books members imports keeps ours listed = (
  λ both. held_of_stored limits db books members imports keeps ours listed both.0 both.1,
  λ held. (held.holds.obeys, stored_of_held limits db books members imports keeps ours listed held),
)
