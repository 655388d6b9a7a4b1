-- The tests of all rows together.
use Rattle.std.proofs.Common.{◌≡◌, ◌↔◌, ℕ, ℤ, List, find, Option, Some, None, IfSome, IsTrue, Bool}
use Rattle.std.proofs.Common.{is_some, true, false, true≢false, refl, ap, sym, ◌∙◌}
use Rattle.std.specs.Option.{IsSomeAnd}
use Rattle.sqlite.specs.Order.{Row}
use Rattle.sqlite_rules.specs.Edit.{id_in}
use Rattle.sqlite_trees.proofs.ListLemmas.{all_both, all_weaker, all-map}
use Rattle.book_model.specs.Bounds.{Bounds}
use Rattle.store_tables.specs.Books.{BookRow, has_id}
use Rattle.store_tables.specs.Imports.{ImportRow}
use Rattle.store_tables.specs.Members.{MemberRow}
use Rattle.store_rows.specs.SoundTables.{AreSoundRows, AreReadable, HasBookId, IsReadableBook}
use Rattle.store_rows.specs.SoundTables.{IsReadableMember, IsReadableImport, IsReadableKeep}
use Rattle.store_rows.specs.TableRows.{TableRows, load_import}
use Rattle.store_rows.specs.Values.{IsNatural}
use Rattle.store_check.specs.BookChecks.{PassRowChecks, IsCheckedMember, IsCheckedImport, IfBook}
use Rattle.store_check.specs.RowChecks.{IsBookRow, IsImportRow, AreTableRows, HaveUniqueKeys}
use Rattle.store_check.specs.RowChecks.{AreValidRows, AreWellStored, IsBookAnd, HasNatural}
use Rattle.store_check.specs.RowChecks.{IsValidMember, int_cell, decode_book, decode_keep}
use Rattle.store_check.specs.RowChecks.{decode_rows}
use Rattle.store_check.proofs.CheckedLemmas.{rows_checked, any_found}
use Rattle.store_check.proofs.WellLemmas.{rows_well}

-- ---- rows with the columns of their table are readable

natural_is_readable : (at : ℕ) (r : Row) → HasNatural at r → IsNatural (int_cell at r)
natural_is_readable at r h = ap id_in h

book_is_readable : (r : Row) → IsBookRow r → IsReadableBook (decode_book r)
book_is_readable r h = record {
  id = natural_is_readable 0 r h.id;
  numbers = record {
    number = natural_is_readable 2 r h.number;
    horizon = natural_is_readable 3 r h.horizon;
    created = natural_is_readable 4 r h.created;
    edited = natural_is_readable 5 r h.edited;
    imported = natural_is_readable 6 r h.imported;
    import_edited = natural_is_readable 7 r h.import_edited;
    moved_in = natural_is_readable 8 r h.moved_in;
    deleted = natural_is_readable 9 r h.deleted;
    moved_out = natural_is_readable 10 r h.moved_out;
  };
}

import_is_readable : (r : Row) → IsImportRow r → IsReadableImport (load_import r)
import_is_readable r h = record {
  added = natural_is_readable 3 r h.added;
  edited = natural_is_readable 4 r h.edited;
  same = natural_is_readable 5 r h.same;
  number = natural_is_readable 6 r h.number;
}

-- ---- the book of a row

has_book : (bs : List BookRow) (id : ℤ) (P Q : BookRow → Type 0) → ((b : BookRow) → P b → Q b)
    → IsBookAnd bs id P → IfBook bs id Q
has_book bs id P Q h = go (find (has_id id) bs)
  where
    go : (o : Option BookRow) → IsSomeAnd o P → IfSome o Q
    go None k = tt
    go (Some b) k = h b k

-- a property of a row that holds for each book it could belong to
of_row : (bs : List BookRow) (id : ℤ) (P : BookRow → Type 0) (A : Type 0)
    → ((b : BookRow) → P b → A) → IsBookAnd bs id P → A
of_row bs id P A h = go (find (has_id id) bs)
  where
    go : (o : Option BookRow) → IsSomeAnd o P → A
    go None k = absurd k
    go (Some b) k = h b k

is_keep_listed : (bs : List BookRow) (id : ℤ) (P : BookRow → Type 0) → IsBookAnd bs id P
    → HasBookId bs id
is_keep_listed bs id P h = sym (any_found (has_id id) bs) ∙ go (find (has_id id) bs) h
  where
    go : (o : Option BookRow) → IsSomeAnd o P → is_some o ≡ true
    go None k = absurd k
    go (Some b) k = refl

give_book : (bs : List BookRow) (id : ℤ) (P Q : BookRow → Type 0) → ((b : BookRow) → P b → Q b)
    → HasBookId bs id → IfBook bs id P → IsBookAnd bs id Q
give_book bs id P Q h listed = go (find (has_id id) bs) (any_found (has_id id) bs ∙ listed)
  where
    go : (o : Option BookRow) → is_some o ≡ true → IfSome o P → IsSomeAnd o Q
    go None e k = absurd (true≢false (sym e))
    go (Some b) e k = h b k

-- ---- all rows

module _ (limits : Bounds) (books members imports keeps : List Row) where
  abbrev rows : TableRows
  rows = decode_rows books members imports keeps

  pub well_stored : AreTableRows books members imports keeps → HaveUniqueKeys rows
      → AreValidRows limits rows → AreWellStored limits books members imports keeps
  well_stored shown keys good = record {
    shown = shown;
    well_formed = rows_well limits rows sound checked;
  }
    where
      readable : AreReadable rows
      readable = record {
        books = all-map IsReadableBook decode_book books
            (all_weaker _ (λ r. IsReadableBook (decode_book r)) book_is_readable books
            shown.each_book);
        members = all_weaker _ IsReadableMember (λ m h. of_row rows.books m.book (IsValidMember m)
            (IsReadableMember m) (λ b g. g.readable) h) rows.members good.members;
        imports = all-map IsReadableImport load_import imports
            (all_weaker _ (λ r. IsReadableImport (load_import r)) import_is_readable imports
            shown.each_import);
        keeps = all-map IsReadableKeep decode_keep keeps
            (all_weaker _ (λ r. IsReadableKeep (decode_keep r)) (λ r h. natural_is_readable 1 r
            h.keep) keeps shown.each_keep);
      }

      sound : AreSoundRows rows
      sound = record {
        books = keys.books;
        members = keys.members;
        imports = keys.imports;
        keeps = keys.keeps;
        listed_members = all_weaker _ (λ (m : MemberRow). HasBookId rows.books m.book)
            (λ m h. is_keep_listed rows.books m.book (IsValidMember m) h) rows.members good.members;
        listed_imports = all_weaker _ (λ (i : ImportRow). HasBookId rows.books i.book)
            (λ i h. is_keep_listed rows.books i.book (IsCheckedImport i) h) rows.imports
            good.imports;
        listed_keeps = good.keeps;
        readable = readable;
      }

      checked : PassRowChecks limits rows
      checked = record {
        few = good.few;
        books = good.books;
        members = all_weaker _ (λ (m : MemberRow). IfBook rows.books m.book (IsCheckedMember m))
            (λ m h. has_book rows.books m.book (IsValidMember m) (IsCheckedMember m)
            (λ b g. g.checked) h) rows.members good.members;
        apart = keys.apart;
        imports = all_weaker _ (λ (i : ImportRow). IfBook rows.books i.book (IsCheckedImport i))
            (λ i h. has_book rows.books i.book (IsCheckedImport i) (IsCheckedImport i) (λ b g. g) h)
            rows.imports good.imports;
      }

  pub keys_of_stored : AreWellStored limits books members imports keeps → HaveUniqueKeys rows
  keys_of_stored w = record {
    books = w.well_formed.sound.books;
    members = w.well_formed.sound.members;
    apart = (rows_checked limits rows w.well_formed).apart;
    imports = w.well_formed.sound.imports;
    keeps = w.well_formed.sound.keeps;
  }

  pub good_of_stored : AreWellStored limits books members imports keeps → AreValidRows limits rows
  good_of_stored w =
      let c = rows_checked limits rows w.well_formed in
      let listed = w.well_formed.sound in
      record {
        few = c.few;
        books = c.books;
        members = all_both (λ (m : MemberRow). HasBookId rows.books m.book × IsReadableMember m)
            (λ (m : MemberRow). IfBook rows.books m.book (IsCheckedMember m))
            (λ (m : MemberRow). IsBookAnd rows.books m.book (IsValidMember m))
            (λ m h k. give_book rows.books m.book (IsCheckedMember m) (IsValidMember m)
            (λ b g. record { readable = h.1; checked = g }) h.0 k) rows.members
            (all_both (λ (m : MemberRow). HasBookId rows.books m.book) IsReadableMember
            (λ (m : MemberRow). HasBookId rows.books m.book × IsReadableMember m)
            (λ m h k. (h, k)) rows.members listed.listed_members
            w.well_formed.sound.readable.members) c.members;
        imports = all_both (λ (i : ImportRow). HasBookId rows.books i.book)
            (λ (i : ImportRow). IfBook rows.books i.book (IsCheckedImport i))
            (λ (i : ImportRow). IsBookAnd rows.books i.book (IsCheckedImport i))
            (λ i h k. give_book rows.books i.book (IsCheckedImport i) (IsCheckedImport i) (λ b g. g)
            h k) rows.imports listed.listed_imports c.imports;
        keeps = listed.listed_keeps;
      }

  -- rows without unique keys are not well stored
  pub no_keys : (returned : Bool) → (IsTrue returned ↔ HaveUniqueKeys rows) → returned ≡ false
      → IsTrue false ↔ AreWellStored limits books members imports keeps
  no_keys returned h is = (λ t. absurd (true≢false (sym t)), λ w. sym is ∙ h.1 (keys_of_stored w))

  -- rows with unique keys are well stored if they pass their tests
  pub good_is_stored : (returned : Bool) → AreTableRows books members imports keeps
      → HaveUniqueKeys rows → (IsTrue returned ↔ AreValidRows limits rows)
      → IsTrue returned ↔ AreWellStored limits books members imports keeps
  good_is_stored returned shown keys h =
      (λ t. well_stored shown keys (h.0 t), λ w. h.1 (good_of_stored w))
