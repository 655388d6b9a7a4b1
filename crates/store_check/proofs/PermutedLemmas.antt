-- Permuted rows: a property of the rows in one order holds in each order.
use Rattle.std.proofs.Common.{◌≡◌, ℤ, false, ◌&&◌, int_eq, sym, ap₂, subst, ◌∙◌}
use Rattle.std.proofs.lemmas.List.Sorted.{list_any-IsPermutation}
use Rattle.sqlite_trees.proofs.ListLemmas.{all-permutation, all_weaker}
use Rattle.book_model.specs.Bounds.{Bounds}
use Rattle.book_model.specs.WellFormed.{IsWellFormed}
use Rattle.store_tables.specs.Books.{BookRow, has_id, has_name}
use Rattle.store_tables.specs.Imports.{ImportRow, has_key}
use Rattle.store_tables.specs.Keeps.{KeepRow}
use Rattle.store_tables.specs.Members.{MemberRow, has_uid}
use Rattle.store_rows.specs.SoundTables.{AreSoundRows, AreReadable, AreWellFormed, HasBookId}
use Rattle.store_rows.specs.SoundTables.{IsReadableBook, IsReadableMember, IsReadableImport}
use Rattle.store_rows.specs.SoundTables.{IsReadableKeep}
use Rattle.store_rows.specs.TableRows.{TableRows}
use Rattle.store_rows.proofs.ApartLemmas.{apart_moved}
use Rattle.store_rows.proofs.HeldRows.{same_books}
use Rattle.store_rows.proofs.KeyedEntries.{text_turned}
use Rattle.store_rows.proofs.RowLemmas.{AreSame, int_turned}

-- ---- sound rows

abbrev BooksApart : BookRow → BookRow → Type 0
BooksApart a b = (int_eq a.id b.id ≡ false) × (has_name a.name b ≡ false)

books_turned : (a b : BookRow) → BooksApart a b → BooksApart b a
books_turned a b h = (int_turned b.id a.id ∙ h.0, text_turned a.name b.name ∙ h.1)

abbrev MembersApart : MemberRow → MemberRow → Type 0
MembersApart a b = (int_eq a.id b.id ≡ false) × (has_uid a.book a.uid b ≡ false)

members_turned : (a b : MemberRow) → MembersApart a b → MembersApart b a
members_turned a b h = (
  int_turned b.id a.id ∙ h.0,
  ap₂ (λ s t. s && t) (int_turned a.book b.book)
      (text_turned a.uid b.uid) ∙ h.1,
)

abbrev ImportsApart : ImportRow → ImportRow → Type 0
ImportsApart a b = (int_eq a.id b.id ≡ false) × (has_key a.book a.key b ≡ false)

imports_turned : (a b : ImportRow) → ImportsApart a b → ImportsApart b a
imports_turned a b h = (
  int_turned b.id a.id ∙ h.0,
  ap₂ (λ s t. s && t) (int_turned a.book b.book)
      (text_turned a.key b.key) ∙ h.1,
)

abbrev KeepsApart : KeepRow → KeepRow → Type 0
KeepsApart a b = int_eq a.book b.book ≡ false

keeps_turned : (a b : KeepRow) → KeepsApart a b → KeepsApart b a
keeps_turned a b h = int_turned b.book a.book ∙ h

module _ (a b : TableRows) (same : AreSame a b) where
  still_listed : (id : ℤ) → HasBookId a.books id → HasBookId b.books id
  still_listed id h = sym (list_any-IsPermutation (has_id id) a.books b.books same.books) ∙ h

  readable_moved : AreReadable a → AreReadable b
  readable_moved h = record {
    books = all-permutation IsReadableBook a.books b.books same.books h.books;
    members = all-permutation IsReadableMember a.members b.members same.members h.members;
    imports = all-permutation IsReadableImport a.imports b.imports same.imports h.imports;
    keeps = all-permutation IsReadableKeep a.keeps b.keeps same.keeps h.keeps;
  }

  pub sound_moved : AreSoundRows a → AreSoundRows b
  sound_moved sound = record {
    books = apart_moved BooksApart books_turned a.books b.books same.books sound.books;
    members = apart_moved MembersApart members_turned a.members b.members same.members
        sound.members;
    imports = apart_moved ImportsApart imports_turned a.imports b.imports same.imports
        sound.imports;
    keeps = apart_moved KeepsApart keeps_turned a.keeps b.keeps same.keeps sound.keeps;
    listed_members = all-permutation (λ (m : MemberRow). HasBookId b.books m.book) a.members
        b.members same.members
        (all_weaker (λ (m : MemberRow). HasBookId a.books m.book) (λ (m : MemberRow). HasBookId
        b.books m.book) (λ m h. still_listed m.book h) a.members sound.listed_members);
    listed_imports = all-permutation (λ (i : ImportRow). HasBookId b.books i.book) a.imports
        b.imports same.imports
        (all_weaker (λ (i : ImportRow). HasBookId a.books i.book) (λ (i : ImportRow). HasBookId
        b.books i.book) (λ i h. still_listed i.book h) a.imports sound.listed_imports);
    listed_keeps = all-permutation (λ (k : KeepRow). HasBookId b.books k.book) a.keeps b.keeps
        same.keeps
        (all_weaker (λ (k : KeepRow). HasBookId a.books k.book) (λ (k : KeepRow). HasBookId b.books
        k.book) (λ k h. still_listed k.book h) a.keeps sound.listed_keeps);
    readable = readable_moved sound.readable;
  }

  pub well_formed_moved : (limits : Bounds) → AreWellFormed limits a → AreWellFormed limits b
  well_formed_moved limits w = record {
    sound = sound_moved w.sound;
    books = subst (IsWellFormed limits) (same_books a b w.sound same) w.books;
  }
