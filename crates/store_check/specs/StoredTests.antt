-- The tests of all rows, of which those of the members can be made one row at a time.
use Rattle.std.specs.Prelude.{◌↔◌, ◌≤◌, List, length, map}
use Rattle.std.specs.List.{AllByRecursion}
use Rattle.sqlite.specs.Order.{Row}
use Rattle.book_model.specs.Bounds.{Bounds}
use Rattle.store_tables.specs.Books.{AreBooks}
use Rattle.store_tables.specs.Imports.{AreImports}
use Rattle.store_tables.specs.Keeps.{AreKeeps}
use Rattle.store_tables.specs.Members.{AreMembers}
use Rattle.store_rows.specs.SoundTables.{HasBookId}
use Rattle.store_rows.specs.TableRows.{load_import, load_member}
use Rattle.store_check.specs.BookChecks.{AreCheckedBooks, HaveDistinctChanges}
use Rattle.store_check.specs.MemberTallies.{IsGoodMember}
use Rattle.store_check.specs.RowChecks.{AreValidImports, AreWellStored, IsBookRow, IsImportRow}
use Rattle.store_check.specs.RowChecks.{IsKeepRow, decode_book, decode_keep}

-- the tests of the rows of books, imports and keeps, which need no member
pub record PassBookTests (limits : Bounds) (books imports keeps : List Row) : Type 0 where
  pub each_book : AllByRecursion IsBookRow books
  pub each_import : AllByRecursion IsImportRow imports
  pub each_keep : AllByRecursion IsKeepRow keeps
  pub book_keys : AreBooks (map decode_book books)
  pub import_keys : AreImports (map load_import imports)
  pub keep_keys : AreKeeps (map decode_keep keeps)
  pub few : length (map decode_book books) ≤ limits.books_max
  pub valid_imports : AreValidImports (map decode_book books) (map load_import imports)
  pub listed_keeps : AllByRecursion (λ k. HasBookId (map decode_book books) k.book)
      (map decode_keep keeps)

-- the same but for the keys
pub record PassRowTests (limits : Bounds) (books imports keeps : List Row) : Type 0 where
  pub each_book : AllByRecursion IsBookRow books
  pub each_import : AllByRecursion IsImportRow imports
  pub each_keep : AllByRecursion IsKeepRow keeps
  pub few : length (map decode_book books) ≤ limits.books_max
  pub valid_imports : AreValidImports (map decode_book books) (map load_import imports)
  pub listed_keeps : AllByRecursion (λ k. HasBookId (map decode_book books) k.book)
      (map decode_keep keeps)

-- the keys of the members are unique, and no change of a book wrote two members
pub record HaveMemberKeys (members : List Row) : Type 0 where
  pub keys : AreMembers (map load_member members)
  pub apart : HaveDistinctChanges (map load_member members)

-- each member is good, and each book agrees with its members
pub record PassMemberTests (limits : Bounds) (books members keeps : List Row) : Type 0 where
  pub good : AllByRecursion (IsGoodMember (map decode_book books)) members
  pub checked : AreCheckedBooks limits (map load_member members) (map decode_keep keeps)
      (map decode_book books)

-- all tests
pub record PassAllTests (limits : Bounds) (books members imports keeps : List Row) : Type 0 where
  pub own : PassBookTests limits books imports keeps
  pub keys : HaveMemberKeys members
  pub passed : PassMemberTests limits books members keeps

-- Rows are well stored exactly if they pass all tests.
abbrev pub StoredPassTests : Type 0
StoredPassTests = (limits : Bounds) (books members imports keeps : List Row) →
    PassAllTests limits books members imports keeps
    ↔ AreWellStored limits books members imports keeps
