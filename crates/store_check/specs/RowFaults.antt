-- Which rows are faulty, and why. Each fault means that a test of `RowChecks` fails.
use Rattle.std.specs.Prelude.{◌≡◌, ◌+◌, ◌<◌, ◌≤◌, ℕ, ℤ, false, List, [], Option, Some, None}
use Rattle.std.specs.Prelude.{IfSome}
use Rattle.std.specs.Prelude.{filter, find, length, map}
use Rattle.std.specs.Option.{option_map_or}
use Rattle.sqlite.specs.Order.{Row}
use Rattle.sqlite_rules.specs.Lists.{Has}
use Rattle.vcard_text.specs.Cards.{uid_of}
use Rattle.book_model.specs.Bounds.{Bounds}
use Rattle.book_model.specs.BookNames.{is_legal_name}
use Rattle.book_model.specs.Counting.{arrived_cards, departed_cards}
use Rattle.book_model.specs.Importing.{is_legal_key}
use Rattle.store_tables.specs.Books.{BookRow, has_id}
use Rattle.store_tables.specs.Keeps.{KeepRow}
use Rattle.store_tables.specs.Members.{MemberRow, is_removed_above}
use Rattle.store_rows.specs.TableBooks.{keep_of_book, row_counts}
use Rattle.store_rows.specs.TableRows.{load_import, load_member}
use Rattle.store_rows.specs.Values.{IsCanonical, IsLegalUid, natural, text_card}
use Rattle.store_check.specs.BookChecks.{AgreesWithMembers, HasValidNumbers, IsCheckedBook}
use Rattle.store_check.specs.BookChecks.{IsCheckedImport, IsIdUpTo, is_live_in}
use Rattle.store_check.specs.RowChecks.{IsBookAnd, IsBookRow, IsImportRow, IsKeepRow, IsMemberRow}
use Rattle.store_check.specs.RowChecks.{IsOwnCard, IsValidMember, decode_book, decode_keep}
use Rattle.store_check.specs.RowChecks.{int_cell, text_cell}
use Rattle.store_check.specs.declared.faults.BookFault.{BookFault}
use Rattle.store_check.specs.declared.faults.BookFault.TheVariants as book
use Rattle.store_check.specs.declared.faults.FaultyRow.{FaultyRow}
use Rattle.store_check.specs.declared.faults.ImportFault.{ImportFault}
use Rattle.store_check.specs.declared.faults.ImportFault.TheVariants as import_of
use Rattle.store_check.specs.declared.faults.KeepFault.{KeepFault}
use Rattle.store_check.specs.declared.faults.KeepFault.TheVariants as keep_of
use Rattle.store_check.specs.declared.faults.MemberFault.{MemberFault}
use Rattle.store_check.specs.declared.faults.MemberFault.TheVariants as member
use Rattle.store_check.specs.declared.faults.RowFault.{RowFault}
use Rattle.store_check.specs.declared.faults.RowFault.TheVariants as table

-- ---- a book

-- the keep is at least 1 and no less than the number of tombstones
abbrev pub KeepsTombstones : List MemberRow → List KeepRow → BookRow → Type 0
KeepsTombstones members keeps b = (1 ≤ keep_of_book b.id keeps)
    × (length (filter (is_removed_above b.id b.numbers.horizon) members) ≤ keep_of_book b.id keeps)

-- the live members are as many as were added minus those that left
abbrev pub HasCountedCards : List MemberRow → BookRow → Type 0
HasCountedCards members b =
    length (filter (is_live_in b.id) members) + departed_cards (row_counts b.numbers)
    ≡ arrived_cards (row_counts b.numbers)

-- the row has the fault, given the number of books and the members and keeps of all books
abbrev pub HasBookFault : Bounds → ℕ → List MemberRow → List KeepRow → Row → BookFault → Type 0
HasBookFault limits books members keeps r book.Columns = ¬ IsBookRow r
HasBookFault limits books members keeps r book.TooMany = limits.books_max < books
HasBookFault limits books members keeps r book.Id = ¬ IsIdUpTo books (natural (int_cell 0 r))
HasBookFault limits books members keeps r book.Name = is_legal_name (text_cell 1 r) ≡ false
HasBookFault limits books members keeps r book.Numbers = ¬ HasValidNumbers limits (decode_book r)
HasBookFault limits books members keeps r book.Keep =
    ¬ KeepsTombstones members keeps (decode_book r)
HasBookFault limits books members keeps r book.Cards = ¬ HasCountedCards members (decode_book r)

-- the row's fault, if it has one; else the book agrees with its members, or passes all its tests
abbrev pub JudgesMembers : List MemberRow → List KeepRow → Row → Option BookFault → Type 0
JudgesMembers members keeps r None = AgreesWithMembers members keeps (decode_book r)
JudgesMembers members keeps r (Some fault) = ¬ AgreesWithMembers members keeps (decode_book r)
    × ((limits : Bounds) (books : ℕ) → HasBookFault limits books members keeps r fault)

abbrev pub JudgesBook : Bounds → ℕ → List MemberRow → List KeepRow → Row → Option BookFault
    → Type 0
JudgesBook limits books members keeps r None =
    IsCheckedBook limits books members keeps (decode_book r)
JudgesBook limits books members keeps r (Some fault) =
    ¬ IsCheckedBook limits books members keeps (decode_book r)
    × HasBookFault limits books members keeps r fault

-- ---- a member of one of the books

-- the member was written by one of the book's changes
abbrev pub IsChangeOf : MemberRow → BookRow → Type 0
IsChangeOf m b = (1 ≤ natural m.changed) × (natural m.changed ≤ natural b.numbers.number)

-- the row has the fault, given the books
abbrev pub HasMemberFault : List BookRow → Row → MemberFault → Type 0
HasMemberFault books r member.Columns = ¬ IsMemberRow r
HasMemberFault books r member.NoBook = find (has_id (load_member r).book) books ≡ None
HasMemberFault books r member.Number =
    IsBookAnd books (load_member r).book (λ b. ¬ IsChangeOf (load_member r) b)
HasMemberFault books r member.Card = ¬ IfSome (load_member r).card IsCanonical
HasMemberFault books r member.Uid = IsLegalUid (load_member r).uid →
    ¬ IfSome (load_member r).card (λ text. uid_of (text_card text) ≡ (load_member r).uid)
HasMemberFault books r member.Tombstone = ((load_member r).card ≡ None)
    × IsBookAnd books (load_member r).book
    (λ b. natural (load_member r).changed ≤ natural b.numbers.horizon)

-- the card's fault, if it has one; else the text is canonical and has the UID
abbrev pub JudgesCard : List ℕ → List ℕ → Option MemberFault → Type 0
JudgesCard text uid None = IsOwnCard text uid
JudgesCard text uid (Some fault) = (books : List BookRow) (r : Row) →
    (load_member r).card ≡ Some text → (load_member r).uid ≡ uid → HasMemberFault books r fault

-- the member's fault in this book, if it has one; else it is valid there
abbrev pub JudgesMemberOf : Row → BookRow → Option MemberFault → Type 0
JudgesMemberOf r b None = IsValidMember (load_member r) b
JudgesMemberOf r b (Some fault) =
    (books : List BookRow) → find (has_id (load_member r).book) books ≡ Some b →
    HasMemberFault books r fault

-- the member's fault, if it has one; else its book is listed and it is valid there
abbrev pub JudgesMember : List BookRow → Row → Option MemberFault → Type 0
JudgesMember books r None =
    IsBookAnd books (load_member r).book (IsValidMember (load_member r))
JudgesMember books r (Some fault) = HasMemberFault books r fault

-- ---- an import and a keep of one of the books

abbrev pub HasImportFault : List BookRow → Row → ImportFault → Type 0
HasImportFault books r import_of.Columns = ¬ IsImportRow r
HasImportFault books r import_of.NoBook = find (has_id (load_import r).book) books ≡ None
HasImportFault books r import_of.Key = is_legal_key (text_cell 2 r) ≡ false
HasImportFault books r import_of.Number = IsBookAnd books (load_import r).book
    (λ b. natural b.numbers.number < natural (load_import r).number)

-- the import's fault in this book, if it has one; else it is valid there
abbrev pub JudgesImportOf : Row → BookRow → Option ImportFault → Type 0
JudgesImportOf r b None = IsCheckedImport (load_import r) b
JudgesImportOf r b (Some fault) = ¬ IsCheckedImport (load_import r) b
    × ((books : List BookRow) → find (has_id (load_import r).book) books ≡ Some b →
    HasImportFault books r fault)

-- the import's fault, if it has one; else its book is listed and it is valid there
abbrev pub JudgesImport : List BookRow → Row → Option ImportFault → Type 0
JudgesImport books r None =
    IsBookAnd books (load_import r).book (IsCheckedImport (load_import r))
JudgesImport books r (Some fault) =
    ¬ IsBookAnd books (load_import r).book (IsCheckedImport (load_import r))
    × HasImportFault books r fault

abbrev pub HasKeepFault : List BookRow → Row → KeepFault → Type 0
HasKeepFault books r keep_of.Columns = ¬ IsKeepRow r
HasKeepFault books r keep_of.NoBook = find (has_id (decode_keep r).book) books ≡ None

-- ---- any row

-- the row has the fault, given the rows of books, members and keeps
abbrev pub HasFault : Bounds → List Row → List Row → List Row → Row → RowFault → Type 0
HasFault limits books members keeps r (table.Book fault) =
    HasBookFault limits (length books) (map load_member members) (map decode_keep keeps) r fault
HasFault limits books members keeps r (table.Member fault) =
    HasMemberFault (map decode_book books) r fault
HasFault limits books members keeps r (table.Import fault) =
    HasImportFault (map decode_book books) r fault
HasFault limits books members keeps r (table.Keep fault) =
    HasKeepFault (map decode_book books) r fault

-- the rows of the table that the fault is of
abbrev pub rows_of_table : List Row → List Row → List Row → List Row → RowFault → List Row
rows_of_table books members imports keeps (table.Book fault) = books
rows_of_table books members imports keeps (table.Member fault) = members
rows_of_table books members imports keeps (table.Import fault) = imports
rows_of_table books members imports keeps (table.Keep fault) = keeps

-- the row is one of these rows of its table, and has the fault
abbrev pub IsAmong : Bounds → List Row → List Row → List Row → List Row → Row → RowFault → Type 0
IsAmong limits books members imports keeps r fault =
    Has (rows_of_table books members imports keeps fault) r
    × HasFault limits books members keeps r fault

-- the name of the book with the id; empty if there is none
abbrev pub name_in : List Row → ℤ → List ℕ
name_in books id = option_map_or (λ b. b.name) (find (has_id id) (map decode_book books)) []

-- the name of the book, or of the row's book; a keep's row id is that of its book
abbrev pub book_label : List Row → Row → RowFault → List ℕ
book_label books r (table.Book fault) = text_cell 1 r
book_label books r (table.Member fault) = name_in books (int_cell 1 r)
book_label books r (table.Import fault) = name_in books (int_cell 1 r)
book_label books r (table.Keep fault) = name_in books (int_cell 0 r)

-- the UID of a member or the key of an import
abbrev pub key_label : Row → RowFault → List ℕ
key_label r (table.Book fault) = []
key_label r (table.Member fault) = text_cell 2 r
key_label r (table.Import fault) = text_cell 2 r
key_label r (table.Keep fault) = []

-- the row's id, its labels and this fault
pub record IsLabelled (books : List Row) (r : Row) (fault : RowFault) (f : FaultyRow)
    : Type 0 where
  pub id : f.row ≡ int_cell 0 r
  pub book : f.book.items ≡ book_label books r fault
  pub key : f.key.items ≡ key_label r fault
  pub fault_is : f.fault ≡ fault

-- one of these rows of the four tables has the fault
pub record IsFaultyRow (limits : Bounds) (books members imports keeps : List Row) (f : FaultyRow)
    : Type 0 where
  pub row : Row
  pub among : IsAmong limits books members imports keeps row f.fault
  pub label : IsLabelled books row f.fault f

-- the row is labelled, and has this fault
pub record IsFaultyMember (books : List Row) (r : Row) (f : FaultyRow) : Type 0 where
  pub fault : MemberFault
  pub has : HasMemberFault (map decode_book books) r fault
  pub label : IsLabelled books r (table.Member fault) f
