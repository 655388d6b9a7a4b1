-- Laws of the writes within one book: rows of `member`, and the book's new numbers.
use Rattle.std.specs.Prelude.{◌≡◌, ◌+◌, ℕ, ℤ, pos, false, IfSome, List, Option}
use Rattle.std.specs.Option.{option_map}
use Rattle.std.specs.Ordering.{int_eq}
use Rattle.std.specs.FinMap as finite
use Rattle.sqlite.specs.Effect.{Database}
use Rattle.sqlite_rules.specs.Lists.{Has}
use Rattle.vcard_text.specs.Cards.{IsCard, canonical_text}
use Rattle.vcard_lines.specs.declared.line.Line.{Line as CardLine}
use Rattle.book_model.specs.declared.change.Change.{Change}
use Rattle.book_model.specs.BookChanges.{card_after, book_with_row}
use Rattle.book_model.specs.Counting.{counts_after_change}
use Rattle.store_tables.specs.Books.{BookRow, Numbers, HoldBooks, with_book_numbers}
use Rattle.store_tables.specs.Members.{PutsRow}
use Rattle.store_rows.specs.Values.{text_card, IsCanonical, IsLegalUid, IsNatural}
use Rattle.store_rows.specs.TableRows.{TableRows, HoldsRows, WritesTable, put_rows, renumbered_rows}
use Rattle.store_rows.specs.TableBooks.{HeaderRow, line_row, row_book, books_of}
use Rattle.store_rows.specs.SoundTables.{AreNaturalNumbers, AreSoundRows}

-- ---- writes within one book

-- A write of the members and imports of the book with the id, before its own row is written: the
-- rows of `book` and all other books are unchanged.
pub record WritesWithin (id : ℤ) (old new : TableRows) : Type 0 where
  pub sound : AreSoundRows new
  pub books : new.books ≡ old.books
  pub others : (b : BookRow) → int_eq b.id id ≡ false → row_book new b ≡ row_book old b

-- two such writes, one after the other
abbrev pub WritesCompose : Type 0
WritesCompose = (id : ℤ) (a b c : TableRows) → WritesWithin id a b → WritesWithin id b c →
    WritesWithin id a c

-- no write at all
abbrev pub NoWriteIsWithin : Type 0
NoWriteIsWithin = (id : ℤ) (rows : TableRows) → AreSoundRows rows → WritesWithin id rows rows

-- ---- an upserted member

-- the database holds the rows with the member upserted, which is a write within its book
pub record HoldsPut (db : Database) (rows : TableRows) (b : BookRow) (uid : List ℕ) (changed : ℤ)
    (card : Option (List ℕ)) : Type 0 where
  pub id : ℤ
  pub holds : HoldsRows db (put_rows id b.id uid changed card rows)
  pub within : WritesWithin b.id rows (put_rows id b.id uid changed card rows)

abbrev pub PutsAreHeld : Type 0
PutsAreHeld = (old new : Database) (rows : TableRows) (b : BookRow) (uid : List ℕ) (changed : ℤ)
    (card : Option (List ℕ)) → HoldsRows old rows → AreSoundRows rows → Has rows.books b →
    IsLegalUid uid → IsNatural changed → IfSome card IsCanonical →
    PutsRow new.trees b.id uid changed card rows.members → WritesTable 4 old new →
    HoldsPut new rows b uid changed card

-- the UID is legal, and the text of a row is the canonical text of the change's card, or there is
-- neither
pub record IsRowOfChange (uid : List ℕ) (text : Option (List ℕ)) (change : Change) : Type 0 where
  pub legal : IsLegalUid uid
  pub canonical : IfSome text IsCanonical
  pub card : option_map text_card text ≡ card_after change

-- the header of a book after a change
abbrev pub header_after : Change → HeaderRow → HeaderRow
header_after change header = record header {
  number = header.number + 1;
  counts = counts_after_change change header.counts;
}

-- With the member upserted under the next number, the book with the header after the change is the
-- book with the row of the change. It holds whether or not the header is written yet, so many
-- members may be upserted before the book's numbers are updated once.
abbrev pub PutsAreRows : Type 0
PutsAreRows = (rows : TableRows) (name : List ℕ) (header : HeaderRow) (id : ℤ) (uid : List ℕ)
    (text : Option (List ℕ)) (change : Change) → AreSoundRows rows →
    option_map text_card text ≡ card_after change →
    row_book (put_rows id (pos header.id) uid (pos (header.number + 1)) text rows)
    (line_row name (header_after change header))
    ≡ book_with_row (row_book rows (line_row name header)) uid change

-- the canonical text of a card reads back as the card
abbrev pub CanonicalTextsAreCards : Type 0
CanonicalTextsAreCards = (card : List CardLine) → IsCard card →
    text_card (canonical_text card) ≡ card

abbrev pub CanonicalTextsAreCanonical : Type 0
CanonicalTextsAreCanonical = (card : List CardLine) → IsCard card →
    IsCanonical (canonical_text card)

-- ---- the numbers of a book

-- the database holds the rows with the book's new numbers, and they are sound
pub record HoldsRenumbered (db : Database) (rows : TableRows) (id : ℤ) (numbers : Numbers)
    : Type 0 where
  pub holds : HoldsRows db (renumbered_rows id numbers rows)
  pub sound : AreSoundRows (renumbered_rows id numbers rows)

abbrev pub RenumberingIsHeld : Type 0
RenumberingIsHeld = (old new : Database) (rows : TableRows) (id : ℤ) (numbers : Numbers) →
    HoldsRows old rows → AreSoundRows rows → AreNaturalNumbers numbers →
    HoldBooks (new.trees 2) (with_book_numbers id numbers rows.books) → WritesTable 2 old new →
    HoldsRenumbered new rows id numbers

-- Writes within one book and then its new numbers replace the book with its name; the others are
-- unchanged.
abbrev pub WritesChangeOneBook : Type 0
WritesChangeOneBook = (old new : TableRows) (b : BookRow) (numbers : Numbers) → AreSoundRows old →
    Has old.books b → WritesWithin b.id old new →
    books_of (renumbered_rows b.id numbers new)
    ≡ finite.insert (books_of old) b.name (row_book new (record b { numbers = numbers }))
