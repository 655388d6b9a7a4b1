-- Laws of sorted queries: due members, the cards of a book, and all books.
use Rattle.std.specs.Prelude.{◌≡◌, ◌<◌, ◌≤◌, ◌+◌, ⊤, ℕ, pos, List, [], ◌∷◌, filter, length, take}
use Rattle.std.specs.Prelude.{fold}
use Rattle.std.specs.FinMap as finite
use Rattle.sqlite.specs.declared.types.Value.TheVariants.{Int, Text}
use Rattle.sqlite.specs.Order.{Row, column}
use Rattle.book_model.specs.declared.answers.BookLine.{BookLine}
use Rattle.book_model.specs.declared.token.Mark.{Mark}
use Rattle.book_model.specs.Pages.{MemberWithRow, ReportRequest, AreFirstDueRows, AreAllDueRows}
use Rattle.book_model.specs.BookQueries.{book_lines, live_cards, with_live}
use Rattle.store_tables.specs.QueryResults.{AreRowsInOrder, AreFirstRowsInOrder, count_value}
use Rattle.store_tables.specs.Books.{BookRow, book_shown, by_name}
use Rattle.store_tables.specs.Members.{by_changed, member_shown, is_member_due, is_in_book}
use Rattle.store_rows.specs.ShownRows.{ShowMembers, ShowsCount}
use Rattle.store_rows.specs.SoundTables.{AreSoundRows}
use Rattle.store_rows.specs.TableBooks.{HeaderRow, line_row, row_book, books_of}
use Rattle.store_rows.specs.TableRows.{TableRows}

-- ---- the due rows of a report

-- the request of a report, for the book of a row
abbrev pub request_of : TableRows → List ℕ → HeaderRow → Mark → ℕ → ReportRequest
request_of rows name header mark size =
    record { book = row_book rows (line_row name header); mark = mark; size = size }

-- the rows are the first due members of the book, at most one more than the page size
abbrev pub AreFirstDue : TableRows → HeaderRow → Mark → ℕ → List Row → Type 0
AreFirstDue rows header mark size items = AreFirstRowsInOrder by_changed member_shown (size + 1)
    (filter (is_member_due (pos header.id) (pos mark.at) (pos mark.base)) rows.members) items

-- if there is one row more than the page size, the others are the first of more due members
abbrev pub MoreAreFirst : Type 0
MoreAreFirst = (rows : TableRows) (name : List ℕ) (header : HeaderRow) (mark : Mark) (size : ℕ)
    (items : List Row) (members : List MemberWithRow) → AreSoundRows rows →
    AreFirstDue rows header mark size items → 1 ≤ size → size < length items →
    ShowMembers (take size items) members →
    AreFirstDueRows (request_of rows name header mark size) members

-- otherwise they are all due members
abbrev pub NoMoreAreAll : Type 0
NoMoreAreAll = (rows : TableRows) (name : List ℕ) (header : HeaderRow) (mark : Mark) (size : ℕ)
    (items : List Row) (members : List MemberWithRow) → AreSoundRows rows →
    AreFirstDue rows header mark size items → length items ≤ size →
    ShowMembers items members → AreAllDueRows (request_of rows name header mark size) members

-- ---- all cards of a book

-- the live members, added to a map one after another, are the book's cards
abbrev pub MembersAreCards : Type 0
MembersAreCards =
    (rows : TableRows) (b : BookRow) (items : List Row) (members : List MemberWithRow) →
    AreSoundRows rows
    → AreRowsInOrder by_changed member_shown (filter (is_in_book b.id) rows.members) items →
    ShowMembers items members →
    fold with_live finite.empty members ≡ live_cards (row_book rows b)

-- ---- all books

-- the id, the name, the number and the horizon
pub record ShowsLine (row : Row) (line : BookLine) : Type 0 where
  pub id : column row 0 ≡ Int (pos line.id)
  pub name_is : column row 1 ≡ Text line.name
  pub number : column row 2 ≡ Int (pos line.number)
  pub horizon : column row 3 ≡ Int (pos line.horizon)

-- each row has a book's line
abbrev pub ShowLines : List Row → List BookLine → Type 0
ShowLines [] [] = ⊤
ShowLines [] (line ∷ lines) = ⊥
ShowLines (row ∷ rows) [] = ⊥
ShowLines (row ∷ rows) (line ∷ lines) = ShowsLine row line × ShowLines rows lines

abbrev pub AllBooksAreListed : Type 0
AllBooksAreListed = (rows : TableRows) (items : List Row) (lines : List BookLine) →
    AreSoundRows rows → AreRowsInOrder by_name book_shown rows.books items → ShowLines items lines →
    book_lines (books_of rows) ≡ lines

-- the count is the number of books
abbrev pub AllBooksAreCounted : Type 0
AllBooksAreCounted = (rows : TableRows) (row : Row) (n : ℕ) → AreSoundRows rows →
    row ≡ count_value (length rows.books) ∷ [] → ShowsCount row n →
    finite.len (books_of rows) ≡ n
