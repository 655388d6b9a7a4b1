-- The page of a book at a mark, computed from its rows (RFC 6578, sections 3.2 to 3.7).
use Rattle.std.specs.Prelude.{ℕ, ◌≡◌, ◌==◌, ◌-◌, ◌<◌, ◌≤◌, min, max, Bool, true, false, ◌&&◌, ◌||◌}
use Rattle.std.specs.Prelude.{nat_lt, nat_le, List, length, take, map, filter, slice_get}
use Rattle.std.specs.Prelude.{if◌then◌else◌, Option, Some, None, is_some, Result, Ok}
use Rattle.std.specs.Option.{option_map_or}
use Rattle.std.specs.List.Sorted.{IsPermutation, IsNonDecreasingBy}
use Rattle.std.specs.FinMap as finite
use Rattle.base_types.specs.TextMaps.{text_cmp}
use Rattle.book_model.specs.declared.page.Entry.{Entry}
use Rattle.book_model.specs.declared.page.Entry.TheVariants.{Changed, Removed}
use Rattle.book_model.specs.declared.page.Page.{Page}
use Rattle.book_model.specs.declared.refusal.Refusal.{Refusal}
use Rattle.book_model.specs.declared.refusal.Refusal.TheVariants.{BadToken, BadLimit}
use Rattle.book_model.specs.declared.refusal.TokenCause.TheVariants.{OtherBook, TooNew, TooOld}
use Rattle.book_model.specs.declared.row.Row.{Row}
use Rattle.book_model.specs.declared.token.Mark.{Mark}
use Rattle.book_model.specs.declared.token.Token.{Token}
use Rattle.book_model.specs.Bounds.{Bounds}
use Rattle.book_model.specs.Books.{Book, Books, book_named}
use Rattle.book_model.specs.CallOutcomes.{◌>>=◌, refuse_unless}

-- ---- a page

pub record ReportAnswer : Type 0 where
  pub entries : List Entry
  pub mark : Mark
  pub truncated : Bool

-- the mark of a truncated page whose last entry is of the change with this number
abbrev pub mark_after : Mark → ℕ → Mark
mark_after mark number = record { at = number; base = max number mark.base }

abbrev pub page_of : ℕ → ReportAnswer → Page
page_of id answer =
    record { book = id; entries = answer.entries; mark = answer.mark; truncated = answer.truncated }

-- the token from which the next report continues
abbrev pub token_of : Page → Token
token_of page = record { book = page.book; mark = page.mark }

-- ---- due rows

-- a UID with its row
abbrev pub MemberWithRow : Type 0
MemberWithRow = List ℕ × Row

-- a row is due where it changed after `at`, and its member is live or was removed after `base`
abbrev pub is_due_row : Mark → Row → Bool
is_due_row mark row =
    nat_lt mark.at row.changed && (is_some row.card || nat_lt mark.base row.changed)

abbrev pub due_rows : finite.FinMap text_cmp Row → Mark → List MemberWithRow
due_rows members mark = filter (λ m. is_due_row mark m.1) (finite.entries members)

-- the same members, ordered by the numbers of their last changes
pub record IsOrderedByNumber (members ordered : List MemberWithRow) : Type 0 where
  pub same : IsPermutation members ordered
  pub rises : IsNonDecreasingBy (λ m. m.1.changed) ordered

abbrev pub entry_of_row : MemberWithRow → Entry
entry_of_row m = option_map_or (λ card. Changed m.0 m.1.changed card) m.1.card (Removed m.0)

abbrev pub number_at_index : List MemberWithRow → ℕ → ℕ
number_at_index ordered i = option_map_or (λ m. m.1.changed) (slice_get ordered i) 0

-- the page of the first k members, where there are more
abbrev pub truncated_answer : Mark → List MemberWithRow → ℕ → ReportAnswer
truncated_answer mark ordered k = record {
  entries = map entry_of_row (take k ordered);
  mark = mark_after mark (number_at_index ordered (k - 1));
  truncated = true;
}

-- the page of all of them
abbrev pub complete_answer : ℕ → List MemberWithRow → ReportAnswer
complete_answer number ordered = record {
  entries = map entry_of_row ordered;
  mark = record { at = number; base = number };
  truncated = false;
}

-- an accepted report request: the book, the mark, and the most entries of the page
pub record ReportRequest : Type 0 where
  pub book : Book
  pub mark : Mark
  pub size : ℕ

abbrev pub report_answer : ReportRequest → List MemberWithRow → ReportAnswer
report_answer asked ordered =
    if nat_lt asked.size (length ordered) then truncated_answer asked.mark ordered
    asked.size else complete_answer asked.book.number ordered

-- the page lists the due members with the least numbers, in order
pub record IsReport (asked : ReportRequest) (page : Page) : Type 0 where
  pub ordered : List MemberWithRow
  pub by_number : IsOrderedByNumber (due_rows asked.book.members asked.mark) ordered
  pub page_is : page ≡ page_of asked.book.id (report_answer asked ordered)

-- the rows are the first due ones, in the order of their numbers, and more are due
pub record AreFirstDueRows (asked : ReportRequest) (rows : List MemberWithRow) : Type 0 where
  pub ordered : List MemberWithRow
  pub by_number : IsOrderedByNumber (due_rows asked.book.members asked.mark) ordered
  pub first : rows ≡ take asked.size ordered
  pub some : 1 ≤ asked.size
  pub more : asked.size < length ordered

-- the rows are all due ones, in the order of their numbers, and no more than the page may list
pub record AreAllDueRows (asked : ReportRequest) (rows : List MemberWithRow) : Type 0 where
  pub by_number : IsOrderedByNumber (due_rows asked.book.members asked.mark) rows
  pub fit : length rows ≤ asked.size

-- the number of the last row, where there is one
abbrev pub last_row_number : List MemberWithRow → ℕ
last_row_number rows = number_at_index rows (length rows - 1)

-- The mark of a token in the book with this id, number and horizon. Without a token the report is
-- an initial one: nothing was synced, and no earlier removal is needed.
abbrev pub requested_mark : ℕ → ℕ → ℕ → Option Token → Result Mark Refusal
requested_mark id number horizon None = Ok (record { at = 0; base = number })
requested_mark id number horizon (Some token) = do
  own ← refuse_unless (token.book == id) (BadToken OtherBook)
  known ← refuse_unless (nat_le token.mark.at number && nat_le token.mark.base number)
      (BadToken TooNew)
  remembered ← refuse_unless (nat_le horizon token.mark.base) (BadToken TooOld)
  Ok token.mark

-- the most entries of the page: the smaller of the limit and the store's page_max
abbrev pub page_size : ℕ → Option ℕ → Result ℕ Refusal
page_size page_max None = Ok page_max
page_size page_max (Some limit) = do
  some ← refuse_unless (nat_lt 0 limit) BadLimit
  Ok (min limit page_max)

abbrev pub report_step : Bounds → Books → List ℕ → Option Token → Option ℕ
    → Result ReportRequest Refusal
report_step limits books name token limit = do
  book ← book_named books name
  mark ← requested_mark book.id book.number book.horizon token
  size ← page_size limits.page_max limit
  Ok (record { book = book; mark = mark; size = size })
