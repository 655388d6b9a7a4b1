-- The values in lists of rows.
use Rattle.std.specs.Prelude.{◌≡◌, ℕ, List, map, fold}
use Rattle.std.specs.FinMap as finite
use Rattle.sqlite.specs.Order.{Row}
use Rattle.book_model.specs.declared.page.Entry.{Entry}
use Rattle.book_model.specs.Books.{LiveCards}
use Rattle.book_model.specs.Pages.{MemberWithRow, entry_of_row, last_row_number}
use Rattle.book_model.specs.BookQueries.{with_live}
use Rattle.store_rows.specs.ShownRows.{ShowMembers}

-- the cards of the live members in the rows
pub record ShowCards (rows : List Row) (cards : LiveCards) : Type 0 where
  pub members : List MemberWithRow
  pub shown : ShowMembers rows members
  pub cards_are : cards ≡ fold with_live finite.empty members

-- the page entries of the members in the rows, and the number of the last member
pub record ShowEntries (rows : List Row) (entries : List Entry) (last : ℕ) : Type 0 where
  pub members : List MemberWithRow
  pub shown : ShowMembers rows members
  pub entries_are : entries ≡ map entry_of_row members
  pub last_is : last ≡ last_row_number members
