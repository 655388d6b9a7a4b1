-- The results of queries over all rows, or over all due rows.
use Rattle.std.proofs.Common.{◌≡◌, ℕ, pos, List, Result, Ok, Err, IfOk, IfErr, filter, sym, ◌∙◌}
use Rattle.sqlite.specs.Order.{Row}
use Rattle.book_model.specs.declared.answers.BookLine.{BookLine}
use Rattle.book_model.specs.declared.denied.Denied.{Denied}
use Rattle.book_model.specs.declared.page.Page.{Page}
use Rattle.book_model.specs.Books.{LiveCards}
use Rattle.book_model.specs.Pages.{ReportRequest, IsReport}
use Rattle.book_model.specs.BookQueries.{book_lines, live_cards}
use Rattle.store_tables.specs.QueryResults.{AreRowsInOrder}
use Rattle.store_tables.specs.Books.{book_shown, by_name}
use Rattle.store_tables.specs.Members.{by_changed, member_shown, is_in_book}
use Rattle.store_rows.specs.ReadLaws.{ShowLines}
use Rattle.store_rows.specs.SoundTables.{AreSoundRows}
use Rattle.store_rows.specs.TableBooks.{HeaderRow, books_of, row_book, line_row}
use Rattle.store_rows.specs.TableRows.{TableRows}
use Rattle.store_rows.proofs.CardLemmas.{members_cards}
use Rattle.store_rows.proofs.LineLemmas.{all_listed}
use Rattle.store_lookups.specs.CallResults.{FollowsStep}
use Rattle.store_lookups.specs.Faults.{IsDeniedFault}
use Rattle.store_queries.specs.internal.RowLists.{ShowCards}
use Rattle.store_queries.proofs.ResultLemmas.{fault_returned}

-- the lines of all books
pub lines_returned : {A : Type 0} (items_of : A → List BookLine) (rows : TableRows) (items :
    List Row) (r : Result A Denied) → AreSoundRows rows
    → AreRowsInOrder by_name book_shown rows.books items
    → IfOk r (λ lines. ShowLines items (items_of lines)) → IfErr r IsDeniedFault
    → FollowsStep (λ wanted lines. items_of lines ≡ wanted) r (Ok (book_lines (books_of rows)))
lines_returned items_of rows items (Ok lines) sound ordered shows fault =
    sym (all_listed rows items (items_of lines) sound ordered shows)
lines_returned items_of rows items (Err denied) sound ordered shows fault =
    fault_returned (λ wanted lines. items_of lines ≡ wanted) denied
    (Ok (book_lines (books_of rows))) fault

-- the live cards of the book with the header
pub cards_returned : {A : Type 0} (cards_of : A → LiveCards) (rows : TableRows) (name : List ℕ)
    (header : HeaderRow) (items : List Row) (r : Result A Denied) → AreSoundRows rows
    → AreRowsInOrder by_changed member_shown (filter (is_in_book (pos header.id)) rows.members)
    items → IfOk r (λ cards. ShowCards items (cards_of cards)) → IfErr r IsDeniedFault
    → FollowsStep (λ wanted cards. cards_of cards ≡ wanted) r
    (Ok (live_cards (row_book rows (line_row name header))))
cards_returned cards_of rows name header items (Ok cards) sound ordered shows fault =
    shows.cards_are ∙ members_cards rows (line_row name header) items shows.members sound ordered
    shows.shown
cards_returned cards_of rows name header items (Err denied) sound ordered shows fault =
    fault_returned (λ wanted cards. cards_of cards ≡ wanted) denied
    (Ok (live_cards (row_book rows (line_row name header)))) fault

-- the page that was asked for
pub page_returned : (asked : ReportRequest) (r : Result Page Denied) → IfOk r (IsReport asked)
    → IfErr r IsDeniedFault → FollowsStep IsReport r (Ok asked)
page_returned asked (Ok page) is fault = is
page_returned asked (Err denied) is fault = fault_returned IsReport denied (Ok asked) fault
