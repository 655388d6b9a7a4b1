-- Each call that only reads returns the same from rows as from histories.
use Rattle.std.specs.Prelude.{Option, ℕ, ◌≡◌, List}
use Rattle.book_model.specs.declared.token.Token.{Token}
use Rattle.book_model.specs.Importing.{kept_import_step}
use Rattle.book_model.specs.BookQueries.{book_lines, book_line_step, get_step, cards_step}
use Rattle.book_model.specs.BookQueries.{tally_step}
use Rattle.book_laws.specs.StoreHistories.{BookHistories, AreSoundHistories, StoreHistory, rows_of}
use Rattle.book_laws.specs.HistoryQueries.{books_on_histories, book_line_on_histories}
use Rattle.book_laws.specs.HistoryQueries.{get_on_histories, cards_on_histories}
use Rattle.book_laws.specs.HistoryQueries.{kept_import_on_histories, tally_on_histories}
use Rattle.book_laws.specs.HistorySteps.{report_on_histories}
use Rattle.book_laws.specs.Refinement.{PagesRefineHistories}
use Rattle.book_model.specs.Pages.{report_step}

abbrev pub BooksRefine : Type 0
BooksRefine =
    (histories : BookHistories) → book_lines (rows_of histories) ≡ books_on_histories histories

abbrev pub BookLinesRefine : Type 0
BookLinesRefine = (histories : BookHistories) (name : List ℕ) →
    book_line_step (rows_of histories) name ≡ book_line_on_histories histories name

abbrev pub GetRefines : Type 0
GetRefines = (histories : BookHistories) (name uid : List ℕ) →
    get_step (rows_of histories) name uid ≡ get_on_histories histories name uid

abbrev pub CardsRefine : Type 0
CardsRefine = (histories : BookHistories) (name : List ℕ) →
    cards_step (rows_of histories) name ≡ cards_on_histories histories name

abbrev pub KeptImportsRefine : Type 0
KeptImportsRefine = (histories : BookHistories) (name key : List ℕ) →
    kept_import_step (rows_of histories) name key ≡ kept_import_on_histories histories name key

abbrev pub TalliesRefine : Type 0
TalliesRefine = (histories : BookHistories) (name : List ℕ) → AreSoundHistories histories →
    tally_step (rows_of histories) name ≡ tally_on_histories histories name

abbrev pub ReportsRefine : Type 0
ReportsRefine = (store : StoreHistory) (name : List ℕ) (token : Option Token) (limit : Option ℕ) →
    AreSoundHistories store.books →
    PagesRefineHistories (report_step store.limits (rows_of store.books) name token limit)
    (report_on_histories store.limits store.books name token limit)
