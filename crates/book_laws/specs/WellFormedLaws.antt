-- The books of a store stay well formed, whatever calls are made.
use Rattle.std.specs.Prelude.{ℕ, ◌≡◌, ◌≢◌, ◌≤◌, IfOk, List, Option, Some, Result, Ok, Err}
use Rattle.std.specs.FinMap as finite
use Rattle.vcard_lines.specs.declared.line.Line.{Line}
use Rattle.book_model.specs.declared.page.Page.{Page}
use Rattle.book_model.specs.declared.refusal.Refusal.{Refusal}
use Rattle.book_model.specs.declared.refusal.Refusal.TheVariants.{BadToken}
use Rattle.book_model.specs.declared.refusal.TokenCause.TheVariants.{OtherBook}
use Rattle.book_model.specs.declared.token.Token.{Token}
use Rattle.book_model.specs.Bounds.{Bounds, IsInRange}
use Rattle.book_model.specs.Books.{Book, Books}
use Rattle.book_model.specs.Creating.{create_step}
use Rattle.book_model.specs.Forgetting.{forget_step}
use Rattle.book_model.specs.Importing.{import_step}
use Rattle.book_model.specs.Moving.{move_step}
use Rattle.book_model.specs.Pages.{ReportRequest, IsReport, report_step}
use Rattle.book_model.specs.Putting.{put_step}
use Rattle.book_model.specs.Removing.{remove_step}
use Rattle.book_model.specs.WellFormed.{IsWellFormed}
use Rattle.book_laws.specs.Calls.{Call}
use Rattle.book_laws.specs.RowsAfterCalls.{rows_after_calls}
use Rattle.book_laws.specs.WellFormedPages.{IsPageOfBook, HasShortNumbers}

abbrev pub EmptyStoresAreWellFormed : Type 0
EmptyStoresAreWellFormed = (limits : Bounds) → IsWellFormed limits finite.empty

-- the books after a step are well formed, where it isn't refused
abbrev pub LeavesWellFormed : {A : Type 0} → Bounds → Result (A × Books) Refusal → Type 0
LeavesWellFormed limits step = IfOk step (λ done. IsWellFormed limits done.1)

-- ---- each step that changes books keeps them well formed

-- These limits allow no more changes and no more books than the others. So the books of a store with
-- them are well formed by the others too, as an opening tests it.
pub record AreWithin (limits most : Bounds) : Type 0 where
  pub changes : limits.changes_max ≤ most.changes_max
  pub books : limits.books_max ≤ most.books_max

abbrev pub CreateKeepsWellFormed : Type 0
CreateKeepsWellFormed = (limits most : Bounds) (books : Books) (name : List ℕ) → IsInRange limits →
    AreWithin limits most → IsWellFormed most books →
    LeavesWellFormed most (create_step limits books name)

abbrev pub PutKeepsWellFormed : Type 0
PutKeepsWellFormed =
    (limits most : Bounds) (books : Books) (name : List ℕ) (card : List Line) (expect : Option ℕ) →
    AreWithin limits most → IsWellFormed most books →
    LeavesWellFormed most (put_step limits books name card expect)

abbrev pub RemoveKeepsWellFormed : Type 0
RemoveKeepsWellFormed =
    (limits most : Bounds) (books : Books) (name uid : List ℕ) (expect : Option ℕ) →
    AreWithin limits most → IsWellFormed most books →
    LeavesWellFormed most (remove_step limits books name uid expect)

abbrev pub MoveKeepsWellFormed : Type 0
MoveKeepsWellFormed =
    (limits most : Bounds) (books : Books) (from to uid : List ℕ) (expect : Option ℕ) →
    AreWithin limits most → IsWellFormed most books →
    LeavesWellFormed most (move_step limits books from to uid expect)

abbrev pub ImportKeepsWellFormed : Type 0
ImportKeepsWellFormed =
    (limits most : Bounds) (books : Books) (name key : List ℕ) (cards : List (List Line)) →
    AreWithin limits most → IsWellFormed most books →
    LeavesWellFormed most (import_step limits books name key cards)

abbrev pub ForgetKeepsWellFormed : Type 0
ForgetKeepsWellFormed = (limits : Bounds) (books : Books) (name : List ℕ) (upto : ℕ) →
    IsWellFormed limits books → LeavesWellFormed limits (forget_step books name upto)

-- after any calls, accepted or refused
abbrev pub CallsKeepWellFormed : Type 0
CallsKeepWellFormed = (limits : Bounds) (books : Books) (calls : List Call) → IsInRange limits →
    IsWellFormed limits books → IsWellFormed limits (rows_after_calls limits books calls)

-- ---- pages of well-formed books

-- the mark of a page is in order, and each of its entries fits the book that was asked
abbrev pub PagesFitBooks : Type 0
PagesFitBooks =
    (limits : Bounds) (books : Books) (name : List ℕ) (token : Option Token) (limit : Option ℕ) →
    (asked : ReportRequest) (page : Page) → IsWellFormed limits books →
    report_step limits books name token limit ≡ Ok asked → IsReport asked page →
    IsPageOfBook asked.book page

-- the numbers of each page's token are short enough for a token's text
abbrev pub PagesHaveShortNumbers : Type 0
PagesHaveShortNumbers =
    (limits : Bounds) (books : Books) (name : List ℕ) (token : Option Token) (limit : Option ℕ) →
    (asked : ReportRequest) (page : Page) → IsInRange limits → IsWellFormed limits books →
    report_step limits books name token limit ≡ Ok asked → IsReport asked page →
    HasShortNumbers page

-- a token of another book is refused as `OtherBook`
abbrev pub OtherBooksTokensAreRefused : Type 0
OtherBooksTokensAreRefused =
    (limits : Bounds) (books : Books) (name other : List ℕ) (book another : Book) →
    (token : Token) (limit : Option ℕ) → IsWellFormed limits books →
    finite.get books name ≡ Some book → finite.get books other ≡ Some another → name ≢ other →
    token.book ≡ another.id →
    report_step limits books name (Some token) limit ≡ Err (BadToken OtherBook)
