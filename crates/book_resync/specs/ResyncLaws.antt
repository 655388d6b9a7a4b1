-- What a resync is, and what it leaves.
use Rattle.std.specs.Prelude.{ℕ, ◌≡◌, ◌<◌, ◌≤◌, ◌⊎◌, false, true, List, Option, Some, None}
use Rattle.std.specs.Prelude.{is_some, Ok, Err}
use Rattle.std.specs.Option.{option_map}
use Rattle.std.specs.List.{AllByRecursion}
use Rattle.std.specs.FinMap as finite
use Rattle.vcard_lines.specs.declared.line.Line.{Line}
use Rattle.vcard_text.specs.Cards.{IsCard, uid_of}
use Rattle.book_model.specs.declared.answers.Stored.{Stored}
use Rattle.book_model.specs.declared.page.Page.{Page}
use Rattle.book_model.specs.declared.refusal.Refusal.TheVariants.{BadToken}
use Rattle.book_model.specs.declared.refusal.TokenCause.TheVariants.{TooOld}
use Rattle.book_model.specs.declared.row.Row.{Row}
use Rattle.book_model.specs.declared.token.Token.{Token}
use Rattle.book_model.specs.Bounds.{Bounds, IsInRange}
use Rattle.book_model.specs.Books.{Book, Books, live_at}
use Rattle.book_model.specs.BookQueries.{live_cards}
use Rattle.book_model.specs.Counting.{live_count}
use Rattle.book_model.specs.Devices.{copy_after_entries}
use Rattle.book_model.specs.Pages.{ReportRequest, IsReport, report_step}
use Rattle.book_resync.specs.Resyncing.{number_after_resync, book_after_resync, resync_step}
use Rattle.book_model.specs.WellFormed.{IsWellFormedBook, IsWellFormed}
use Rattle.book_laws.specs.Calls.{Call, histories_after_calls}
use Rattle.book_resync.specs.ResyncCalls.{rows_after_accepted_calls, resync_calls}
use Rattle.book_resync.specs.ResyncCalls.{IsResyncCall, resync_calls_of_book}
use Rattle.book_laws.specs.RowsAfterCalls.{rows_after_calls}
use Rattle.book_laws.specs.StoreHistories.{AreSoundHistories, StoreHistory, rows_of}
use Rattle.book_laws.specs.WellFormedLaws.{AreWithin}

-- ---- the commands of a resync

-- The book's commands are accepted, and the book after them is the one in closed form. The spare
-- card is one whose UID isn't live in the book.
abbrev pub BookResyncsAreCommands : Type 0
BookResyncsAreCommands =
    (limits : Bounds) (books : Books) (name : List ℕ) (book : Book) (spare : List Line) →
    (pairs : ℕ) →
    IsInRange limits → finite.get books name ≡ Some book → IsWellFormedBook limits book →
    live_at book (uid_of spare) ≡ None → 1 ≤ pairs →
    number_after_resync book pairs ≤ limits.changes_max →
    live_count book.counts ≤ limits.cards_max →
    rows_after_accepted_calls limits books (resync_calls_of_book limits spare pairs (name, book))
    ≡ Ok (finite.insert books name (book_after_resync limits book pairs))

-- no book has a live card of this card's UID
abbrev pub IsSpare : Books → List Line → Type 0
IsSpare books spare = (name : List ℕ) (book : Book) → finite.get books name ≡ Some book →
    live_at book (uid_of spare) ≡ None

-- there is such a card
abbrev pub SpareCardsExist : Type 0
SpareCardsExist = (books : Books) → (spare : List Line) × IsSpare books spare

-- and if the books are well formed, there is one that a text can spell
abbrev pub LegalSpareCardsExist : Type 0
LegalSpareCardsExist = (limits : Bounds) (books : Books) →
    IsInRange limits → IsWellFormed limits books →
    (spare : List Line) × IsSpare books spare × IsCard spare

-- each live card of the books is one that a text can spell
abbrev pub HasLegalCards : Books → Type 0
HasLegalCards books = (name uid : List ℕ) (book : Book) (stored : Stored) →
    finite.get books name ≡ Some book → live_at book uid ≡ Some stored → IsCard stored.card

-- Then each command of a resync is a put of such a card, a removal or a forget.
abbrev pub ResyncCallsAreLegal : Type 0
ResyncCallsAreLegal =
    (limits : Bounds) (books : Books) (spare : List Line) (pairs : ℕ) →
    IsCard spare → HasLegalCards books →
    AllByRecursion IsResyncCall (resync_calls limits spare pairs books)

-- a resync that isn't refused, of at least one pair
pub record IsResync (limits : Bounds) (books : Books) (pairs : ℕ) (after : Books) : Type 0 where
  pub some : 1 ≤ pairs
  pub accepted : resync_step limits books pairs ≡ Ok (finite.len books, after)

-- The commands of all books are accepted, and the books after them are those of the resync.
abbrev pub ResyncsAreCommands : Type 0
ResyncsAreCommands =
    (limits : Bounds) (books after : Books) (spare : List Line) (pairs : ℕ) →
    IsInRange limits → IsWellFormed limits books → IsSpare books spare →
    IsResync limits books pairs after →
    rows_after_accepted_calls limits books (resync_calls limits spare pairs books) ≡ Ok after

-- So what holds after every list of calls holds after a resync: its books are the rows of the
-- histories after the same commands.
abbrev pub ResyncsMatchHistories : Type 0
ResyncsMatchHistories = (store : StoreHistory) (after : Books) (spare : List Line) (pairs : ℕ) →
    IsInRange store.limits → AreSoundHistories store.books →
    IsWellFormed store.limits (rows_of store.books) → IsSpare (rows_of store.books) spare →
    IsResync store.limits (rows_of store.books) pairs after →
    let calls = resync_calls store.limits spare pairs (rows_of store.books) in
    after ≡ rows_of (histories_after_calls store.limits store.books calls)

-- the books after a resync are well formed, also by greater limits than its own
abbrev pub ResyncsKeepWellFormed : Type 0
ResyncsKeepWellFormed = (limits most : Bounds) (books after : Books) (pairs : ℕ) →
    IsInRange limits → IsInRange most → AreWithin limits most → IsWellFormed most books →
    IsResync limits books pairs after → IsWellFormed most after

-- ---- the books after a resync

-- each book is changed by itself, and no book is added
abbrev pub ResyncsChangeEachBook : Type 0
ResyncsChangeEachBook =
    (limits : Bounds) (books after : Books) (pairs : ℕ) (name : List ℕ) →
    IsResync limits books pairs after →
    finite.get after name
    ≡ option_map (λ book. book_after_resync limits book pairs) (finite.get books name)

-- every row is that of a live member
abbrev pub ResyncedRowsAreLive : Type 0
ResyncedRowsAreLive =
    (limits : Bounds) (book : Book) (pairs : ℕ) (uid : List ℕ) (row : Row) →
    IsWellFormedBook limits book →
    finite.get (book_after_resync limits book pairs).members uid ≡ Some row →
    is_some row.card ≡ true

-- the same cards are live
abbrev pub ResyncsKeepCards : Type 0
ResyncsKeepCards = (limits : Bounds) (book : Book) (pairs : ℕ) (uid : List ℕ) →
    IsWellFormedBook limits book →
    option_map (λ stored. stored.card) (live_at (book_after_resync limits book pairs) uid)
    ≡ option_map (λ stored. stored.card) (live_at book uid)

-- and have the same versions in a book with room
abbrev pub ResyncsKeepVersions : Type 0
ResyncsKeepVersions = (limits : Bounds) (book : Book) (pairs : ℕ) →
    IsWellFormedBook limits book → live_count book.counts < limits.cards_max →
    live_cards (book_after_resync limits book pairs) ≡ live_cards book

-- ---- devices after a resync

-- A token of the book from before is refused as too old, and so is each token of the lost time
-- whose base is below the new number and that names no number above it.
abbrev pub ResyncsExpireTokens : Type 0
ResyncsExpireTokens =
    (limits : Bounds) (books after : Books) (pairs : ℕ) (name : List ℕ) (book : Book) →
    (token : Token) (limit : Option ℕ) → IsResync limits books pairs after →
    finite.get books name ≡ Some book → token.book ≡ book.id →
    token.mark.at ≤ number_after_resync book pairs →
    token.mark.base < number_after_resync book pairs →
    report_step limits after name (Some token) limit ≡ Err (BadToken TooOld)

-- A device without a token has exactly the live cards after a page that isn't truncated. The
-- histories are those of the books after the resync, as after any commands.
abbrev pub InitialPagesCompleteCopies : Type 0
InitialPagesCompleteCopies =
    (store : StoreHistory) (after : Books) (pairs : ℕ) (name : List ℕ) (limit : Option ℕ) →
    (asked : ReportRequest) (page : Page) →
    IsInRange store.limits → AreSoundHistories store.books →
    IsWellFormed store.limits (rows_of store.books) →
    IsResync store.limits (rows_of store.books) pairs after →
    report_step store.limits after name None limit ≡ Ok asked → IsReport asked page →
    page.truncated ≡ false →
    copy_after_entries finite.empty page.entries ≡ live_cards asked.book

-- ---- after a resync and any calls

-- No version of the lost time comes again: a live card has the version that it had before the
-- resync, or one that isn't below the new number.
abbrev pub LostVersionsNeverReturn : Type 0
LostVersionsNeverReturn =
    (store : StoreHistory) (after : Books) (pairs : ℕ) (calls : List Call) (name uid : List ℕ) →
    (book later : Book) (stored : Stored) →
    IsInRange store.limits → AreSoundHistories store.books →
    IsWellFormed store.limits (rows_of store.books) →
    IsResync store.limits (rows_of store.books) pairs after →
    finite.get (rows_of store.books) name ≡ Some book →
    finite.get (rows_after_calls store.limits after calls) name ≡ Some later →
    live_at later uid ≡ Some stored →
    (live_at book uid ≡ Some stored) ⊎ (number_after_resync book pairs ≤ stored.version)

-- and a token that the resync expired stays refused
abbrev pub ExpiredTokensStayRefused : Type 0
ExpiredTokensStayRefused =
    (store : StoreHistory) (after : Books) (pairs : ℕ) (calls : List Call) (name : List ℕ) →
    (book : Book) (token : Token) (limit : Option ℕ) →
    IsInRange store.limits → AreSoundHistories store.books →
    IsWellFormed store.limits (rows_of store.books) →
    IsResync store.limits (rows_of store.books) pairs after →
    finite.get (rows_of store.books) name ≡ Some book → token.book ≡ book.id →
    token.mark.at ≤ number_after_resync book pairs →
    token.mark.base < number_after_resync book pairs →
    report_step store.limits (rows_after_calls store.limits after calls) name (Some token) limit
    ≡ Err (BadToken TooOld)
