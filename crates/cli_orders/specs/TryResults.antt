-- The result of putting one card into an empty book.
use Rattle.std.specs.Prelude.{ℕ, ◌≡◌, List, [], ◌∷◌, length}
use Rattle.vcard_lines.specs.declared.line.Line.{Line}
use Rattle.vcard_text.specs.Cards.{uid_of}
use Rattle.vcard_text.specs.Spelling.{Spells}
use Rattle.book_model.specs.declared.answers.PutAnswer.TheVariants.{Created}
use Rattle.book_model.specs.declared.change.Change.TheVariants.{Stores}
use Rattle.book_model.specs.declared.change.StoreReason.TheVariants.{Creation}
use Rattle.book_model.specs.declared.page.Page.{Page}
use Rattle.book_laws.specs.EventLogs.{BookEvent}
use Rattle.book_laws.specs.Reports.{report}
use Rattle.book_model.specs.Pages.{page_of}
use Rattle.cli_orders.specs.declared.try_result.FirstPath.{FirstPath}

-- the history of a book in which one card was created
abbrev pub one_creation : List Line → List BookEvent
one_creation card = record { uid = uid_of card; change = Stores card Creation } ∷ []

-- the initial report of that book, which is the store's first: 100 is the most entries of a page
abbrev pub first_page : List Line → Page
first_page card = page_of 1 (report (one_creation card)
    (record { at = 0; base = length (one_creation card) }) 100)

-- the put created the card with version 1, and the page is the initial report after it
pub record IsResultForCard (card : List Line) (path : FirstPath) : Type 0 where
  pub put : path.put ≡ Created 1
  pub page : path.page ≡ first_page card

-- the text is a card, and the result is that card's
pub record IsTryResult (text : List ℕ) (path : FirstPath) : Type 0 where
  pub card : List Line
  pub spelled : Spells text card
  pub card_result : IsResultForCard card path
