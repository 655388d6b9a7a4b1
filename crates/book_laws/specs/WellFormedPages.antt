-- The properties of a page of a well-formed book.
use Rattle.std.specs.Prelude.{◌≡◌, ◌<◌, ◌≤◌}
use Rattle.std.specs.List.{All}
use Rattle.vcard_text.specs.Cards.{uid_of}
use Rattle.book_model.specs.declared.page.Entry.{Entry}
use Rattle.book_model.specs.declared.page.Entry.TheVariants.{Changed, Removed}
use Rattle.book_model.specs.declared.page.Page.{Page}
use Rattle.book_model.specs.Books.{Book}

-- the version of a card is one of the book's numbers, and its UID is the entry's
abbrev pub EntryFitsBook : Book → Entry → Type 0
EntryFitsBook book (Changed uid version card) =
    (1 ≤ version) × (version ≤ book.number) × (uid_of card ≡ uid)
EntryFitsBook book (Removed uid) = Unit {0}

-- the page's mark is in order and not above the book's number, and each entry fits the book
pub record IsPageOfBook (book : Book) (page : Page) : Type 0 where
  pub own : page.book ≡ book.id
  pub ordered : page.mark.at ≤ page.mark.base
  pub known : page.mark.base ≤ book.number
  pub entries : All (EntryFitsBook book) page.entries

-- each number of the page's token has at most 13 digits, the most that a token's text allows
pub record HasShortNumbers (page : Page) : Type 0 where
  pub short_book : page.book < 10000000000000
  pub short_at : page.mark.at < 10000000000000
  pub short_base : page.mark.base < 10000000000000
