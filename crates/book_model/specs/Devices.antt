-- How a device applies the pages of reports (RFC 6578, sections 3.4 to 3.6).
use Rattle.std.specs.Prelude.{ℕ, ◌≡◌, ◌≤◌, ◌⊎◌, List, length, take, fold, Option, Some, None}
use Rattle.std.specs.FinMap as finite
use Rattle.book_model.specs.declared.page.Entry.{Entry}
use Rattle.book_model.specs.declared.page.Entry.TheVariants.{Changed, Removed}
use Rattle.book_model.specs.declared.page.Page.{Page}
use Rattle.book_model.specs.declared.token.Token.{Token}
use Rattle.book_model.specs.Books.{LiveCards}
use Rattle.book_model.specs.Pages.{token_of}

-- ---- a copy

-- an entry replaces or removes the card of its member
abbrev pub copy_after_entry : LiveCards → Entry → LiveCards
copy_after_entry copy (Changed uid version card) =
    finite.insert copy uid (record { version = version; card = card })
copy_after_entry copy (Removed uid) = finite.remove copy uid

-- the copy after the entries, in order
abbrev pub copy_after_entries : LiveCards → List Entry → LiveCards
copy_after_entries copy entries = fold copy_after_entry copy entries

-- ---- a device

-- a device: the name of its book, its copy of the book's cards, and its sync token, if any
pub record DeviceState : Type 0 where
  pub book : List ℕ
  pub copy : LiveCards
  pub token : Option Token

-- without a token the copy is emptied before a page is applied
abbrev pub copy_before_page : Option Token → LiveCards → LiveCards
copy_before_page None copy = finite.empty
copy_before_page (Some token) copy = copy

-- the whole page was applied, and its token stored
abbrev pub device_after_page : DeviceState → Page → DeviceState
device_after_page device page = record device {
  copy = copy_after_entries (copy_before_page device.token device.copy) page.entries;
  token = Some (token_of page);
}

-- the first entries of the page, `count` of them, were applied, and the token is unchanged
pub record AppliesEntryPrefix (device : DeviceState) (page : Page)
    (after : DeviceState) : Type 0 where
  pub count : ℕ
  pub within : count ≤ length page.entries
  pub after_is : after ≡ record device {
    copy = copy_after_entries (copy_before_page device.token device.copy) (take count page.entries);
  }

-- the device is unchanged, or only the first entries were applied
abbrev pub AppliesNothingOrPrefix : DeviceState → Page → DeviceState → Type 0
AppliesNothingOrPrefix device page after = (after ≡ device) ⊎ AppliesEntryPrefix device page after
