-- The page of a JSON text.
use Rattle.std.specs.Prelude.{ℕ, ◌≡◌, List, Some}
use Rattle.std.specs.Str.{IsUtf8}
use Rattle.serde_json.specs.Data.{Data}
use Rattle.serde_json.specs.Read.{read}
use Rattle.book_model.specs.declared.page.Page.{Page}
use Rattle.page_json.specs.PageTexts.{PageTexts, DescribesPage}
use Rattle.page_json.specs.PageValues.{HasPageShape}

-- The text is UTF-8, and JSON of this value (RFC 8259), nested at most 127 deep. Of members of one
-- name the last counts.
pub record IsJson (text : List ℕ) (value : Data) : Type 0 where
  pub utf8 : IsUtf8 text
  pub parsed : read text ≡ Some value

-- The value encodes the page: it has the shape of a page, each member's text is that of the entry's
-- card, whose UID is the member's, and the token is that of the page's book and mark.
pub record PageOf (value : Data) (page : Page) : Type 0 where
  pub texts : PageTexts
  pub shape : HasPageShape value texts
  pub describes : DescribesPage texts page

-- The text is JSON whose value encodes the page.
pub record IsTextOfPage (text : List ℕ) (page : Page) : Type 0 where
  pub value : Data
  pub json : IsJson text value
  pub page_of : PageOf value page
