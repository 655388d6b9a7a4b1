-- The tokens of pages survive a round trip through text.
use Rattle.std.specs.Prelude.{ℕ, ◌≡◌, List, Option, Ok}
use Rattle.book_model.specs.declared.page.Page.{Page}
use Rattle.book_model.specs.declared.token.Token.{Token}
use Rattle.book_model.specs.Bounds.{Bounds, IsInRange}
use Rattle.book_model.specs.Books.{Books}
use Rattle.book_model.specs.Pages.{ReportRequest, IsReport, report_step, token_of}
use Rattle.book_model.specs.WellFormed.{IsWellFormed}
use Rattle.sync_core.specs.TokenTexts.{token_octets, IsTokenText}

-- the text written for a page's token is a valid text of that token
abbrev pub PageTokensHaveTexts : Type 0
PageTokensHaveTexts =
    (limits : Bounds) (books : Books) (name : List ℕ) (token : Option Token) (limit : Option ℕ) →
    (asked : ReportRequest) (page : Page) → IsInRange limits → IsWellFormed limits books →
    report_step limits books name token limit ≡ Ok asked → IsReport asked page →
    IsTokenText (token_octets (token_of page)) (token_of page)
