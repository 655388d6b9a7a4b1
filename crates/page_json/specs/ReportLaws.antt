-- Laws of pages and their JSON texts.
use Rattle.std.specs.Prelude.{ℕ, ◌≡◌, List, Option, Ok}
use Rattle.serde_json.specs.Data.{Data}
use Rattle.book_model.specs.declared.page.Page.{Page}
use Rattle.book_model.specs.declared.token.Token.{Token}
use Rattle.book_model.specs.Bounds.{Bounds, IsInRange}
use Rattle.book_model.specs.Books.{Books}
use Rattle.book_model.specs.Pages.{ReportRequest, IsReport, report_step}
use Rattle.book_model.specs.WellFormed.{IsWellFormed}
use Rattle.page_json.specs.declared.fault.ReportFault.{ReportFault}
use Rattle.page_json.specs.PageJson.{PageOf, IsTextOfPage}
use Rattle.page_json.specs.FirstFaults.{IsFirstReportFault}
use Rattle.page_json.specs.WrittenPages.{IsWellFormedPage}

-- a value encodes at most one page
abbrev pub ValuesDeterminePages : Type 0
ValuesDeterminePages =
    (value : Data) (a b : Page) → PageOf value a → PageOf value b → a ≡ b

-- a text is that of at most one page
abbrev pub TextsDeterminePages : Type 0
TextsDeterminePages =
    (text : List ℕ) (a b : Page) → IsTextOfPage text a → IsTextOfPage text b → a ≡ b

-- the text of a page has no first fault
abbrev pub PagesHaveNoFault : Type 0
PagesHaveNoFault =
    (text : List ℕ) (page : Page) (fault : ReportFault) → IsTextOfPage text page →
    IsFirstReportFault text fault → ⊥

-- a text has at most one first fault
abbrev pub FirstFaultsAreUnique : Type 0
FirstFaultsAreUnique =
    (text : List ℕ) (a b : ReportFault) → IsFirstReportFault text a → IsFirstReportFault text b → a
    ≡ b

-- every page that a report of well-formed books returns is well formed, and so is read back
abbrev pub ReportPagesAreWellFormed : Type 0
ReportPagesAreWellFormed =
    (limits : Bounds) (books : Books) (name : List ℕ) (token : Option Token) (limit : Option ℕ) →
    (asked : ReportRequest) (page : Page) → IsInRange limits → IsWellFormed limits books →
    report_step limits books name token limit ≡ Ok asked → IsReport asked page
    → IsWellFormedPage page
