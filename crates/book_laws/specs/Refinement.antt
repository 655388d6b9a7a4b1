-- Refinement: a step on rows against the same call on histories.
use Rattle.std.specs.Prelude.{◌≡◌, Result, Ok, Err}
use Rattle.book_model.specs.declared.page.Page.{Page}
use Rattle.book_model.specs.declared.refusal.Refusal.{Refusal}
use Rattle.book_model.specs.Books.{Books}
use Rattle.book_model.specs.Pages.{ReportRequest, IsReport}
use Rattle.book_laws.specs.StoreHistories.{BookHistories, AreSoundHistories, rows_of}

-- the histories are sound, and these are their rows
pub record AreHistoriesOf (books : Books) (histories : BookHistories) : Type 0 where
  pub sound : AreSoundHistories histories
  pub rows_are : rows_of histories ≡ books

-- The same answer, and the rows afterwards are those of sound histories; or the same refusal.
abbrev pub RefinesHistories
    : {A : Type 0} → Result (A × Books) Refusal → Result (A × BookHistories) Refusal → Type 0
RefinesHistories (Ok done) (Ok wanted) = (done.0 ≡ wanted.0) × AreHistoriesOf done.1 wanted.1
RefinesHistories (Ok done) (Err refusal) = ⊥
RefinesHistories (Err refusal) (Ok wanted) = ⊥
RefinesHistories (Err refusal) (Err wanted) = refusal ≡ wanted

-- every page that the rows allow is the page of the history; or the same refusal
abbrev pub PagesRefineHistories : Result ReportRequest Refusal → Result Page Refusal → Type 0
PagesRefineHistories (Ok asked) (Ok wanted) = (page : Page) → IsReport asked page → page ≡ wanted
PagesRefineHistories (Ok asked) (Err refusal) = ⊥
PagesRefineHistories (Err refusal) (Ok wanted) = ⊥
PagesRefineHistories (Err refusal) (Err wanted) = refusal ≡ wanted
