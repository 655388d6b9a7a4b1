use Rattle.page_json.proofs.ReportableLemmas.{reports_reportable}
use Rattle.page_json.proofs.laws.report_pages_are_well_formed.Goals as goal

pub returns : goal.returns
returns c = reports_reportable c.pages_fit_well_formed_books.ensures.fit
    c.pages_fit_well_formed_books.ensures.short_numbers
