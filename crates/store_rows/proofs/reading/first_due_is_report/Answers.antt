use Rattle.store_rows.proofs.ReportLemmas.{more_first, no_more_all}
use Rattle.store_rows.proofs.reading.first_due_is_report.Goals as goal

pub returns-clause-more : goal.returns-clause-more
returns-clause-more c = more_first

pub returns-clause-all : goal.returns-clause-all
returns-clause-all c = no_more_all
