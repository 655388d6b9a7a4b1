use Rattle.vcard_changes.specs.declared.change_kind.ChangeKind.TheVariants.{Unreadable}
use Rattle.contact_csv.proofs.KeepLemmas.{reports_none, reports_one}
use Rattle.contact_csv.proofs.ResultLemmas.{ok_both}
use Rattle.contact_csv.proofs.keeping.Kept.report_text.Goals as goal

pub returns-then-is_date_text : goal.returns-then-is_date_text
returns-then-is_date_text c = ok_both c.report.result (reports_one c.args.place Unreadable
    c.args.self.now c.report.new.self) c.report.ensures.lines c.report.ensures.changes

pub returns : goal.returns
returns c = reports_none c.args.self.now
