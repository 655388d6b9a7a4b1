use Rattle.std.proofs.Common.{length, string_bytes}
use Rattle.contact_csv.proofs.KeepLemmas.{keeps_reported}
use Rattle.contact_csv.proofs.keeping.keep_row.Goals as goal

pub returns : goal.returns
returns c = keeps_reported (string_bytes c.args.uid) c.args.columns.now c.args.cells.now
    (length c.args.cells.now) c.in_ok-made.made c.report_controls.new.self c.in_ok-made.ensures
    c.in_ok-report_controls.ensures
