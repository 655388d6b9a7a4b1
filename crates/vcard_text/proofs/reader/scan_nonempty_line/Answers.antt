use Rattle.std.proofs.Common.{sym}
use Rattle.vcard_text.proofs.ScanLemmas.{line_taken, line_refused}
use Rattle.vcard_text.proofs.reader.scan_nonempty_line.Goals as goal

pub returns-clause-advances : goal.returns-clause-advances
returns-clause-advances c = line_taken c.args.scan.now c.scan_line.new.self c.args.line.now
    c.scan_line.result (sym c.if-is_empty.ensures) c.scan_line.ensures

pub returns-clause-fails : goal.returns-clause-fails
returns-clause-fails c = line_refused c.args.scan.now c.scan_line.new.self c.args.line.now
    c.scan_line.result (sym c.if-is_empty.ensures) c.scan_line.ensures
