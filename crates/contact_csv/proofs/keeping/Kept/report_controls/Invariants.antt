use Rattle.contact_csv.specs.internal.Keeping.{ReportsOnly}
use Rattle.contact_csv.proofs.keeping.Kept.report_controls.Given as goal

-- only reports were added
abbrev pub invariant-loop-place : goal.invariant-loop-place
invariant-loop-place l = ReportsOnly l.fn.self l.self
