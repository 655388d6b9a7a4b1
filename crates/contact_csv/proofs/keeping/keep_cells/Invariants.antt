use Rattle.std.proofs.Common.{string_bytes}
use Rattle.contact_csv.specs.internal.Keeping.{Keeps}
use Rattle.contact_csv.proofs.keeping.keep_cells.Given as goal

-- the cells so far are carried
abbrev pub invariant-loop-place : goal.invariant-loop-place
invariant-loop-place l = Keeps (string_bytes l.fn.uid) l.fn.columns l.fn.cells l.place l.made
