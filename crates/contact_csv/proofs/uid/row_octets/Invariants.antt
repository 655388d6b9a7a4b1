use Rattle.std.proofs.Common.{◌≡◌, ◌++◌, drop}
use Rattle.contact_csv.specs.RowUids.{octets_from}
use Rattle.contact_csv.proofs.uid.row_octets.Given as goal

-- the octets of the cells so far, and then those of the other cells
abbrev pub invariant-loop-place : goal.invariant-loop-place
invariant-loop-place l = l.octets.items ++ octets_from l.fn.columns l.place
    (drop l.place l.fn.cells) ≡ octets_from l.fn.columns 0 l.fn.cells
