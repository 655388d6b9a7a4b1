use Rattle.std.proofs.Common.{◌≡◌, take, map}
use Rattle.csv.specs.Records.{fields_of}
use Rattle.contact_columns.specs.Cells.{cell_text}
use Rattle.contact_csv.proofs.conversion.row_cells.Given as goal

-- the texts of the fields so far
abbrev pub invariant-loop-place : goal.invariant-loop-place
invariant-loop-place l = l.cells ≡ map cell_text (take l.place (fields_of l.row))
