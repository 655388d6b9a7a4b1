use Rattle.std.proofs.Common.{◌≡◌, take}
use Rattle.std.specs.List.{list_all}
use Rattle.contact_csv.specs.RowFaults.{is_name_of}
use Rattle.contact_csv.proofs.row_fault.has_names.Given as goal

-- the cells so far are tested
abbrev pub invariant-loop-place : goal.invariant-loop-place
invariant-loop-place l = l.are_names ≡ list_all (is_name_of l.columns) (take l.place l.cells)
