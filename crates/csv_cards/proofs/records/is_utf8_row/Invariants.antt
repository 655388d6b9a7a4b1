use Rattle.std.proofs.Common.{take}
use Rattle.csv.specs.Records.{AllText, fields_of}
use Rattle.csv_cards.proofs.records.is_utf8_row.Given as goal

-- the fields so far are text
abbrev pub invariant-loop-place : goal.invariant-loop-place
invariant-loop-place l = AllText (take l.place (fields_of l.row))
