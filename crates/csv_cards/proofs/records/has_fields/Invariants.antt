use Rattle.std.proofs.Common.{◌≡◌, map, take}
use Rattle.csv.specs.Records.{fields_of}
use Rattle.csv_cards.proofs.records.has_fields.Given as goal

-- the fields so far are the names so far
abbrev pub invariant-loop-place : goal.invariant-loop-place
invariant-loop-place l = take l.place (fields_of l.row)
    ≡ take l.place (map (λ name. name.now) l.names)
