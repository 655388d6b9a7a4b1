use Rattle.std.proofs.Common.{◌≡◌, map, take}
use Rattle.serde_json.specs.View.{view}
use Rattle.convert_posts.specs.PartValues.{row_value}
use Rattle.convert_posts.proofs.values.row_values.Given as goal

-- the values so far are those of the rows so far
abbrev pub invariant-loop-row : goal.invariant-loop-row
invariant-loop-row l = map view l.values.items ≡ map row_value (take l.row-index l.rows)
