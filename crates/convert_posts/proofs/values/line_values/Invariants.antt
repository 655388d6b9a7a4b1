use Rattle.std.proofs.Common.{◌≡◌, map, take}
use Rattle.serde_json.specs.View.{view}
use Rattle.convert_posts.specs.PartValues.{line_value}
use Rattle.convert_posts.proofs.values.line_values.Given as goal

-- the values so far are those of the lines so far
abbrev pub invariant-loop-line : goal.invariant-loop-line
invariant-loop-line l = map view l.values.items ≡ map line_value (take l.line-index l.lines)
