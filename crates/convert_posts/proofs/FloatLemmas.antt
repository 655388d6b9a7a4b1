-- The value of a part contains no floats.
use Rattle.std.proofs.Common.{◌≡◌, List, [], ◌∷◌, map, false, refl}
use Rattle.serde_json.specs.View.{items_of}
use Rattle.serde_json.specs.Written.{has_float, items_have_float}
use Rattle.convert_posts.specs.PartValues.{line_value, part_value, row_value}
use Rattle.convert_posts.specs.declared.part.CardRow.{CardRow}
use Rattle.convert_posts.specs.declared.part.Part.{Part}
use Rattle.convert_posts.specs.declared.part.ReportLine.{ReportLine}

line_values_have_none : (lines : List ReportLine)
    → items_have_float (items_of (map line_value lines)) ≡ false
line_values_have_none [] = refl
line_values_have_none (line ∷ lines) = line_values_have_none lines

row_values_have_none : (rows : List CardRow) → items_have_float (items_of (map row_value rows))
    ≡ false
row_values_have_none [] = refl
row_values_have_none (row ∷ rows) = row_values_have_none rows

pub part_has_no_float : (part : Part) → has_float (part_value part) ≡ false
part_has_no_float part =
    rw (line_values_have_none part.report, row_values_have_none part.rows) refl
