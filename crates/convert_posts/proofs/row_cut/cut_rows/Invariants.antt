use Rattle.std.proofs.Common.{◌≤◌, length}
use Rattle.convert_posts.proofs.row_cut.cut_rows.Given as goal

abbrev pub invariant-loop-row : goal.invariant-loop-row
invariant-loop-row l = l.len ≤ length l.text
