use Rattle.std.proofs.Common.{◌≤◌, length}
use Rattle.convert_posts.proofs.card_cut.cut_cards.Given as goal

abbrev pub invariant-loop-piece : goal.invariant-loop-piece
invariant-loop-piece l = l.len ≤ length l.text
