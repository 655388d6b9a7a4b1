use Rattle.std.proofs.Common.{inr, refl}
use Rattle.cli_orders.proofs.card_rows.line_in_card.Goals as goal

pub returns-then-not-branch : goal.returns-then-not-branch
returns-then-not-branch c = inr (c.in_ok-read_card_row.ensures.none c.if-not-branch.true, refl)
