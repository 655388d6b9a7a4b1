use Rattle.cli_orders.proofs.ReplyLemmas.{orders_replied}
use Rattle.cli_orders.proofs.laws.orders_are_replied.Goals as goal

pub returns : goal.returns
returns c = orders_replied
