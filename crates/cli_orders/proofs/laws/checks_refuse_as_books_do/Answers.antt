use Rattle.cli_orders.proofs.CheckLemmas.{refuses}
use Rattle.cli_orders.proofs.laws.checks_refuse_as_books_do.Goals as goal

pub returns : goal.returns
returns c = refuses
