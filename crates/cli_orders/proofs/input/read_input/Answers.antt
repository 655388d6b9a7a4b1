use Rattle.cli_orders.proofs.InputLemmas.{stopped_for_none}
use Rattle.cli_orders.proofs.input.read_input.Goals as goal

pub returns-clause-stop : goal.returns-clause-stop
returns-clause-stop g c = stopped_for_none c.read_at_most.result c.read_at_most.ensures.stop
