-- Each worked command line has the order that the example says.
-- Given here: only that both sides are the same once computed (`refl`), with one `refl` for each
-- line of the clause's definition in `WorkedLines`. The checker may compute what the kit says of a
-- parser on given arguments, by `unfolding clap_on_literals`.
-- An order or an option that changes breaks the clause of the lines that use it.
use Rattle.std.proofs.Common.{refl}
use Rattle.clap.proofs.OnLiterals.{clap_on_literals}
use Rattle.cli_args.proofs.laws.worked_lines_are_orders.Goals as goal

pub returns-clause-orders : goal.returns-clause-orders
unfolding clap_on_literals
returns-clause-orders c = (refl, refl, refl, refl, refl, refl, refl, refl)

pub returns-clause-files : goal.returns-clause-files
unfolding clap_on_literals
returns-clause-files c = (refl, refl, refl, refl, refl)

pub returns-clause-conversions : goal.returns-clause-conversions
unfolding clap_on_literals
returns-clause-conversions c = (refl, refl, refl, refl, refl, refl, refl, refl, refl, refl)

pub returns-clause-versions : goal.returns-clause-versions
unfolding clap_on_literals
returns-clause-versions c = (refl, refl, refl, refl, refl, refl)

pub returns-clause-defaults : goal.returns-clause-defaults
unfolding clap_on_literals
returns-clause-defaults c = (refl, refl, refl)

pub returns-clause-ports : goal.returns-clause-ports
unfolding clap_on_literals
returns-clause-ports c = (refl, refl, refl)

pub returns-clause-connections : goal.returns-clause-connections
unfolding clap_on_literals
returns-clause-connections c = (refl, refl, refl)

pub returns-clause-serves : goal.returns-clause-serves
unfolding clap_on_literals
returns-clause-serves c = (refl, refl, refl, refl)

pub returns-clause-runs : goal.returns-clause-runs
unfolding clap_on_literals
returns-clause-runs c = (refl, refl, refl, refl, refl, refl, refl, refl)

pub returns-clause-sockets : goal.returns-clause-sockets
unfolding clap_on_literals
returns-clause-sockets c = (refl, refl, refl, refl, refl)

pub returns-clause-limits : goal.returns-clause-limits
unfolding clap_on_literals
returns-clause-limits c = (refl, refl, refl, refl, refl)

pub returns-clause-holds : goal.returns-clause-holds
unfolding clap_on_literals
returns-clause-holds c = (refl, refl, refl, refl, refl)

pub returns-clause-logs : goal.returns-clause-logs
unfolding clap_on_literals
returns-clause-logs c = (refl, refl, refl, refl)

pub returns-clause-forms : goal.returns-clause-forms
unfolding clap_on_literals
returns-clause-forms c = (refl, refl)

pub returns-clause-cards : goal.returns-clause-cards
unfolding clap_on_literals
returns-clause-cards c = (refl, refl, refl, refl, refl, refl)

pub returns-clause-numbers : goal.returns-clause-numbers
unfolding clap_on_literals
returns-clause-numbers c = (refl, refl)

pub returns-clause-pages : goal.returns-clause-pages
unfolding clap_on_literals
returns-clause-pages c = (refl, refl, refl, refl)

pub returns-clause-copies : goal.returns-clause-copies
unfolding clap_on_literals
returns-clause-copies c = (refl, refl, refl, refl, refl, refl, refl)

pub returns-clause-resyncs : goal.returns-clause-resyncs
unfolding clap_on_literals
returns-clause-resyncs c = (refl, refl, refl, refl, refl, refl)

pub returns-clause-faults : goal.returns-clause-faults
unfolding clap_on_literals
returns-clause-faults c = (refl, refl, refl, refl, refl)
