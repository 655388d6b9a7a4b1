use Rattle.cli_args.specs.Subcommands.{try_command}
use Rattle.cli_args.proofs.subcommands.try_command.Goals as goal

pub returns : goal.returns
returns c = c.order_command.ensures try_command.rules (rw c.new.ensures.items tt)
