use Rattle.cli_args.specs.Subcommands.{check_command}
use Rattle.cli_args.proofs.subcommands.check_command.Goals as goal

pub returns : goal.returns
returns c = c.order_command.ensures check_command.rules (rw c.in_ok-from_array.ensures.items
    (c.argument-file.ensures, tt))
