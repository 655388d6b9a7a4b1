use Rattle.cli_args.specs.Subcommands.{init_command}
use Rattle.cli_args.proofs.subcommands.init_command.Goals as goal

pub returns : goal.returns
returns c = c.order_command.ensures init_command.rules (rw c.in_ok-from_array.ensures.items
    (c.file_arg.ensures, tt))
