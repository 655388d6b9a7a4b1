use Rattle.cli_args.specs.Subcommands.{verify_command}
use Rattle.cli_args.proofs.subcommands.verify_command.Goals as goal

pub returns : goal.returns
returns c = c.order_command.ensures verify_command.rules (rw c.in_ok-from_array.ensures.items
    (c.file_arg.ensures, tt))
