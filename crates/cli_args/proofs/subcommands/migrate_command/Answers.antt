use Rattle.cli_args.specs.Subcommands.{migrate_command}
use Rattle.cli_args.proofs.subcommands.migrate_command.Goals as goal

pub returns : goal.returns
returns c = c.order_command.ensures migrate_command.rules (rw c.in_ok-from_array.ensures.items
    (c.file_arg.ensures, tt))
