use Rattle.cli_args.specs.Subcommands as lines
use Rattle.cli_args.proofs.backup_orders.copy_command.Goals as goal

pub returns : goal.returns
returns c = c.order_command.ensures lines.copy_command.rules (rw c.in_ok-from_array.ensures.items
    (c.file_arg.ensures, (c.argument-target.ensures, (c.without_option.ensures, tt))))
