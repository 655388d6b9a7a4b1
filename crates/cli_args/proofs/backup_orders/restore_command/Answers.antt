use Rattle.cli_args.specs.Subcommands as lines
use Rattle.cli_args.proofs.backup_orders.restore_command.Goals as goal

pub returns : goal.returns
returns c = c.order_command.ensures lines.restore_command.rules (rw c.in_ok-from_array.ensures.items
    (c.argument-backup.ensures, (c.file_arg.ensures, (c.skip_option.ensures, tt))))
