use Rattle.cli_args.specs.Subcommands.{import_command}
use Rattle.cli_args.proofs.subcommands.import_command.Goals as goal

pub returns : goal.returns
returns c = c.order_command.ensures import_command.rules (rw c.in_ok-from_array.ensures.items (
  c.file_arg.ensures,
  (
    c.book_arg.ensures,
    (c.argument-key.ensures, (c.argument-csv.ensures, tt)),
  ),
))
