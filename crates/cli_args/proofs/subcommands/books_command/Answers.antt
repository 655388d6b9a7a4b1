use Rattle.cli_args.specs.Subcommands.{books_command}
use Rattle.cli_args.proofs.subcommands.books_command.Goals as goal

pub returns : goal.returns
returns c = c.order_command.ensures books_command.rules (rw c.in_ok-from_array.ensures.items
    (c.file_arg.ensures, tt))
