use Rattle.cli_args.specs.Subcommands.{book_command}
use Rattle.cli_args.proofs.subcommands.book_command.Goals as goal

pub returns : goal.returns
returns c = c.order_command.ensures book_command.rules (rw c.in_ok-from_array.ensures.items
    (c.file_arg.ensures, (c.book_arg.ensures, tt)))
