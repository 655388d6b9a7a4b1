use Rattle.cli_args.specs.Subcommands.{expand_command}
use Rattle.cli_args.proofs.subcommands.expand_command.Goals as goal

pub returns : goal.returns
returns c = c.order_command.ensures expand_command.rules (rw c.in_ok-from_array.ensures.items
    (c.file_arg.ensures, (c.book_arg.ensures, (c.argument-uid.ensures, tt))))
