use Rattle.cli_args.specs.Subcommands.{forget_command}
use Rattle.cli_args.proofs.subcommands.forget_command.Goals as goal

pub returns : goal.returns
returns c = c.order_command.ensures forget_command.rules (rw c.in_ok-from_array.ensures.items
    (c.file_arg.ensures, (c.book_arg.ensures, (c.number_arg-upto.ensures, tt))))
