use Rattle.cli_args.specs.Subcommands.{mirror_command}
use Rattle.cli_args.proofs.subcommands.mirror_command.Goals as goal

pub returns : goal.returns
returns c = c.order_command.ensures mirror_command.rules (rw c.in_ok-from_array.ensures.items (
  c.file_arg.ensures,
  (
    c.book_arg.ensures,
    (
      c.number_option-limit.ensures,
      (c.number_option-pages.ensures, tt),
    ),
  ),
))
