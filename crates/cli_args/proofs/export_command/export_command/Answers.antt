use Rattle.cli_args.specs.Subcommands.{export_command}
use Rattle.cli_args.proofs.export_command.export_command.Goals as goal

pub returns : goal.returns
returns c = c.order_command.ensures export_command.rules (rw c.in_ok-from_array.ensures.items (
  c.file_arg.ensures,
  (
    c.book_arg.ensures,
    (c.option_arg-form.ensures, (c.switch-vcf.ensures, (c.option_arg-version.ensures, tt))),
  ),
))
