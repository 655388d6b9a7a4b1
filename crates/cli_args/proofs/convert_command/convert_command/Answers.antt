use Rattle.cli_args.specs.Subcommands as lines
use Rattle.cli_args.proofs.convert_command.convert_command.Goals as goal

pub returns : goal.returns
returns c = c.order_command.ensures lines.convert_command.rules (rw c.in_ok-from_array.ensures.items (
  c.source_arg.ensures,
  (
    c.folder_option.ensures,
    (
      c.rows_option.ensures,
      (
        c.octets_option.ensures,
        (
          c.day_first_switch.ensures,
          (
            c.month_first_switch.ensures,
            (
              c.columns_option.ensures,
              (c.charset_option.ensures, (c.report_option.ensures, (c.photos_option.ensures, tt))),
            ),
          ),
        ),
      ),
    ),
  ),
))
