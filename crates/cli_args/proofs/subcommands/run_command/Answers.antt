use Rattle.cli_args.specs.Subcommands.{run_command}
use Rattle.cli_args.proofs.subcommands.run_command.Goals as goal

pub returns : goal.returns
returns c = c.order_command.ensures run_command.rules (rw c.in_ok-from_array.ensures.items (
  c.file_arg.ensures,
  (
    c.port_option.ensures,
    (
      c.socket_option.ensures,
      (
        c.host_option.ensures,
        (
          c.max_open_option.ensures,
          (
            c.idle_timeout_option.ensures,
            (
              c.max_held_option.ensures,
              (
                c.create_switch.ensures,
                (c.log_switch.ensures, (c.site_option.ensures, tt)),
              ),
            ),
          ),
        ),
      ),
    ),
  ),
))
