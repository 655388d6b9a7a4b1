use Rattle.cli_args.specs.Subcommands.{serve_command}
use Rattle.cli_args.proofs.subcommands.serve_command.Goals as goal

pub returns : goal.returns
returns c = c.order_command.ensures serve_command.rules (rw c.in_ok-from_array.ensures.items
    (c.file_arg.ensures, (c.port_option.ensures, (c.number_option-connections.ensures, tt))))
