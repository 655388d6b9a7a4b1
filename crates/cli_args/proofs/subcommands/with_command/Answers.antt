use Rattle.cli_args.proofs.SubcommandLemmas.{one-more}
use Rattle.cli_args.proofs.subcommands.with_command.Goals as goal

pub returns : goal.returns
returns c shapes shape are is = rw c.in_ok-push.ensures.items
    (one-more shapes shape c.args.lines.items c.in_ok-line.line are (rw c.in_ok-line.was at is))
