use Rattle.clap.specs.Words.{found_of, rows_of}
use Rattle.clap.specs.declared.parser.matches.ArgMatches.TheViews.{out-ArgMatches, out-SubCommand}
use Rattle.std.specs.Box.{box_value}
use Rattle.cli_args.proofs.MatchLemmas.{named}
use Rattle.cli_args.proofs.matched_orders.named_order.Goals as goal

pub returns-in-Some : goal.returns-in-Some
returns-in-Some c =
    let is = named (λ b. (out-SubCommand (box_value b)).name.now)
    (λ b. rows_of (found_of (out-SubCommand (box_value b)).matches))
    (out-ArgMatches c.args.matches.now).subcommand c.in-Some.name.now
    (rows_of (found_of c.in-Some.words.now)) c.in-Some.ensures.name c.in-Some.ensures.rows in
    rw is c.order_of.ensures
