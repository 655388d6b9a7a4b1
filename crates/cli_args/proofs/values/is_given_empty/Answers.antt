use Rattle.std.proofs.Common.{◌∙◌, ap}
use Rattle.clap.specs.Words.{found_of}
use Rattle.clap.proofs.WalkLemmas.{first_value-rows}
use Rattle.cli_args.specs.ParsedOrders.{is_empty_text}
use Rattle.cli_args.proofs.values.is_given_empty.Goals as goal

pub returns-in-Some : goal.returns-in-Some
returns-in-Some c =
    c.is_empty.ensures ∙ ap is_empty_text (c.in-Some.ensures
    ∙ first_value-rows (found_of c.args.matches.now) c.args.id.now)

pub returns-in-None : goal.returns-in-None
returns-in-None c =
    ap is_empty_text (c.in-None.ensures ∙ first_value-rows (found_of c.args.matches.now)
    c.args.id.now)
