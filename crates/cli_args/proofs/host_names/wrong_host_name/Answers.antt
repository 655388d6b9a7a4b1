use Rattle.std.proofs.Common.{◌∙◌, [], List, Option, ap, ℕ}
use Rattle.std.specs.Prelude.{unwrap_or}
use Rattle.clap.specs.Words.{found_of}
use Rattle.clap.proofs.WalkLemmas.{raw_values-rows}
use Rattle.cli_args.specs.HostNames.{first_wrong}
use Rattle.cli_args.proofs.host_names.wrong_host_name.Goals as goal

-- the first of the texts of an option that isn't the name of a host
abbrev first_of : Option (List (List ℕ)) → List ℕ
first_of found = first_wrong (unwrap_or found [])

pub returns-in-Some : goal.returns-in-Some
returns-in-Some c =
    c.first_wrong.ensures
    ∙ ap first_of (c.in-Some.ensures
    ∙ raw_values-rows (found_of c.args.matches.now) c.args.id.now)

pub returns-in-None : goal.returns-in-None
returns-in-None c =
    ap first_of (c.in-None.ensures
    ∙ raw_values-rows (found_of c.args.matches.now) c.args.id.now)
