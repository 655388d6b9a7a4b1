use Rattle.std.proofs.Common.{◌∙◌, [], List, Option, Some, ap, sym, ℕ}
use Rattle.std.specs.Prelude.{unwrap_or}
use Rattle.clap.specs.Words.{found_of}
use Rattle.clap.proofs.WalkLemmas.{raw_values-rows}
use Rattle.cli_args.proofs.values.given_texts.Goals as goal

-- the texts of an option, or none
abbrev texts : Option (List (List ℕ)) → Option (List (List ℕ))
texts found = Some (unwrap_or found [])

pub returns-in_ok-copies_of-in-Some : goal.returns-in_ok-copies_of-in-Some
returns-in_ok-copies_of-in-Some c =
    ap texts (sym (raw_values-rows (found_of c.args.matches.now) c.args.id.now)
    ∙ sym c.in-Some.ensures) ∙ ap Some (sym c.in_ok-copies_of-in-Some.ensures)

pub returns-in-None : goal.returns-in-None
returns-in-None c =
    ap texts (sym (raw_values-rows (found_of c.args.matches.now) c.args.id.now)
    ∙ sym c.in-None.ensures) ∙ ap Some (sym c.new.ensures)
