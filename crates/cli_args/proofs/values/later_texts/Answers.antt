use Rattle.std.proofs.Common.{◌∙◌, [], List, Option, Some, ap, drop, sym, ℕ}
use Rattle.std.specs.Prelude.{unwrap_or}
use Rattle.clap.specs.Words.{found_of}
use Rattle.clap.proofs.WalkLemmas.{raw_values-rows}
use Rattle.cli_args.proofs.values.later_texts.Goals as goal

-- the texts of an argument after the first one, or none
abbrev later : Option (List (List ℕ)) → Option (List (List ℕ))
later found = Some (drop 1 (unwrap_or found []))

pub returns-in_ok-later_copies-in-Some : goal.returns-in_ok-later_copies-in-Some
returns-in_ok-later_copies-in-Some c =
    ap later (sym (raw_values-rows (found_of c.args.matches.now) c.args.id.now)
    ∙ sym c.in-Some.ensures)
    ∙ ap Some (sym c.in_ok-later_copies-in-Some.ensures)

pub returns-in-None : goal.returns-in-None
returns-in-None c =
    ap later (sym (raw_values-rows (found_of c.args.matches.now) c.args.id.now)
    ∙ sym c.in-None.ensures)
    ∙ ap Some (sym c.new.ensures)
