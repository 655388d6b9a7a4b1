use Rattle.std.proofs.Common.{◌≡◌, ◌∙◌, None, Some, ap, codes, sym}
use Rattle.std.specs.Prelude.{option_and_then}
use Rattle.clap.specs.Words.{first_of, found_of, rows_of}
use Rattle.clap.proofs.WalkLemmas.{first_value-rows}
use Rattle.cli_args.specs.ParsedOrders.{older_of}
use Rattle.cli_args.proofs.export_command.older_arg.Goals as goal

pub returns-in_default : goal.returns-in_default
returns-in_default c =
    let none : first_of (codes "V") (rows_of (found_of c.args.matches.now)) ≡ None =
    sym (first_value-rows (found_of c.args.matches.now) (codes "V")) ∙ sym c.in_default.ensures in
    rw none c.refuse.ensures

pub returns-in-Some-older_of : goal.returns-in-Some-older_of
returns-in-Some-older_of c =
    let some : first_of (codes "V") (rows_of (found_of c.args.matches.now))
    ≡ Some c.in-Some.text.now =
    sym (first_value-rows (found_of c.args.matches.now) (codes "V")) ∙ sym c.in-Some.ensures in
    ap (option_and_then older_of) some ∙ sym c.older_of.ensures ∙ c.in-Some-older_of.is

pub returns-in-None : goal.returns-in-None
returns-in-None c =
    let some : first_of (codes "V") (rows_of (found_of c.args.matches.now))
    ≡ Some c.in-Some.text.now =
    sym (first_value-rows (found_of c.args.matches.now) (codes "V")) ∙ sym c.in-Some.ensures in
    rw (ap (option_and_then older_of) some ∙ sym c.older_of.ensures
    ∙ c.in-None.is) c.refuse-in-None.ensures
