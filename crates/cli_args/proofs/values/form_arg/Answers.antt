use Rattle.std.proofs.Common.{◌≡◌, ◌∙◌, None, Some, ap, codes, sym}
use Rattle.std.specs.Prelude.{option_and_then}
use Rattle.clap.specs.Words.{first_of, found_of, rows_of}
use Rattle.clap.proofs.WalkLemmas.{first_value-rows}
use Rattle.cli_args.specs.ParsedOrders.{form_of}
use Rattle.cli_args.proofs.values.form_arg.Goals as goal

pub returns-in_default : goal.returns-in_default
returns-in_default c =
    let none : first_of (codes "F") (rows_of (found_of c.args.matches.now)) ≡ None =
    sym (first_value-rows (found_of c.args.matches.now) (codes "F")) ∙ sym c.in_default.ensures in
    rw none c.refuse.ensures

pub returns-in-Some-form_of : goal.returns-in-Some-form_of
returns-in-Some-form_of c =
    let some : first_of (codes "F") (rows_of (found_of c.args.matches.now))
    ≡ Some c.in-Some.text.now =
    sym (first_value-rows (found_of c.args.matches.now) (codes "F")) ∙ sym c.in-Some.ensures in
    ap (option_and_then form_of) some ∙ sym c.form_of.ensures ∙ c.in-Some-form_of.is

pub returns-in-None : goal.returns-in-None
returns-in-None c =
    let some : first_of (codes "F") (rows_of (found_of c.args.matches.now))
    ≡ Some c.in-Some.text.now =
    sym (first_value-rows (found_of c.args.matches.now) (codes "F")) ∙ sym c.in-Some.ensures in
    rw (ap (option_and_then form_of) some ∙ sym c.form_of.ensures
    ∙ c.in-None.is) c.refuse-in-None.ensures
