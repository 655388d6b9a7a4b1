use Rattle.std.proofs.Common.{◌≤◌, ◌∙◌, length, sym, arith}
use Rattle.std.proofs.Math.ListN.{get_or-eq_default}
use Rattle.std.proofs.lemmas.List.{get_or_default}
use Rattle.contact_csv.specs.Carrying.{extra_column}
use Rattle.contact_csv.proofs.keeping.column_at.Goals as goal

pub returns-then-place-columns : goal.returns-then-place-columns
returns-then-place-columns c = c.index-columns-place.is
    ∙ get_or_default c.args.columns.now c.args.place _ extra_column c.if-place-columns.true

pub returns : goal.returns
returns c =
    let past : length c.args.columns.now ≤ c.args.place = omega (arith, c.if-place-columns.false) in
    c.requires ∙ sym (get_or-eq_default c.args.columns.now extra_column past)
