use Rattle.std.proofs.Common.{rules, ◌≡◌, ◌<◌, ◌+◌, false, length, subst, ap, arith, ltb-true}
use Rattle.std.specs.Str.{IsUtf8}
use Rattle.std.specs.Option.{is_some}
use Rattle.store_rows.proofs.StripLemmas.{short_line}
use Rattle.store_rows.proofs.canonical.is_short.Goals as goal

pub returns : goal.returns
returns c = λ short.
    let no_group : is_some c.args.line.now.group ≡ false = search rules in
    let no_params : length c.args.line.now.params ≡ 0 = search rules in
    let fits : length c.args.line.now.name + length c.args.line.now.value < 75 =
    omega (
      arith,
      ltb-true _ _ short,
      ap length c.as_str.ensures,
      ap length c.as_str-2.ensures,
    ) in
    short_line c.folding_is_unique.ensures c.args.line.now (subst IsUtf8 c.as_str.ensures
    c.as_str.utf8) (subst IsUtf8 c.as_str-2.ensures c.as_str-2.utf8) no_group no_params fits
