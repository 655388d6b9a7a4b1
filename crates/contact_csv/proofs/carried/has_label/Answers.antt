use Rattle.std.proofs.Common.{◌≡◌, ◌∙◌, ap, sym, subst, arith}
use Rattle.std.specs.List.{Contains}
use Rattle.std.specs.Str.{str_to_ascii_lowercase}
use Rattle.contact_csv.specs.Carrying.{has_types, as_types, as_name}
use Rattle.contact_csv.proofs.carried.has_label.Goals as goal

pub returns-then-has_types : goal.returns-then-has_types
returns-then-has_types c = λ t.
    let line = c.index-lines-home.result in
    let there : Contains c.args.lines.now line = (
      c.args.home,
      omega (arith, c.if-home-lines.false),
      sym c.index-lines-home.is,
    ) in
    as_types line there (subst (λ types. has_types types line) c.label_types-types.ensures
    (c.has_types.ensures c.if-has_types.true))

pub returns : goal.returns
returns c = λ t.
    let line = c.index-lines-home.result in
    let there : Contains c.args.lines.now line = (
      c.args.home,
      omega (arith, c.if-home-lines.false),
      sym c.index-lines-home.is,
    ) in
    let named : str_to_ascii_lowercase line.name ≡ str_to_ascii_lowercase c.args.label.now =
    ap str_to_ascii_lowercase (sym c.as_str.ensures)
    ∙ c.eq_ignore_ascii_case.ensures.test.0 t in
    as_name line there named
