use Rattle.std.proofs.Common.{rules, ◌≡◌, ◌<◌, false, length, subst, ap, arith}
use Rattle.std.specs.Str.{IsUtf8}
use Rattle.std.specs.Option.{is_some}
use Rattle.store_rows.proofs.FoldStripLemmas.{plain_line}
use Rattle.store_rows.proofs.canonical.is_plain.Goals as goal

pub returns-then-as_str-lt-CONTINUATION_OCTETS_MAX-clause-text :
    goal.returns-then-as_str-lt-CONTINUATION_OCTETS_MAX-clause-text
returns-then-as_str-lt-CONTINUATION_OCTETS_MAX-clause-text c = λ ascii.
    let no_group : is_some c.args.line.now.group ≡ false = search rules in
    let no_params : length c.args.line.now.params ≡ 0 = search rules in
    let short : length c.args.line.now.name < 74 =
    omega (arith, c.if-as_str-lt-CONTINUATION_OCTETS_MAX.true, ap length c.as_str.ensures) in
    plain_line c.args.line.now (subst IsUtf8 c.as_str.ensures c.as_str.utf8) no_group no_params
    short
