use Rattle.std.proofs.Common.{◌∷◌, [], None}
use Rattle.base_types.specs.Octets.{colon}
use Rattle.store_rows.proofs.StripLemmas.{fails_first, then_strips}
use Rattle.store_rows.proofs.canonical.strip_plain.Goals as goal

pub returns-in_default-strip : goal.returns-in_default-strip
returns-in_default-strip c =
    then_strips c.args.text.now c.args.name.now _ c.in-Some.after_name.now None c.in-Some.ensures
    (fails_first c.in-Some.after_name.now (colon ∷ []) _ c.in_default-strip.ensures)

pub returns : goal.returns
returns c =
    then_strips c.args.text.now c.args.name.now _ c.in-Some.after_name.now c.strip_value.result
    c.in-Some.ensures
    (then_strips c.in-Some.after_name.now (colon ∷ []) _ c.in-Some-strip.after_colon.now
    c.strip_value.result c.in-Some-strip.ensures c.strip_value.ensures)
