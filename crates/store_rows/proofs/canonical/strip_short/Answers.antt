use Rattle.std.proofs.Common.{◌∷◌, [], None}
use Rattle.base_types.specs.Octets.{colon}
use Rattle.store_rows.proofs.StripLemmas.{fails_first, then_strips}
use Rattle.store_rows.proofs.canonical.strip_short.Goals as goal

pub returns-in_default : goal.returns-in_default
returns-in_default c = fails_first c.args.text.now c.args.name.now _ c.in_default.ensures

pub returns-in_default-strip : goal.returns-in_default-strip
returns-in_default-strip c =
    then_strips c.args.text.now c.args.name.now _ c.in-Some.after_name.now None c.in-Some.ensures
    (fails_first c.in-Some.after_name.now (colon ∷ []) _ c.in_default-strip.ensures)

pub returns-in_default-strip-2 : goal.returns-in_default-strip-2
returns-in_default-strip-2 c =
    then_strips c.args.text.now c.args.name.now _ c.in-Some.after_name.now None c.in-Some.ensures
    (then_strips c.in-Some.after_name.now (colon ∷ []) _ c.in-Some-strip.after_colon.now None
    c.in-Some-strip.ensures
    (fails_first c.in-Some-strip.after_colon.now c.args.value.now _ c.in_default-strip-2.ensures))

pub returns : goal.returns
returns c =
    then_strips c.args.text.now c.args.name.now _ c.in-Some.after_name.now c.strip-4.result
    c.in-Some.ensures
    (then_strips c.in-Some.after_name.now (colon ∷ []) _ c.in-Some-strip.after_colon.now
    c.strip-4.result c.in-Some-strip.ensures
    (then_strips c.in-Some-strip.after_colon.now c.args.value.now _
    c.in-Some-strip-2.after_value.now c.strip-4.result c.in-Some-strip-2.ensures
    c.strip-4.ensures))
