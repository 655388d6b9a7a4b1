use Rattle.std.proofs.Common.{◌∷◌, [], ◌++◌, append_assoc, sym, ap, ◌∙◌}
use Rattle.std.proofs.lemmas.List.{append-nil}
use Rattle.import_text.specs.Units.{units}
use Rattle.import_text.proofs.UnitLemmas.{one_unit, no_unit}
use Rattle.import_text.proofs.utf16.read_units.Goals as goal

pub loop-unit-preserved : goal.loop-unit-preserved
loop-unit-preserved c =
    ap (λ us. us ++ units c.args.big c.in-Some.tail.now) c.in_ok-push.ensures.items
    ∙ append_assoc c.loop-unit.read.items (c.in-Some.unit ∷ [])
    (units c.args.big c.in-Some.tail.now)
    ∙ ap (λ us. c.loop-unit.read.items ++ us)
    (sym (one_unit c.args.big c.loop-unit.rest.now c.in-Some.unit c.in-Some.tail.now
    (sym c.in-Some.ensures)))
    ∙ c.loop-unit.invariant

pub returns : goal.returns
returns c =
    sym (append-nil c.loop-unit.read.items)
    ∙ ap (λ us. c.loop-unit.read.items ++ us)
    (sym (no_unit c.args.big c.loop-unit.rest.now (sym c.in_default.ensures)))
    ∙ c.loop-unit.invariant
