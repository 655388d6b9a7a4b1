use Rattle.std.proofs.Common.{ap, not, sym, ◌∙◌}
use Rattle.std.proofs.lemmas.List.{nil_from_length}
use Rattle.vcard_import.proofs.FoldLemmas.{goes_on, stops, all_read}
use Rattle.vcard_import.proofs.folds.is_cut.Goals as goal

pub returns-then-stops_at : goal.returns-then-stops_at
returns-then-stops_at c =
    ap not c.go_on.ensures
    ∙ sym (stops c.args.cut c.loop-line.rest.now c.in-Some.line.now c.in-Some.others.now
    c.in-Some.ensures.cases.0 (sym c.if-stops_at.ensures))
    ∙ c.loop-line.invariant

pub loop-line-preserved : goal.loop-line-preserved
loop-line-preserved c =
    goes_on c.args.cut c.loop-line.rest.now c.in-Some.line.now c.in-Some.others.now c.in-Some.ensures.cases.0
    (sym c.if-stops_at.ensures)
    ∙ c.loop-line.invariant

pub returns : goal.returns
returns c =
    sym (all_read c.args.cut c.loop-line.rest.now (nil_from_length c.loop-line.rest.now
    c.in_default.ensures.cases))
    ∙ c.loop-line.invariant
