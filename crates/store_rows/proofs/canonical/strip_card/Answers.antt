use Rattle.store_rows.proofs.StripLemmas.{no_head, no_lines, then_end}
use Rattle.store_rows.proofs.canonical.strip_card.Goals as goal

pub returns-in_default : goal.returns-in_default
returns-in_default c = no_head c.folding_is_unique.ensures c.args.text.now c.args.card.now
    c.in_default.ensures

pub returns-in-Some-2 : goal.returns-in-Some-2
returns-in-Some-2 c =
    then_end c.folding_is_unique.ensures c.args.text.now c.in-Some.rest.now c.lines.result.now
    c.args.card.now c.in_ok-rest.field-0 c.strip-in-Some-2.result c.in-Some-2.rest
    c.lines.ensures.lines c.in-Some.ensures c.in_ok-rest.ensures c.in-Some-2.is
    c.strip-in-Some-2.ensures

pub returns-in-None : goal.returns-in-None
returns-in-None c =
    no_lines c.folding_is_unique.ensures c.args.text.now c.in-Some.rest.now c.lines.result.now
    c.args.card.now c.in_ok-rest.field-0
    c.lines.ensures.lines c.in-Some.ensures c.in_ok-rest.ensures c.in-None.is
