use Rattle.store_rows.proofs.StripLemmas.{no_such_lines, one_line_more}
use Rattle.store_rows.proofs.canonical.strip_lines.Goals as goal

pub returns-in-None : goal.returns-in-None
returns-in-None c =
    no_such_lines c.args.lines.now c.loop-line.line-index c.line-item.result _ c.args.text.now
    c.loop-line.rest.now c.in_ok-after.field-0 c.loop-line-test.true c.line-item.is
    c.loop-line.invariant c.in_ok-after.ensures c.in-None.is

pub loop-line-preserved : goal.loop-line-preserved
loop-line-preserved c =
    one_line_more c.args.lines.now c.loop-line.line-index c.line-item.result _ c.args.text.now
    c.loop-line.rest.now c.in_ok-after.field-0 c.in-Some.after c.loop-line-test.true
    c.line-item.is
    c.loop-line.invariant c.in_ok-after.ensures c.in-Some.is
