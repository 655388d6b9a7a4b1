use Rattle.std.proofs.Common.{List, subst, arith}
use Rattle.std.proofs.lemmas.List.{take_all}
use Rattle.sqlite.specs.Order.{Row}
use Rattle.store_rows.specs.ReadLaws.{ShowLines}
use Rattle.store_queries.proofs.RowListLemmas.{lines_step}
use Rattle.store_lookups.specs.StoreFaults.{ShowsFaultlessBook}
use Rattle.store_lookups.proofs.StoreFaultLemmas.{passed_on}
use Rattle.store_queries.proofs.QueryFaultLemmas.{all_at}
use Rattle.store_queries.proofs.row_lists.lines_in.Goals as goal

pub loop-row-preserved : goal.loop-row-preserved
loop-row-preserved c =
    lines_step c.args.rows.now c.loop-row.row-index c.loop-row.lines.items c.push.new.self.items
    c.row-item.result c.in_ok-line.line
    c.loop-row-test.true c.row-item.is c.in_ok-push.ensures.items c.loop-row.invariant
    c.in_ok-line.ensures.line

pub returns-clause-lines : goal.returns-clause-lines
returns-clause-lines c = subst (λ (rs : List Row). ShowLines rs c.loop-row.lines.items)
    (take_all c.loop-row.row-index c.args.rows.now (omega arith)) c.loop-row.invariant

pub returns-in_err-line-clause-memory : goal.returns-in_err-line-clause-memory
returns-in_err-line-clause-memory c all =
    passed_on c.from_residual-in_err-line.result c.in_err-line.field-0.0
    c.from_residual-in_err-line.ensures.1 (c.in_err-line.ensures.memory
    (all_at ShowsFaultlessBook c.args.rows.now c.loop-row.row-index c.row-item.result all
    c.loop-row-test.true c.row-item.is))
