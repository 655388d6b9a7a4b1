use Rattle.std.proofs.Common.{◌<◌, ap, arith, length, subst, sym}
use Rattle.sqlite.specs.Order.{column}
use Rattle.store_tables.specs.QueryResults.{counted}
use Rattle.store_tables.proofs.CountLemmas.{count_read}
use Rattle.store_tables.proofs.ReturningLemmas.{if_err_weaker, if_ok_weaker}
use Rattle.store_tables.proofs.counts.count_in.Goals as goal

pub returns-clause-count : goal.returns-clause-count
returns-clause-count c n is =
    if_ok_weaker c.get.result (λ k read. count_read c.args.row.now n k is read.1) c.get.ensures.ok

pub returns-clause-memory : goal.returns-clause-memory
returns-clause-memory c n is =
    if_err_weaker c.get.result (λ e unread room. unread room
    (subst (λ r. 0 < length r) (sym is) (omega arith))
    (counted n, ap (λ r. column r 0) is)) c.get.ensures.kind
