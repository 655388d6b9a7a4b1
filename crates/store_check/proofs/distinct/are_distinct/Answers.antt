use Rattle.std.proofs.Common.{rules, ◌≡◌, length}
use Rattle.store_check.proofs.DistinctLemmas.{distinct_by_count}
use Rattle.store_check.proofs.distinct.are_distinct.Goals as goal

pub returns : goal.returns
returns g c =
    let count : c.len-count.result ≡ length c.args.keys.items = search rules in
    distinct_by_count g.met.K.Ord.total c.args.keys.items c.in_ok-set.set c.len.result
    c.len-count.result c.in_ok-set.ensures c.len.ensures.len count
