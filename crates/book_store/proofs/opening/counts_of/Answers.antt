use Rattle.std.proofs.Common.{rules, ◌≡◌, string_bytes, subst, sym}
use Rattle.book_model.specs.Counts.{IsWritten}
use Rattle.book_model.proofs.EntryLemmas.{right_counted}
use Rattle.store_check.specs.TombstoneCounts.{IsCountOf}
use Rattle.store_queries.proofs.QueryFaultLemmas.{all_at}
use Rattle.book_store.proofs.opening.counts_of.Goals as goal

pub loop-count-init : goal.loop-count-init
loop-count-init c books all = c.new-counts.ensures.right books

pub loop-count-preserved : goal.loop-count-preserved
loop-count-preserved c books all =
    let count = c.count-item.result in
    let is = all_at (IsCountOf books) c.args.found.now c.loop-count.count-index count all
    c.loop-count-test.true c.count-item.is in
    let named : c.as_str.result.now ≡ string_bytes count.book = search rules in
    right_counted c.loop-count.counts c.set.new.self books (string_bytes count.book) is.book
    (c.loop-count.invariant books all) is.listed
    (subst (λ n. IsWritten c.loop-count.counts c.set.new.self (string_bytes count.book) n)
    (sym is.counted)
    (subst (λ name. IsWritten c.loop-count.counts c.set.new.self name count.tombstones) named
    c.set.ensures))
