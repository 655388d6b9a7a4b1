use Rattle.std.proofs.Common.{rules, ◌≡◌, ◌+◌, sym, subst}
use Rattle.book_model.specs.BookQueries.{tombstone_count}
use Rattle.book_model.specs.Counting.{one_if}
use Rattle.store_writes.proofs.counting.count_stored.Goals as goal

pub returns : goal.returns
returns c books before after right at fewer =
    let is : c.from.result ≡ one_if c.args.was_tombstone = search rules in
    c.count_replaced.ensures books before after right at (subst (λ n. tombstone_count after + n
    ≡ tombstone_count before) (sym is) fewer)
