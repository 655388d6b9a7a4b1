use Rattle.std.proofs.Common.{arith}
use Rattle.sqlite_trees.specs.View.{IsClean}
use Rattle.store_schema.proofs.LeftoverLemmas.{number_of_rows}
use Rattle.store_schema.proofs.leftover.load_number.Goals as goal

pub returns-clause-number : goal.returns-clause-number
returns-clause-number g c clean =
    let view = g.S.Store.view in
    let once : IsClean (view c.next_meta.new.store) =
    omega (arith, clean, c.next_meta-2.ensures.quiet.clean) in
    let begun : IsClean (view c.seek.new.self) =
    omega (arith, once, c.next_meta.ensures.quiet.clean) in
    number_of_rows (view c.args.store.now) (view c.seek.new.self) _ c.new-key.result
    c.new-key.ensures (c.in_ok-seek.ensures.ok begun) (view c.next_meta.new.store)
    (view c.next_meta-2.new.store) c.in_ok-first.first c.in_ok-second.second
    c.only_number.result (c.in_ok-first.ensures.next once) (c.in_ok-second.ensures.next clean)
    c.only_number.ensures
