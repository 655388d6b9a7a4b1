use Rattle.std.proofs.Common.{[], ◌∷◌, ap, pos}
use Rattle.sqlite.specs.declared.types.Value.TheVariants.{Int}
use Rattle.store_lookups.proofs.FindLemmas.{back_of, remembered_found, shows_exact}
use Rattle.store_lookups.proofs.StoreFaultLemmas.{few_counted, only_memory}
use Rattle.store_lookups.proofs.lookups.count_removals.Goals as goal

pub returns-in-Ok-clause-remembered : goal.returns-in-Ok-clause-remembered
returns-in-Ok-clause-remembered g c rows clean holds sound name =
    let id = back_of c.in_ok-id.id c.id.result c.args.header.id c.in_ok-id.ensures.ok
    c.in_ok-id.ensures.fits c.id.ensures in
    let horizon = back_of c.in_ok-horizon.horizon c.horizon.result c.args.header.horizon
    c.in_ok-horizon.ensures.ok c.in_ok-horizon.ensures.fits c.horizon.ensures.value in
    remembered_found rows name c.args.header (Int (pos c.in-Ok.count) ∷ []) c.exact_count.result
    sound (ap (λ n. Int (pos n) ∷ [])
    (rw (id, horizon) at (c.in-Ok.ensures.returns rows.members clean holds.schema holds.members)))
    (shows_exact c.in-Ok.count c.exact_count.result c.exact_count.ensures.count
    c.exact_count.ensures.below)

pub returns-in-Ok-clause-store_fault : goal.returns-in-Ok-clause-store_fault
returns-in-Ok-clause-store_fault g c fits rows clean holds faultless =
    only_memory c.exact_count.result _ (few_counted _ rows.members c.in-Ok.count
    c.exact_count.result
    (c.in-Ok.ensures.returns rows.members clean holds.schema holds.members) faultless.few_members
    c.exact_count.ensures.memory)
