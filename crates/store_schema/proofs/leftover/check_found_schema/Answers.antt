use Rattle.std.proofs.Common.{arith}
use Rattle.sqlite_trees.specs.View.{IsClean}
use Rattle.store_schema.specs.StoredSchema.{ClassifiesSchema}
use Rattle.store_schema.proofs.LeftoverLemmas.{no_schema_found, schema_found}
use Rattle.store_schema.proofs.leftover.check_found_schema.Goals as goal

pub returns-in-Ok-clause-answers : goal.returns-in-Ok-clause-answers
returns-in-Ok-clause-answers g c clean =
    let loaded : IsClean (g.S.Store.view c.load_schema.new.store) =
    omega (arith, clean, c.check_listed_schema.ensures.quiet.clean) in
    schema_found ClassifiesSchema (g.S.Store.recovers c.args.store.now)
    (g.S.Store.view c.load_schema.new.store).trees c.in-Ok.schema c.check_listed_schema.result
    (λ db h. h) (λ db h. h) (c.in-Ok.ensures.loads loaded)
    (c.check_listed_schema.ensures.answers clean)

pub returns-in-Err-clause-answers : goal.returns-in-Err-clause-answers
returns-in-Err-clause-answers g c clean =
    no_schema_found ClassifiesSchema (g.S.Store.recovers c.args.store.now)
    (g.S.Store.view c.load_schema.new.store).trees c.in-Err.fault (c.in-Err.ensures.loads clean)
