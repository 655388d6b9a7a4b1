use Rattle.http_routes.proofs.QueryLemmas.{value_absent, value_there}
use Rattle.http_routes.proofs.query.value_or_empty.Goals as goal

pub returns-in-Some : goal.returns-in-Some
returns-in-Some c = value_there c.args.name.now c.args.pairs.now c.in-Some.value.now
    c.in-Some.ensures

pub returns-in-None : goal.returns-in-None
returns-in-None c = value_absent c.args.name.now c.args.pairs.now c.in-None.ensures
