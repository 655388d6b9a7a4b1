use Rattle.store_lookups.proofs.StoreFaultLemmas.{passed_on}
use Rattle.store_queries.proofs.list_queries.card_map.Goals as goal

pub returns-in_err-cards-clause-memory : goal.returns-in_err-cards-clause-memory
returns-in_err-cards-clause-memory c all =
    passed_on c.from_residual.result c.in_err-cards.field-0.0 c.from_residual.ensures.1
    (c.in_err-cards.ensures.memory all)
