use Rattle.store_lookups.proofs.StoreFaultLemmas.{canonical_utf8}
use Rattle.store_queries.proofs.live_rows.canonical_card.Goals as goal

pub returns-in_default-clause-memory : goal.returns-in_default-clause-memory
returns-in_default-clause-memory c canonical =
    absurd (c.in_default.ensures.cases.0 (canonical_utf8 c.args.octets.now canonical))
