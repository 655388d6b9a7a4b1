use Rattle.book_service.proofs.StoreLifeLemmas.{creations_begin_lives, openings_lead_on}
use Rattle.book_service.proofs.StoreLifeLemmas.{restarts_lead_on, resyncs_lead_on, runs_lead_on}
use Rattle.book_service.proofs.StoreLifeLemmas.{stores_begin_lives}
use Rattle.book_service.proofs.store_lives.stores_live_on.Goals as goal

pub returns-clause-starts : goal.returns-clause-starts
returns-clause-starts g c = stores_begin_lives g.S.BookStore.model

pub returns-clause-runs : goal.returns-clause-runs
returns-clause-runs g c = runs_lead_on g.S.BookStore.model

pub returns-clause-restarts : goal.returns-clause-restarts
returns-clause-restarts g c = restarts_lead_on g.S.BookStore.model

pub returns-clause-resyncs : goal.returns-clause-resyncs
returns-clause-resyncs g c =
    resyncs_lead_on g.S.BookStore.model c.resyncs_continue_lives.ensures.lives

pub returns-clause-creations : goal.returns-clause-creations
returns-clause-creations g c =
    creations_begin_lives g.S.BookStore.model c.new_stores_start.ensures

pub returns-clause-openings : goal.returns-clause-openings
returns-clause-openings g c = openings_lead_on g.S.BookStore.model
