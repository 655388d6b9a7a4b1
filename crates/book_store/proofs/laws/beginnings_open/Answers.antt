use Rattle.book_store.proofs.BeginningLemmas.{created_store, migrated_store}
use Rattle.book_store.proofs.laws.beginnings_open.Goals as goal

pub returns-clause-created : goal.returns-clause-created
returns-clause-created c = created_store

pub returns-clause-migrated : goal.returns-clause-migrated
returns-clause-migrated c = migrated_store
