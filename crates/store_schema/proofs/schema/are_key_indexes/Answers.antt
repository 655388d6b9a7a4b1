use Rattle.store_schema.proofs.SchemaLemmas.{indexes_are_decided}
use Rattle.store_schema.proofs.schema.are_key_indexes.Goals as goal

pub returns : goal.returns
returns c = search (indexes_are_decided, c.are_indexes.ensures)
