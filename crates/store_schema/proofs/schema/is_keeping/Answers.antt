use Rattle.std.proofs.Common.{refl}
use Rattle.store_tables.specs.Tables.{keeping}
use Rattle.store_schema.proofs.SchemaLemmas.{table_is_decided}
use Rattle.store_schema.proofs.schema.is_keeping.Goals as goal

pub returns : goal.returns
returns c = table_is_decided _ c.args.table.now keeping c.is_table.result refl c.is_table.ensures
