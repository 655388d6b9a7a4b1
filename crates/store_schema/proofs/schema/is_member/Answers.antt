use Rattle.std.proofs.Common.{refl}
use Rattle.store_tables.specs.Tables.{member}
use Rattle.store_schema.proofs.SchemaLemmas.{table_is_decided}
use Rattle.store_schema.proofs.schema.is_member.Goals as goal

pub returns : goal.returns
returns c = table_is_decided _ c.args.table.now member c.is_table.result refl c.is_table.ensures
