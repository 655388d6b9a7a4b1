use Rattle.std.proofs.Common.{arith}
use Rattle.std.proofs.lemmas.Int.{ints}
use Rattle.store_tables.proofs.laws.empty_tables_have_free_ids.Goals as goal

pub returns : goal.returns
returns c count low = record { columns = tt; last_greatest = tt; room = omega (arith, ints, low) }
