use Rattle.store_tables.proofs.CreateTableLemmas.{creates_keeps}
use Rattle.store_tables.proofs.CreationFailures.{keeps_fails}
use Rattle.store_tables.proofs.WriteLemmas.{creates_table}
use Rattle.store_tables.proofs.creation.create_keeps.Goals as goal

pub returns : goal.returns
returns g c =
    creates_table g.S.Store c.args.tx.now c.execute.new.self c.execute.ensures.same_reference _ _ _
    _
    c.execute.result c.execute.ensures.runs c.execute.ensures.survives creates_keeps keeps_fails
