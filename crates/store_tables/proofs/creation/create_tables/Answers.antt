use Rattle.sqlite.specs.Held.{state}
use Rattle.store_tables.proofs.SchemaCreationLemmas.{stays_then}
use Rattle.store_tables.proofs.creation.create_tables.Goals as goal

pub returns-in_err-create_remaining_tables-clause-no_commit :
    goal.returns-in_err-create_remaining_tables-clause-no_commit
returns-in_err-create_remaining_tables-clause-no_commit g c =
    stays_then (state g.S.Store c.args.tx.now.conn.now)
    (state g.S.Store c.create_first_tables.new.tx.conn.now)
    (state g.S.Store c.create_remaining_tables.new.tx.conn.now)
    c.in_ok-create_first_tables.ensures.stays_in_tx c.create_first_tables.ensures.no_commit
    c.create_remaining_tables.ensures.no_commit

pub returns-clause-no_commit : goal.returns-clause-no_commit
returns-clause-no_commit g c =
    stays_then (state g.S.Store c.args.tx.now.conn.now)
    (state g.S.Store c.create_first_tables.new.tx.conn.now)
    (state g.S.Store c.create_remaining_tables.new.tx.conn.now)
    c.in_ok-create_first_tables.ensures.stays_in_tx c.create_first_tables.ensures.no_commit
    c.create_remaining_tables.ensures.no_commit
