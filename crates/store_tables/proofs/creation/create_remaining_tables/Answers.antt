use Rattle.sqlite.specs.Held.{state}
use Rattle.sqlite.specs.State.{HasCleanDisk}
use Rattle.store_tables.specs.SchemaCreation.{StaysUncommitted}
use Rattle.store_tables.proofs.ReturningLemmas.{on_ok_both}
use Rattle.store_tables.proofs.SchemaCreationLemmas.{clean_before, stays_then, schema_created}
use Rattle.store_tables.proofs.creation.create_remaining_tables.Goals as goal

pub returns-clause-creates : goal.returns-clause-creates
returns-clause-creates g c clean inside was =
    let a = state g.S.Store c.args.tx.now.conn.now in
    let b = state g.S.Store c.create_imports.new.tx.conn.now in
    let m = state g.S.Store c.create_keeps.new.tx.conn.now in
    let d = state g.S.Store c.insert_schema.new.tx.conn.now in
    let third : HasCleanDisk m = clean_before _ m d c.insert_schema.ensures.no_commit.survives
    clean in
    let second : HasCleanDisk b = clean_before _ b m c.create_keeps.ensures.survives third in
    let one = c.in_ok-create_imports.ensures.creates second inside was.schema in
    let on = c.in_ok-create_imports.ensures.stays_in_tx second inside in
    let two = c.in_ok-create_keeps.ensures.creates third on one.schema in
    let more = c.in_ok-create_keeps.ensures.stays_in_tx third on in
    on_ok_both c.insert_schema.result (λ added wrote. record {
      holds = schema_created a b m d was
          one two added wrote;
      inside = wrote.inside;
    })
    (c.insert_schema.ensures.adds clean more two.schema) (c.insert_schema.ensures.writes clean more
    two.schema)

pub returns-clause-no_commit : goal.returns-clause-no_commit
returns-clause-no_commit g c =
    let a = state g.S.Store c.args.tx.now.conn.now in
    let b = state g.S.Store c.create_imports.new.tx.conn.now in
    let m = state g.S.Store c.create_keeps.new.tx.conn.now in
    let d = state g.S.Store c.insert_schema.new.tx.conn.now in
    let one : StaysUncommitted a b = record {
      kept = c.create_imports.ensures.keeps_commit;
      survives = c.create_imports.ensures.survives;
    } in
    let two : StaysUncommitted b m = record {
      kept = c.create_keeps.ensures.keeps_commit;
      survives = c.create_keeps.ensures.survives;
    } in
    let three : StaysUncommitted m d = record {
      kept = c.insert_schema.ensures.keeps_commit;
      survives = c.insert_schema.ensures.no_commit.survives;
    } in
    stays_then a m d (λ third inside. c.in_ok-create_keeps.ensures.stays_in_tx third
    (c.in_ok-create_imports.ensures.stays_in_tx (clean_before _ b m two.survives third) inside))
    (stays_then a b m c.in_ok-create_imports.ensures.stays_in_tx one two) three
