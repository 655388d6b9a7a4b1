-- The cause of an error of each of the three statements. Given here: each finds the tables that the
-- one before it left, whose rows obey their constraints.
use Rattle.std.proofs.Common.{rules, ◌≡◌, map, Err, sym, ap, subst, ◌∙◌, arith}
use Rattle.sqlite.specs.Held.{state}
use Rattle.sqlite.specs.State.{HasCleanDisk}
use Rattle.sqlite.proofs.StateLemmas.{survives_then}
use Rattle.store_schema.specs.FirstSchema.{first_number}
use Rattle.store_tables.specs.Books.{HoldBooks}
use Rattle.store_tables.specs.Failures.{HasOutsideCauseOfError}
use Rattle.store_tables.proofs.FailureLemmas.{outside_later}
use Rattle.store_tables.proofs.SchemaCreationLemmas.{clean_before}
use Rattle.store_migration.specs.internal.FirstRows.{HasOneSchemaNumber, meta_cells}
use Rattle.store_migration.proofs.writing.write_keeps.Goals as goal

pub returns-in_err-create_keeps-clause-fails_from_outside :
    goal.returns-in_err-create_keeps-clause-fails_from_outside
returns-in_err-create_keeps-clause-fails_from_outside g c id keep_rows bs clean inside first returned
    books accept =
    let said : c.from_residual.result ≡ Err c.in_err-create_keeps.field-0.0 = search rules in
    subst (λ r. HasOutsideCauseOfError (state g.S.Store c.args.tx.now.conn.now)
    (state g.S.Store c.create_keeps.new.tx.conn.now) r) (sym said)
    (c.in_err-create_keeps.ensures.fails_from_outside clean inside first.schema)

pub returns-in_err-insert_keeps-clause-fails_from_outside :
    goal.returns-in_err-insert_keeps-clause-fails_from_outside
returns-in_err-insert_keeps-clause-fails_from_outside g c id keep_rows bs clean inside first returned
    books accept =
    let old = state g.S.Store c.args.tx.now.conn.now in
    let mid = state g.S.Store c.create_keeps.new.tx.conn.now in
    let new = state g.S.Store c.insert_keeps.new.tx.conn.now in
    let early : HasCleanDisk mid = clean_before _ mid new c.insert_keeps.ensures.survives clean in
    let made = c.in_ok-create_keeps.ensures.creates early inside first.schema in
    let on = c.in_ok-create_keeps.ensures.stays_in_tx early inside in
    let held : HoldBooks (mid.now.trees 2) bs = subst (λ rows. HoldBooks rows bs)
    (sym made.others.1.0) books in
    let said : c.from_residual-in_err-insert_keeps.result ≡ Err c.in_err-insert_keeps.field-0.0 =
    search rules in
    subst (λ r. HasOutsideCauseOfError old new r) (sym said)
    (λ room. outside_later old mid new _ _ c.create_keeps.ensures.survives early
    c.insert_keeps.ensures.survives (c.in_err-insert_keeps.ensures.fails_from_outside keep_rows bs
    made.empty returned held accept clean on made.schema made.obeys room))

pub returns-in_err-update_schema_number-clause-fails_from_outside :
    goal.returns-in_err-update_schema_number-clause-fails_from_outside
returns-in_err-update_schema_number-clause-fails_from_outside g c id keep_rows bs clean inside first
    returned books accept =
    let old = state g.S.Store c.args.tx.now.conn.now in
    let made_at = state g.S.Store c.create_keeps.new.tx.conn.now in
    let mid = state g.S.Store c.insert_keeps.new.tx.conn.now in
    let new = state g.S.Store c.update_schema_number.new.tx.conn.now in
    let second : HasCleanDisk mid = clean_before _ mid new c.update_schema_number.ensures.survives
    clean in
    let early : HasCleanDisk made_at = clean_before _ made_at mid c.insert_keeps.ensures.survives
    second in
    let made = c.in_ok-create_keeps.ensures.creates early inside first.schema in
    let on = c.in_ok-create_keeps.ensures.stays_in_tx early inside in
    let wrote = (c.in_ok-insert_keeps.ensures.holds keep_rows second on made.schema made.empty
    returned).wrote in
    let kept = c.in_ok-insert_keeps.ensures.obeys keep_rows second on made.schema made.empty returned
    made.obeys in
    let one : HasOneSchemaNumber id first_number mid.now = ap (map meta_cells)
    (wrote.other_tables.0 (λ e. omega (arith, e)) ∙ made.others.0) ∙ first.one in
    let both = survives_then old made_at mid _ _ (λ _. ⊥) (λ _ db none. none) (λ _ db none. none)
    c.create_keeps.ensures.survives c.insert_keeps.ensures.survives in
    let said : c.from_residual-in_err-update_schema_number.result
    ≡ Err c.in_err-update_schema_number.field-0.0 = search rules in
    subst (λ r. HasOutsideCauseOfError old new r) (sym said)
    (λ room. outside_later old mid new _ _ both second c.update_schema_number.ensures.survives
    (c.in_err-update_schema_number.ensures.fails_from_outside id first.fits one clean wrote.inside
    wrote.schema kept room))
