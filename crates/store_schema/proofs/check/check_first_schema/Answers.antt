use Rattle.std.proofs.Common.{rules, inr, ◌≡◌, ◌↔◌, true, sym, ◌∙◌}
use Rattle.sqlite.specs.Held.{state}
use Rattle.store_tables.specs.SchemaCreation.{first_schema}
use Rattle.store_schema.specs.OpenFaults.{ComesFromOutside}
use Rattle.store_schema.specs.StoredSchema.{IsStoreSchema}
use Rattle.store_schema.proofs.AnswerLemmas.{first_passes, first_verified}
use Rattle.store_schema.proofs.FaultLemmas.{error_from_outside}
use Rattle.store_schema.proofs.check.check_first_schema.Goals as goal

pub returns-in-Ok-clause-answers : goal.returns-in-Ok-clause-answers
returns-in-Ok-clause-answers g c clean =
    let db = (state g.S.Store c.args.conn.now).now in
    let store : IsStoreSchema db.schema = search rules in
    let declared : (c.is_first_schema-is_first.result ≡ true) ↔ (db.schema ≡ first_schema) = (
      λ yes. sym c.schema.ensures.value ∙ c.is_first_schema-is_first.ensures.0 yes,
      λ e. c.is_first_schema-is_first.ensures.1 (c.schema.ensures.value ∙ e),
    ) in
    first_verified db c.in-Ok.rows.items c.is_first_schema-is_first.result store declared
    (c.in-Ok.ensures.lists clean store) c.stated_schema.result c.verify.result
    (rw c.as_slice.ensures.value at c.stated_schema.ensures) c.verify.ensures

pub returns-in-Ok-clause-opens : goal.returns-in-Ok-clause-opens
returns-in-Ok-clause-opens g c clean first =
    let old = state g.S.Store c.args.conn.now in
    let store : IsStoreSchema old.now.schema = inr first.schema in
    let declared : (c.is_first_schema-is_first.result ≡ true) ↔ (old.now.schema ≡ first_schema) = (
      λ yes. sym c.schema.ensures.value ∙ c.is_first_schema-is_first.ensures.0 yes,
      λ e. c.is_first_schema-is_first.ensures.1 (c.schema.ensures.value ∙ e),
    ) in
    first_passes old.now c.in-Ok.rows.items c.is_first_schema-is_first.result store declared
    (c.in-Ok.ensures.lists clean store) first
    (ComesFromOutside old (state g.S.Store c.list_meta.new.conn)) c.stated_schema.result
    c.verify.result (rw c.as_slice.ensures.value at c.stated_schema.ensures) c.verify.ensures

pub returns-in-Err-clause-opens : goal.returns-in-Err-clause-opens
returns-in-Err-clause-opens g c clean first =
    error_from_outside (state g.S.Store c.args.conn.now) (state g.S.Store c.list_meta.new.conn)
    c.in-Err.error c.open_fault_of.result c.open_fault_of.ensures.kind
    c.open_fault_of.ensures.value (c.in-Err.ensures.fails_from_outside clean (inr first.schema))
