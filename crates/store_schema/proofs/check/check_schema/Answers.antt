use Rattle.std.proofs.Common.{rules, inl, ◌≡◌, ◌↔◌, true, sym, ◌∙◌}
use Rattle.sqlite.specs.Held.{state}
use Rattle.store_tables.specs.Tables.{book_schema}
use Rattle.store_schema.specs.OpenFaults.{ComesFromOutside}
use Rattle.store_schema.specs.StoredSchema.{IsStoreSchema}
use Rattle.store_schema.proofs.AnswerLemmas.{current_passes, verified}
use Rattle.store_schema.proofs.FaultLemmas.{error_from_outside}
use Rattle.store_schema.proofs.check.check_schema.Goals as goal

pub returns-in-Ok-clause-answers : goal.returns-in-Ok-clause-answers
returns-in-Ok-clause-answers g c clean =
    let db = (state g.S.Store c.args.conn.now).now in
    let store : IsStoreSchema db.schema = search rules in
    let ours : (c.is_book_schema-keeps.result ≡ true) ↔ (db.schema ≡ book_schema) = (
      λ yes. sym c.schema.ensures.value ∙ c.is_book_schema-keeps.ensures.0 yes,
      λ e. c.is_book_schema-keeps.ensures.1 (c.schema.ensures.value ∙ e),
    ) in
    verified db c.in-Ok.rows.items c.is_book_schema-keeps.result store ours
    (c.in-Ok.ensures.lists clean store) c.stated_schema.result c.verify.result
    (rw c.as_slice.ensures.value at c.stated_schema.ensures) c.verify.ensures

pub returns-in-Ok-clause-opens : goal.returns-in-Ok-clause-opens
returns-in-Ok-clause-opens g c clean ours =
    let old = state g.S.Store c.args.conn.now in
    let store : IsStoreSchema old.now.schema = inl ours.schema in
    let keeps : (c.is_book_schema-keeps.result ≡ true) ↔ (old.now.schema ≡ book_schema) = (
      λ yes. sym c.schema.ensures.value ∙ c.is_book_schema-keeps.ensures.0 yes,
      λ e. c.is_book_schema-keeps.ensures.1 (c.schema.ensures.value ∙ e),
    ) in
    current_passes old.now c.in-Ok.rows.items c.is_book_schema-keeps.result store keeps
    (c.in-Ok.ensures.lists clean store) ours
    (ComesFromOutside old (state g.S.Store c.list_meta.new.conn)) c.stated_schema.result
    c.verify.result (rw c.as_slice.ensures.value at c.stated_schema.ensures) c.verify.ensures

pub returns-in-Err-clause-opens : goal.returns-in-Err-clause-opens
returns-in-Err-clause-opens g c clean ours =
    error_from_outside (state g.S.Store c.args.conn.now) (state g.S.Store c.list_meta.new.conn)
    c.in-Err.error c.open_fault_of.result c.open_fault_of.ensures.kind
    c.open_fault_of.ensures.value (c.in-Err.ensures.fails_from_outside clean (inl ours.schema))
