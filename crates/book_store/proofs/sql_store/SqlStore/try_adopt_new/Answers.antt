use Rattle.std.proofs.Common.{rules, ◌≡◌, sym, ◌∙◌}
use Rattle.store_tables.specs.SchemaCreation.{empty_schema}
use Rattle.sqlite.specs.Held.{state}
use Rattle.sqlite.specs.Tree.{Trees}
use Rattle.store_lookups.specs.StoredBooks.{stored_books}
use Rattle.book_store.proofs.StoreLemmas.{new_store_is_formed, new_store_is_sound, new_store_leaves}
use Rattle.book_store.proofs.sql_store.SqlStore.try_adopt_new.Goals as goal

pub invariant_of-result : goal.invariant_of-result
invariant_of-result g c =
    let bare : (state g.S.Store c.args.connection).now.schema ≡ empty_schema =
    sym c.schema.ensures.value ∙ c.is_schema_empty.ensures.0 (search rules) in (
      record {
        settled = c.commit_tables.ensures.settled;
        stays_sound = λ order. new_store_is_sound (state g.S.Store c.commit_tables.new.conn)
            (c.in-Ok.ensures.creates_tables order.0 bare);
        stays_well_formed = λ order. new_store_is_formed (state g.S.Store c.commit_tables.new.conn)
            (c.in-Ok.ensures.creates_tables order.0 bare);
        leaves_stores = λ clean. new_store_leaves (state g.S.Store c.commit_tables.new.conn)
            (λ (trees : Trees) up may. g.met.S.Store.settled c.commit_tables.new.conn.store trees up
            may) (c.in-Ok.ensures.creates_tables clean bare);
        range = search rules;
      },
      λ order sound. c.new.ensures.right (stored_books (state g.S.Store c.commit_tables.new.conn)),
    )

pub returns-in-Ok-clause-opened : goal.returns-in-Ok-clause-opened
returns-in-Ok-clause-opened g c clean =
    let bare : (state g.S.Store c.args.connection).now.schema ≡ empty_schema =
    sym c.schema.ensures.value ∙ c.is_schema_empty.ensures.0 (search rules) in
    (c.in-Ok.ensures.creates_tables clean bare).is_open
