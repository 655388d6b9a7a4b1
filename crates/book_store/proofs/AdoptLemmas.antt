-- A store that was opened over a connection: the state before the tables were tested (`a`), after
-- it
-- (`b`), and after the test that the connection is still open (`c`).
use Rattle.std.proofs.Common.{◌≡◌, inl, inr, false, Err, sym, ap, subst, ◌∙◌}
use Rattle.std.proofs.lemmas.Bool.{cases_Bool}
use Rattle.sqlite.specs.Effect.{Database}
use Rattle.sqlite.specs.State.{State, HasCleanDisk}
use Rattle.sqlite.proofs.StateLemmas.{survives_then}
use Rattle.book_model.specs.Bounds.{Bounds}
use Rattle.store_check.specs.OpenResults.{IsOpenResult}
use Rattle.store_lookups.specs.StoredBooks.{IsOpenOnHonestDisk, stored_books}
use Rattle.store_rows.specs.TableBooks.{books_in}
use Rattle.store_schema.specs.OpenFaults.{ComesFromOutside, IsErrorFault}
use Rattle.store_schema.specs.StoredSchema.{ChangesNothing}
use Rattle.store_schema.specs.declared.open_fault.OpenFault.{OpenFault}
use Rattle.store_tables.specs.StatementEffects.{HasNoPendingWrites, KeepsState, OnlyReads}
use Rattle.store_tables.specs.Tables.{book_schema}
use Rattle.store_tables.proofs.FailureLemmas.{outside_later}
use Rattle.store_tables.proofs.SchemaCreationLemmas.{clean_before}

-- an error of the database is right for any tables
pub error_result : (limits : Bounds) (db : Database) (fault : OpenFault) → IsErrorFault fault
    → IsOpenResult limits db (Err fault)
error_result limits db fault (inl store) =
    subst (λ f. IsOpenResult limits db (Err f)) (sym store) tt
error_result limits db fault (inr memory) =
    subst (λ f. IsOpenResult limits db (Err f)) (sym memory) tt

module _ (a b c : State) (before : ChangesNothing a b) (after : OnlyReads b c) (settled :
    HasNoPendingWrites a) where
  pub early : HasCleanDisk c → HasCleanDisk b
  early = clean_before _ b c after.survives

  schema_kept : (kept : KeepsState a b) → a.now.schema ≡ book_schema → b.now.schema ≡ book_schema
  schema_kept kept has = ap (λ (d : Database). d.schema) kept.now_is ∙ has

  pub adopts_nothing : (HasCleanDisk b → a.now.schema ≡ book_schema) → ChangesNothing a c
  adopts_nothing has = record {
    mode = λ h. after.mode (before.mode h);
    was_open = λ clean up. before.was_open (early clean) (after.was_open clean up);
    survives = survives_then a b c _ _ _ (λ _ db none. none) (λ _ db none. none) before.survives
        after.survives;
    same = λ clean up pending.
        let kept = before.same (early clean) (after.was_open clean up) pending in
        let later = after.same clean (schema_kept kept (has (early clean))) up (λ _. kept.now_is
        ∙ pending kept.was_open ∙ sym kept.committed_is) in
        record {
          was_open = kept.was_open;
          now_is = later.now_is ∙ kept.now_is;
          committed_is = later.committed_is ∙ kept.committed_is;
        };
  }

  -- the test that the connection is open failed
  pub closed_from_outside : (fault : OpenFault) → IsErrorFault fault → a.now.schema ≡ book_schema
      → (b.now.schema ≡ book_schema → ComesFromOutside b c fault) → HasCleanDisk c
      → ComesFromOutside a c fault
  closed_from_outside fault kind has given clean = elim (cases_Bool b.is_open) [
    | inl up ↦ later (given (schema_kept (before.same (early clean) up settled) has))
    | inr shut ↦ closed kind shut
  ]
    where
      later : ComesFromOutside b c fault → ComesFromOutside a c fault
      later (inl memory) = inl memory
      later (inr (store, cause)) = inr (
        store,
        outside_later a b c _ _ before.survives (early clean)
            after.survives cause,
      )

      closed : IsErrorFault fault → b.is_open ≡ false → ComesFromOutside a c fault
      closed (inr memory) shut = inl memory
      closed (inl store) shut = inr (
        store,
        outside_later a b c _ _ before.survives (early clean)
            after.survives (inl shut),
      )

pub adopted_books : (a c : State) → ChangesNothing a c → HasNoPendingWrites a → IsOpenOnHonestDisk c
    → stored_books c ≡ stored_books a
adopted_books a c left settled order =
    ap (λ (d : Database). books_in d.trees) (left.same order.0 order.1 settled).now_is

pub adopted_before : (a c : State) → ChangesNothing a c → IsOpenOnHonestDisk c
    → IsOpenOnHonestDisk a
adopted_before a c left order = (
  clean_before _ a c left.survives order.0,
  left.was_open order.0 order.1,
)
