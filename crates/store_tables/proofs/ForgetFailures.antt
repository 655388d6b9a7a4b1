-- The cause of an error of the deletion of removed members.
use Rattle.std.proofs.Common.{◌≡◌, ◌≢◌, inl, inr, ℕ, ℤ, Bool, true, false, not, ◌||◌, List, [], ◌∷◌}
use Rattle.std.proofs.Common.{length, Option, None, Ok, Err, Result, IfErr, IsSome, refl, sym, ap}
use Rattle.std.proofs.Common.{subst, arith}
use Rattle.std.specs.Prelude.{nat_lt}
use Rattle.sqlite.specs.Command.TheVariants.{Delete}
use Rattle.sqlite.specs.Does.{OnRows}
use Rattle.sqlite.specs.Edit.{Edit, edit_of}
use Rattle.sqlite.specs.Listing.{understood}
use Rattle.sqlite.specs.Order.{Row}
use Rattle.sqlite.specs.Rowids.TheVariants.{Given}
use Rattle.sqlite.specs.Rows.{Written, Deletes}
use Rattle.sqlite.specs.State.{State, ExecutesInside}
use Rattle.sqlite.specs.Tree.{Trees}
use Rattle.sqlite.specs.declared.error.Error.{Error}
use Rattle.sqlite.specs.declared.error.Error.TheVariants.{SqliteFailure}
use Rattle.sqlite.specs.declared.error.ErrorCode.TheVariants.{OutOfMemory}
use Rattle.sqlite.specs.declared.types.Value.TheVariants.{Int}
use Rattle.sqlite.proofs.Callers.{one_step}
use Rattle.sqlite_rules.specs.Calls.{ids_of}
use Rattle.sqlite_rules.specs.Edit.{is_referred}
use Rattle.sqlite_rules.specs.Lists.{Has}
use Rattle.sqlite_rules.proofs.TableLemmas.{without_all_has}
use Rattle.sqlite_schema.specs.declared.schema.Among.TheVariants.{All}
use Rattle.sqlite_schema.specs.declared.schema.Keys.TheVariants.{Enforced}
use Rattle.sqlite_schema.specs.Rules.{Obeys, Refers}
use Rattle.sqlite_tied.specs.Compute.{everything}
use Rattle.store_tables.specs.Failures.{HasOutsideCause}
use Rattle.store_tables.specs.Tables.{book_schema, member}
use Rattle.store_tables.proofs.EditLemmas.{IsAdmitted, admits_no_rows, edit_never_stops}
use Rattle.store_tables.proofs.EditLemmas.{never_stops, stops}
use Rattle.store_tables.proofs.PutLemmas.{went_on, same_value}
use Rattle.store_tables.proofs.Queries.{forget_text, forget_query}
use Rattle.store_tables.proofs.ReferenceLemmas.{refers_after, same_books}
use Rattle.store_tables.proofs.StopLemmas.{concludes_quietly, outside, query_stops, task}
use Rattle.store_tables.proofs.Texts.{forget_is}
use Rattle.store_tables.proofs.WriteFailures.{execute_fails}

module _ (limit : Option ℕ) (book upto : ℤ) (db : Trees) (obeys : Obeys book_schema db) where
  abbrev params : Row
  params = Int book ∷ Int upto ∷ []

  abbrev edit : List Row → Edit
  edit rows = edit_of db member (ids_of rows) Given 0 []

  or_true : (b : Bool) → (b || true) ≡ true
  or_true true = refl
  or_true false = refl

  referred : (rows : List Row) → is_referred book_schema Enforced (edit rows) ≡ true
  unfolding everything
  referred rows = or_true (not (nat_lt 0 (length (ids_of rows))))

  admitted : (rows : List Row) → IsAdmitted db (edit rows)
  admitted rows = admits_no_rows db (ids_of rows) (referred rows)

  deletes : (stop : Option Error) → Deletes (task limit member params) (record {
    lets = [];
    body = forget_query;
  }) db (Err stop) → IsSome limit
  deletes stop h =
      stops h (λ s k. query_stops limit db forget_query params refl (λ all k. k) refl s k)
      (λ it. stops it.2 (λ s k. edit_never_stops db (edit it.0) (admitted it.0) obeys refl s k)
      (λ on. never_stops _ stop on.2))

  after : (w : Written) → Deletes (task limit member params) (record {
    lets = [];
    body = forget_query;
  }) db (Ok w) → Refers All book_schema w.trees
  after w h =
      let went = went_on h in
      let wrote = went_on went.2 in
      let ids = ids_of went.0 in
      let step = one_step book_schema Enforced db wrote.0 (edit went.0) refl wrote.1 in
      subst (Refers All book_schema) (sym (ap (λ (it : Written). it.trees) (same_value wrote.2)))
      (refers_after db wrote.0 (same_books db wrote.0 (step.tables.1.0 (λ e. omega (arith, e))))
      member (inr (inr (inl refl))) step.tables obeys
      (λ r there. inl (without_all_has ids (db 4) r (subst (λ l. Has l r) step.rows there))))

  pub forget_stops : (stop : Option Error)
      → OnRows (task limit member params) outside None (Delete 2 (record {
        lets = [];
        body = forget_query;
      })) db (Err stop) → IsSome limit
  forget_stops stop h = stops h (λ s k. deletes s k) (λ it. concludes_quietly limit member params
      it.0 (after it.0 it.1) stop it.2)

pub forget_fails : (old new : State) (book upto : ℤ) (r : Result ℕ Error)
    → old.now.schema ≡ book_schema → Obeys book_schema old.now.trees
    → ExecutesInside 0 forget_text (Int book ∷ Int upto ∷ []) old new r
    → IfErr r (λ e. e ≢ SqliteFailure OutOfMemory → HasOutsideCause old new)
unfolding understood everything
forget_fails old new book upto (Ok count) has obeys h = tt
forget_fails old new book upto (Err e) has obeys h =
    execute_fails forget_text (Int book ∷ Int upto ∷ []) old new has (Delete 2 (record {
      lets = [];
      body = forget_query;
    })) None forget_is.0 tt refl refl (refl, refl)
    (λ stop did. forget_stops old.step_limit book upto old.now.trees obeys stop did) refl e h
