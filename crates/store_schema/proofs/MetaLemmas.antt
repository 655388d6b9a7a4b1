-- The result and the effect of reading the table `meta`, over the tables of either schema.
use Rattle.std.proofs.Common.{◌≡◌, ◌≢◌, inl, inr, [], ◌∷◌, map, codes, false, Ok, Err, Result, IfOk}
use Rattle.std.proofs.Common.{IfErr, OnOk, IsPermutation, refl, sym, subst}
use Rattle.std.specs.Prelude.{Vec}
use Rattle.std.specs.declared.alloc.Global.{Global}
use Rattle.sqlite.specs.declared.error.Error.{Error}
use Rattle.sqlite.specs.declared.error.Error.TheVariants.{SqliteFailure}
use Rattle.sqlite.specs.declared.error.ErrorCode.TheVariants.{OutOfMemory}
use Rattle.sqlite.specs.Command.TheVariants.{Select}
use Rattle.sqlite.specs.Listing.{understood, reads_listing}
use Rattle.sqlite.specs.Order.{Row}
use Rattle.sqlite.specs.Program.{overlay}
use Rattle.sqlite.specs.Schema.{Schema}
use Rattle.sqlite.specs.State.{State, HasCleanDisk, IsUnchanged, Shown, FailsToQuery, Survives}
use Rattle.sqlite.specs.State.{CommitsShowing}
use Rattle.sqlite.specs.Term.{eval_all}
use Rattle.sqlite.proofs.Callers.{IsPlain, command_of, reads_as, never_commits}
use Rattle.sqlite.proofs.StateLemmas.{survives_weaker}
use Rattle.sqlite_tied.specs.Compute.{everything}
use Rattle.store_tables.specs.Failures.{HasOutsideCause}
use Rattle.store_tables.specs.SchemaCreation.{first_schema}
use Rattle.store_tables.specs.Meta.{meta_listed}
use Rattle.store_tables.proofs.CountLemmas.{every}
use Rattle.store_tables.proofs.FailureLemmas.{rows_fail}
use Rattle.store_tables.proofs.Lookups.{leaves_as, left_open, plain_shown}
use Rattle.store_tables.proofs.Picks.{picked}
use Rattle.store_tables.proofs.Queries.{picks, meta_text, meta_terms}
use Rattle.store_tables.proofs.ReturningLemmas.{fails_as, shown_open}
use Rattle.store_tables.proofs.Texts.{meta_is}
use Rattle.store_schema.specs.StoredSchema.{ChangesNothing, IsStoreSchema}

-- the SQL text is a query over the table
abbrev pub IsMetaQuery : Schema → Type 0
IsMetaQuery schema =
    (command_of (understood schema meta_text) ≡ Select (record {
      lets = [];
      body = picks 0 [] meta_terms;
    }) (codes "name" ∷ codes "val" ∷ []))
    × (reads_listing schema meta_text ≡ false) × IsPlain (understood schema meta_text)

first_is : IsMetaQuery first_schema
unfolding understood everything
first_is = (refl, refl, (refl, refl))

pub query_is : (schema : Schema) → IsStoreSchema schema → IsMetaQuery schema
query_is schema (inl h) = subst IsMetaQuery (sym h) meta_is
query_is schema (inr h) = subst IsMetaQuery (sym h) first_is

-- each row of the table
pub lists_meta : (old new : State) (r : Result (Vec _ Global) Error) → IsStoreSchema old.now.schema
    → IfOk r (λ rows. Shown meta_text [] old new rows.items)
    → IfOk r (λ rows. IsPermutation (map meta_listed (old.now.trees 0)) rows.items)
lists_meta old new (Err e) store h = tt
lists_meta old new (Ok rows) store h =
    let is = query_is old.now.schema store in
    let answer = (reads_as meta_text [] old new old.now.schema refl _ is.0 is.2 is.1 rows.items
    h).answer in
    subst (λ l. IsPermutation (map (λ row. eval_all meta_terms ([] ∷ row ∷ [])) l) rows.items)
    (every (overlay old.now.trees [] 0))
    (picked 0 [] meta_terms (overlay old.now.trees []) [] rows.items answer)

pub meta_unchanged : (old new : State) (r : Result (Vec _ Global) Error)
    → IsStoreSchema old.now.schema → IfOk r (λ rows. Shown meta_text [] old new rows.items)
    → OnOk r (IsUnchanged old new)
meta_unchanged old new (Ok rows) store ok =
    plain_shown meta_text [] old new rows.items (query_is old.now.schema store).2 ok
meta_unchanged old new (Err e) store ok = tt

commits_nothing : (old new : State) → IsStoreSchema old.now.schema
    → Survives old new (CommitsShowing meta_text [] old) → Survives old new (λ _. ⊥)
commits_nothing old new store = survives_weaker old new _ _ (λ _ db commits. never_commits meta_text
    [] old db (query_is old.now.schema store).2 commits)

pub changes_nothing : (old new : State) (r : Result (Vec _ Global) Error)
    → IsStoreSchema old.now.schema
    → (HasCleanDisk new → IfOk r (λ rows. Shown meta_text [] old new rows.items))
    → (HasCleanDisk new → IfErr r (FailsToQuery meta_text [] old new))
    → (old.in_transaction ≡ false → new.in_transaction ≡ false)
    → Survives old new (CommitsShowing meta_text [] old) → ChangesNothing old new
changes_nothing old new (Ok rows) store ok err mode survives = record {
  mode = mode;
  was_open = λ clean up. shown_open meta_text [] old new rows.items (ok clean);
  survives = commits_nothing old new store survives;
  same = λ clean up settled. leaves_as old new settled
      (inl (meta_unchanged old new (Ok rows) store (ok clean))) up;
}
changes_nothing old new (Err e) store ok err mode survives = record {
  mode = mode;
  was_open = λ clean up. left_open old new (fails_as meta_text [] old new e (err clean)) up;
  survives = commits_nothing old new store survives;
  same = λ clean up settled. leaves_as old new settled (fails_as meta_text [] old new e (err clean))
      up;
}

-- the cause of an error, over the tables of either schema
pub meta_fails : (old new : State) (r : Result (Vec Row Global) Error)
    → IsStoreSchema old.now.schema → IfErr r (FailsToQuery meta_text [] old new)
    → IfErr r (λ e. e ≢ SqliteFailure OutOfMemory → HasOutsideCause old new)
unfolding understood everything
meta_fails old new r (inl has) = rows_fail meta_text [] old new has (picks 0 [] meta_terms) _
    meta_is (refl, refl) refl (λ db h. h) refl r
meta_fails old new r (inr has) = rows_fail meta_text [] old new has (picks 0 [] meta_terms) _
    first_is (refl, refl) refl (λ db h. h) refl r
