-- The cause of an error of the UPDATE of the table `meta`, which has one row.
use Rattle.std.proofs.Common.{◌≡◌, ◌≢◌, inl, inr, ℕ, ℤ, Bool, not, ◌&&◌, ◌||◌, false, true, List, []}
use Rattle.std.proofs.Common.{◌∷◌, map, filter, Option, None, Ok, Err, Result, IfErr, IsSome, codes}
use Rattle.std.proofs.Common.{refl, sym, ap, subst, ◌∙◌, arith}
use Rattle.std.specs.Int.{w64}
use Rattle.std.specs.List.Sorted.{IsPermutation}
use Rattle.std.specs.Prelude.{FitsSigned}
use Rattle.sqlite.specs.Does.{OnRows}
use Rattle.sqlite.specs.Edit.{Edit, edit_of}
use Rattle.sqlite.specs.Listing.{understood}
use Rattle.sqlite.specs.Order.{Row}
use Rattle.sqlite.specs.Program.{overlay}
use Rattle.sqlite.specs.Rowids.TheVariants.{Given}
use Rattle.sqlite.specs.Rows.{Edited, Updates, Written}
use Rattle.sqlite.specs.State.{State, ExecutesInside}
use Rattle.sqlite.specs.Tree.{Trees}
use Rattle.sqlite.specs.declared.error.Error.{Error}
use Rattle.sqlite.specs.declared.error.Error.TheVariants.{SqliteFailure}
use Rattle.sqlite.specs.declared.error.ErrorCode.TheVariants.{OutOfMemory}
use Rattle.sqlite.specs.declared.types.Value.TheVariants.{Int, Text}
use Rattle.sqlite.proofs.Callers.{one_permutation, one_step}
use Rattle.sqlite_rules.specs.Calls.{ids_of}
use Rattle.sqlite_rules.specs.Edit.{IsOversized, is_referred, is_taken}
use Rattle.sqlite_rules.specs.Lists.{Has}
use Rattle.sqlite_rules.proofs.ListLemmas.{all_has}
use Rattle.sqlite_schema.specs.declared.schema.Among.TheVariants.{All}
use Rattle.sqlite_schema.specs.declared.schema.Index.{Index}
use Rattle.sqlite_schema.specs.declared.schema.Keys.TheVariants.{Enforced}
use Rattle.sqlite_schema.specs.Rules.{Obeys, Refers}
use Rattle.sqlite_sql.specs.Catalog.{entry_of}
use Rattle.sqlite_tied.specs.Compute.{everything}
use Rattle.sqlite_trees.specs.Tree.{without_rowid}
use Rattle.sqlite_trees.specs.View.{IsStorable}
use Rattle.sqlite_typed.proofs.TestLemmas.{last_term}
use Rattle.sqlite_value.specs.Keys.{plain}
use Rattle.store_tables.specs.Failures.{HasOutsideCause}
use Rattle.store_tables.specs.Meta.{schema_row}
use Rattle.store_tables.specs.Tables.{book_schema, meta}
use Rattle.store_tables.proofs.EditLemmas.{IsAdmitted, edit_never_stops, never_stops, stops}
use Rattle.store_tables.proofs.FreshLemmas.{fresh_one, no_clash}
use Rattle.store_tables.proofs.Picks.{picked}
use Rattle.store_tables.proofs.PutLemmas.{went_on, same_value}
use Rattle.store_tables.proofs.ReferenceLemmas.{refers_after, same_books}
use Rattle.store_tables.proofs.StopLemmas.{concludes_quietly, outside, query_stops, task}
use Rattle.store_tables.proofs.StorableLemmas.{fits_column, fits_in, int_is_number, is_storable}
use Rattle.store_tables.proofs.StorableLemmas.{text_is_number}
use Rattle.store_tables.proofs.WriteFailures.{execute_fails}
use Rattle.store_migration.specs.internal.FirstRows.{HasOneSchemaNumber, meta_cells}
use Rattle.store_migration.proofs.RestateLemmas.{cast_meta, gone, only_it, update_command}
use Rattle.store_migration.proofs.RestateLemmas.{update_is, update_query, update_text}

module _ (limit : Option ℕ) (id before number : ℤ) (db : Trees) (is : map meta_cells (db 0)
    ≡ (Int id ∷ schema_row before) ∷ []) (fits : FitsSigned w64 id) (obeys : Obeys book_schema db)
  where
    abbrev params : Row
    params = Int number ∷ []

    abbrev restated : Row
    restated = Int id ∷ schema_row number

    -- the row's id, and the row as it is to be
    abbrev target : Row
    target = Int id ∷ restated

    abbrev left : List Row
    left = without_rowid id (db 0)

    abbrev edit_by : List Row → Edit
    edit_by rows = edit_of db meta (ids_of rows) Given 1 rows

    abbrev edit : Edit
    edit = record { table = meta; gone = id ∷ []; news = restated ∷ [] }

    none_left : left ≡ []
    none_left = gone limit id before number db is

    edit_is : (rows : List Row) → IsPermutation (target ∷ []) rows → edit_by rows ≡ edit
    edit_is rows h = ap edit_by (one_permutation target rows h)
        ∙ ap (λ (r : Row). record edit { news = r ∷ [] }) (cast_meta id number)

    free : is_taken left restated ≡ false
    free = ap (λ rows. is_taken rows restated) none_left

    referred : is_referred book_schema Enforced edit ≡ true
    unfolding everything
    referred = refl

    row_fits : IsStorable 0 restated
    row_fits = is_storable restated (omega arith) (omega arith) (
      int_is_number id,
      (text_is_number (codes "schema"), (int_is_number number, tt)),
    ) (omega (arith))

    storable : (row : Row) → Has (restated ∷ []) row → ¬ IsOversized book_schema meta row
    storable row (inl e) = subst (λ r. ¬ IsOversized book_schema meta r) (sym e)
        (fits_in book_schema meta restated refl row_fits (omega arith)
        (λ i known. all_has (λ (i : Index). i.table ≡ 0 → IsStorable 0 (entry_of i.columns restated))
        book_schema.indexes i (
          (λ _. is_storable (Text (codes "schema") ∷ Int id ∷ []) (omega arith) (omega arith)
              (text_is_number (codes "schema"), (int_is_number id, tt)) (omega (arith))),
          (
            (λ e. absurd (omega (arith, e))),
            (
              (λ e. absurd (omega (arith, e))),
              ((λ e. absurd (omega (arith, e))), ((λ e. absurd (omega (arith, e))), tt)),
            ),
          ),
        ) known))
    storable row (inr h) = absurd h

    admitted : IsAdmitted db edit
    admitted = record {
      keyed = refl;
      numbered = last_term (fits_column id fits);
      typed = refl;
      present = refl;
      checked = refl;
      fresh = fresh_one left restated free;
      unique = ap (λ t. not (t || false) && true) (no_clash plain (1 ∷ []) left restated id refl
          (λ r there. absurd (subst (λ rows. Has rows r) none_left there)));
      referred = referred;
      storable = storable;
      listed = inl refl;
    }

    found_one : (rows : List Row) → IsPermutation
        (map (Rattle.store_tables.proofs.Picks.shows 0 [] update_query.project (overlay db []) params)
        (filter (Rattle.store_tables.proofs.Picks.passes 0 [] update_query.project (overlay db [])
        params) (db 0))) rows → IsPermutation (target ∷ []) rows
    found_one rows = subst (λ l. IsPermutation l rows) (only_it limit id before number db is)

    updates : (stop : Option Error) → Updates (task limit meta params) (record {
      lets = [];
      body = update_query;
    }) params db (Err stop) → IsSome limit
    updates stop h =
        stops h (λ s k. query_stops limit db update_query params refl (λ all k. k) refl s k)
        (λ it.
        let same = edit_is it.0 (found_one it.0 (picked 0 [] update_query.project (overlay db []) params
        it.0 it.1.answer)) in
        stops it.2 (λ s k. edit_never_stops db edit admitted obeys refl s
        (subst (λ e. Edited book_schema Enforced db e (Err s)) same k))
        (λ on. never_stops _ stop on.2))

    after : (w : Written) → Updates (task limit meta params) (record {
      lets = [];
      body = update_query;
    }) params db (Ok w) → Refers All book_schema w.trees
    after w h =
        let went = went_on h in
        let same = edit_is went.0 (found_one went.0 (picked 0 [] update_query.project (overlay db [])
        params went.0 went.1.answer)) in
        let wrote = went_on went.2 in
        let step = one_step book_schema Enforced db wrote.0 edit refl
        (subst (λ e. Edited book_schema Enforced db e (Ok wrote.0)) same wrote.1) in
        let is = same_value wrote.2 in
        let books = step.tables.1.0 (λ e. omega (arith, e)) in
        subst (Refers All book_schema) (sym (ap (λ (it : Written). it.trees) is))
        (refers_after db wrote.0 (same_books db wrote.0 books) meta (inl refl) step.tables obeys
        (λ r _. inr (λ ref known. absurd known)))

    restate_stops : (stop : Option Error)
        → OnRows (task limit meta params) outside None update_command db (Err stop) → IsSome limit
    restate_stops stop h = stops h (λ s k. updates s k) (λ it. concludes_quietly limit meta params it.0
        (after it.0 it.1) stop it.2)

pub restate_fails : (old new : State) (id before number : ℤ) (r : Result ℕ Error)
    → old.now.schema ≡ book_schema → HasOneSchemaNumber id before old.now → FitsSigned w64 id
    → Obeys book_schema old.now.trees → ExecutesInside 0 update_text (Int number ∷ []) old new r
    → IfErr r (λ e. e ≢ SqliteFailure OutOfMemory → HasOutsideCause old new)
unfolding understood everything
restate_fails old new id before number (Ok count) schema one fits obeys h = tt
restate_fails old new id before number (Err e) schema one fits obeys h =
    execute_fails update_text (Int number ∷ []) old new schema update_command None update_is.0 tt
    refl refl (refl, refl) (λ stop did. restate_stops old.step_limit id before number old.now.trees
    one fits obeys stop did) refl e h
