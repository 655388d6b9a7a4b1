-- The cause of an error of the update of a book's numbers.
use Rattle.std.proofs.Common.{◌≡◌, ◌≢◌, inl, inr, ℕ, ◌≤◌, ◌^◌, Bool, true, false, not, ◌&&◌, ◌||◌}
use Rattle.std.proofs.Common.{int_eq, List, [], ◌∷◌, length, map, filter, Option, Ok, Err, Result}
use Rattle.std.proofs.Common.{IfErr, IsSome, None, refl, sym, ap, subst, subst₂, ◌∙◌, true≢false}
use Rattle.std.proofs.Common.{arith}
use Rattle.std.specs.List.Sorted.{IsPermutation}
use Rattle.std.specs.Int.{w64}
use Rattle.std.specs.Prelude.{FitsSigned}
use Rattle.std.proofs.lemmas.Bool.{and_from, both_ways, cases_Bool, false_from_ne_true, not-true}
use Rattle.std.proofs.lemmas.List.Sorted.{IsPermutation-trans}
use Rattle.sqlite.specs.Command.TheVariants.{Update}
use Rattle.sqlite.specs.Does.{OnRows}
use Rattle.sqlite.specs.Edit.{Edit, edit_of}
use Rattle.sqlite.specs.Listing.{understood}
use Rattle.sqlite.specs.Order.{Row, column}
use Rattle.sqlite.specs.Program.{overlay}
use Rattle.sqlite.specs.Rowids.TheVariants.{Given}
use Rattle.sqlite.specs.Rows.{Edited, Written, Updates}
use Rattle.sqlite.specs.State.{State, ExecutesInside}
use Rattle.sqlite.specs.Tree.{Trees}
use Rattle.sqlite.specs.declared.error.Error.{Error}
use Rattle.sqlite.specs.declared.error.Error.TheVariants.{SqliteFailure}
use Rattle.sqlite.specs.declared.error.ErrorCode.TheVariants.{OutOfMemory}
use Rattle.sqlite.specs.declared.types.Value.TheVariants.{Int, Text}
use Rattle.sqlite.proofs.Callers.{one_permutation, one_step}
use Rattle.sqlite_rules.specs.Calls.{ids_of}
use Rattle.sqlite_rules.specs.Edit.{IsOversized, is_referred, is_taken}
use Rattle.sqlite_rules.specs.Lists.{Has}
use Rattle.sqlite_rules.proofs.ListLemmas.{all_has, has_filtered, has_kept, some_from}
use Rattle.sqlite_rules.proofs.RuleLemmas.{keeps_at}
use Rattle.sqlite_rules.proofs.TableLemmas.{has_put, put_all_keeps}
use Rattle.sqlite_schema.specs.declared.schema.Among.TheVariants.{All}
use Rattle.sqlite_schema.specs.declared.schema.Constraint.TheVariants.{Unique}
use Rattle.sqlite_schema.specs.declared.schema.Index.{Index}
use Rattle.sqlite_schema.specs.declared.schema.Keys.TheVariants.{Enforced}
use Rattle.sqlite_schema.specs.Rules.{Obeys, Refers, agree, clashes, differ, equal}
use Rattle.sqlite_sql.specs.Catalog.{entry_of}
use Rattle.sqlite_sql.specs.declared.ops.CompareOp.TheVariants.{Ne}
use Rattle.sqlite_tied.specs.Compute.{everything}
use Rattle.sqlite_trees.specs.Tree.{has_rowid, rowid, without_rowid}
use Rattle.sqlite_trees.specs.View.{IsStorable}
use Rattle.sqlite_typed.proofs.TestLemmas.{at_ints, last_term}
use Rattle.sqlite_value.specs.Keys.{first_key, plain}
use Rattle.store_tables.specs.Books.{AreBooks, BookRow, HoldBooks, Numbers, book_cells, book_row}
use Rattle.store_tables.specs.Books.{number_cells}
use Rattle.store_tables.specs.Failures.{HasOutsideCause}
use Rattle.store_tables.specs.Tables.{book_schema, book}
use Rattle.store_tables.proofs.EditLemmas.{IsAdmitted, edit_never_stops, never_stops, stops}
use Rattle.store_tables.proofs.FreshLemmas.{fresh_one, item_of, left_free, no_clash, row_of}
use Rattle.store_tables.proofs.KeyedRows.{has_stored, same_int}
use Rattle.store_tables.proofs.Picks.{passes, picked, shows}
use Rattle.store_tables.proofs.PutLemmas.{went_on, same_value}
use Rattle.store_tables.proofs.Queries.{update_query, update_text}
use Rattle.store_tables.proofs.ReferenceLemmas.{KeepBooks, refers_after}
use Rattle.store_tables.proofs.StopLemmas.{concludes_quietly, outside, query_stops, task}
use Rattle.store_tables.proofs.StorableLemmas.{fits_column, fits_in, int_is_number, is_storable}
use Rattle.store_tables.proofs.StorableLemmas.{null_is_number, text_is_number}
use Rattle.store_tables.proofs.Texts.{update_is}
use Rattle.store_tables.proofs.UpdateLemmas.{book_id, cast_book, only_it}
use Rattle.store_tables.proofs.WriteFailures.{execute_fails}

module _ (limit : Option ℕ) (numbers : Numbers) (bs : List BookRow) (kept : AreBooks bs) (b :
    BookRow) (there : Has bs b) (db : Trees) (has : HoldBooks (db 2) bs)
    (fits : FitsSigned w64 b.id) (short : length b.name ≤ 2 ^ 20) (obeys : Obeys book_schema db)
  where
    abbrev params : Row
    params = Int b.id ∷ number_cells numbers

    abbrev new : BookRow
    new = record b { numbers = numbers }

    abbrev p : Row → Bool
    p = passes 2 update_query.filter update_query.project (overlay db []) params

    abbrev f : Row → Row
    f = shows 2 update_query.filter update_query.project (overlay db []) params

    abbrev edit_by : List Row → Edit
    edit_by rows = edit_of db book (ids_of rows) Given 1 rows

    abbrev left : List Row
    left = without_rowid b.id (db 2)

    -- the book's new row in the place of its old one
    abbrev edit : Edit
    edit = record { table = book; gone = b.id ∷ []; news = book_row new ∷ [] }

    edit_is : (rows : List Row) → IsPermutation (map f (filter p (db 2))) rows → edit_by rows ≡ edit
    edit_is rows h = ap edit_by (one_permutation (f (book_row b)) rows
        (IsPermutation-trans _ _ _ (only_it limit numbers bs kept b there db has) h))
        ∙ ap (λ (r : Row). record edit { news = r ∷ [] }) (cast_book new)

    free : is_taken left (book_row new) ≡ false
    free = left_free b.id (db 2) (book_row new) refl

    -- the ids of a row that stays and of the book differ
    apart : (r : Row) (x : BookRow) → book_cells r ≡ book_row x → not (has_rowid b.id r) ≡ true
        → int_eq x.id b.id ≡ false
    apart r x is h = sym (ap (has_rowid b.id) is ∙ has_stored book_id book_row (λ _. refl) b.id x)
        ∙ not-true _ h

    unclash : (t : Bool) → (not t && true) ≡ true → t ≡ false
    unclash true h = absurd (true≢false (sym h))
    unclash false h = refl

    -- no other book has its name
    other_name : (r : Row) → Has left r → agree plain (2 ∷ []) r (2 ∷ []) (book_row new) ≡ false
    other_name r h = false_from_ne_true _ (λ same.
        let stays = has_filtered (λ r. not (has_rowid b.id r)) (db 2) r h in
        let item = item_of book_row book_cells (λ _. refl) bs (db 2) has r stays.0 in
        let mine = row_of book_row book_cells (λ _. refl) bs (db 2) has b there in
        let alone = unclash (clashes plain (2 ∷ []) (db 2) mine.0) (keeps_at Unique book_schema db
        book mine.0 (obeys.rules Unique) (inr (inl refl)) mine.1) in
        let at : column r 0 ≡ Int item.0.id = ap (λ (x : Row). column x 0) item.2 in
        let me : column mine.0 0 ≡ Int b.id = sym (ap (λ (x : Row). column x 0) mine.2) in
        let name : Text b.name ≡ column mine.0 2 = ap (λ (x : Row). column x 2) mine.2 in
        let agrees : agree plain (2 ∷ []) r (2 ∷ []) mine.0 ≡ true =
        subst (λ v. (equal (first_key plain).collation (column r 2) v && true) ≡ true) name
        same in
        let differs : differ (rowid r) (rowid mine.0) ≡ true =
        subst₂ (λ v w. differ v w ≡ true) (sym at) (sym me) (at_ints false Ne item.0.id b.id
        ∙ ap not (apart r item.0 item.2 stays.1)) in
        both_ways _ alone (some_from _ (db 2) r stays.0 (and_from _ _ agrees differs)))

    storable : (i : Index) → Has book_schema.indexes i → i.table ≡ 2
        → IsStorable 0 (entry_of i.columns (book_row new))
    storable i known = all_has (λ (i : Index). i.table ≡ 2
        → IsStorable 0 (entry_of i.columns (book_row new))) book_schema.indexes i (
          (λ e. absurd (omega (arith, e))),
          (
            (λ _. is_storable (Text b.name ∷ Int b.id ∷ []) (omega arith) (omega arith)
                (text_is_number b.name, (int_is_number b.id, tt)) (omega (arith, short))),
            (
              (λ e. absurd (omega (arith, e))),
              ((λ e. absurd (omega (arith, e))), ((λ e. absurd (omega (arith, e))), tt)),
            ),
          ),
        ) known

    row_storable : IsStorable 0 (book_row new)
    row_storable =
        is_storable (book_row new) (omega arith) (omega arith) (
          int_is_number b.id,
          (
            null_is_number,
            (
              text_is_number b.name,
              (
                int_is_number numbers.number,
                (
                  int_is_number numbers.horizon,
                  (
                    int_is_number numbers.created,
                    (
                      int_is_number numbers.edited,
                      (
                        int_is_number numbers.imported,
                        (
                          int_is_number numbers.import_edited,
                          (
                            int_is_number numbers.moved_in,
                            (int_is_number numbers.deleted, (int_is_number numbers.moved_out, tt)),
                          ),
                        ),
                      ),
                    ),
                  ),
                ),
              ),
            ),
          ),
        )
        (omega (arith, short))

    referred : is_referred book_schema Enforced edit ≡ true
    unfolding everything
    referred = refl

    admitted : IsAdmitted db edit
    admitted = record {
      keyed = refl;
      numbered = last_term (fits_column b.id fits);
      typed = refl;
      present = refl;
      checked = refl;
      fresh = fresh_one left (book_row new) free;
      unique = ap (λ t. not (t || false) && true) (no_clash plain (2 ∷ []) left (book_row new) b.id
          refl other_name);
      referred = referred;
      storable = λ row h. one row h;
      listed = inr (inl refl);
    }
      where
        one : (row : Row) → Has (book_row new ∷ []) row → ¬ IsOversized book_schema book row
        one row (inl e) = subst (λ r. ¬ IsOversized book_schema book r) (sym e)
            (fits_in book_schema book (book_row new) refl row_storable (omega arith) storable)
        one row (inr h) = absurd h

    updates : (stop : Option Error) → Updates (task limit book params) (record {
      lets = [];
      body = update_query;
    }) params db (Err stop) → IsSome limit
    updates stop h =
        stops h (λ s k. query_stops limit db update_query params refl (λ all k. k) refl s k)
        (λ it.
        let same = edit_is it.0 (picked 2 update_query.filter update_query.project (overlay db [])
        params it.0 it.1.answer) in
        stops it.2 (λ s k. edit_never_stops db edit admitted obeys refl s
        (subst (λ e. Edited book_schema Enforced db e (Err s)) same k))
        (λ on. never_stops _ stop on.2))

    after : (w : Written) → Updates (task limit book params) (record {
      lets = [];
      body = update_query;
    }) params db (Ok w) → Refers All book_schema w.trees
    after w h =
        let went = went_on h in
        let same = edit_is went.0 (picked 2 update_query.filter update_query.project (overlay db [])
        params went.0 went.1.answer) in
        let wrote = went_on went.2 in
        let step = one_step book_schema Enforced db wrote.0 edit refl
        (subst (λ e. Edited book_schema Enforced db e (Ok wrote.0)) same wrote.1) in
        let is = same_value wrote.2 in
        let books : KeepBooks (db 2) (wrote.0 2) = λ q was. elim (cases_Bool (has_rowid b.id q)) [
          | inl its ↦
              let item = item_of book_row book_cells (λ _. refl) bs (db 2) has q was in
              let id : item.0.id ≡ b.id = same_int item.0.id b.id (sym (ap (has_rowid b.id) item.2
              ∙ has_stored book_id book_row (λ _. refl) b.id item.0) ∙ its) in (
                book_row new,
                subst (λ l. Has l (book_row new)) (sym step.rows)
                    (has_put (book_row new) left),
                sym (ap (λ (x : Row). column x 0) item.2
                    ∙ ap Int id),
              )
          | inr other ↦ (
            q,
            subst (λ l. Has l q) (sym step.rows) (put_all_keeps (book_row new ∷ []) left q
                (fresh_one left (book_row new) free) (has_kept (λ r. not (has_rowid b.id r)) (db 2)
                q was (ap not other))),
            refl,
          )
        ] in
        subst (Refers All book_schema) (sym (ap (λ (it : Written). it.trees) is))
        (refers_after db wrote.0 books book (inr (inl refl)) step.tables obeys
        (λ r _. inr (λ ref known. absurd known)))

    pub update_stops : (stop : Option Error)
        → OnRows (task limit book params) outside None (Update 1 (record {
          lets = [];
          body = update_query;
        })) db (Err stop) → IsSome limit
    update_stops stop h = stops h (λ s k. updates s k) (λ it. concludes_quietly limit book params
        it.0
        (after it.0 it.1) stop it.2)

pub update_fails : (old new : State) (numbers : Numbers) (bs : List BookRow) (b : BookRow) (r :
    Result ℕ Error) → old.now.schema ≡ book_schema
    → AreBooks bs → HoldBooks (old.now.trees 2) bs → Has bs b → FitsSigned w64 b.id
    → length b.name ≤ 2 ^ 20 → Obeys book_schema old.now.trees
    → ExecutesInside 0 update_text (Int b.id ∷ number_cells numbers) old new r
    → IfErr r (λ e. e ≢ SqliteFailure OutOfMemory → HasOutsideCause old new)
unfolding understood everything
update_fails old new numbers bs b (Ok count) schema kept has there fits short obeys h = tt
update_fails old new numbers bs b (Err e) schema kept has there fits short obeys h =
    execute_fails update_text (Int b.id ∷ number_cells numbers) old new schema
    (Update 1 (record { lets = []; body = update_query })) None update_is.0 tt refl refl (
      refl,
      refl,
    )
    (λ stop did. update_stops old.step_limit numbers bs kept b there old.now.trees has fits short
    obeys stop did) refl e h
