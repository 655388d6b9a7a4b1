-- The cause of an error of an INSERT of one row. Given here: for each of the three tables, that the
-- new row passes what the table asks of it (`keep_admitted` and its like), also in the size of each
-- index entry; and for each place at which the statement may stop, that only a limit on its steps
-- is left.
use Rattle.std.proofs.Common.{◌≡◌, ◌≢◌, inl, inr, ℕ, ℤ, pos, ◌≤◌, ◌^◌, true, false, not, ◌&&◌, ◌||◌}
use Rattle.std.proofs.Common.{List, [], ◌∷◌, length, Option, None, Ok, Err, Result, IfErr, IsSome}
use Rattle.std.proofs.Common.{refl, sym, ap, subst, ◌∙◌, arith}
use Rattle.std.specs.List.{AllByRecursion, list_any}
use Rattle.std.specs.Int.{w64}
use Rattle.std.specs.Prelude.{FitsSigned}
use Rattle.std.proofs.lemmas.Map.Text.{is_eq-slice_cmp}
use Rattle.sqlite.specs.Does.{OnRows}
use Rattle.sqlite.specs.Edit.{Edit, edit_of}
use Rattle.sqlite.specs.Listing.{understood}
use Rattle.sqlite.specs.Order.{Row, column}
use Rattle.sqlite.specs.Rowids.TheVariants.{Chosen}
use Rattle.sqlite.specs.Rows.{Edited, Written, Inserts}
use Rattle.sqlite.specs.Source.TheVariants.{Values}
use Rattle.sqlite.specs.State.{State, ExecutesInside}
use Rattle.sqlite.specs.Tree.{Trees}
use Rattle.sqlite.specs.declared.error.Error.{Error}
use Rattle.sqlite.specs.declared.error.Error.TheVariants.{SqliteFailure}
use Rattle.sqlite.specs.declared.error.ErrorCode.TheVariants.{OutOfMemory}
use Rattle.sqlite.specs.declared.types.Value.TheVariants.{Null, Int, Text}
use Rattle.sqlite.proofs.Callers.{one_step}
use Rattle.sqlite_rules.specs.Edit.{IsOversized, is_referred, is_taken, next_rowid, with_rowid}
use Rattle.sqlite_rules.specs.Lists.{Has}
use Rattle.sqlite_rules.proofs.ListLemmas.{all_has}
use Rattle.sqlite_rules.proofs.TableLemmas.{put_has, put_all_keeps}
use Rattle.sqlite_schema.specs.declared.schema.Among.TheVariants.{All}
use Rattle.sqlite_schema.specs.declared.schema.Index.{Index}
use Rattle.sqlite_schema.specs.declared.schema.Keys.TheVariants.{Enforced}
use Rattle.sqlite_schema.specs.Rules.{Obeys, Refers, agree}
use Rattle.sqlite_sql.specs.Catalog.{entry_of}
use Rattle.sqlite_sql.specs.Ops.{fits_i64}
use Rattle.sqlite_sql.specs.declared.ops.CompareOp.TheVariants.{Eq}
use Rattle.sqlite_tied.specs.Compute.{everything}
use Rattle.sqlite_trees.specs.View.{IsStorable}
use Rattle.sqlite_typed.proofs.TestLemmas.{at_ints, at_texts, last_term, then_term}
use Rattle.sqlite_value.specs.Keys.{first_key, plain}
use Rattle.store_tables.specs.Books.{BookRow, HoldBooks, blank_book, book_cells, book_row, has_id}
use Rattle.store_tables.specs.Books.{has_name}
use Rattle.store_tables.specs.Failures.{HasOutsideCause}
use Rattle.store_tables.specs.Imports.{HoldImports, ImportRow, has_key, import_cells, import_row}
use Rattle.store_tables.specs.Keeps.{HoldKeeps, KeepRow, is_keep_of, keep_cells, keep_row}
use Rattle.store_tables.specs.Keeps.{keep_row_of}
use Rattle.store_tables.specs.Tables.{book, book_schema, import_key, keeping}
use Rattle.store_tables.proofs.EditLemmas.{IsAdmitted, edit_never_stops, never_stops, stops}
use Rattle.store_tables.proofs.FreshLemmas.{free_id, fresh_one, item_of, no_clash}
use Rattle.store_tables.proofs.InsertLemmas.{cast_import, cast_keep}
use Rattle.store_tables.proofs.PutLemmas.{went_on, same_value}
use Rattle.store_tables.proofs.Queries.{add_book_command, add_book_terms, add_book_text}
use Rattle.store_tables.proofs.Queries.{add_import_command, add_import_terms, add_import_text}
use Rattle.store_tables.proofs.Queries.{add_keep_command, add_keep_terms, add_keep_text}
use Rattle.store_tables.proofs.ReferenceLemmas.{KeepBooks, refers_after, refers_there, same_books}
use Rattle.store_tables.proofs.StopLemmas.{concludes_quietly, outside, task, values_stop}
use Rattle.store_tables.proofs.StorableLemmas.{fits_column, fits_in, int_is_number, is_storable}
use Rattle.store_tables.proofs.StorableLemmas.{null_is_number, text_is_number}
use Rattle.store_tables.proofs.Texts.{add_book_is, add_import_is, add_keep_is}
use Rattle.store_tables.proofs.UpdateLemmas.{cast_book}
use Rattle.store_tables.proofs.WriteFailures.{execute_fails}

-- ---- a keep

module _ (limit : Option ℕ) (book keep : ℤ) (bs : List BookRow) (keeps : List KeepRow) (db : Trees)
    (holds : HoldBooks (db 2) bs) (held : HoldKeeps (db 9) keeps) (some : list_any (has_id book) bs
    ≡ true) (none : AllByRecursion (λ k. is_keep_of book k ≡ false) keeps) (fits :
    FitsSigned w64 book) (obeys : Obeys book_schema db) where
  abbrev keep_params : Row
  keep_params = Int book ∷ Int keep ∷ []

  abbrev keep_new : Row
  keep_new = keep_row (keep_row_of book keep)

  abbrev keep_edit : Row → Edit
  keep_edit row = record { table = keeping; gone = []; news = with_rowid Chosen (db 9) row ∷ [] }

  keep_free : is_taken (db 9) keep_new ≡ false
  keep_free = free_id keep_row keep_cells (λ _. refl) keeps (db 9) held (λ (k : KeepRow). k.book)
      (λ _. refl) book none

  keep_referred : is_referred book_schema Enforced (keep_edit (keep_row (keep_row_of book keep)))
      ≡ true
  unfolding everything
  keep_referred = refl

  keep_row_fits : IsStorable 0 keep_new
  keep_row_fits = is_storable keep_new (omega arith) (omega arith) (
    int_is_number book,
    (null_is_number, (int_is_number keep, tt)),
  ) (omega (arith))

  keep_fits : (row : Row) → Has (keep_new ∷ []) row → ¬ IsOversized book_schema keeping row
  keep_fits row (inl e) = subst (λ r. ¬ IsOversized book_schema keeping r) (sym e)
      (fits_in book_schema keeping keep_new refl keep_row_fits (omega arith)
      (λ i known. all_has (λ (i : Index). i.table ≡ 9 → IsStorable 0 (entry_of i.columns keep_new))
      book_schema.indexes i (
        (λ e. absurd (omega (arith, e))),
        (
          (λ e. absurd (omega (arith, e))),
          (
            (λ e. absurd (omega (arith, e))),
            ((λ e. absurd (omega (arith, e))), ((λ e. absurd (omega (arith, e))), tt)),
          ),
        ),
      ) known))
  keep_fits row (inr h) = absurd h

  keep_admitted : IsAdmitted db (keep_edit (keep_row (keep_row_of book keep)))
  keep_admitted = record {
    keyed = refl;
    numbered = last_term (fits_column book fits);
    typed = refl;
    present = refl;
    checked = refl;
    fresh = fresh_one (db 9) keep_new keep_free;
    unique = refl;
    referred = keep_referred;
    storable = keep_fits;
    listed = inr (inr (inr (inr (inl refl))));
  }

  keep_is : edit_of db keeping [] Chosen 0 ((keep_row (keep_row_of book keep)) ∷ [])
      ≡ keep_edit (keep_row (keep_row_of book keep))
  keep_is = ap keep_edit (cast_keep (keep_row_of book keep))

  keep_inserts : (stop : Option Error)
      → Inserts (task limit keeping keep_params) (Values add_keep_terms 3) db (Err stop)
      → IsSome limit
  keep_inserts stop h =
      stops h (λ s k. values_stop limit (record { schema = book_schema; trees = db }) keep_params
      add_keep_terms 3 refl s k)
      (λ given. stops given.2 (λ s k. never_stops _ s k)
      (λ counter. stops counter.2
      (λ s k. edit_never_stops db (keep_edit (keep_row (keep_row_of book keep))) keep_admitted obeys
      refl s (subst (λ e. Edited book_schema Enforced db e (Err s)) keep_is
      (subst (λ rows. Edited book_schema Enforced db (edit_of db keeping [] Chosen 0 rows) (Err s))
      given.1.1 k)))
      (λ mid. stops mid.2 (λ s k. never_stops _ s k) (λ next. never_stops _ stop next.2))))

  keep_after : (w : Written) → Inserts (task limit keeping keep_params) (Values add_keep_terms 3) db
      (Ok w) → Refers All book_schema w.trees
  keep_after w h =
      let given = went_on h in
      let counter = went_on given.2 in
      let wrote = went_on counter.2 in
      let counted = went_on wrote.2 in
      let trees : w.trees ≡ wrote.0 = ap (λ (it : Written). it.trees) (same_value counted.2)
      ∙ same_value counted.1 in
      let step = one_step book_schema Enforced db wrote.0
      (keep_edit (keep_row (keep_row_of book keep))) refl
      (subst (λ e. Edited book_schema Enforced db e (Ok wrote.0)) keep_is
      (subst (λ rows. Edited book_schema Enforced db (edit_of db keeping [] Chosen 0 rows)
      (Ok wrote.0)) given.1.1 wrote.1)) in
      let books = step.tables.1.0 (λ e. omega (arith, e)) in
      subst (Refers All book_schema) (sym trees)
      (refers_after db wrote.0 (same_books db wrote.0 books) keeping
      (inr (inr (inr (inr (inl refl))))) step.tables obeys
      (λ r there. elim (put_has (keep_row (keep_row_of book keep)) (db 9) r
      (subst (λ l. Has l r) step.rows there)) [
        | inl new ↦ inr (refers_there wrote.0 bs (subst (λ l. HoldBooks l bs) (sym books) holds)
            book some 0 r (ap (λ (x : Row). column x 0) new))
        | inr was ↦ inl was
      ]))

  pub keep_stops : (stop : Option Error) → OnRows (task limit keeping keep_params) outside None
      add_keep_command db (Err stop) → IsSome limit
  keep_stops stop h = stops h (λ s k. keep_inserts s k) (λ it. concludes_quietly limit keeping
      keep_params it.0 (keep_after it.0 it.1) stop it.2)

pub keep_fails : (old new : State) (book keep : ℤ) (bs : List BookRow) (keeps : List KeepRow) (r :
    Result ℕ Error) → old.now.schema ≡ book_schema → HoldBooks (old.now.trees 2) bs
    → HoldKeeps (old.now.trees 9) keeps → list_any (has_id book) bs ≡ true
    → AllByRecursion (λ k. is_keep_of book k ≡ false) keeps → FitsSigned w64 book
    → Obeys book_schema old.now.trees
    → ExecutesInside 0 add_keep_text (Int book ∷ Int keep ∷ []) old new r
    → IfErr r (λ e. e ≢ SqliteFailure OutOfMemory → HasOutsideCause old new)
unfolding understood everything
keep_fails old new book keep bs keeps (Ok count) has holds held some none fits obeys h = tt
keep_fails old new book keep bs keeps (Err e) has holds held some none fits obeys h =
    execute_fails add_keep_text (Int book ∷ Int keep ∷ []) old new has add_keep_command None
    add_keep_is.0 tt refl refl (refl, refl)
    (λ stop did. keep_stops old.step_limit book keep bs keeps old.now.trees holds held some none
    fits obeys stop did) refl e h

-- ---- a book

module _ (limit : Option ℕ) (id : ℤ) (name : List ℕ) (bs : List BookRow) (db : Trees) (holds :
    HoldBooks (db 2) bs) (none : AllByRecursion (λ b. has_id id b ≡ false) bs) (unnamed :
    AllByRecursion (λ b. has_name name b ≡ false) bs) (fits : FitsSigned w64 id) (short :
    length name ≤ 2 ^ 20) (obeys : Obeys book_schema db) where
  abbrev book_params : Row
  book_params = Int id ∷ Text name ∷ []

  abbrev book_new : Row
  book_new = book_row (blank_book id name)

  abbrev book_edit : Row → Edit
  book_edit row = record { table = book; gone = []; news = with_rowid Chosen (db 2) row ∷ [] }

  book_free : is_taken (db 2) book_new ≡ false
  book_free = free_id book_row book_cells (λ _. refl) bs (db 2) holds (λ (b : BookRow). b.id)
      (λ _. refl) id none

  book_apart : (r : Row) → Has (db 2) r → agree plain (2 ∷ []) r (2 ∷ []) book_new ≡ false
  unfolding first_key
  book_apart r there =
      let item = item_of book_row book_cells (λ _. refl) bs (db 2) holds r there in
      subst (λ (c : Row). agree plain (2 ∷ []) c (2 ∷ []) book_new ≡ false) (sym item.2)
      (last_term (at_texts false Eq item.0.name name ∙ is_eq-slice_cmp item.0.name name)
      ∙ all_has (λ b. has_name name b ≡ false) bs item.0 unnamed item.1)

  book_referred : is_referred book_schema Enforced (book_edit (book_row (blank_book id name)))
      ≡ true
  unfolding everything
  book_referred = refl

  book_row_fits : IsStorable 0 book_new
  book_row_fits = is_storable book_new (omega arith) (omega arith) (
    int_is_number id,
    (
      null_is_number,
      (
        text_is_number name,
        (
          int_is_number (pos 0),
          (
            int_is_number (pos 0),
            (
              int_is_number (pos 0),
              (
                int_is_number (pos 0),
                (
                  int_is_number (pos 0),
                  (
                    int_is_number (pos 0),
                    (int_is_number (pos 0), (int_is_number (pos 0), (int_is_number (pos 0), tt))),
                  ),
                ),
              ),
            ),
          ),
        ),
      ),
    ),
  )
      (omega (arith, short))

  book_fits : (row : Row) → Has (book_new ∷ []) row → ¬ IsOversized book_schema book row
  book_fits row (inl e) = subst (λ r. ¬ IsOversized book_schema book r) (sym e)
      (fits_in book_schema book book_new refl book_row_fits (omega arith)
      (λ i known. all_has (λ (i : Index). i.table ≡ 2 → IsStorable 0 (entry_of i.columns book_new))
      book_schema.indexes i (
        (λ e. absurd (omega (arith, e))),
        (
          (λ _. is_storable (Text name ∷ Int id ∷ []) (omega arith) (omega arith)
              (text_is_number name, (int_is_number id, tt)) (omega (arith, short))),
          (
            (λ e. absurd (omega (arith, e))),
            (
              (λ e. absurd (omega (arith, e))),
              ((λ e. absurd (omega (arith, e))), tt),
            ),
          ),
        ),
      ) known))
  book_fits row (inr h) = absurd h

  book_admitted : IsAdmitted db (book_edit (book_row (blank_book id name)))
  book_admitted = record {
    keyed = refl;
    numbered = last_term (fits_column id fits);
    typed = refl;
    present = refl;
    checked = refl;
    fresh = fresh_one (db 2) book_new book_free;
    unique = ap (λ t. not (t || false) && true) (no_clash plain (2 ∷ []) (db 2) book_new id refl
        book_apart);
    referred = book_referred;
    storable = book_fits;
    listed = inr (inl refl);
  }

  book_is : edit_of db book [] Chosen 0 ((book_row (blank_book id name)) ∷ [])
      ≡ book_edit (book_row (blank_book id name))
  book_is = ap book_edit (cast_book (blank_book id name))

  book_inserts : (stop : Option Error)
      → Inserts (task limit book book_params) (Values add_book_terms 12) db (Err stop)
      → IsSome limit
  book_inserts stop h =
      stops h (λ s k. values_stop limit (record { schema = book_schema; trees = db }) book_params
      add_book_terms 12 refl s k)
      (λ given. stops given.2 (λ s k. never_stops _ s k)
      (λ counter. stops counter.2
      (λ s k. edit_never_stops db (book_edit (book_row (blank_book id name))) book_admitted obeys
      refl s (subst (λ e. Edited book_schema Enforced db e (Err s)) book_is
      (subst (λ rows. Edited book_schema Enforced db (edit_of db book [] Chosen 0 rows) (Err s))
      given.1.1 k)))
      (λ mid. stops mid.2 (λ s k. never_stops _ s k) (λ next. never_stops _ stop next.2))))

  book_after : (w : Written) → Inserts (task limit book book_params) (Values add_book_terms 12) db
      (Ok w) → Refers All book_schema w.trees
  book_after w h =
      let given = went_on h in
      let counter = went_on given.2 in
      let wrote = went_on counter.2 in
      let counted = went_on wrote.2 in
      let trees : w.trees ≡ wrote.0 = ap (λ (it : Written). it.trees) (same_value counted.2)
      ∙ same_value counted.1 in
      let step = one_step book_schema Enforced db wrote.0
      (book_edit (book_row (blank_book id name))) refl
      (subst (λ e. Edited book_schema Enforced db e (Ok wrote.0)) book_is
      (subst (λ rows. Edited book_schema Enforced db (edit_of db book [] Chosen 0 rows)
      (Ok wrote.0)) given.1.1 wrote.1)) in
      let books : KeepBooks (db 2) (wrote.0 2) =
      λ p was. (
        p,
        subst (λ l. Has l p) (sym step.rows) (put_all_keeps (book_new ∷ []) (db 2) p
            (fresh_one (db 2) book_new book_free) was),
        refl,
      ) in
      subst (Refers All book_schema) (sym trees) (refers_after db wrote.0 books book
      (inr (inl refl)) step.tables obeys (λ r _. inr (λ ref known. absurd known)))

  pub book_stops : (stop : Option Error) → OnRows (task limit book book_params) outside None
      add_book_command db (Err stop) → IsSome limit
  book_stops stop h = stops h (λ s k. book_inserts s k) (λ it. concludes_quietly limit book
      book_params it.0 (book_after it.0 it.1) stop it.2)

pub book_fails : (old new : State) (id : ℤ) (name : List ℕ) (bs : List BookRow) (r : Result ℕ Error)
    → old.now.schema ≡ book_schema → HoldBooks (old.now.trees 2) bs
    → AllByRecursion (λ b. has_id id b ≡ false) bs → AllByRecursion (λ b. has_name name b ≡ false)
    bs → FitsSigned w64 id → length name ≤ 2 ^ 20 → Obeys book_schema old.now.trees
    → ExecutesInside 0 add_book_text (Int id ∷ Text name ∷ []) old new r
    → IfErr r (λ e. e ≢ SqliteFailure OutOfMemory → HasOutsideCause old new)
unfolding understood everything
book_fails old new id name bs (Ok count) has holds none unnamed fits short obeys h = tt
book_fails old new id name bs (Err e) has holds none unnamed fits short obeys h =
    execute_fails add_book_text (Int id ∷ Text name ∷ []) old new has add_book_command None
    add_book_is.0 tt refl refl (refl, refl)
    (λ stop did. book_stops old.step_limit id name bs old.now.trees holds none unnamed fits short
    obeys stop did) refl e h

-- ---- an import

module _ (limit : Option ℕ) (book : ℤ) (key : List ℕ) (added edited same number : ℤ) (bs :
    List BookRow) (imports : List ImportRow) (db : Trees) (holds : HoldBooks (db 2) bs) (held :
    HoldImports (db 7) imports) (some : list_any (has_id book) bs ≡ true) (none :
    AllByRecursion (λ i. has_key book key i ≡ false) imports) (short : length key ≤ 2 ^ 20) (fits :
    fits_i64 (next_rowid (db 7)) ≡ true) (free : is_taken (db 7) (Int (next_rowid (db 7)) ∷ [])
    ≡ false) (obeys : Obeys book_schema db) where
  abbrev import_params : Row
  import_params = Int book ∷ Text key ∷ Int added ∷ Int edited ∷ Int same ∷ Int number ∷ []

  abbrev import_new : Row
  import_new = Int (next_rowid (db 7)) ∷ Int book ∷ Text key ∷ Int added ∷ Int edited ∷ Int same ∷
      Int number ∷ []

  abbrev import_edit : Row → Edit
  import_edit row = record {
    table = import_key;
    gone = [];
    news = with_rowid Chosen (db 7) row ∷ [];
  }

  import_free : is_taken (db 7) import_new ≡ false
  import_free = free

  import_apart : (r : Row) → Has (db 7) r → agree plain (1 ∷ 2 ∷ []) r (1 ∷ 2 ∷ []) import_new
      ≡ false
  unfolding first_key
  import_apart r there =
      let item = item_of import_row import_cells (λ _. refl) imports (db 7) held r there in
      subst (λ (c : Row). agree plain (1 ∷ 2 ∷ []) c (1 ∷ 2 ∷ []) import_new ≡ false) (sym item.2)
      (then_term (at_ints false Eq item.0.book book) (last_term (at_texts false Eq item.0.key key
      ∙ is_eq-slice_cmp item.0.key key)) ∙ all_has (λ i. has_key book key i ≡ false) imports
      item.0 none item.1)

  import_referred : is_referred book_schema Enforced
      (import_edit (Null ∷ Int book ∷ Text key ∷ Int added ∷ Int edited ∷ Int same ∷ Int number ∷
      [])) ≡ true
  unfolding everything
  import_referred = refl

  import_row_fits : IsStorable 0 import_new
  import_row_fits = is_storable import_new (omega arith) (omega arith) (
    int_is_number (next_rowid (db 7)),
    (
      int_is_number book,
      (
        text_is_number key,
        (
          int_is_number added,
          (
            int_is_number edited,
            (int_is_number same, (int_is_number number, tt)),
          ),
        ),
      ),
    ),
  ) (omega (arith, short))

  import_fits : (row : Row) → Has (import_new ∷ []) row → ¬ IsOversized book_schema import_key row
  import_fits row (inl e) = subst (λ r. ¬ IsOversized book_schema import_key r) (sym e)
      (fits_in book_schema import_key import_new refl import_row_fits (omega arith)
      (λ i known. all_has (λ (i : Index). i.table ≡ 7
      → IsStorable 0 (entry_of i.columns import_new)) book_schema.indexes i (
        (λ e. absurd (omega (arith, e))),
        (
          (λ e. absurd (omega (arith, e))),
          (
            (λ e. absurd (omega (arith, e))),
            (
              (λ e. absurd (omega (arith, e))),
              (
                (λ _. is_storable (Int book ∷ Text key ∷ Int (next_rowid (db 7)) ∷ []) (omega arith)
                    (omega arith) (
                      int_is_number book,
                      (text_is_number key, (int_is_number (next_rowid (db 7)), tt)),
                    ) (omega (arith, short))),
                tt,
              ),
            ),
          ),
        ),
      ) known))
  import_fits row (inr h) = absurd h

  import_admitted : IsAdmitted db (import_edit (Null ∷ Int book ∷ Text key ∷ Int added ∷ Int edited
      ∷ Int same ∷ Int number ∷ []))
  import_admitted = record {
    keyed = refl;
    numbered = last_term fits;
    typed = refl;
    present = refl;
    checked = refl;
    fresh = fresh_one (db 7) import_new import_free;
    unique = ap (λ t. not (t || false) && true) (no_clash plain (1 ∷ 2 ∷ []) (db 7) import_new
        (next_rowid (db 7)) refl import_apart);
    referred = import_referred;
    storable = import_fits;
    listed = inr (inr (inr (inl refl)));
  }

  import_is : edit_of db import_key [] Chosen 0
      ((Null ∷ Int book ∷ Text key ∷ Int added ∷ Int edited ∷ Int same ∷ Int number ∷ []) ∷ [])
      ≡ import_edit (Null ∷ Int book ∷ Text key ∷ Int added ∷ Int edited ∷ Int same ∷ Int number ∷
      [])
  import_is = ap import_edit (cast_import book key added edited same number)

  import_inserts : (stop : Option Error)
      → Inserts (task limit import_key import_params) (Values add_import_terms 7) db (Err stop)
      → IsSome limit
  import_inserts stop h =
      stops h (λ s k. values_stop limit (record { schema = book_schema; trees = db }) import_params
      add_import_terms 7 refl s k)
      (λ given. stops given.2 (λ s k. never_stops _ s k)
      (λ counter. stops counter.2
      (λ s k. edit_never_stops db (import_edit (Null ∷ Int book ∷ Text key ∷ Int added ∷ Int edited
      ∷ Int same ∷ Int number ∷ [])) import_admitted obeys refl s
      (subst (λ e. Edited book_schema Enforced db e (Err s)) import_is
      (subst (λ rows. Edited book_schema Enforced db (edit_of db import_key [] Chosen 0 rows)
      (Err s)) given.1.1 k)))
      (λ mid. stops mid.2 (λ s k. never_stops _ s k) (λ next. never_stops _ stop next.2))))

  import_after : (w : Written) → Inserts (task limit import_key import_params)
      (Values add_import_terms 7) db (Ok w) → Refers All book_schema w.trees
  import_after w h =
      let given = went_on h in
      let counter = went_on given.2 in
      let wrote = went_on counter.2 in
      let counted = went_on wrote.2 in
      let trees : w.trees ≡ wrote.0 = ap (λ (it : Written). it.trees) (same_value counted.2)
      ∙ same_value counted.1 in
      let step = one_step book_schema Enforced db wrote.0
      (import_edit (Null ∷ Int book ∷ Text key ∷ Int added ∷ Int edited ∷ Int same ∷ Int number
      ∷ [])) refl (subst (λ e. Edited book_schema Enforced db e (Ok wrote.0)) import_is
      (subst (λ rows. Edited book_schema Enforced db (edit_of db import_key [] Chosen 0 rows)
      (Ok wrote.0)) given.1.1 wrote.1)) in
      let books = step.tables.1.0 (λ e. omega (arith, e)) in
      subst (Refers All book_schema) (sym trees)
      (refers_after db wrote.0 (same_books db wrote.0 books) import_key
      (inr (inr (inr (inl refl)))) step.tables obeys
      (λ r there. elim (put_has import_new (db 7) r (subst (λ l. Has l r) step.rows there)) [
        | inl new ↦ inr (refers_there wrote.0 bs (subst (λ l. HoldBooks l bs) (sym books) holds)
            book some 1 r (ap (λ (x : Row). column x 1) new))
        | inr was ↦ inl was
      ]))

  pub import_stops : (stop : Option Error) → OnRows (task limit import_key import_params) outside
      None add_import_command db (Err stop) → IsSome limit
  import_stops stop h = stops h (λ s k. import_inserts s k) (λ it. concludes_quietly limit
      import_key import_params it.0 (import_after it.0 it.1) stop it.2)

pub import_fails : (old new : State) (book : ℤ) (key : List ℕ) (added edited same number : ℤ) (bs :
    List BookRow) (imports : List ImportRow) (r : Result ℕ Error) → old.now.schema ≡ book_schema
    → HoldBooks (old.now.trees 2) bs → HoldImports (old.now.trees 7) imports
    → list_any (has_id book) bs ≡ true → AllByRecursion (λ i. has_key book key i ≡ false) imports
    → length key ≤ 2 ^ 20 → fits_i64 (next_rowid (old.now.trees 7)) ≡ true
    → is_taken (old.now.trees 7) (Int (next_rowid (old.now.trees 7)) ∷ []) ≡ false
    → Obeys book_schema old.now.trees
    → ExecutesInside 0 add_import_text (Int book ∷ Text key ∷ Int added ∷ Int edited ∷ Int same ∷
    Int number ∷ []) old new r → IfErr r (λ e. e ≢ SqliteFailure OutOfMemory
    → HasOutsideCause old new)
unfolding understood everything
import_fails old new book key added edited same number bs imports (Ok count) has holds held some
    none short fits free obeys h = tt
import_fails old new book key added edited same number bs imports (Err e) has holds held some none
    short fits free obeys h =
    execute_fails add_import_text (Int book ∷ Text key ∷ Int added ∷ Int edited ∷ Int same ∷ Int
    number ∷ []) old new has add_import_command None add_import_is.0 tt refl refl (refl, refl)
    (λ stop did. import_stops old.step_limit book key added edited same number bs imports
    old.now.trees holds held some none short fits free obeys stop did) refl e h
