-- The effect of an INSERT of one row.
use Rattle.std.proofs.Common.{◌≡◌, ℕ, ℤ, false, ◌||◌, List, [], ◌∷◌, map, Option, None, Ok, Err}
use Rattle.std.proofs.Common.{Result, int_eq, is_eq, OnOk, refl, sym, ap, subst, ◌∙◌}
use Rattle.std.specs.List.{AllByRecursion, list_any}
use Rattle.std.specs.List.Sorted.{IsPermutation}
use Rattle.std.proofs.lemmas.Bool.{or_parts}
use Rattle.std.proofs.lemmas.List.Sorted.{list_any-IsPermutation}
use Rattle.sqlite.specs.declared.error.Error.{Error}
use Rattle.sqlite.specs.declared.types.Value.TheVariants.{Null, Int, Text}
use Rattle.sqlite.specs.Does.{Tally, Does}
use Rattle.sqlite.specs.Edit.{edit_of}
use Rattle.sqlite.specs.Effect.{Database}
use Rattle.sqlite.specs.Listing.{understood}
use Rattle.sqlite.specs.Order.{Row, value_cmp}
use Rattle.sqlite.specs.Rowids.TheVariants.{Chosen}
use Rattle.sqlite.specs.Rows.{Task, Edited, Written, Inserts}
use Rattle.sqlite.specs.Source.TheVariants.{Values}
use Rattle.sqlite.specs.State.{State, ExecutesInside, Writes, mode_of}
use Rattle.sqlite.specs.Tree.{Trees}
use Rattle.sqlite.proofs.Callers.{one_step, statement_of, runs_as}
use Rattle.sqlite_rules.specs.Cast.{cast_row}
use Rattle.sqlite_rules.specs.Edit.{is_taken, next_rowid, with_rowid}
use Rattle.sqlite_schema.specs.declared.schema.Keys.TheVariants.{Enforced}
use Rattle.sqlite_trees.specs.Tree.{rowid, put_row}
use Rattle.store_tables.specs.QueryResults.{AddsRow}
use Rattle.store_tables.specs.Imports.{ImportRow, import_row, import_cells, HoldImports, AddsImport}
use Rattle.store_tables.specs.Imports.{new_import_row}
use Rattle.store_tables.specs.Books.{BookRow, book_row, book_cells, HoldBooks, AddsBook, blank_book}
use Rattle.store_tables.specs.Keeps.{KeepRow, keep_row, keep_cells, HoldKeeps, AddsKeep}
use Rattle.store_tables.specs.Keeps.{keep_row_of}
use Rattle.store_tables.specs.StatementEffects.{KeepsOtherTables}
use Rattle.store_tables.specs.Tables.{book_schema, import_key, book, keeping}
use Rattle.store_tables.proofs.KeyedRows.{free_one, put_beside, has_stored}
use Rattle.store_tables.proofs.PutLemmas.{cast_int, cast_null, went_on, same_value}
use Rattle.store_tables.proofs.UpdateLemmas.{cast_book}
use Rattle.store_tables.proofs.Queries.{add_import_text, add_import_terms, add_import_command}
use Rattle.store_tables.proofs.Queries.{add_book_text, add_book_terms, add_book_command}
use Rattle.store_tables.proofs.Queries.{add_keep_text, add_keep_terms, add_keep_command}
use Rattle.store_tables.proofs.Texts.{add_import_is, add_book_is, add_keep_is}

module _ {X : Type 0} (id : X → ℤ) (stored : X → Row) (at_id : (x : X)
    → rowid (stored x) ≡ Int (id x)) (cells : Row → Row) (same_id : (r : Row)
    → rowid (cells r) ≡ rowid r) where
  none_taken : (i : ℤ) (xs : List X) → list_any (λ r. is_eq (value_cmp (rowid r) (Int i)))
      (map stored xs) ≡ false → AllByRecursion (λ x. int_eq (id x) i ≡ false) xs
  none_taken i [] h = tt
  none_taken i (x ∷ xs) h = let both = or_parts _ _ h in
      (sym (has_stored id stored at_id i x) ∙ both.0, none_taken i xs both.1)

  any_cells : (i : ℤ) (rows : List Row) → list_any (λ r. is_eq (value_cmp (rowid r) (Int i)))
      (map cells rows) ≡ list_any (λ r. is_eq (value_cmp (rowid r) (Int i))) rows
  any_cells i [] = refl
  any_cells i (r ∷ rs) = rw (same_id r) (ap (λ b. is_eq (value_cmp (rowid r) (Int i)) || b)
      (any_cells i rs))

  -- a row with an unused id is added to the others
  pub added : (new : X) (row : Row) (xs : List X) (rows : List Row) → cells row ≡ stored new
      → rowid row ≡ Int (id new) → IsPermutation (map stored xs) (map cells rows)
      → is_taken rows row ≡ false
      → IsPermutation (stored new ∷ map stored xs) (map cells (put_row row rows))
      × AllByRecursion (λ x. int_eq (id x) (id new) ≡ false) xs
  added new row xs rows shows at has free =
      let none = subst (λ v. list_any (λ r. is_eq (value_cmp (rowid r) v)) rows ≡ false) at free in (
        put_beside id stored at_id cells row new shows xs rows has free,
        none_taken (id new) xs (list_any-IsPermutation
            (λ r. is_eq (value_cmp (rowid r) (Int (id new)))) _ _ has ∙ any_cells (id new) rows
            ∙ none),
      )

-- ---- an import

pub cast_import : (book : ℤ) (key : List ℕ) (added edited same number : ℤ)
    → cast_row import_key (Null ∷ Int book ∷ Text key ∷ Int added ∷ Int edited ∷ Int same ∷ Int
    number ∷ [])
    ≡ Null ∷ Int book ∷ Text key ∷ Int added ∷ Int edited ∷ Int same ∷ Int number ∷ []
cast_import book key added edited same number =
    rw (cast_null, cast_int book, cast_int added, cast_int edited, cast_int same, cast_int number)

module _ (limit : Option ℕ) (book : ℤ) (key : List ℕ) (added_cards edited same number : ℤ)
    (imports : List ImportRow) (db : Trees) (has : HoldImports (db 7) imports) where
  abbrev params : Row
  params = Int book ∷ Text key ∷ Int added_cards ∷ Int edited ∷ Int same ∷ Int number ∷ []

  abbrev task : Task
  task = record {
    limit = limit;
    keys = Enforced;
    schema = book_schema;
    table = import_key;
    params = params;
  }

  abbrev new : ImportRow
  new = new_import_row (next_rowid (db 7)) book key added_cards edited same number

  pub adds_import : (w : Written) → Inserts task (Values add_import_terms 7) db (Ok w)
      → ((id : ℤ) × AddsRow HoldImports (λ i. i.id) (new_import_row id book key added_cards edited
      same number) imports (w.trees 7)) × KeepsOtherTables 7 db w.trees
  adds_import w h =
      let given = went_on h in
      let counter = went_on given.2 in
      let wrote = went_on counter.2 in
      let counted = went_on wrote.2 in
      let trees : w.trees ≡ wrote.0 = ap (λ (it : Written). it.trees) (same_value counted.2)
      ∙ same_value counted.1 in
      let row = cast_row import_key (Null ∷ params) in
      let step = one_step book_schema Enforced db wrote.0 (edit_of db import_key [] Chosen 0
      ((Null ∷ params) ∷ [])) refl
      (subst (λ rows. Edited book_schema Enforced db (edit_of db import_key [] Chosen 0 rows)
      (Ok wrote.0)) given.1.1 wrote.1) in
      let numbered : with_rowid Chosen (db 7) row ≡ import_row new =
      ap (with_rowid Chosen (db 7)) (cast_import book key added_cards edited same number) in
      let it = with_rowid Chosen (db 7) row in
      let ends = added (λ (i : ImportRow). i.id) import_row (λ _. refl) import_cells (λ _. refl) new
      it imports (db 7) (ap import_cells numbered) (ap rowid numbered) has
      (free_one (db 7) it step.fresh) in (
        (
          next_rowid (db 7),
          record {
            hold = subst (λ rows. HoldImports rows (new ∷ imports))
                (sym (ap (λ (t : Trees). t 7) trees ∙ step.rows)) ends.0;
            free = ends.1;
          },
        ),
        subst (KeepsOtherTables 7 db) (sym trees) step.tables,
      )

pub adds_import_inside : (old new : State) (book : ℤ) (key : List ℕ)
    (added_cards edited same number : ℤ) (imports : List ImportRow) (r : Result ℕ Error)
    → old.now.schema ≡ book_schema → HoldImports (old.now.trees 7) imports
    → ExecutesInside 0 add_import_text (Int book ∷ Text key ∷ Int added_cards ∷ Int edited ∷ Int
    same ∷ Int number ∷ []) old new r
    → OnOk r ((new.now.schema ≡ book_schema) × AddsImport new book key added_cards edited same
    number imports × KeepsOtherTables 7 old.now.trees new.now.trees)
adds_import_inside old new book key added_cards edited same number imports (Err e) schema has h = tt
adds_import_inside old new book key added_cards edited same number imports (Ok count) schema has h =
    let params = Int book ∷ Text key ∷ Int added_cards ∷ Int edited ∷ Int same ∷ Int number ∷ [] in
    let w : Writes old new None add_import_command (statement_of add_import_text
    (understood book_schema add_import_text)) params count =
    runs_as add_import_text params old new book_schema schema _ add_import_is.0 add_import_is.1
    count h.0 in
    let text = statement_of add_import_text (understood book_schema add_import_text) in
    let done =
    went_on (subst (λ s. Does old.step_limit (mode_of old) params
    (record old.now { schema = s }) text None add_import_command (Ok (w.tally, new.now))) schema
    w.changed) in
    let tested = went_on done.2 in
    let returned = went_on tested.2 in
    let now = ap (λ (p : Tally × Database). p.1) (same_value returned.2) in
    let ends = adds_import old.step_limit book key added_cards edited same number imports
    old.now.trees has done.0 done.1 in (
      ap (λ (d : Database). d.schema) now,
      (
        ends.0.0,
        subst (AddsRow HoldImports (λ i. i.id) (new_import_row ends.0.0 book key
            added_cards edited same number) imports) (ap (λ (d : Database). d.trees 7) (sym now))
            ends.0.1,
      ),
      subst (KeepsOtherTables 7 old.now.trees) (ap (λ (d : Database). d.trees) (sym now)) ends.1,
    )

-- ---- a book

module _ (limit : Option ℕ) (id : ℤ) (name : List ℕ) (bs : List BookRow) (db : Trees) (has :
    HoldBooks (db 2) bs) where
  abbrev book_task : Task
  book_task = record {
    limit = limit;
    keys = Enforced;
    schema = book_schema;
    table = book;
    params = Int id ∷ Text name ∷ [];
  }

  pub adds_book : (w : Written) → Inserts book_task (Values add_book_terms 12) db (Ok w)
      → AddsRow HoldBooks (λ (b : BookRow). b.id) (blank_book id name) bs (w.trees 2)
      × KeepsOtherTables 2 db w.trees
  adds_book w h =
      let given = went_on h in
      let counter = went_on given.2 in
      let wrote = went_on counter.2 in
      let counted = went_on wrote.2 in
      let trees : w.trees ≡ wrote.0 = ap (λ (it : Written). it.trees) (same_value counted.2)
      ∙ same_value counted.1 in
      let row = cast_row book (book_row (blank_book id name)) in
      let step = one_step book_schema Enforced db wrote.0 (edit_of db book [] Chosen 0
      (book_row (blank_book id name) ∷ [])) refl
      (subst (λ rows. Edited book_schema Enforced db (edit_of db book [] Chosen 0 rows)
      (Ok wrote.0)) given.1.1 wrote.1) in
      let it = with_rowid Chosen (db 2) row in
      let numbered : it ≡ book_row (blank_book id name) =
      ap (with_rowid Chosen (db 2)) (cast_book (blank_book id name)) in
      let ends = added (λ (b : BookRow). b.id) book_row (λ _. refl) book_cells (λ _. refl)
      (blank_book id name) it bs (db 2) (ap book_cells numbered) (ap rowid numbered) has
      (free_one (db 2) it step.fresh) in (
        record {
          hold = subst (λ rows. HoldBooks rows (blank_book id name ∷ bs))
              (sym (ap (λ (t : Trees). t 2) trees ∙ step.rows)) ends.0;
          free = ends.1;
        },
        subst (KeepsOtherTables 2 db) (sym trees) step.tables,
      )

pub adds_book_inside : (old new : State) (id : ℤ) (name : List ℕ) (bs : List BookRow) (r :
    Result ℕ Error) → old.now.schema ≡ book_schema → HoldBooks (old.now.trees 2) bs
    → ExecutesInside 0 add_book_text (Int id ∷ Text name ∷ []) old new r
    → OnOk r ((new.now.schema ≡ book_schema) × AddsBook new id name bs
    × KeepsOtherTables 2 old.now.trees new.now.trees)
adds_book_inside old new id name bs (Err e) schema has h = tt
adds_book_inside old new id name bs (Ok count) schema has h =
    let params = Int id ∷ Text name ∷ [] in
    let w : Writes old new None add_book_command
    (statement_of add_book_text (understood book_schema add_book_text)) params count =
    runs_as add_book_text params old new book_schema schema _ add_book_is.0 add_book_is.1 count
    h.0 in
    let text = statement_of add_book_text (understood book_schema add_book_text) in
    let done =
    went_on (subst (λ s. Does old.step_limit (mode_of old) params
    (record old.now { schema = s }) text None add_book_command (Ok (w.tally, new.now))) schema
    w.changed) in
    let tested = went_on done.2 in
    let returned = went_on tested.2 in
    let now = ap (λ (p : Tally × Database). p.1) (same_value returned.2) in
    let ends = adds_book old.step_limit id name bs old.now.trees has done.0 done.1 in (
      ap (λ (d : Database). d.schema) now,
      subst (AddsRow HoldBooks (λ (b : BookRow). b.id) (blank_book id name) bs)
          (ap (λ (d : Database). d.trees 2) (sym now)) ends.0,
      subst (KeepsOtherTables 2 old.now.trees) (ap (λ (d : Database). d.trees) (sym now)) ends.1,
    )

-- ---- a keep

pub cast_keep : (k : KeepRow) → cast_row keeping (keep_row k) ≡ keep_row k
cast_keep k = rw (cast_null, cast_int k.book, cast_int k.keep)

module _ (limit : Option ℕ) (book keep : ℤ) (keeps : List KeepRow) (db : Trees) (has :
    HoldKeeps (db 9) keeps) where
  abbrev keep_task : Task
  keep_task = record {
    limit = limit;
    keys = Enforced;
    schema = book_schema;
    table = keeping;
    params = Int book ∷ Int keep ∷ [];
  }

  pub adds_keep : (w : Written) → Inserts keep_task (Values add_keep_terms 3) db (Ok w)
      → AddsRow HoldKeeps (λ (k : KeepRow). k.book) (keep_row_of book keep) keeps (w.trees 9)
      × KeepsOtherTables 9 db w.trees
  adds_keep w h =
      let given = went_on h in
      let counter = went_on given.2 in
      let wrote = went_on counter.2 in
      let counted = went_on wrote.2 in
      let trees : w.trees ≡ wrote.0 = ap (λ (it : Written). it.trees) (same_value counted.2)
      ∙ same_value counted.1 in
      let row = cast_row keeping (keep_row (keep_row_of book keep)) in
      let step = one_step book_schema Enforced db wrote.0 (edit_of db keeping [] Chosen 0
      (keep_row (keep_row_of book keep) ∷ [])) refl
      (subst (λ rows. Edited book_schema Enforced db (edit_of db keeping [] Chosen 0 rows)
      (Ok wrote.0)) given.1.1 wrote.1) in
      let it = with_rowid Chosen (db 9) row in
      let numbered : it ≡ keep_row (keep_row_of book keep) =
      ap (with_rowid Chosen (db 9)) (cast_keep (keep_row_of book keep)) in
      let ends = added (λ (k : KeepRow). k.book) keep_row (λ _. refl) keep_cells (λ _. refl)
      (keep_row_of book keep) it keeps (db 9) (ap keep_cells numbered) (ap rowid numbered) has
      (free_one (db 9) it step.fresh) in (
        record {
          hold = subst (λ rows. HoldKeeps rows (keep_row_of book keep ∷ keeps))
              (sym (ap (λ (t : Trees). t 9) trees ∙ step.rows)) ends.0;
          free = ends.1;
        },
        subst (KeepsOtherTables 9 db) (sym trees) step.tables,
      )

pub adds_keep_inside : (old new : State) (book keep : ℤ) (keeps : List KeepRow) (r : Result ℕ Error)
    → old.now.schema ≡ book_schema → HoldKeeps (old.now.trees 9) keeps
    → ExecutesInside 0 add_keep_text (Int book ∷ Int keep ∷ []) old new r
    → OnOk r ((new.now.schema ≡ book_schema) × AddsKeep new book keep keeps
    × KeepsOtherTables 9 old.now.trees new.now.trees)
adds_keep_inside old new book keep keeps (Err e) schema has h = tt
adds_keep_inside old new book keep keeps (Ok count) schema has h =
    let params = Int book ∷ Int keep ∷ [] in
    let w : Writes old new None add_keep_command
    (statement_of add_keep_text (understood book_schema add_keep_text)) params count =
    runs_as add_keep_text params old new book_schema schema _ add_keep_is.0 add_keep_is.1 count
    h.0 in
    let text = statement_of add_keep_text (understood book_schema add_keep_text) in
    let done =
    went_on (subst (λ s. Does old.step_limit (mode_of old) params
    (record old.now { schema = s }) text None add_keep_command (Ok (w.tally, new.now))) schema
    w.changed) in
    let tested = went_on done.2 in
    let returned = went_on tested.2 in
    let now = ap (λ (p : Tally × Database). p.1) (same_value returned.2) in
    let ends = adds_keep old.step_limit book keep keeps old.now.trees has done.0 done.1 in (
      ap (λ (d : Database). d.schema) now,
      subst (AddsRow HoldKeeps (λ (k : KeepRow). k.book) (keep_row_of book keep) keeps)
          (ap (λ (d : Database). d.trees 9) (sym now)) ends.0,
      subst (KeepsOtherTables 9 old.now.trees) (ap (λ (d : Database). d.trees) (sym now)) ends.1,
    )
