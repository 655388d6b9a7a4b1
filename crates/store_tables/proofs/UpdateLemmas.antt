-- The effect of the update of a book's numbers.
use Rattle.std.proofs.Common.{◌≡◌, inl, inr, ℕ, ℤ, Bool, true, false, List, [], ◌∷◌, map, filter}
use Rattle.std.proofs.Common.{Option, None, Ok, Err, Result, int_eq, OnOk, refl, sym, ap, subst}
use Rattle.std.proofs.Common.{◌∙◌}
use Rattle.std.specs.List.Sorted.{IsPermutation}
use Rattle.std.proofs.lemmas.List.Sorted.{IsPermutation-map, IsPermutation-trans}
use Rattle.sqlite.specs.declared.types.Value.TheVariants.{Int}
use Rattle.sqlite.specs.declared.error.Error.{Error}
use Rattle.sqlite.specs.Order.{Row}
use Rattle.sqlite.specs.Tree.{Trees}
use Rattle.sqlite.specs.Program.{overlay}
use Rattle.sqlite.specs.Effect.{Database}
use Rattle.sqlite.specs.Listing.{understood}
use Rattle.sqlite.specs.Does.{Tally, Does}
use Rattle.sqlite.specs.State.{State, Executes, ExecutesInside, Writes, mode_of}
use Rattle.sqlite.specs.Rows.{Task, Then, Edited, Gives, Written, Updates}
use Rattle.sqlite.specs.Edit.{Edit, edit_of}
use Rattle.sqlite.specs.Command.TheVariants.{Update}
use Rattle.sqlite.specs.Rowids.TheVariants.{Given}
use Rattle.sqlite.proofs.Callers.{one_step, one_permutation, runs_as, statement_of}
use Rattle.sqlite_rules.specs.Cast.{cast_row}
use Rattle.sqlite_rules.specs.Calls.{ids_of}
use Rattle.sqlite_rules.specs.Lists.{Has}
use Rattle.sqlite_trees.specs.Tree.{without_rowid}
use Rattle.sqlite_trees.proofs.ListLemmas.{filter-map, ascending_weaker, IsPermutation-filter}
use Rattle.sqlite_schema.specs.declared.schema.Keys.TheVariants.{Enforced}
use Rattle.sqlite_sql.specs.declared.ops.CompareOp.TheVariants.{Eq}
use Rattle.sqlite_typed.proofs.TestLemmas.{at_ints, last_term}
use Rattle.store_tables.specs.Tables.{book_schema, book}
use Rattle.store_tables.proofs.Queries.{update_text, update_query}
use Rattle.store_tables.specs.Books.{Numbers, number_cells, BookRow, book_row, book_cells}
use Rattle.store_tables.specs.Books.{HoldBooks, AreBooks, with_book_numbers}
use Rattle.store_tables.specs.StatementEffects.{KeepsOtherTables}
use Rattle.store_tables.proofs.Texts.{update_is}
use Rattle.store_tables.proofs.Picks.{passes, shows, picked}
use Rattle.store_tables.proofs.Cells.{shaped}
use Rattle.store_tables.proofs.KeyedRows.{Apart, replaced, with_new, only_one, free_one, same_int}
use Rattle.store_tables.proofs.PutLemmas.{went_on, same_value, cast_int, cast_null}

abbrev pub book_id : BookRow → ℤ
book_id b = b.id

pub apart_books : (bs : List BookRow) → AreBooks bs → Apart book_id book_row (λ _. refl) bs
apart_books bs kept = ascending_weaker _ _ (λ a b h. h.0) bs kept

pub cast_book : (b : BookRow) → cast_row book (book_row b) ≡ book_row b
cast_book b = rw (
  cast_int b.id,
  cast_null,
  cast_int b.numbers.number,
  cast_int b.numbers.horizon,
  cast_int b.numbers.created,
  cast_int b.numbers.edited,
  cast_int b.numbers.imported,
  cast_int b.numbers.import_edited,
  cast_int b.numbers.moved_in,
  cast_int b.numbers.deleted,
  cast_int b.numbers.moved_out,
)

module _ (limit : Option ℕ) (numbers : Numbers) (bs : List BookRow) (kept : AreBooks bs) (b :
    BookRow) (there : Has bs b) (db : Trees) (has : HoldBooks (db 2) bs) where
  abbrev pub params : Row
  params = Int b.id ∷ number_cells numbers

  abbrev task : Task
  task = record {
    limit = limit;
    keys = Enforced;
    schema = book_schema;
    table = book;
    params = params;
  }

  abbrev new : BookRow
  new = record b { numbers = numbers }

  abbrev pub p : Row → Bool
  p = passes 2 update_query.filter update_query.project (overlay db []) params

  abbrev pub f : Row → Row
  f = shows 2 update_query.filter update_query.project (overlay db []) params

  -- the statement finds the book's row and no other
  pub only_it : IsPermutation (f (book_row b) ∷ []) (map f (filter p (db 2)))
  only_it =
      let one : map f (filter p (map book_row bs)) ≡ f (book_row b) ∷ [] =
      ap (map f) (filter-map p book_row bs
      ∙ ap (map book_row) ((λ i. filter (λ x. last_term (at_ints false Eq x.id b.id) i) bs)
      ∙ only_one book_id book_row (λ _. refl) bs b (apart_books bs kept) there)) in
      rw (← one, shaped book_cells p f (λ _. refl) (λ _. refl) (db 2))
      (IsPermutation-map f _ _ (IsPermutation-filter p _ _ has))

  pub updates : (w : Written) → Updates task (record { lets = []; body = update_query }) params db
      (Ok w)
      → HoldBooks (w.trees 2) (map (with_new book_id book_row (λ _. refl) new) bs)
      × KeepsOtherTables 2 db w.trees
  updates w h =
      let went = went_on h in
      let shown_rows = one_permutation (f (book_row b)) went.0 (IsPermutation-trans _ _ _ only_it
      (picked 2 update_query.filter update_query.project (overlay db []) params went.0
      went.1.answer)) in
      let edit_by : List Row → Edit = λ rows. edit_of db book (ids_of rows) Given 1 rows in
      let wrote = subst (λ rows. Then (Edited book_schema Enforced db (edit_by rows))
      (λ next. Gives (record { trees = next; rows = (edit_by rows).news; last = None })) (Ok w))
      shown_rows went.2 in
      let step = went_on wrote in
      let one = one_step book_schema Enforced db step.0 (edit_by (f (book_row b) ∷ [])) refl
      step.1 in
      let trees = ap (λ (it : Written). it.trees) (same_value step.2) in (
        subst (λ rows. HoldBooks rows (map (with_new book_id book_row (λ _. refl) new) bs))
            (sym (ap (λ (t : Trees). t 2) trees ∙ one.rows))
            (replaced book_id book_row (λ _. refl) new book_cells (λ _. refl)
            (cast_row book (book_row new)) (ap book_cells (cast_book new)) bs b (db 2)
            (apart_books bs kept) there refl has
            (free_one (without_rowid b.id (db 2)) (cast_row book (book_row new)) one.fresh)),
        subst (KeepsOtherTables 2 db) (sym trees) one.tables,
      )

-- the row with the id is the book itself
same_rows : (numbers : Numbers) (all bs : List BookRow) (b : BookRow)
    → ((x : BookRow) → Has bs x → Has all x) → ((x : BookRow) → Has all x → x.id ≡ b.id → x ≡ b)
    → map (with_new book_id book_row (λ _. refl) (record b { numbers = numbers })) bs
    ≡ with_book_numbers b.id numbers bs
same_rows numbers all [] b sub same = refl
same_rows numbers all (x ∷ xs) b sub same =
    step (int_eq x.id b.id) refl (same_rows numbers all xs b (λ y h. sub y (inr h)) same)
  where
    step : (t : Bool) → int_eq x.id b.id ≡ t
        → map (with_new book_id book_row (λ _. refl) (record b { numbers = numbers })) xs
        ≡ with_book_numbers b.id numbers xs
        → map (with_new book_id book_row (λ _. refl) (record b { numbers = numbers })) (x ∷ xs)
        ≡ with_book_numbers b.id numbers (x ∷ xs)
    step true e more =
        rw e (ap (λ (y : BookRow). record y { numbers = numbers } ∷ map
        (with_new book_id book_row (λ _. refl) (record b { numbers = numbers })) xs)
        (sym (same x (sub x (inl refl)) (same_int x.id b.id e)))
        ∙ ap (λ l. record x { numbers = numbers } ∷ l) more)
    step false e more = rw e (ap (λ l. x ∷ l) more)

pub updates_book : (old new : State) (numbers : Numbers) (bs : List BookRow) (b : BookRow) (count :
    ℕ) → old.now.schema ≡ book_schema → AreBooks bs → Has bs b → HoldBooks (old.now.trees 2) bs
    → Executes update_text (Int b.id ∷ number_cells numbers) old new (Ok count)
    → (new.now.schema ≡ book_schema) × HoldBooks (new.now.trees 2)
    (map (with_new book_id book_row (λ _. refl) (record b { numbers = numbers })) bs)
    × KeepsOtherTables 2 old.now.trees new.now.trees
updates_book old new numbers bs b count schema kept there has h =
    let params = Int b.id ∷ number_cells numbers in
    let command = Update 1 (record { lets = []; body = update_query }) in
    let text = statement_of update_text (understood book_schema update_text) in
    let w : Writes old new None command text params count =
    runs_as update_text params old new book_schema schema _ update_is.0 update_is.1 count h in
    let done =
    went_on (subst (λ s. Does old.step_limit (mode_of old) params
    (record old.now { schema = s }) text None command (Ok (w.tally, new.now))) schema
    w.changed) in
    let tested = went_on done.2 in
    let returned = went_on tested.2 in
    let now = ap (λ (p : Tally × Database). p.1) (same_value returned.2) in
    let ends = updates old.step_limit numbers bs kept b there old.now.trees has done.0 done.1 in (
      ap (λ (d : Database). d.schema) now,
      subst (λ rows. HoldBooks rows (map (with_new book_id book_row (λ _. refl)
          (record b { numbers = numbers })) bs)) (ap (λ (d : Database). d.trees 2) (sym now))
          ends.0,
      subst (KeepsOtherTables 2 old.now.trees) (ap (λ (d : Database). d.trees) (sym now)) ends.1,
    )

pub updates_rows : (old new : State) (numbers : Numbers) (bs : List BookRow) (b : BookRow) (r :
    Result ℕ Error) → old.now.schema ≡ book_schema → AreBooks bs → Has bs b
    → HoldBooks (old.now.trees 2) bs
    → ExecutesInside 0 update_text (Int b.id ∷ number_cells numbers) old new r
    → OnOk r ((new.now.schema ≡ book_schema)
    × HoldBooks (new.now.trees 2) (with_book_numbers b.id numbers bs)
    × KeepsOtherTables 2 old.now.trees new.now.trees)
updates_rows old new numbers bs b (Ok count) schema kept there has h =
    let it = updates_book old new numbers bs b count schema kept there has h.0 in (
      it.0,
      subst (λ l. HoldBooks (new.now.trees 2) l) (same_rows numbers bs bs b (λ x h. h)
          (λ x h e. Rattle.store_tables.proofs.KeyedRows.same_item book_id book_row (λ _. refl) bs x
          b
          (apart_books bs kept) h there e)) it.1,
      it.2,
    )
updates_rows old new numbers bs b (Err e) schema kept there has h = tt
