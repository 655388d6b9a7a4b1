-- The effect of the update of a member by its UID, and of an update that finds no member.
use Rattle.std.proofs.Common.{◌≡◌, ◌≢◌, ◌⊎◌, inl, inr, ℕ, ◌+◌, ℤ, Bool, true, false, List, [], ◌∷◌}
use Rattle.std.proofs.Common.{length, map, filter, Option, None, Ok, Err, Result, refl, sym, ap}
use Rattle.std.proofs.Common.{subst, subst₂, ◌∙◌, arith}
use Rattle.std.specs.Prelude.{IfOk}
use Rattle.std.specs.List.{AllByRecursion}
use Rattle.std.specs.List.Sorted.{IsPermutation}
use Rattle.std.specs.Option.{unwrap_or}
use Rattle.std.proofs.lemmas.List.Sorted.{IsPermutation-map, IsPermutation-trans}
use Rattle.std.proofs.lemmas.List.Sorted.{length_permutation}
use Rattle.std.proofs.lemmas.Map.Text.{is_eq-slice_cmp}
use Rattle.sqlite.specs.Command.TheVariants.{Update}
use Rattle.sqlite.specs.Does.{Tally, Does}
use Rattle.sqlite.specs.Edit.{Edit, edit_of}
use Rattle.sqlite.specs.Effect.{Database}
use Rattle.sqlite.specs.Listing.{understood}
use Rattle.sqlite.specs.Order.{Row}
use Rattle.sqlite.specs.Program.{overlay}
use Rattle.sqlite.specs.Rowids.TheVariants.{Given}
use Rattle.sqlite.specs.Rows.{Task, Then, Edited, Gives, Updates, Written}
use Rattle.sqlite.specs.State.{State, ExecutesInside, Writes, mode_of}
use Rattle.sqlite.specs.Tree.{Trees}
use Rattle.sqlite.specs.Values.{or_null}
use Rattle.sqlite.specs.declared.error.Error.{Error}
use Rattle.sqlite.specs.declared.types.Value.TheVariants.{Int, Text}
use Rattle.sqlite.proofs.Callers.{one_permutation, one_step, runs_as, statement_of}
use Rattle.sqlite_rules.specs.Calls.{ids_of}
use Rattle.sqlite_rules.specs.Cast.{cast_row}
use Rattle.sqlite_rules.specs.Edit.{id_in}
use Rattle.sqlite_rules.specs.Lists.{Has}
use Rattle.sqlite_rules.proofs.ListLemmas.{all_has}
use Rattle.sqlite_schema.specs.declared.schema.Keys.TheVariants.{Enforced}
use Rattle.sqlite_sql.specs.declared.ops.CompareOp.TheVariants.{Eq}
use Rattle.sqlite_trees.specs.Tree.{put_row, rowid, without_rowid}
use Rattle.sqlite_trees.proofs.ListLemmas.{all_weaker, filter-map, IsPermutation-filter}
use Rattle.sqlite_typed.proofs.TestLemmas.{at_ints, at_texts, last_term, then_term}
use Rattle.store_tables.specs.Acceptance.{HasFreeIds}
use Rattle.store_tables.specs.Members.{AreMembers, HoldMembers, MemberRow, PutsRow, has_uid}
use Rattle.store_tables.specs.Members.{member_cells, member_row, upsert_member}
use Rattle.store_tables.specs.StatementEffects.{KeepsOtherTables}
use Rattle.store_tables.specs.Tables.{book_schema, member}
use Rattle.store_tables.proofs.Cells.{shaped}
use Rattle.store_tables.proofs.FreshLemmas.{row_of}
use Rattle.store_tables.proofs.IdLemmas.{HaveIds, have_ids, ids_after_change}
use Rattle.store_tables.proofs.KeyedRows.{free_one, replaced}
use Rattle.store_tables.proofs.Picks.{passes, picked, shows}
use Rattle.store_tables.proofs.PutLemmas.{TakesOneId, cast_same, same_value, went_on}
use Rattle.store_tables.proofs.Queries.{change_query, change_text}
use Rattle.store_tables.proofs.RowLemmas.{apart, at_parts, at_same, changes_kept, member_id}
use Rattle.store_tables.proofs.RowLemmas.{put_is_map}
use Rattle.store_tables.proofs.Texts.{change_is}

-- ---- the member with the UID

pub some_or_none : (book : ℤ) (uid : List ℕ) (ms : List MemberRow)
    → ((m : MemberRow) × Has ms m × (has_uid book uid m ≡ true))
    ⊎ AllByRecursion (λ m. has_uid book uid m ≡ false) ms
some_or_none book uid [] = inr tt
some_or_none book uid (m ∷ ms) = step (has_uid book uid m) refl (some_or_none book uid ms)
  where
    step : (b : Bool) → has_uid book uid m ≡ b
        → ((m : MemberRow) × Has ms m × (has_uid book uid m ≡ true))
        ⊎ AllByRecursion (λ m. has_uid book uid m ≡ false) ms
        → ((x : MemberRow) × Has (m ∷ ms) x × (has_uid book uid x ≡ true))
        ⊎ AllByRecursion (λ x. has_uid book uid x ≡ false) (m ∷ ms)
    step true e more = inl (m, inl refl, e)
    step false e (inl it) = inl (it.0, inr it.1, it.2)
    step false e (inr none) = inr (e, none)

pub filter_none : (book : ℤ) (uid : List ℕ) (ms : List MemberRow)
    → AllByRecursion (λ m. has_uid book uid m ≡ false) ms → filter (has_uid book uid) ms ≡ []
filter_none book uid [] h = refl
filter_none book uid (m ∷ ms) h = rw h.0 (filter_none book uid ms h.1)

pub filter_one : (book : ℤ) (uid : List ℕ) (ms : List MemberRow) (m : MemberRow) → AreMembers ms
    → Has ms m → has_uid book uid m ≡ true → filter (has_uid book uid) ms ≡ m ∷ []
filter_one book uid [] m kept there here = absurd there
filter_one book uid (x ∷ xs) m kept (inl same) here =
    let e : has_uid book uid x ≡ true = ap (has_uid book uid) (sym same) ∙ here in
    let parts = at_parts book uid x e in
    let others : AllByRecursion (λ y. has_uid book uid y ≡ false) xs =
    all_weaker _ (λ (y : MemberRow). has_uid book uid y ≡ false)
    (λ y h. subst₂ (λ b u. has_uid b u y ≡ false) parts.0 parts.1 h.1) xs kept.0 in
    rw e (ap (λ l. x ∷ l) (filter_none book uid xs others)
    ∙ ap (λ (k : MemberRow). k ∷ []) (sym same))
filter_one book uid (x ∷ xs) m kept (inr h) here =
    let apart = all_has (λ y. (Rattle.std.specs.Ordering.int_eq x.id y.id ≡ false)
    × (has_uid x.book x.uid y ≡ false)) xs m kept.0 h in
    rw (at_same book uid x m here apart.1) (filter_one book uid xs m kept.1 h here)

empty_is : {X : Type 0} (xs : List X) → length xs ≡ 0 → xs ≡ []
empty_is [] h = refl
empty_is (x ∷ xs) h = absurd (omega (arith, h))

module _ (limit : Option ℕ) (book : ℤ) (uid : List ℕ) (changed : ℤ) (card : Option (List ℕ)) (ms :
    List MemberRow) (kept : AreMembers ms) (db : Trees) (has : HoldMembers (db 4) ms) where
  abbrev pub params : Row
  params = Int book ∷ Text uid ∷ Int changed ∷ or_null Text card ∷ []

  abbrev task : Task
  task = record {
    limit = limit;
    keys = Enforced;
    schema = book_schema;
    table = member;
    params = params;
  }

  abbrev pub p : Row → Bool
  p = passes 4 change_query.filter change_query.project (overlay db []) params

  abbrev pub f : Row → Row
  f = shows 4 change_query.filter change_query.project (overlay db []) params

  tested : (x : MemberRow) → p (member_row x) ≡ has_uid book uid x
  tested x = then_term (at_ints false Eq x.book book) (last_term (at_texts false Eq x.uid uid
      ∙ is_eq-slice_cmp x.uid uid))

  passing : filter p (map member_row ms) ≡ map member_row (filter (has_uid book uid) ms)
  passing = filter-map p member_row ms ∙ (λ i. map member_row (filter (λ x. tested x i) ms))

  -- what the query shows of the table, by what it finds among the members
  shown_of : (found : List MemberRow) → filter (has_uid book uid) ms ≡ found
      → IsPermutation (map f (map member_row found)) (map f (filter p (db 4)))
  shown_of found is =
      rw (
        ap (map f) (sym (passing ∙ ap (map member_row) is)),
        shaped member_cells p f (λ _. refl) (λ _. refl) (db 4),
      )
      (IsPermutation-map f _ _ (IsPermutation-filter p _ _ has))

  abbrev pub edit_by : List Row → Edit
  edit_by rows = edit_of db member (ids_of rows) Given 1 rows

  pub rows_for : (m : MemberRow) → Has ms m → has_uid book uid m ≡ true → (rows : List Row)
      → IsPermutation (map f (filter p (db 4))) rows → rows ≡ f (member_row m) ∷ []
  rows_for m there here rows h = one_permutation (f (member_row m)) rows
      (IsPermutation-trans _ _ _ (shown_of (m ∷ []) (filter_one book uid ms m kept there here)) h)

  pub no_rows : AllByRecursion (λ m. has_uid book uid m ≡ false) ms → (rows : List Row)
      → IsPermutation (map f (filter p (db 4))) rows → rows ≡ []
  no_rows none rows h = empty_is rows
      (length_permutation [] rows (IsPermutation-trans _ _ _
      (shown_of [] (filter_none book uid ms none)) h))

  whole : HaveIds (db 4)
  whole = have_ids member_row member_cells (λ _. refl) member_id (λ _. refl) ms (db 4) has

  changed_ids : (m : MemberRow) → Has ms m → (row : Row) → rowid row ≡ Int m.id → (count : ℕ)
      → HasFreeIds (count + 1) (db 4) → HasFreeIds count (put_row row (without_rowid m.id (db 4)))
  changed_ids m there row at count ids =
      let mine = row_of member_row member_cells (λ _. refl) ms (db 4) has m there in
      ids_after_change count (db 4) row m.id at whole mine.0 mine.1
      (ap (λ r. id_in (rowid r)) (sym mine.2)) ids

  -- how many rows were updated, and what it means
  pub record Changes (w : Written) : Type 0 where
    pub count : length w.rows ≡ length (filter (has_uid book uid) ms)
    pub put : length w.rows ≢ 0 → HoldMembers (w.trees 4)
        (upsert_member (Rattle.sqlite_rules.specs.Edit.next_rowid (db 4)) book uid changed card ms)
        × AreMembers (upsert_member (Rattle.sqlite_rules.specs.Edit.next_rowid (db 4)) book uid
        changed card ms)
    pub missed : length w.rows ≡ 0 → w.trees 4 ≡ db 4
    pub others : KeepsOtherTables 4 db w.trees
    pub ids : TakesOneId (db 4) (w.trees 4)

  changes_one : (w : Written) (m : MemberRow) → Has ms m → has_uid book uid m ≡ true
      → Updates task (record { lets = []; body = change_query }) params db (Ok w) → Changes w
  changes_one w m there here h =
      let went = went_on h in
      let shown_rows = rows_for m there here went.0 (picked 4 change_query.filter
      change_query.project (overlay db []) params went.0 went.1.answer) in
      let wrote = subst (λ rows. Then (Edited book_schema Enforced db (edit_by rows))
      (λ next. Gives (record { trees = next; rows = (edit_by rows).news; last = None })) (Ok w))
      shown_rows went.2 in
      let step = went_on wrote in
      let one = one_step book_schema Enforced db step.0 (edit_by (f (member_row m) ∷ [])) refl
      step.1 in
      let trees = ap (λ (it : Written). it.trees) (same_value step.2) in
      let later = record m { changed = changed; card = card } in
      let row = cast_row member (member_row later) in
      let next = Rattle.sqlite_rules.specs.Edit.next_rowid (db 4) in
      let hold = replaced member_id member_row (λ _. refl) later member_cells (λ _. refl) row
      (ap member_cells (cast_same later)) ms m (db 4) (apart ms kept) there refl has
      (free_one (without_rowid m.id (db 4)) row one.fresh) in
      let written : length w.rows ≡ 1 = ap (λ (it : Written). length it.rows) (same_value step.2) in
      record {
        count = written ∙ sym (ap length (filter_one book uid ms m kept there here));
        put = λ _. (
          subst₂ HoldMembers (sym (ap (λ (t : Trees). t 4) trees ∙ one.rows))
              (sym (put_is_map next book uid changed card ms m kept there here)) hold,
          changes_kept next book uid changed card ms m kept there here,
        );
        missed = λ none. absurd (omega (arith, none, written));
        others = subst (KeepsOtherTables 4 db) (sym trees) one.tables;
        ids = λ count ids. subst (HasFreeIds count) (sym (ap (λ (t : Trees). t 4) trees ∙ one.rows))
            (changed_ids m there row (ap rowid (ap member_cells (cast_same later))) count ids);
      }

  changes_none : (w : Written) → AllByRecursion (λ m. has_uid book uid m ≡ false) ms
      → Updates task (record { lets = []; body = change_query }) params db (Ok w) → Changes w
  changes_none w none h =
      let went = went_on h in
      let empty = no_rows none went.0 (picked 4 change_query.filter change_query.project
      (overlay db []) params went.0 went.1.answer) in
      let wrote = subst (λ rows. Then (Edited book_schema Enforced db (edit_by rows))
      (λ next. Gives (record { trees = next; rows = (edit_by rows).news; last = None })) (Ok w))
      empty went.2 in
      let step = went_on wrote in
      let one = one_step book_schema Enforced db step.0 (edit_by []) refl step.1 in
      let trees = ap (λ (it : Written). it.trees) (same_value step.2) in
      let rows : w.trees 4 ≡ db 4 = ap (λ (t : Trees). t 4) trees ∙ one.rows in
      let written : length w.rows ≡ 0 = ap (λ (it : Written). length it.rows) (same_value step.2) in
      record {
        count = written ∙ sym (ap length (filter_none book uid ms none));
        put = λ some. absurd (some written);
        missed = λ _. rows;
        others = subst (KeepsOtherTables 4 db) (sym trees) one.tables;
        ids = λ count ids. subst (HasFreeIds count) (sym rows) (fewer count (db 4) ids);
      }
    where
      fewer : (count : ℕ) (rows : List Row) → HasFreeIds (count + 1) rows → HasFreeIds count rows
      fewer count rows ids = let room = ids.room in record {
        columns = ids.columns;
        last_greatest = ids.last_greatest;
        room = omega (
          arith,
          Rattle.std.proofs.lemmas.Int.ints,
          room,
        );
      }

  pub changes : (w : Written) → Updates task (record { lets = []; body = change_query }) params db
      (Ok w) → Changes w
  changes w h = elim (some_or_none book uid ms) [
    | inl it ↦ changes_one w it.0 it.1 it.2 h
    | inr none ↦ changes_none w none h
  ]

-- ---- the statement

pub record Updated (old new : State) (book : ℤ) (uid : List ℕ) (changed : ℤ) (card :
    Option (List ℕ)) (ms : List MemberRow) (count : ℕ) : Type 0 where
  pub schema : new.now.schema ≡ book_schema
  pub others : KeepsOtherTables 4 old.now.trees new.now.trees
  pub ids : TakesOneId (old.now.trees 4) (new.now.trees 4)
  pub counts : count ≡ length (filter (has_uid book uid) ms)
  pub put : count ≢ 0 → PutsRow new.now.trees book uid changed card ms
  pub missed : count ≡ 0 → new.now.trees 4 ≡ old.now.trees 4

pub changes_inside : (old new : State) (book : ℤ) (uid : List ℕ) (changed : ℤ) (card :
    Option (List ℕ)) (ms : List MemberRow) (r : Result ℕ Error) → old.now.schema ≡ book_schema
    → AreMembers ms → HoldMembers (old.now.trees 4) ms
    → ExecutesInside 0 change_text (Int book ∷ Text uid ∷ Int changed ∷ or_null Text card ∷ []) old
    new r
    → IfOk r (Updated old new book uid changed card ms)
changes_inside old new book uid changed card ms (Err e) schema kept has h = tt
changes_inside old new book uid changed card ms (Ok count) schema kept has h =
    let params = Int book ∷ Text uid ∷ Int changed ∷ or_null Text card ∷ [] in
    let command = Update 2 (record { lets = []; body = change_query }) in
    let text = statement_of change_text (understood book_schema change_text) in
    let w : Writes old new None command text params count =
    runs_as change_text params old new book_schema schema _ change_is.0 change_is.1 count h.0 in
    let done =
    went_on (subst (λ s. Does old.step_limit (mode_of old) params
    (record old.now { schema = s }) text None command (Ok (w.tally, new.now))) schema
    w.changed) in
    let tested = went_on done.2 in
    let returned = went_on tested.2 in
    let now = ap (λ (p : Tally × Database). p.1) (same_value returned.2) in
    let rows : count ≡ length done.0.rows = w.counted
    ∙ ap (λ (p : Tally × Database). unwrap_or p.0.rows 0) (same_value returned.2) in
    let ends = changes old.step_limit book uid changed card ms kept old.now.trees has done.0
    done.1 in
    let next = Rattle.sqlite_rules.specs.Edit.next_rowid (old.now.trees 4) in
    record {
      schema = ap (λ (d : Database). d.schema) now;
      others = subst (KeepsOtherTables 4 old.now.trees) (ap (λ (d : Database). d.trees) (sym now))
          ends.others;
      ids = subst (λ (d : Database). TakesOneId (old.now.trees 4) (d.trees 4)) (sym now) ends.ids;
      counts = rows ∙ ends.count;
      put = λ some.
          let put = ends.put (λ none. some (rows ∙ none)) in
          record {
            id = next;
            hold = subst (λ l. HoldMembers l (upsert_member next book uid changed
                card ms)) (ap (λ (d : Database). d.trees 4) (sym now)) put.0;
            kept = put.1;
          };
      missed = λ none. ap (λ (d : Database). d.trees 4) now ∙ ends.missed (sym rows ∙ none);
    }
