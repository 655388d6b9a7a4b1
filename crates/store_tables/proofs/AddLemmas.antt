-- The effect of an INSERT of a member: no member had its UID, since the UIDs of a book are unique.
use Rattle.std.proofs.Common.{◌≡◌, inl, inr, ℕ, ℤ, true, false, not, List, [], ◌∷◌, Option, None}
use Rattle.std.proofs.Common.{Ok, Err, Result, int_eq, OnOk, refl, sym, ap, subst, subst₂, ◌∙◌}
use Rattle.std.specs.List.{AllByRecursion}
use Rattle.std.proofs.lemmas.Bool.{and_from, and_parts, both_ways, not-true}
use Rattle.std.proofs.lemmas.Map.Text.{is_eq-slice_cmp}
use Rattle.sqlite.specs.Does.{Tally, Does}
use Rattle.sqlite.specs.Edit.{edit_of}
use Rattle.sqlite.specs.Effect.{Database}
use Rattle.sqlite.specs.Listing.{understood}
use Rattle.sqlite.specs.Order.{Row, column}
use Rattle.sqlite.specs.Rowids.TheVariants.{Chosen}
use Rattle.sqlite.specs.Rows.{Task, Edited, Written, Inserts}
use Rattle.sqlite.specs.Source.TheVariants.{Values}
use Rattle.sqlite.specs.State.{State, ExecutesInside, Writes, mode_of}
use Rattle.sqlite.specs.Tree.{Trees}
use Rattle.sqlite.specs.Values.{or_null}
use Rattle.sqlite.specs.declared.error.Error.{Error}
use Rattle.sqlite.specs.declared.types.Value.TheVariants.{Null, Int, Text}
use Rattle.sqlite.proofs.Callers.{one_step, runs_as, statement_of}
use Rattle.sqlite_rules.specs.Cast.{cast_row}
use Rattle.sqlite_rules.specs.Edit.{is_taken, next_rowid, with_rowid}
use Rattle.sqlite_rules.specs.Lists.{Has}
use Rattle.sqlite_rules.proofs.ListLemmas.{all_has, some_from}
use Rattle.sqlite_rules.proofs.RuleLemmas.{keeps_at}
use Rattle.sqlite_rules.proofs.TableLemmas.{has_put, put_all_keeps}
use Rattle.sqlite_schema.specs.declared.schema.Constraint.TheVariants.{Unique}
use Rattle.sqlite_schema.specs.declared.schema.Keys.TheVariants.{Enforced}
use Rattle.sqlite_schema.specs.Rules.{Obeys, agree, clashes, differ}
use Rattle.sqlite_sql.specs.declared.ops.CompareOp.TheVariants.{Eq, Ne}
use Rattle.sqlite_trees.specs.Tree.{put_row, rowid}
use Rattle.sqlite_typed.proofs.TestLemmas.{at_ints, at_texts, last_term, then_term}
use Rattle.sqlite_value.specs.Keys.{first_key, plain}
use Rattle.store_tables.specs.Acceptance.{HasFreeIds}
use Rattle.store_tables.specs.Members.{AreMembers, HoldMembers, MemberRow, PutsRow, has_uid}
use Rattle.store_tables.specs.Members.{member_cells, member_row, upsert_member}
use Rattle.store_tables.specs.StatementEffects.{KeepsOtherTables}
use Rattle.store_tables.specs.Tables.{book_schema, member}
use Rattle.store_tables.proofs.FreshLemmas.{fresh_one, row_of}
use Rattle.store_tables.proofs.IdLemmas.{HaveIds, have_ids, ids_after_new}
use Rattle.store_tables.proofs.KeyedRows.{free_one}
use Rattle.store_tables.proofs.PutLemmas.{TakesOneId, cast_new, none_at, same_value, went_on}
use Rattle.store_tables.proofs.Queries.{add_member_command, add_member_text, put_terms}
use Rattle.store_tables.proofs.RowLemmas.{adds, adds_kept, ids_apart, member_id}
use Rattle.store_tables.proofs.Texts.{add_member_is}

same_uid : (x n : MemberRow) → agree plain (1 ∷ 2 ∷ []) (member_row x) (1 ∷ 2 ∷ []) (member_row n)
    ≡ has_uid n.book n.uid x
unfolding first_key
same_uid x n = then_term (at_ints false Eq x.book n.book) (last_term (at_texts false Eq x.uid n.uid
    ∙ is_eq-slice_cmp x.uid n.uid))

module _ (limit : Option ℕ) (book : ℤ) (uid : List ℕ) (changed : ℤ) (card : Option (List ℕ)) (ms :
    List MemberRow) (kept : AreMembers ms) (db : Trees) (has : HoldMembers (db 4) ms) where
  abbrev params : Row
  params = Int book ∷ Text uid ∷ Int changed ∷ or_null Text card ∷ []

  abbrev task : Task
  task = record {
    limit = limit;
    keys = Enforced;
    schema = book_schema;
    table = member;
    params = params;
  }

  abbrev new : MemberRow
  new = record { id = next_rowid (db 4); book = book; uid = uid; changed = changed; card = card }

  whole : HaveIds (db 4)
  whole = have_ids member_row member_cells (λ _. refl) member_id (λ _. refl) ms (db 4) has

  -- no other row has the key of the new row
  alone : (row : Row) → row ≡ member_row new → is_taken (db 4) row ≡ false → (trees : Trees)
      → trees 4 ≡ put_row row (db 4) → Obeys book_schema trees
      → AllByRecursion (λ m. has_uid book uid m ≡ false) ms
  alone row is free trees rows obeys = none_at book uid ms ms (λ m k. k) (λ m there here.
      let mine = row_of member_row member_cells (λ _. refl) ms (db 4) has m there in
      let stays : Has (trees 4) mine.0 =
      subst (λ l. Has l mine.0) (sym rows) (put_all_keeps (row ∷ []) (db 4) mine.0
      (fresh_one (db 4) row free) mine.1) in
      let placed : Has (trees 4) row = subst (λ l. Has l row) (sym rows) (has_put row (db 4)) in
      let unclashed = not-true (clashes plain (1 ∷ 2 ∷ []) (trees 4) row)
      (and_parts _ _ (keeps_at Unique book_schema trees member row (obeys.rules Unique)
      (inr (inr (inl refl))) placed)).0 in
      let equals : agree plain (1 ∷ 2 ∷ []) (member_row m) (1 ∷ 2 ∷ []) row ≡ true =
      subst (λ (c : Row). agree plain (1 ∷ 2 ∷ []) (member_row m) (1 ∷ 2 ∷ []) c ≡ true)
      (sym is) (same_uid m new ∙ here) in
      let agrees : agree plain (1 ∷ 2 ∷ []) mine.0 (1 ∷ 2 ∷ []) row ≡ true =
      subst (λ (c : Row). agree plain (1 ∷ 2 ∷ []) c (1 ∷ 2 ∷ []) row ≡ true) mine.2 equals in
      let me : column mine.0 0 ≡ Int m.id = sym (ap (λ (x : Row). column x 0) mine.2) in
      let at : column row 0 ≡ Int (next_rowid (db 4)) = ap (λ (x : Row). column x 0) is in
      let ids : int_eq m.id (next_rowid (db 4)) ≡ false =
      all_has (λ m. int_eq m.id (next_rowid (db 4)) ≡ false) ms m (ids_apart (next_rowid (db 4))
      book uid changed card ms (db 4) row (ap member_cells is) has free) there in
      let differs : differ (rowid mine.0) (rowid row) ≡ true =
      subst₂ (λ v w. differ v w ≡ true) (sym me) (sym at)
      (at_ints false Ne m.id (next_rowid (db 4)) ∙ ap not ids) in
      both_ways _ unclashed (some_from _ (trees 4) mine.0 stays (and_from _ _ agrees differs)))

  pub adds_member : (w : Written) → Obeys book_schema w.trees
      → Inserts task (Values put_terms 5) db (Ok w)
      → HoldMembers (w.trees 4) (upsert_member (next_rowid (db 4)) book uid changed card ms)
      × AreMembers (upsert_member (next_rowid (db 4)) book uid changed card ms)
      × KeepsOtherTables 4 db w.trees × TakesOneId (db 4) (w.trees 4)
  adds_member w obeys h =
      let given = went_on h in
      let counter = went_on given.2 in
      let wrote = went_on counter.2 in
      let counted = went_on wrote.2 in
      let trees : w.trees ≡ wrote.0 = ap (λ (it : Written). it.trees) (same_value counted.2)
      ∙ same_value counted.1 in
      let step = one_step book_schema Enforced db wrote.0 (edit_of db member [] Chosen 0
      ((Null ∷ params) ∷ [])) refl
      (subst (λ rows. Edited book_schema Enforced db (edit_of db member [] Chosen 0 rows)
      (Ok wrote.0)) given.1.1 wrote.1) in
      let row = with_rowid Chosen (db 4) (cast_row member (Null ∷ params)) in
      let is : row ≡ member_row new = ap (with_rowid Chosen (db 4))
      (cast_new book uid changed card) in
      let free = free_one (db 4) row step.fresh in
      let rows : w.trees 4 ≡ put_row row (db 4) = ap (λ (t : Trees). t 4) trees ∙ step.rows in
      let none = alone row is free w.trees rows obeys in
      let shows : member_cells row ≡ member_row new = ap member_cells is in (
        subst (λ l. HoldMembers l (upsert_member (next_rowid (db 4)) book uid changed card ms))
            (sym rows) (adds (next_rowid (db 4)) book uid changed card ms (db 4) row shows has free
            none),
        adds_kept (next_rowid (db 4)) book uid changed card ms (db 4) row shows has free kept,
        subst (KeepsOtherTables 4 db) (sym trees) step.tables,
        λ count ids. subst (HasFreeIds count) (sym rows) (ids_after_new count (db 4) row
            (ap rowid shows) whole ids),
      )

pub adds_member_inside : (old new : State) (book : ℤ) (uid : List ℕ) (changed : ℤ) (card :
    Option (List ℕ)) (ms : List MemberRow) (r : Result ℕ Error) → old.now.schema ≡ book_schema
    → AreMembers ms → HoldMembers (old.now.trees 4) ms
    → ExecutesInside 0 add_member_text (Int book ∷ Text uid ∷ Int changed ∷ or_null Text card ∷ [])
    old new r
    → OnOk r ((new.now.schema ≡ book_schema) × PutsRow new.now.trees book uid changed card ms
    × KeepsOtherTables 4 old.now.trees new.now.trees
    × TakesOneId (old.now.trees 4) (new.now.trees 4))
adds_member_inside old new book uid changed card ms (Err e) schema kept has h = tt
adds_member_inside old new book uid changed card ms (Ok count) schema kept has h =
    let params = Int book ∷ Text uid ∷ Int changed ∷ or_null Text card ∷ [] in
    let text = statement_of add_member_text (understood book_schema add_member_text) in
    let w : Writes old new None add_member_command text params count =
    runs_as add_member_text params old new book_schema schema _ add_member_is.0 add_member_is.1
    count h.0 in
    let done =
    went_on (subst (λ s. Does old.step_limit (mode_of old) params
    (record old.now { schema = s }) text None add_member_command (Ok (w.tally, new.now))) schema
    w.changed) in
    let tested = went_on done.2 in
    let returned = went_on tested.2 in
    let now = ap (λ (p : Tally × Database). p.1) (same_value returned.2) in
    let named : new.now.schema ≡ book_schema = ap (λ (d : Database). d.schema) now in
    let sound : Obeys book_schema new.now.trees =
    subst (λ s. Obeys s new.now.trees) named w.sound.obeys in
    let ends = adds_member old.step_limit book uid changed card ms kept old.now.trees has done.0
    (subst (Obeys book_schema) (ap (λ (d : Database). d.trees) now) sound) done.1 in (
      named,
      record {
        id = next_rowid (old.now.trees 4);
        hold = subst (λ rows. HoldMembers rows (upsert_member (next_rowid (old.now.trees 4)) book
            uid changed card ms)) (ap (λ (d : Database). d.trees 4) (sym now)) ends.0;
        kept = ends.1;
      },
      subst (KeepsOtherTables 4 old.now.trees) (ap (λ (d : Database). d.trees) (sym now)) ends.2,
      subst (λ (d : Database). TakesOneId (old.now.trees 4) (d.trees 4)) (sym now) ends.3,
    )
