-- The effect of the deletion of removed members.
use Rattle.std.proofs.Common.{◌≡◌, ℕ, ℤ, Bool, false, not, List, [], ◌∷◌, map, filter, length}
use Rattle.std.proofs.Common.{Option, Some, None, Ok, Err, Result, Less, is_some, IfOk, OnOk}
use Rattle.std.proofs.Common.{unwrap_or, refl, sym, ap, subst, ◌∙◌}
use Rattle.std.specs.List.Sorted.{IsPermutation}
use Rattle.std.proofs.lemmas.List.{length-map}
use Rattle.std.proofs.lemmas.List.Sorted.{length_permutation, IsPermutation-map}
use Rattle.std.proofs.lemmas.List.Sorted.{IsPermutation-trans}
use Rattle.sqlite.specs.declared.types.Value.TheVariants.{Null, Int, Text}
use Rattle.sqlite.specs.declared.error.Error.{Error}
use Rattle.sqlite.specs.Order.{Row, value_cmp}
use Rattle.sqlite.specs.Tree.{Trees}
use Rattle.sqlite.specs.Program.{overlay}
use Rattle.sqlite.specs.Effect.{Database}
use Rattle.sqlite.specs.Listing.{understood}
use Rattle.sqlite.specs.Does.{Tally, Does}
use Rattle.sqlite.specs.State.{State, Executes, ExecutesInside, Writes, mode_of}
use Rattle.sqlite.specs.Rows.{Task, Written, Deletes}
use Rattle.sqlite.specs.Edit.{edit_of}
use Rattle.sqlite.specs.Command.TheVariants.{Delete}
use Rattle.sqlite.specs.Rowids.TheVariants.{Given}
use Rattle.sqlite.proofs.Callers.{one_step, statement_of, runs_as}
use Rattle.sqlite_rules.specs.Edit.{id_in}
use Rattle.sqlite_rules.specs.Calls.{ids_of}
use Rattle.sqlite_trees.specs.Tree.{rowid}
use Rattle.sqlite_trees.proofs.ListLemmas.{map-map, filter-map, IsPermutation-filter}
use Rattle.sqlite_schema.specs.declared.schema.Keys.TheVariants.{Enforced}
use Rattle.sqlite_sql.specs.declared.ops.CompareOp.TheVariants.{Eq, Le}
use Rattle.sqlite_typed.proofs.TestLemmas.{at_ints, at_is_null, then_term, last_term}
use Rattle.sqlite_value.proofs.OrderLemmas.{value_cmp-Null}
use Rattle.store_tables.specs.Tables.{book_schema, member}
use Rattle.store_tables.proofs.Queries.{forget_text, forget_query, forget_tests}
use Rattle.store_tables.specs.Members.{MemberRow, member_row, member_cells, HoldMembers, AreMembers}
use Rattle.store_tables.specs.Members.{is_removed_up_to, without_removed}
use Rattle.store_tables.specs.StatementEffects.{KeepsOtherTables}
use Rattle.store_tables.proofs.Texts.{forget_is}
use Rattle.store_tables.proofs.Picks.{passes, shows, picked}
use Rattle.store_tables.proofs.Cells.{shaped}
use Rattle.store_tables.proofs.KeyedRows.{taken_out}
use Rattle.store_tables.proofs.RowLemmas.{apart}
use Rattle.store_tables.proofs.PutLemmas.{went_on, same_value}

pub null_first : (t : List ℕ) → value_cmp Null (Text t) ≡ Less
null_first t = value_cmp-Null (Text t)

pub gone_card : (card : Option (List ℕ)) → Rattle.sqlite_typed.specs.Tests.is_none card
    ≡ not (is_some card)
gone_card None = refl
gone_card (Some t) = refl

module _ (limit : Option ℕ) (book upto : ℤ) (ms : List MemberRow) (kept : AreMembers ms) (db :
    Trees) (has : HoldMembers (db 4) ms) where
  abbrev params : Row
  params = Int book ∷ Int upto ∷ []

  abbrev task : Task
  task = record {
    limit = limit;
    keys = Enforced;
    schema = book_schema;
    table = member;
    params = params;
  }

  abbrev gone : List MemberRow
  gone = filter (is_removed_up_to book upto) ms

  abbrev p : Row → Bool
  p = passes 4 forget_tests forget_query.project (overlay db []) params

  abbrev f : Row → Row
  f = shows 4 forget_tests forget_query.project (overlay db []) params

  passes_at : (m : MemberRow) → p (member_row m) ≡ is_removed_up_to book upto m
  passes_at m = then_term (at_ints false Eq m.book book)
      (then_term (at_is_null Text false null_first m.card ∙ gone_card m.card)
      (last_term (at_ints false Le m.changed upto)))

  names : (rows : List Row) → IsPermutation (map f (filter p (db 4))) rows
      → IsPermutation (map (λ (m : MemberRow). m.id) gone) (ids_of rows)
  names rows h =
      let number_card_shown : map f (filter p (map member_row ms))
      ≡ map (λ (m : MemberRow). f (member_row m)) gone =
      ap (map f) (filter-map p member_row ms
      ∙ (λ i. map member_row (filter (λ m. passes_at m i) ms))) ∙ map-map f member_row gone in
      let answer : IsPermutation (map f (filter p (map member_cells (db 4)))) rows =
      subst (λ l. IsPermutation l rows) (shaped member_cells p f (λ _. refl) (λ _. refl) (db 4))
      h in
      let all : IsPermutation (map (λ (m : MemberRow). f (member_row m)) gone) rows =
      IsPermutation-trans _ _ _ (subst
      (λ l. IsPermutation l (map f (filter p (map member_cells (db 4))))) number_card_shown
      (IsPermutation-map f _ _ (IsPermutation-filter p _ _ has))) answer in
      subst (λ l. IsPermutation l (ids_of rows)) (map-map (λ r. id_in (rowid r))
      (λ (m : MemberRow). f (member_row m)) gone) (IsPermutation-map (λ r. id_in (rowid r)) _
      rows all)

  pub deletes : (w : Written) → Deletes task (record { lets = []; body = forget_query }) db (Ok w)
      → HoldMembers (w.trees 4) (without_removed book upto ms) × (length w.rows ≡ length gone)
      × KeepsOtherTables 4 db w.trees
  deletes w h =
      let went = went_on h in
      let wrote = went_on went.2 in
      let ids = ids_of went.0 in
      let same = names went.0 (picked 4 forget_tests forget_query.project (overlay db []) params
      went.0 went.1.answer) in
      let step = one_step book_schema Enforced db wrote.0 (edit_of db member ids Given 0 []) refl
      wrote.1 in
      let done = same_value wrote.2 in
      let trees = ap (λ (it : Written). it.trees) done in (
        subst (λ rows. HoldMembers rows (without_removed book upto ms))
            (sym (ap (λ (t : Trees). t 4) trees ∙ step.rows))
            (taken_out (λ (m : MemberRow). m.id) member_row (λ _. refl) member_cells (λ _. refl)
            (is_removed_up_to book upto) ms (db 4) ids (apart ms kept) has same),
        ap (λ (it : Written). length it.rows) done ∙ length-map ids _
            ∙ length_permutation _ ids same ∙ length-map gone (λ (m : MemberRow). m.id),
        subst (KeepsOtherTables 4 db) (sym trees) step.tables,
      )

pub forgets : (old new : State) (book upto : ℤ) (ms : List MemberRow) (count : ℕ)
    → old.now.schema ≡ book_schema → AreMembers ms → HoldMembers (old.now.trees 4) ms
    → Executes forget_text (Int book ∷ Int upto ∷ []) old new (Ok count)
    → (new.now.schema ≡ book_schema) × HoldMembers (new.now.trees 4) (without_removed book upto ms)
    × (count ≡ length (filter (is_removed_up_to book upto) ms))
    × KeepsOtherTables 4 old.now.trees new.now.trees
forgets old new book upto ms count schema kept has h =
    let params = Int book ∷ Int upto ∷ [] in
    let w : Writes old new None (Delete 2 (record { lets = []; body = forget_query }))
    (statement_of forget_text (understood book_schema forget_text)) params count =
    runs_as forget_text params old new book_schema schema _ forget_is.0 forget_is.1 count h in
    let text = statement_of forget_text (understood book_schema forget_text) in
    let done =
    went_on (subst (λ s. Does old.step_limit (mode_of old) params
    (record old.now { schema = s }) text None (Delete 2 (record {
      lets = [];
      body = forget_query;
    })) (Ok (w.tally, new.now))) schema w.changed) in
    let tested = went_on done.2 in
    let returned = went_on tested.2 in
    let last = same_value returned.2 in
    let now = ap (λ (p : Tally × Database). p.1) last in
    let ends = deletes old.step_limit book upto ms kept old.now.trees has done.0 done.1 in (
      ap (λ (d : Database). d.schema) now,
      subst (λ rows. HoldMembers rows (without_removed book upto ms))
          (ap (λ (d : Database). d.trees 4) (sym now)) ends.0,
      w.counted ∙ ap (λ (p : Tally × Database). unwrap_or p.0.rows 0) last ∙ ends.1,
      subst (KeepsOtherTables 4 old.now.trees) (ap (λ (d : Database). d.trees) (sym now)) ends.2,
    )

pub forgets_inside : (old new : State) (book upto : ℤ) (ms : List MemberRow) (r : Result ℕ Error)
    → old.now.schema ≡ book_schema → AreMembers ms → HoldMembers (old.now.trees 4) ms
    → ExecutesInside 0 forget_text (Int book ∷ Int upto ∷ []) old new r
    → OnOk r ((new.now.schema ≡ book_schema)
    × HoldMembers (new.now.trees 4) (without_removed book upto ms)
    × KeepsOtherTables 4 old.now.trees new.now.trees)
forgets_inside old new book upto ms (Ok count) schema kept has h = let it =
    forgets old new book upto ms count schema kept has h.0 in (it.0, it.1, it.3)
forgets_inside old new book upto ms (Err e) schema kept has h = tt

pub counts_inside : (old new : State) (book upto : ℤ) (ms : List MemberRow) (r : Result ℕ Error)
    → old.now.schema ≡ book_schema → AreMembers ms → HoldMembers (old.now.trees 4) ms
    → ExecutesInside 0 forget_text (Int book ∷ Int upto ∷ []) old new r
    → IfOk r (λ count. count ≡ length (filter (is_removed_up_to book upto) ms))
counts_inside old new book upto ms (Ok count) schema kept has h =
    (forgets old new book upto ms count schema kept has h.0).2
counts_inside old new book upto ms (Err e) schema kept has h = tt
