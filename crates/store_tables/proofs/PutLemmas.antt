-- The effect of the upsert on the members.
use Rattle.std.proofs.Common.{Bor, option_copied, ◌≡◌, ◌⊎◌, inl, inr, ℕ, ◌+◌, ℤ, Bool, true, false}
use Rattle.std.proofs.Common.{◌||◌, List, [], ◌∷◌, ◌++◌, map, filter, Option, Some, None, Ok, Err}
use Rattle.std.proofs.Common.{Result, refl, sym, ap, subst, ◌∙◌}
use Rattle.std.specs.List.{AllByRecursion}
use Rattle.std.specs.List.Sorted.{IsPermutation}
use Rattle.std.proofs.lemmas.Map.Text.{is_eq-slice_cmp}
use Rattle.sqlite.specs.declared.types.Value.{Value}
use Rattle.sqlite.specs.declared.types.Value.TheVariants.{Null, Int, Text}
use Rattle.sqlite.specs.Order.{Row}
use Rattle.sqlite.specs.Values.{or_null}
use Rattle.sqlite.specs.Ops.{unary}
use Rattle.sqlite.specs.Tree.{Trees}
use Rattle.sqlite.specs.Cast.{cast}
use Rattle.sqlite.specs.Kind.TheVariants as kind
use Rattle.sqlite.specs.Program.{overlay}
use Rattle.sqlite.specs.Edit.{Edit, edit_of}
use Rattle.sqlite_rules.specs.Edit.{id_in, with_rowid, next_rowid}
use Rattle.sqlite_rules.specs.Cast.{cast_row}
use Rattle.sqlite_rules.specs.Keys.{conflicts, AreConflicts}
use Rattle.sqlite_rules.specs.Lists.{Has}
use Rattle.sqlite.specs.Rowids.TheVariants.{Given, Chosen}
use Rattle.sqlite.specs.Source.TheVariants.{Values}
use Rattle.sqlite_rules.specs.declared.error.Refusal.{Refusal}
use Rattle.sqlite_sql.specs.declared.ops.CompareOp.TheVariants.{Eq}
use Rattle.sqlite_typed.proofs.TestLemmas.{at_ints, at_texts, then_term, last_term}
use Rattle.sqlite_trees.specs.Tree.{put_row, rowid, without_rowid}
use Rattle.sqlite_trees.proofs.ListLemmas.{filter-map, IsPermutation-filter, along_permutation}
use Rattle.sqlite_schema.specs.declared.schema.Keys.TheVariants.{Enforced}
use Rattle.sqlite_schema.specs.declared.command.Conflict.TheVariants.{Abort}
use Rattle.sqlite.proofs.Callers.{one_step, one_permutation}
use Rattle.sqlite_rules.specs.Calls.{ids_of}
use Rattle.sqlite.specs.Rows.{Task, Then, Edited, Gives, Written, Puts, Clears, Resolves, Meets}
use Rattle.sqlite.specs.Rows.{Judged, Updates, Upserts, Tries, TriesEach, InsertsOr, nothing}
use Rattle.sqlite.specs.Rows.{joined, count_of, shown as shows_row}
use Rattle.store_tables.specs.Tables.{book_schema, member}
use Rattle.store_tables.specs.StatementEffects.{KeepsOtherTables}
use Rattle.store_tables.proofs.Queries.{put_terms, put_query, put_clause}
use Rattle.store_tables.specs.Members.{MemberRow, member_row, member_cells, HoldMembers, has_uid}
use Rattle.store_tables.specs.Members.{AreMembers, upsert_member}
use Rattle.store_tables.specs.Acceptance.{HasFreeIds}
use Rattle.store_tables.proofs.Cells.{shaped, has_cells, cells_has}
use Rattle.store_tables.proofs.FreshLemmas.{row_of as stored_row}
use Rattle.store_tables.proofs.IdLemmas.{HaveIds, have_ids, ids_after_change, ids_after_new}
use Rattle.store_tables.proofs.Picks.{passes, shows, picked}
use Rattle.store_tables.proofs.RowLemmas.{member_id, apart, adds, adds_kept, put_is_map}
use Rattle.store_tables.proofs.RowLemmas.{changes_kept}
use Rattle.store_tables.proofs.KeyedRows.{only_one, replaced, free_one}
use Rattle.store_tables.specs.Members.{PutsRow}
use Rattle.std.proofs.lemmas.List.Sorted.{IsPermutation-map, IsPermutation-trans, IsPermutation-sym}
use Rattle.std.proofs.Common.{subst₂}
use Rattle.sqlite_value.specs.Keys.{first_key}
use Rattle.std.specs.Prelude.{OnOk}
use Rattle.sqlite.specs.declared.error.Error.{Error}
use Rattle.sqlite.specs.Values.{bound_value}
use Rattle.sqlite.specs.Effect.{Database}
use Rattle.sqlite.specs.Listing.{understood}
use Rattle.sqlite.specs.Does.{Tally, Does}
use Rattle.sqlite.specs.State.{State, Executes, ExecutesInside, Writes, mode_of}
use Rattle.sqlite.proofs.Callers.{runs_as, statement_of}
use Rattle.store_tables.proofs.Queries.{put_text, put_command}
use Rattle.store_tables.proofs.Texts.{put_is}
use Rattle.base_types.proofs.BoolLemmas.{same_branches}

pub cast_int : (n : ℤ) → cast kind.Integer (Int n) ≡ Int n
unfolding unary
cast_int n = same_branches _ (Int n)

pub cast_null : cast kind.Integer Null ≡ Null
unfolding unary
cast_null = same_branches _ Null

cast_card : (card : Option (List ℕ)) → cast kind.Text (or_null Text card) ≡ or_null Text card
cast_card None = refl
cast_card (Some t) = refl

abbrev pub row_of : Value → ℤ → List ℕ → ℤ → Option (List ℕ) → Row
row_of id book uid changed card = id ∷ Int book ∷ Text uid ∷ Int changed ∷ or_null Text card ∷ []

pub cast_new : (book : ℤ) (uid : List ℕ) (changed : ℤ) (card : Option (List ℕ))
    → cast_row member (row_of Null book uid changed card) ≡ row_of Null book uid changed card
cast_new book uid changed card = rw (cast_null, cast_int book, cast_int changed, cast_card card)

pub cast_same : (m : MemberRow) → cast_row member (member_row m) ≡ member_row m
cast_same m = rw (cast_int m.id, cast_int m.book, cast_int m.changed, cast_card m.card)

pub conflicts_at : (n m : MemberRow) → conflicts (Some (1 ∷ 2 ∷ [])) book_schema.indexes member
    (member_row n) (member_row m) ≡ has_uid n.book n.uid m
unfolding first_key
conflicts_at n m = last_or (then_term (at_ints false Eq m.book n.book)
    (last_term (at_texts false Eq m.uid n.uid ∙ is_eq-slice_cmp m.uid n.uid)))
  where
    last_or : {x a : Bool} → x ≡ a → (x || false) ≡ a
    last_or {x} p = elim x as (λ b. (b || false) ≡ b) [ true ↦ refl | false ↦ refl ] ∙ p

pub has_back : (ms : List MemberRow) (r : Row) → Has (map member_row ms) r → (m : MemberRow)
    × Has ms m × (r ≡ member_row m)
has_back [] r h = absurd h
has_back (m ∷ ms) r (inl e) = (m, inl refl, e)
has_back (m ∷ ms) r (inr h) = let it = has_back ms r h in (it.0, inr it.1, it.2)

has_on : (ms : List MemberRow) (m : MemberRow) → Has ms m → Has (map member_row ms) (member_row m)
has_on [] m h = absurd h
has_on (x ∷ xs) m (inl e) = inl (ap member_row e)
has_on (x ∷ xs) m (inr h) = inr (has_on xs m h)

-- an item of a list is in each permutation of it
has_permuted : {X : Type 0} (xs ys : List X) (x : X) → IsPermutation xs ys → Has xs x → Has ys x
has_permuted xs ys x = along_permutation (λ xs ys. Has xs x → Has ys x) (λ xs h. h)
    (λ y xs ys on. λ h. elim h [ inl e ↦ inl e | inr k ↦ inr (on k) ])
    (λ y z xs. λ h. elim h [
      | inl e ↦ inr (inl e)
      | inr k ↦ elim k [
        | inl e ↦ inl e
        | inr l ↦
            inr (inr l)
      ]
    ]) (λ xs ys zs p q. λ h. q (p h)) xs ys

pub none_at : (book : ℤ) (uid : List ℕ) (all ms : List MemberRow) → ((m : MemberRow) → Has ms m
    → Has all m) → ((m : MemberRow) → Has all m → has_uid book uid m ≡ true → ⊥)
    → AllByRecursion (λ m. has_uid book uid m ≡ false) ms
none_at book uid all [] sub h = tt
none_at book uid all (m ∷ ms) sub h = (
  false_of (has_uid book uid m) (h m (sub m (inl refl))),
  none_at book uid all ms (λ x k. sub x (inr k)) h,
)
  where
    false_of : (b : Bool) → (b ≡ true → ⊥) → b ≡ false
    false_of true h = absurd (h refl)
    false_of false h = refl

-- at most one new id is used
abbrev pub TakesOneId : List Row → List Row → Type 0
TakesOneId old new = (count : ℕ) → HasFreeIds (count + 1) old → HasFreeIds count new

-- a part that returned a value did not fail
pub went_on : {B E R : Type 0} {b : B} {Stops : E → Type 0}
    → ((stop : E) × Stops stop × (Ok b ≡ Err stop)) ⊎ R → R
went_on (inl stopped) = absurd (let e = stopped.2 in cc)
went_on (inr on) = on

pub same_value : {B E : Type 0} {a b : B} → ◌≡◌ {A = Result B E} (Ok a) (Ok b) → a ≡ b
same_value e = cc

module _ (limit : Option ℕ) (book : ℤ) (uid : List ℕ) (changed : ℤ) (card : Option (List ℕ)) (ms :
    List MemberRow) (kept : AreMembers ms) (db : Trees) (has : HoldMembers (db 4) ms) where
  abbrev params : Row
  params = Int book ∷ Text uid ∷ Int changed ∷ or_null Text card ∷ []

  abbrev task : Task
  task = record {
    limit = limit;
    keys = Enforced;
    schema = book_schema;
    table = member;
    params = params;
  }

  abbrev pub new : MemberRow
  new = record { id = next_rowid (db 4); book = book; uid = uid; changed = changed; card = card }

  abbrev Ends : Written → Type 0
  Ends w = HoldMembers (w.trees 4) (upsert_member (next_rowid (db 4)) book uid changed card ms)
      × AreMembers (upsert_member (next_rowid (db 4)) book uid changed card ms)
      × KeepsOtherTables 4 db w.trees × TakesOneId (db 4) (w.trees 4)

  whole : HaveIds (db 4)
  whole = have_ids member_row member_cells (λ _. refl) member_id (λ _. refl) ms (db 4) has

  -- no row has the name
  puts : (w : Written) → AllByRecursion (λ m. has_uid book uid m ≡ false) ms
      → Puts task (member_row new) db (Ok w) → Ends w
  puts w none h =
      let went = went_on h in
      let step = one_step book_schema Enforced db went.0 (edit_of db member [] Given 0
      (member_row new ∷ [])) refl went.1 in
      let trees = ap (λ (it : Written). it.trees) (same_value went.2) in
      let row = cast_row member (member_row new) in
      let shows : member_cells row ≡ member_row new = ap member_cells (cast_same new) in
      let free = free_one (db 4) row step.fresh in
      let hold = adds (next_rowid (db 4)) book uid changed card ms (db 4) row shows has free none in (
        subst (λ rows. HoldMembers rows (upsert_member (next_rowid (db 4)) book uid changed card
            ms)) (sym (ap (λ (t : Trees). t 4) trees ∙ step.rows)) hold,
        adds_kept (next_rowid (db 4)) book uid changed card ms (db 4) row shows has free kept,
        subst (KeepsOtherTables 4 db) (sym trees) step.tables,
        λ count ids. subst (HasFreeIds count) (sym (ap (λ (t : Trees). t 4) trees ∙ step.rows))
            (ids_after_new count (db 4) row (ap rowid shows) whole ids),
      )

  abbrev pub given_for : MemberRow → Row
  given_for m = params ++ rowid (member_row m) ∷ shows_row member (member_row new)

  abbrev edit_by : List Row → Edit
  edit_by rows = edit_of db member (ids_of rows) Given 1 rows

  pub only_it : (m : MemberRow) → Has ms m
      → filter (passes 4 put_query.filter put_query.project (overlay db []) (given_for m))
      (map member_row ms) ≡ member_row m ∷ []
  only_it m there =
      filter-map (passes 4 put_query.filter put_query.project (overlay db []) (given_for m))
      member_row ms
      ∙ ap (map member_row) ((λ i. filter (λ (x : MemberRow). last_term (at_ints false Eq x.id m.id)
      i) ms) ∙ only_one member_id member_row (λ _. refl) ms m (apart ms kept) there)

  changed_ids : (m : MemberRow) → Has ms m → (row : Row) → rowid row ≡ Int m.id → (count : ℕ)
      → HasFreeIds (count + 1) (db 4) → HasFreeIds count (put_row row (without_rowid m.id (db 4)))
  changed_ids m there row at count ids =
      let mine = stored_row member_row member_cells (λ _. refl) ms (db 4) has m there in
      ids_after_change count (db 4) row m.id at whole mine.0 mine.1
      (ap (λ r. id_in (rowid r)) (sym mine.2)) ids

  -- the row of the member is updated in its place
  updates : (w : Written) (m : MemberRow) → Has ms m → has_uid book uid m ≡ true
      → Updates task (record { lets = []; body = put_query }) (given_for m) db (Ok w) → Ends w
  updates w m there here h =
      let went = went_on h in
      let p = passes 4 put_query.filter put_query.project (overlay db []) (given_for m) in
      let f = shows 4 put_query.filter put_query.project (overlay db []) (given_for m) in
      let one : IsPermutation (f (member_row m) ∷ []) (map f (filter p (db 4))) =
      rw (
        ap (map f) (sym (only_it m there)),
        shaped member_cells p f (λ _. refl) (λ _. refl)
            (db 4),
      ) (IsPermutation-map f _ _ (IsPermutation-filter p _ _ has)) in
      let shown_rows = one_permutation (f (member_row m)) went.0 (IsPermutation-trans _ _ _ one
      (picked 4 put_query.filter put_query.project (overlay db []) (given_for m) went.0
      went.1.answer)) in
      let wrote = subst (λ rows. Then (Edited book_schema Enforced db (edit_by rows))
      (λ next. Gives (record { trees = next; rows = (edit_by rows).news; last = None })) (Ok w))
      shown_rows went.2 in
      let step = went_on wrote in
      let one = one_step book_schema Enforced db step.0
      (edit_by (shows 4 put_query.filter put_query.project (overlay db []) (given_for m)
      (member_row m) ∷ [])) refl step.1 in
      let trees = ap (λ (it : Written). it.trees) (same_value step.2) in
      let later = record m { changed = changed; card = card } in
      let row = cast_row member (member_row later) in
      let hold = replaced member_id member_row (λ _. refl) later member_cells (λ _. refl) row
      (ap member_cells (cast_same later)) ms m (db 4) (apart ms kept) there refl has
      (free_one (without_rowid m.id (db 4)) row one.fresh) in (
        subst₂ HoldMembers (sym (ap (λ (t : Trees). t 4) trees ∙ one.rows))
            (sym (put_is_map (next_rowid (db 4)) book uid changed card ms m kept there here)) hold,
        changes_kept (next_rowid (db 4)) book uid changed card ms m kept there here,
        subst (KeepsOtherTables 4 db) (sym trees) one.tables,
        λ count ids. subst (HasFreeIds count) (sym (ap (λ (t : Trees). t 4) trees ∙ one.rows))
            (changed_ids m there row (ap rowid (ap member_cells (cast_same later))) count ids),
      )

  pub nobody : (found : List Row) → found ≡ []
      → AreConflicts (Some (1 ∷ 2 ∷ [])) book_schema.indexes member (db 4) (member_row new) found
      → AllByRecursion (λ m. has_uid book uid m ≡ false) ms
  nobody found empty h =
      none_at book uid ms ms (λ m k. k) (λ m there here.
      let it = cells_has member_cells (λ _. refl) (db 4) (member_row m)
      (has_permuted _ _ (member_row m) has (has_on ms m there)) in
      subst (λ all. Has all (rowid it.0 ∷ [])) empty
      (h.complete it.0 it.1 (ap (conflicts (Some (1 ∷ 2 ∷ [])) book_schema.indexes member
      (member_row new)) (sym it.2) ∙ conflicts_at new m ∙ here)))

  clears : (w : Written) (found : List Row) → AllByRecursion (λ m. has_uid book uid m ≡ false) ms
      → Clears task Abort (member_row new) db found (Ok w) → Ends w
  clears w [] none h = puts w none h
  clears w (x ∷ more) none h = puts w none h

  upserts : (w : Written) (found : List Row) → AreConflicts (Some (1 ∷ 2 ∷ [])) book_schema.indexes
      member (db 4) (member_row new) found
      → Meets task (Upserts task Abort (member_row new) db []) (member_row new) db put_clause found
      (Ok w) → Ends w
  upserts w [] who h = clears w h.0 (nobody [] refl who) h.2
  upserts w (there ∷ more) who h =
      let it = who.sound there (inl refl) in
      let back = has_back ms (member_cells it.0) (has_permuted _ _ (member_cells it.0)
      (IsPermutation-sym _ _ has) (has_cells member_cells (λ _. refl) (db 4) it.0 it.1)) in
      let here : has_uid book uid back.0 ≡ true = sym (conflicts_at new back.0)
      ∙ subst (λ r. conflicts (Some (1 ∷ 2 ∷ [])) book_schema.indexes member (member_row new) r
      ≡ true) back.2 it.2 in
      let first : there ≡ rowid (member_row back.0) ∷ [] = it.3 ∙ ap (λ r. rowid r ∷ []) back.2 in
      updates w back.0 back.1 here (subst (λ (x : Row). Resolves task (member_row new) db x
      put_clause.update (Ok w)) first h)

  tries : (w : Written) → Tries task Abort (put_clause ∷ []) (member_row new) db (Ok w) → Ends w
  tries w (inl full) = absurd (let e = full.1 in cc)
  tries w (inr judged) = go judged.0 judged.2
    where
      go : (verdict : Option Refusal) → Judged task Abort (put_clause ∷ []) (member_row new) db
          verdict (Ok w) → Ends w
      go None h = upserts w h.0 h.1 h.2
      go (Some why) h = absurd (let e = h in cc)

  pub inserts : (w : Written) → InsertsOr task Abort (put_clause ∷ []) (Values put_terms 5) db
      (Ok w) → Ends w
  inserts w h =
      let given = went_on h in
      let counter = went_on given.2 in
      let each = went_on counter.2 in
      let counted = went_on each.2 in
      let trees : w.trees ≡ each.0.0.trees = ap (λ (it : Written). it.trees) (same_value counted.2)
      ∙ same_value counted.1 in
      let tried = subst (λ rows. TriesEach task Abort (put_clause ∷ []) rows (count_of counter.0)
      (nothing db) (Ok each.0)) given.1.1 each.1 in
      let one = went_on tried in
      let done : each.0 ≡ (joined (nothing db) one.0, _) = same_value one.2 in
      let numbered : with_rowid Chosen (db 4) (cast_row member (row_of Null book uid changed card))
      ≡ member_row new = ap (with_rowid Chosen (db 4)) (cast_new book uid changed card) in
      let ends = tries one.0 (subst (λ row. Tries task Abort (put_clause ∷ []) row db (Ok one.0))
      numbered one.1) in
      let all = trees ∙ ap (λ (p : Written × ℤ). p.0.trees) done in (
        subst (λ rows. HoldMembers rows (upsert_member (next_rowid (db 4)) book uid changed card
            ms))
            (ap (λ (t : Trees). t 4) (sym all)) ends.0,
        ends.1,
        subst (KeepsOtherTables 4 db) (sym all) ends.2,
        subst (λ (t : Trees). TakesOneId (db 4) (t 4)) (sym all) ends.3,
      )

pub puts_member : (old new : State) (book : ℤ) (uid : List ℕ) (changed : ℤ) (card : Option (List ℕ))
    (ms : List MemberRow) (count : ℕ) → old.now.schema ≡ book_schema → AreMembers ms
    → HoldMembers (old.now.trees 4) ms
    → Executes put_text (Int book ∷ Text uid ∷ Int changed ∷ or_null Text card ∷ []) old new
    (Ok count)
    → (new.now.schema ≡ book_schema) × PutsRow new.now.trees book uid changed card ms
    × KeepsOtherTables 4 old.now.trees new.now.trees
    × TakesOneId (old.now.trees 4) (new.now.trees 4)
puts_member old new book uid changed card ms count schema kept has h =
    let params = Int book ∷ Text uid ∷ Int changed ∷ or_null Text card ∷ [] in
    let text = statement_of put_text (understood book_schema put_text) in
    let w : Writes old new None put_command text params count =
    runs_as put_text params old new book_schema schema _ put_is.0 put_is.1 count h in
    let done =
    went_on (subst (λ s. Does old.step_limit (mode_of old) params
    (record old.now { schema = s }) text None put_command (Ok (w.tally, new.now))) schema
    w.changed) in
    let tested = went_on done.2 in
    let returned = went_on tested.2 in
    let now = ap (λ (p : Tally × Database). p.1) (same_value returned.2) in
    let ends = inserts old.step_limit book uid changed card ms kept old.now.trees has done.0
    done.1 in (
      ap (λ (d : Database). d.schema) now,
      record {
        id = next_rowid (old.now.trees 4);
        hold = subst (λ rows. HoldMembers rows (upsert_member (next_rowid (old.now.trees 4)) book
            uid changed card ms)) (ap (λ (d : Database). d.trees 4) (sym now)) ends.0;
        kept = ends.1;
      },
      subst (KeepsOtherTables 4 old.now.trees) (ap (λ (d : Database). d.trees) (sym now)) ends.2,
      subst (λ (d : Database). TakesOneId (old.now.trees 4) (d.trees 4)) (sym now) ends.3,
    )

pub card_bound : (card : Option (Bor (List ℕ))) → bound_value (or_null (λ s. Text s.now) card)
    ≡ or_null Text (option_copied card)
card_bound None = refl
card_bound (Some s) = refl

pub puts_rows : (old new : State) (book : ℤ) (uid : List ℕ) (changed : ℤ) (card : Option (List ℕ))
    (ms : List MemberRow) (r : Result ℕ Error) → old.now.schema ≡ book_schema → AreMembers ms
    → HoldMembers (old.now.trees 4) ms
    → ExecutesInside 0 put_text (Int book ∷ Text uid ∷ Int changed ∷ or_null Text card ∷ []) old new
    r
    → OnOk r ((new.now.schema ≡ book_schema) × PutsRow new.now.trees book uid changed card ms
    × KeepsOtherTables 4 old.now.trees new.now.trees
    × TakesOneId (old.now.trees 4) (new.now.trees 4))
puts_rows old new book uid changed card ms (Ok count) schema kept has h =
    puts_member old new book uid changed card ms count schema kept has h.0
puts_rows old new book uid changed card ms (Err e) schema kept has h = tt
