-- The cause of an error of the upsert of a member. Given here: that the new row passes what the
-- table asks of it, also in the size of each index entry, in the case that a member has the UID and
-- in the other one; and for each place at which the statement may stop, that only a limit on its
-- steps is left.
use Rattle.std.proofs.Common.{◌≡◌, ◌≢◌, inl, inr, ℕ, ℤ, ◌≤◌, ◌^◌, Bool, true, false, not, ◌&&◌}
use Rattle.std.proofs.Common.{◌||◌, int_eq, List, [], ◌∷◌, ◌++◌, length, map, filter, Option, Some}
use Rattle.std.proofs.Common.{None, Ok, Err, Result, IfErr, IsSome, refl, sym, ap, ap₂, subst}
use Rattle.std.proofs.Common.{subst₂, ◌∙◌, true≢false, arith}
use Rattle.std.specs.List.{AllByRecursion, list_any}
use Rattle.std.specs.List.Sorted.{IsPermutation}
use Rattle.std.specs.Prelude.{IfSome}
use Rattle.std.proofs.lemmas.Bool.{and_from, and_parts, both_ways, false_from_ne_true, not-true}
use Rattle.std.proofs.lemmas.List.Sorted.{IsPermutation-map, IsPermutation-sym, IsPermutation-trans}
use Rattle.std.proofs.lemmas.Map.Text.{is_eq-slice_cmp}
use Rattle.sqlite.specs.Does.{OnRows}
use Rattle.sqlite.specs.Edit.{Edit, edit_of}
use Rattle.sqlite.specs.Listing.{understood}
use Rattle.sqlite.specs.Order.{Row, column}
use Rattle.sqlite.specs.Program.{overlay}
use Rattle.sqlite.specs.Rowids.TheVariants.{Chosen, Given}
use Rattle.sqlite.specs.Rows.{Clears, Edited, InsertsOr, Judged, Meets, Puts, Resolves, Tries}
use Rattle.sqlite.specs.Rows.{TriesEach, Updates, Upserts, Written, count_of, joined, nothing}
use Rattle.sqlite.specs.Source.TheVariants.{Values}
use Rattle.sqlite.specs.State.{State, ExecutesInside}
use Rattle.sqlite.specs.Tree.{Trees}
use Rattle.sqlite.specs.Values.{or_null}
use Rattle.sqlite.specs.declared.error.Error.{Error}
use Rattle.sqlite.specs.declared.error.Error.TheVariants.{SqliteFailure}
use Rattle.sqlite.specs.declared.error.ErrorCode.TheVariants.{OutOfMemory}
use Rattle.sqlite.specs.declared.types.Value.TheVariants.{Null, Int, Text}
use Rattle.sqlite.proofs.Callers.{one_permutation, one_step}
use Rattle.sqlite_rules.specs.Calls.{ids_of}
use Rattle.sqlite_rules.specs.Cast.{cast_row}
use Rattle.sqlite_rules.specs.Edit.{Applies, IsOversized, is_referred, is_taken, next_rowid}
use Rattle.sqlite_rules.specs.Edit.{with_rowid, without_all}
use Rattle.sqlite_rules.specs.Keys.{AreConflicts, conflicts}
use Rattle.sqlite_rules.specs.Lists.{Has}
use Rattle.sqlite_rules.specs.Steps.{IsJudged}
use Rattle.sqlite_rules.specs.declared.error.Refusal.{Refusal}
use Rattle.sqlite_rules.specs.declared.error.Refusal.TheVariants.{Violates, Mismatch, NoRowid}
use Rattle.sqlite_rules.specs.declared.error.Refusal.TheVariants.{BadReference, TooDeep}
use Rattle.sqlite_rules.proofs.ListLemmas.{all_has, has_filtered, some_from}
use Rattle.sqlite_rules.proofs.RuleLemmas.{keeps_at}
use Rattle.sqlite_rules.proofs.TableLemmas.{put_has, without_all_has}
use Rattle.sqlite_schema.specs.declared.command.Conflict.TheVariants.{Abort}
use Rattle.sqlite_schema.specs.declared.schema.Among.TheVariants.{All}
use Rattle.sqlite_schema.specs.declared.schema.Constraint.TheVariants.{Check, Datatype, ForeignKey}
use Rattle.sqlite_schema.specs.declared.schema.Constraint.TheVariants.{NotNull, PrimaryKey, Unique}
use Rattle.sqlite_schema.specs.declared.schema.Index.{Index}
use Rattle.sqlite_schema.specs.declared.schema.Keys.TheVariants.{Enforced}
use Rattle.sqlite_schema.specs.Rules.{Obeys, Refers, agree, clashes, differ}
use Rattle.sqlite_schema.specs.Rules as rules
use Rattle.sqlite_sql.specs.Catalog.{entry_of}
use Rattle.sqlite_sql.specs.Ops.{fits_i64}
use Rattle.sqlite_sql.specs.declared.ops.CompareOp.TheVariants.{Eq, Ne}
use Rattle.sqlite_tied.specs.Compute.{everything}
use Rattle.sqlite_trees.specs.Tree.{has_rowid, rowid, without_rowid}
use Rattle.sqlite_trees.specs.View.{IsStorable}
use Rattle.sqlite_trees.proofs.ListLemmas.{IsPermutation-filter}
use Rattle.sqlite_typed.proofs.TestLemmas.{at_ints, at_texts, last_term, then_term}
use Rattle.sqlite_typing.specs.Types.{accepts_program, accepts_terms}
use Rattle.sqlite_value.specs.Keys.{first_key, plain}
use Rattle.store_tables.specs.Acceptance.{has_number}
use Rattle.store_tables.specs.Books.{BookRow, HoldBooks, has_id}
use Rattle.store_tables.specs.Failures.{HasOutsideCause}
use Rattle.store_tables.specs.Members.{AreMembers, HoldMembers, MemberRow, has_uid, member_cells}
use Rattle.store_tables.specs.Members.{member_row}
use Rattle.store_tables.specs.Tables.{book_schema, member}
use Rattle.store_tables.proofs.Cells.{has_cells, shaped}
use Rattle.store_tables.proofs.EditLemmas.{IsAdmitted, edit_never_stops, never_stops, stops}
use Rattle.store_tables.proofs.FreshLemmas.{fresh_one, has_permuted, item_of, left_free, no_clash}
use Rattle.store_tables.proofs.FreshLemmas.{row_of}
use Rattle.store_tables.proofs.KeyedRows.{has_stored}
use Rattle.store_tables.proofs.Picks.{passes, picked, shows}
use Rattle.store_tables.proofs.PutLemmas.{cast_new, cast_same, conflicts_at, given_for, has_back}
use Rattle.store_tables.proofs.PutLemmas.{nobody, only_it, went_on, same_value}
use Rattle.store_tables.proofs.Queries.{put_clause, put_command, put_query, put_terms, put_text}
use Rattle.store_tables.proofs.ReferenceLemmas.{refers_after, refers_there, same_books}
use Rattle.store_tables.proofs.RowLemmas.{at_parts, member_id}
use Rattle.store_tables.proofs.StopLemmas.{concludes_quietly, outside, query_stops, task}
use Rattle.store_tables.proofs.StopLemmas.{values_stop}
use Rattle.store_tables.proofs.StorableLemmas.{fits_in, int_is_number, is_storable, null_is_number}
use Rattle.store_tables.proofs.StorableLemmas.{text_is_number}
use Rattle.store_tables.proofs.Texts.{put_is}
use Rattle.store_tables.proofs.WriteFailures.{execute_fails}

-- ---- a member as a row

abbrev stored : ℤ → ℤ → List ℕ → ℤ → Option (List ℕ) → Row
stored id book uid changed card = Int id ∷ Int book ∷ Text uid ∷ Int changed ∷ or_null Text card ∷
    []

member_storable : (id book : ℤ) (uid : List ℕ) (changed : ℤ) (card : Option (List ℕ))
    → length uid ≤ 2 ^ 20 → IfSome card (λ text. length text ≤ 2 ^ 20)
    → IsStorable 0 (stored id book uid changed card)
member_storable id book uid changed None short slim =
    is_storable (stored id book uid changed None) (omega arith) (omega arith) (
      int_is_number id,
      (int_is_number book, (text_is_number uid, (int_is_number changed, (null_is_number, tt)))),
    )
    (omega (arith, short))
member_storable id book uid changed (Some text) short slim =
    is_storable (stored id book uid changed (Some text)) (omega arith) (omega arith) (
      int_is_number id,
      (
        int_is_number book,
        (text_is_number uid, (int_is_number changed, (text_is_number text, tt))),
      ),
    )
    (omega (arith, short, slim))

typed_at : (db : Trees) (id book : ℤ) (uid : List ℕ) (changed : ℤ) (card : Option (List ℕ))
    → rules.passes Datatype book_schema db member (stored id book uid changed card) ≡ true
typed_at db id book uid changed None = refl
typed_at db id book uid changed (Some text) = refl

pub values_typed : (book : ℤ) (uid : List ℕ) (changed : ℤ) (card : Option (List ℕ))
    → accepts_terms put_terms (Int book ∷ Text uid ∷ Int changed ∷ or_null Text card ∷ []) ≡ true
values_typed book uid changed None = refl
values_typed book uid changed (Some text) = refl

module _ (n : MemberRow) (short : length n.uid ≤ 2 ^ 20) (slim :
    IfSome n.card (λ text. length text ≤ 2 ^ 20)) where
  pub member_fits : (row : Row) → Has (member_row n ∷ []) row → ¬ IsOversized book_schema member row
  member_fits row (inl e) = subst (λ r. ¬ IsOversized book_schema member r) (sym e)
      (fits_in book_schema member (member_row n) refl (member_storable n.id n.book n.uid n.changed
      n.card short slim) (omega arith)
      (λ i known. all_has (λ (i : Index). i.table ≡ 4
      → IsStorable 0 (entry_of i.columns (member_row n))) book_schema.indexes i (
        (λ e. absurd (omega (arith, e))),
        (
          (λ e. absurd (omega (arith, e))),
          (
            (λ _. is_storable (Int n.book ∷ Text n.uid ∷ Int n.id ∷ []) (omega arith) (omega arith)
                (int_is_number n.book, (text_is_number n.uid, (int_is_number n.id, tt)))
                (omega (arith, short))),
            (
              (λ _. is_storable (Int n.book ∷ Int n.changed ∷ Int n.id ∷ []) (omega arith)
                  (omega arith) (
                    int_is_number n.book,
                    (
                      int_is_number n.changed,
                      (int_is_number n.id, tt),
                    ),
                  ) (omega arith)),
              (
                (λ e. absurd (omega (arith, e))),
                tt,
              ),
            ),
          ),
        ),
      ) known))
  member_fits row (inr h) = absurd h

module _ (limit : Option ℕ) (book : ℤ) (uid : List ℕ) (changed : ℤ) (card : Option (List ℕ)) (bs :
    List BookRow) (ms : List MemberRow) (kept : AreMembers ms) (db : Trees)
    (holds : HoldBooks (db 2) bs) (has : HoldMembers (db 4) ms) (some : list_any (has_id book) bs
    ≡ true)
    (alone : AllByRecursion (λ m. has_uid book uid m ≡ false → has_number book changed m ≡ false)
    ms)
    (short : length uid ≤ 2 ^ 20) (slim : IfSome card (λ text. length text ≤ 2 ^ 20))
    (fits : fits_i64 (next_rowid (db 4)) ≡ true) (free :
    is_taken (db 4) (Int (next_rowid (db 4)) ∷ []) ≡ false)
    (old_fits : AllByRecursion (λ m. fits_i64 m.id ≡ true) ms) (obeys : Obeys book_schema db) where
  abbrev params : Row
  params = Int book ∷ Text uid ∷ Int changed ∷ or_null Text card ∷ []

  abbrev new : MemberRow
  new = record { id = next_rowid (db 4); book = book; uid = uid; changed = changed; card = card }

  abbrev pub placing : List ℤ → Row → Edit
  placing gone row = record { table = member; gone = gone; news = row ∷ [] }

  abbrev the_item : (r : Row) → Has (db 4) r → (x : MemberRow) × Has ms x
      × (member_cells r ≡ member_row x)
  the_item = item_of member_row member_cells (λ _. refl) ms (db 4) has

  -- the keys of two members
  same_uid : (x n : MemberRow) → agree plain (1 ∷ 2 ∷ []) (member_row x) (1 ∷ 2 ∷ []) (member_row n)
      ≡ has_uid n.book n.uid x
  unfolding first_key
  same_uid x n = then_term (at_ints false Eq x.book n.book)
      (last_term (at_texts false Eq x.uid n.uid ∙ is_eq-slice_cmp x.uid n.uid))

  same_number : (x n : MemberRow) → agree plain (1 ∷ 3 ∷ []) (member_row x) (1 ∷ 3 ∷ [])
      (member_row n) ≡ has_number n.book n.changed x
  unfolding first_key
  same_number x n = then_term (at_ints false Eq x.book n.book)
      (last_term (at_ints false Eq x.changed n.changed))

  -- ---- no member has the UID

  module _ (none : AllByRecursion (λ m. has_uid book uid m ≡ false) ms) where
    uid_unused : (r : Row) → Has (db 4) r → agree plain (1 ∷ 2 ∷ []) r (1 ∷ 2 ∷ []) (member_row new)
        ≡ false
    uid_unused r there =
        let item = the_item r there in
        subst (λ (c : Row). agree plain (1 ∷ 2 ∷ []) c (1 ∷ 2 ∷ []) (member_row new) ≡ false)
        (sym item.2) (same_uid item.0 new ∙ all_has (λ m. has_uid book uid m ≡ false) ms item.0
        none item.1)

    number_unused : (r : Row) → Has (db 4) r
        → agree plain (1 ∷ 3 ∷ []) r (1 ∷ 3 ∷ []) (member_row new) ≡ false
    number_unused r there =
        let item = the_item r there in
        let apart = all_has (λ m. has_uid book uid m ≡ false) ms item.0 none item.1 in
        subst (λ (c : Row). agree plain (1 ∷ 3 ∷ []) c (1 ∷ 3 ∷ []) (member_row new) ≡ false)
        (sym item.2)
        (same_number item.0 new ∙ all_has (λ m. has_uid book uid m ≡ false
        → has_number book changed m ≡ false) ms item.0 alone item.1 apart)

    new_referred : is_referred book_schema Enforced (placing [] (member_row new)) ≡ true
    unfolding everything
    new_referred = refl

    new_admitted : IsAdmitted db (placing [] (member_row new))
    new_admitted = record {
      keyed = refl;
      numbered = last_term fits;
      typed = last_term (typed_at db (next_rowid (db 4)) book uid changed card);
      present = refl;
      checked = refl;
      fresh = fresh_one (db 4) (member_row new) free;
      unique = ap₂ (λ a b. not (a || false) && (not (b || false) && true))
          (no_clash plain (1 ∷ 2 ∷ []) (db 4) (member_row new) (next_rowid (db 4)) refl uid_unused)
          (no_clash plain (1 ∷ 3 ∷ []) (db 4) (member_row new) (next_rowid (db 4)) refl
          number_unused);
      referred = new_referred;
      storable = member_fits new short slim;
      listed = inr (inr (inl refl));
    }

    new_is : edit_of db member [] Given 0 (member_row new ∷ []) ≡ placing [] (member_row new)
    new_is = ap (placing []) (cast_same new)

    puts : (stop : Option Error) → Puts (task limit member params) (member_row new) db (Err stop)
        → IsSome limit
    puts stop h =
        stops h (λ s k. edit_never_stops db (placing [] (member_row new)) new_admitted obeys refl s
        (subst (λ e. Edited book_schema Enforced db e (Err s)) new_is k))
        (λ on. never_stops _ stop on.2)

    clears : (stop : Option Error) (found : List Row)
        → Clears (task limit member params) Abort (member_row new) db found (Err stop)
        → IsSome limit
    clears stop [] h = puts stop h
    clears stop (x ∷ more) h = puts stop h

  -- ---- a member has the UID

  module _ (m : MemberRow) (there : Has ms m) (here : has_uid book uid m ≡ true) where
    abbrev pub later : MemberRow
    later = record m { changed = changed; card = card }

    abbrev left : List Row
    left = without_rowid m.id (db 4)

    parts : (m.book ≡ book) × (m.uid ≡ uid)
    parts = at_parts book uid m here

    abbrev given : Row
    given = given_for limit book uid changed card ms kept db has m

    abbrev p : Row → Bool
    p = passes 4 put_query.filter put_query.project (overlay db []) given

    abbrev f : Row → Row
    f = shows 4 put_query.filter put_query.project (overlay db []) given

    one : IsPermutation (f (member_row m) ∷ []) (map f (filter p (db 4)))
    one = rw (
      ap (map f) (sym (only_it limit book uid changed card ms kept db has m there)),
      shaped member_cells p f (λ _. refl) (λ _. refl) (db 4),
    )
        (IsPermutation-map f _ _ (IsPermutation-filter p _ _ has))

    abbrev edit_by : List Row → Edit
    edit_by rows = edit_of db member (ids_of rows) Given 1 rows

    edit_is : (rows : List Row) → IsPermutation (map f (filter p (db 4))) rows
        → edit_by rows ≡ placing (m.id ∷ []) (member_row later)
    edit_is rows h = ap edit_by (one_permutation (f (member_row m)) rows
        (IsPermutation-trans _ _ _ one h)) ∙ ap (placing (m.id ∷ [])) (cast_same later)

    other_uid : (r : Row) → Has left r → agree plain (1 ∷ 2 ∷ []) r (1 ∷ 2 ∷ []) (member_row later)
        ≡ false
    other_uid r h = false_from_ne_true _ (λ same.
        let stays = has_filtered (λ r. not (has_rowid m.id r)) (db 4) r h in
        let item = the_item r stays.0 in
        let mine = row_of member_row member_cells (λ _. refl) ms (db 4) has m there in
        let unclashed = not-true (clashes plain (1 ∷ 2 ∷ []) (db 4) mine.0)
        (and_parts _ _ (keeps_at Unique book_schema db member mine.0 (obeys.rules Unique)
        (inr (inr (inl refl))) mine.1)).0 in
        let at : column r 0 ≡ Int item.0.id = ap (λ (x : Row). column x 0) item.2 in
        let me : column mine.0 0 ≡ Int m.id = sym (ap (λ (x : Row). column x 0) mine.2) in
        let agrees : agree plain (1 ∷ 2 ∷ []) r (1 ∷ 2 ∷ []) mine.0 ≡ true =
        subst (λ (c : Row). agree plain (1 ∷ 2 ∷ []) r (1 ∷ 2 ∷ []) c ≡ true) mine.2 same in
        let ids : int_eq item.0.id m.id ≡ false =
        sym (ap (has_rowid m.id) item.2 ∙ has_stored member_id member_row (λ _. refl) m.id
        item.0) ∙ not-true _ stays.1 in
        let differs : differ (rowid r) (rowid mine.0) ≡ true =
        subst₂ (λ v w. differ v w ≡ true) (sym at) (sym me) (at_ints false Ne item.0.id m.id
        ∙ ap not ids) in
        both_ways _ unclashed (some_from _ (db 4) r stays.0 (and_from _ _ agrees differs)))

    other_number : (r : Row) → Has left r
        → agree plain (1 ∷ 3 ∷ []) r (1 ∷ 3 ∷ []) (member_row later) ≡ false
    other_number r h =
        let stays = has_filtered (λ r. not (has_rowid m.id r)) (db 4) r h in
        let item = the_item r stays.0 in
        let apart : has_uid m.book m.uid item.0 ≡ false = sym (same_uid item.0 later)
        ∙ subst (λ (c : Row). agree plain (1 ∷ 2 ∷ []) c (1 ∷ 2 ∷ []) (member_row later)
        ≡ false) item.2 (other_uid r h) in
        let unused : has_number book changed item.0 ≡ false =
        all_has (λ m. has_uid book uid m ≡ false → has_number book changed m ≡ false) ms item.0
        alone item.1 (subst₂ (λ b u. has_uid b u item.0 ≡ false) parts.0 parts.1 apart) in
        subst (λ (c : Row). agree plain (1 ∷ 3 ∷ []) c (1 ∷ 3 ∷ []) (member_row later) ≡ false)
        (sym item.2) (same_number item.0 later
        ∙ subst (λ b. has_number b changed item.0 ≡ false) (sym parts.0) unused)

    later_referred : is_referred book_schema Enforced (placing (m.id ∷ []) (member_row later))
        ≡ true
    unfolding everything
    later_referred = refl

    later_free : is_taken left (member_row later) ≡ false
    later_free = left_free m.id (db 4) (member_row later) refl

    pub later_admitted : IsAdmitted db (placing (m.id ∷ []) (member_row later))
    later_admitted = record {
      keyed = refl;
      numbered = last_term (all_has (λ (m : MemberRow). fits_i64 m.id ≡ true) ms m old_fits there);
      typed = last_term (typed_at db m.id m.book m.uid changed card);
      present = refl;
      checked = refl;
      fresh = fresh_one left (member_row later) later_free;
      unique = ap₂ (λ a b. not (a || false) && (not (b || false) && true))
          (no_clash plain (1 ∷ 2 ∷ []) left (member_row later) m.id refl other_uid)
          (no_clash plain (1 ∷ 3 ∷ []) left (member_row later) m.id refl other_number);
      referred = later_referred;
      storable = member_fits later (subst (λ u. length u ≤ 2 ^ 20) (sym parts.1) short) slim;
      listed = inr (inr (inl refl));
    }

    asks : (card : Option (List ℕ)) → accepts_program book_schema [] put_query
        ((Int book ∷ Text uid ∷ Int changed ∷ or_null Text card ∷ [])
        ++ Int m.id ∷ Int (next_rowid (db 4)) ∷ Int book ∷ Text uid ∷ Int changed ∷ or_null Text
        card ∷ []) ≡ true
    asks None = refl
    asks (Some text) = refl

    updates : (stop : Option Error) → Updates (task limit member params) (record {
      lets = [];
      body = put_query;
    }) given db (Err stop) → IsSome limit
    updates stop h =
        stops h (λ s k. query_stops limit db put_query given (asks card) (λ all k. k) refl s k)
        (λ it.
        let same = edit_is it.0 (picked 4 put_query.filter put_query.project (overlay db []) given
        it.0 it.1.answer) in
        stops it.2 (λ s k. edit_never_stops db (placing (m.id ∷ []) (member_row later))
        later_admitted obeys refl s (subst (λ e. Edited book_schema Enforced db e (Err s)) same
        k)) (λ on. never_stops _ stop on.2))

  -- ---- the statement

  abbrev target : Option (List ℕ)
  target = Some (1 ∷ 2 ∷ [])

  -- a row that conflicts is that of the member with the UID
  found_is : (found : List Row) (x : Row) (more : List Row) → found ≡ x ∷ more
      → AreConflicts target book_schema.indexes member (db 4) (member_row new) found
      → (m : MemberRow) × Has ms m × (has_uid book uid m ≡ true) × (x ≡ rowid (member_row m) ∷ [])
  found_is found x more is who =
      let it = who.sound x (subst (λ l. Has l x) (sym is) (inl refl)) in
      let back = has_back ms (member_cells it.0) (has_permuted _ _ (member_cells it.0)
      (IsPermutation-sym _ _ has) (has_cells member_cells (λ _. refl) (db 4) it.0 it.1)) in (
        back.0,
        back.1,
        sym (conflicts_at new back.0) ∙ subst (λ r. conflicts target book_schema.indexes member
            (member_row new) r ≡ true) back.2 it.2,
        it.3 ∙ ap (λ r. rowid r ∷ []) back.2,
      )

  nobody_has : (found : List Row) → found ≡ [] → AreConflicts target book_schema.indexes member
      (db 4) (member_row new) found → AllByRecursion (λ m. has_uid book uid m ≡ false) ms
  nobody_has = nobody limit book uid changed card ms kept db has

  meets : (stop : Option Error) (found : List Row) → AreConflicts target book_schema.indexes member
      (db 4) (member_row new) found
      → Meets (task limit member params) (Upserts (task limit member params) Abort (member_row new)
      db []) (member_row new) db put_clause found (Err stop) → IsSome limit
  meets stop [] who h = clears (nobody_has [] refl who) stop h.0 h.2
  meets stop (x ∷ more) who h =
      let it = found_is (x ∷ more) x more refl who in
      updates it.0 it.1 it.2 stop (subst (λ (y : Row). Resolves (task limit member params)
      (member_row new) db y put_clause.update (Err stop)) it.3 h)

  tries : (stop : Option Error) → Tries (task limit member params) Abort (put_clause ∷ [])
      (member_row new) db (Err stop) → IsSome limit
  tries stop (inl full) = absurd (true≢false (sym fits ∙ full.0))
  tries stop (inr judged) = go judged.0 judged.1 judged.2
    where
      go : (verdict : Option Refusal) → IsJudged member (member_row new) verdict
          → Judged (task limit member params) Abort (put_clause ∷ []) (member_row new) db verdict
          (Err stop) → IsSome limit
      go None is h = meets stop h.0 h.1 h.2
      go (Some Mismatch) is h = absurd (true≢false is)
      go (Some NoRowid) is h = absurd is
      go (Some BadReference) is h = absurd is
      go (Some TooDeep) is h = absurd is
      go (Some (Violates Datatype)) is h =
          absurd (true≢false (sym (typed_at db (next_rowid (db 4)) book uid changed card) ∙ is))
      go (Some (Violates NotNull)) is h = absurd (true≢false is)
      go (Some (Violates Check)) is h = absurd (true≢false is)
      go (Some (Violates PrimaryKey)) is h = absurd is
      go (Some (Violates Unique)) is h = absurd is
      go (Some (Violates ForeignKey)) is h = absurd is

  source_is : with_rowid Chosen (db 4) (cast_row member (Null ∷ params)) ≡ member_row new
  source_is = ap (with_rowid Chosen (db 4)) (cast_new book uid changed card)

  inserts : (stop : Option Error) → InsertsOr (task limit member params) Abort (put_clause ∷ [])
      (Values put_terms 5) db (Err stop) → IsSome limit
  inserts stop h =
      stops h (λ s k. values_stop limit (record { schema = book_schema; trees = db }) params
      put_terms 5 (values_typed book uid changed card) s k)
      (λ rows. stops rows.2 (λ s k. never_stops _ s k)
      (λ counter. stops counter.2
      (λ s k. stops (subst (λ l. TriesEach (task limit member params) Abort (put_clause ∷ []) l
      (count_of counter.0) (nothing db) (Err s)) rows.1.1 k)
      (λ t n. tries t (subst (λ row. Tries (task limit member params) Abort (put_clause ∷ []) row db
      (Err t)) source_is n))
      (λ on. never_stops _ s on.2))
      (λ each. stops each.2 (λ s k. never_stops _ s k) (λ on. never_stops _ stop on.2))))

  -- ---- what it leaves

  abbrev Leaves : Written → Type 0
  Leaves w = Refers All book_schema w.trees

  pub refers_with : (next : Trees) (n : MemberRow) (gone : List ℤ) → n.book ≡ book
      → Applies book_schema Enforced db (placing gone (member_row n)) next
      → Refers All book_schema next
  refers_with next n gone at step =
      let books = step.tables.1.0 (λ e. omega (arith, e)) in
      refers_after db next (same_books db next books) member (inr (inr (inl refl))) step.tables
      obeys (λ r there. elim (put_has (member_row n) (without_all (db 4) gone) r
      (subst (λ l. Has l r) step.rows there)) [
        | inl fresh ↦ inr (refers_there next bs (subst (λ l. HoldBooks l bs) (sym books) holds) book
            some 1 r (ap (λ (x : Row). column x 1) fresh ∙ ap Int at))
        | inr was ↦ inl (without_all_has gone (db 4) r was)
      ])

  puts_leave : (w : Written) → AllByRecursion (λ m. has_uid book uid m ≡ false) ms
      → Puts (task limit member params) (member_row new) db (Ok w) → Leaves w
  puts_leave w none h =
      let went = went_on h in
      let step = one_step book_schema Enforced db went.0 (placing [] (member_row new)) refl
      (subst (λ e. Edited book_schema Enforced db e (Ok went.0)) (new_is none) went.1) in
      let is = same_value went.2 in
      subst (Refers All book_schema) (sym (ap (λ (it : Written). it.trees) is))
      (refers_with went.0 new [] refl step)

  clears_leave : (w : Written) (found : List Row) → AllByRecursion (λ m. has_uid book uid m ≡ false)
      ms → Clears (task limit member params) Abort (member_row new) db found (Ok w) → Leaves w
  clears_leave w [] none h = puts_leave w none h
  clears_leave w (x ∷ more) none h = puts_leave w none h

  updates_leave : (w : Written) (m : MemberRow) (there : Has ms m) (here : has_uid book uid m
      ≡ true)
      → Updates (task limit member params) (record { lets = []; body = put_query })
      (given_for limit book uid changed card ms kept db has m) db (Ok w) → Leaves w
  updates_leave w m there here h =
      let went = went_on h in
      let given = given_for limit book uid changed card ms kept db has m in
      let same = edit_is m there here went.0 (picked 4 put_query.filter put_query.project
      (overlay db []) given went.0 went.1.answer) in
      let wrote = went_on went.2 in
      let n : MemberRow = record m { changed = changed; card = card } in
      let step = one_step book_schema Enforced db wrote.0 (placing (m.id ∷ []) (member_row n)) refl
      (subst (λ e. Edited book_schema Enforced db e (Ok wrote.0)) same wrote.1) in
      let is = same_value wrote.2 in
      subst (Refers All book_schema) (sym (ap (λ (it : Written). it.trees) is))
      (refers_with wrote.0 n (m.id ∷ []) (at_parts book uid m here).0 step)

  meets_leave : (w : Written) (found : List Row) → AreConflicts target book_schema.indexes member
      (db 4) (member_row new) found
      → Meets (task limit member params) (Upserts (task limit member params) Abort (member_row new)
      db []) (member_row new) db put_clause found (Ok w) → Leaves w
  meets_leave w [] who h = clears_leave w h.0 (nobody_has [] refl who) h.2
  meets_leave w (x ∷ more) who h =
      let it = found_is (x ∷ more) x more refl who in
      updates_leave w it.0 it.1 it.2 (subst (λ (y : Row). Resolves (task limit member params)
      (member_row new) db y put_clause.update (Ok w)) it.3 h)

  tries_leave : (w : Written) → Tries (task limit member params) Abort (put_clause ∷ [])
      (member_row new) db (Ok w) → Leaves w
  tries_leave w (inl full) = absurd (let e = full.1 in cc)
  tries_leave w (inr judged) = go judged.0 judged.2
    where
      go : (verdict : Option Refusal) → Judged (task limit member params) Abort (put_clause ∷ [])
          (member_row new) db verdict (Ok w) → Leaves w
      go None h = meets_leave w h.0 h.1 h.2
      go (Some why) h = absurd (let e = h in cc)

  inserts_leave : (w : Written) → InsertsOr (task limit member params) Abort (put_clause ∷ [])
      (Values put_terms 5) db (Ok w) → Leaves w
  inserts_leave w h =
      let given = went_on h in
      let counter = went_on given.2 in
      let each = went_on counter.2 in
      let counted = went_on each.2 in
      let last = same_value counted.2 in
      let trees : w.trees ≡ each.0.0.trees = ap (λ (it : Written). it.trees) last
      ∙ same_value counted.1 in
      let tried = subst (λ rows. TriesEach (task limit member params) Abort (put_clause ∷ []) rows
      (count_of counter.0) (nothing db) (Ok each.0)) given.1.1 each.1 in
      let one = went_on tried in
      let done : each.0 ≡ (joined (nothing db) one.0, _) = same_value one.2 in
      let it = tries_leave one.0 (subst (λ row. Tries (task limit member params) Abort
      (put_clause ∷ []) row db (Ok one.0)) source_is one.1) in
      subst (Refers All book_schema) (sym (trees ∙ ap (λ (p : Written × ℤ). p.0.trees) done)) it

  pub put_stops : (stop : Option Error) → OnRows (task limit member params) outside None put_command
      db (Err stop) → IsSome limit
  put_stops stop h = stops h (λ s k. inserts s k) (λ it. concludes_quietly limit member params it.0
      (inserts_leave it.0 it.1) stop it.2)

pub put_fails : (old new : State) (book : ℤ) (uid : List ℕ) (changed : ℤ) (card : Option (List ℕ))
    (bs : List BookRow) (ms : List MemberRow) (r : Result ℕ Error) → old.now.schema ≡ book_schema
    → AreMembers ms → HoldBooks (old.now.trees 2) bs → HoldMembers (old.now.trees 4) ms
    → list_any (has_id book) bs ≡ true → AllByRecursion (λ m. has_uid book uid m ≡ false
    → has_number book changed m ≡ false) ms
    → length uid ≤ 2 ^ 20 → IfSome card (λ text. length text ≤ 2 ^ 20)
    → fits_i64 (next_rowid (old.now.trees 4)) ≡ true
    → is_taken (old.now.trees 4) (Int (next_rowid (old.now.trees 4)) ∷ []) ≡ false
    → AllByRecursion (λ m. fits_i64 m.id ≡ true) ms → Obeys book_schema old.now.trees
    → ExecutesInside 0 put_text (Int book ∷ Text uid ∷ Int changed ∷ or_null Text card ∷ []) old new
    r
    → IfErr r (λ e. e ≢ SqliteFailure OutOfMemory → HasOutsideCause old new)
unfolding understood everything
put_fails old new book uid changed card bs ms (Ok count) schema kept holds has some alone short slim
    fits free wide obeys h = tt
put_fails old new book uid changed card bs ms (Err e) schema kept holds has some alone short slim
    fits free wide obeys h =
    execute_fails put_text (Int book ∷ Text uid ∷ Int changed ∷ or_null Text card ∷ []) old new
    schema put_command None put_is.0 tt refl refl (refl, refl)
    (λ stop did. put_stops old.step_limit book uid changed card bs ms kept old.now.trees holds has
    some alone short slim fits free wide obeys stop did) refl e h
