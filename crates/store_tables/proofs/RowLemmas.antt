-- A member that is upserted: updated in its place, or added.
use Rattle.std.proofs.Common.{◌≡◌, inl, inr, ℕ, ℤ, Bool, true, false, ◌&&◌, ◌||◌, List, [], ◌∷◌}
use Rattle.std.proofs.Common.{◌++◌, map, Option, bytes_eq, int_eq, is_eq, refl, sym, ap, ap₂, subst}
use Rattle.std.proofs.Common.{◌∙◌, true≢false}
use Rattle.std.proofs.lemmas.List.Sorted.{IsPermutation-trans, IsPermutation-map}
use Rattle.std.proofs.lemmas.List.Sorted.{IsPermutation-to_front, list_any-IsPermutation}
use Rattle.std.specs.List.{AllByRecursion, list_any}
use Rattle.std.proofs.lemmas.Slice.Eq.{bytes_eq-Decides}
use Rattle.sqlite.specs.Order.{Row, value_cmp}
use Rattle.sqlite.specs.declared.types.Value.TheVariants.{Int}
use Rattle.sqlite_rules.specs.Edit.{is_taken}
use Rattle.sqlite_rules.specs.Lists.{Has}
use Rattle.sqlite_trees.specs.Tree.{rowid, put_row}
use Rattle.sqlite_trees.proofs.ListLemmas.{all_weaker, ascending_weaker}
use Rattle.store_tables.specs.Members.{MemberRow, member_row, member_cells, HoldMembers, has_uid}
use Rattle.store_tables.specs.Members.{AreMembers, upsert_member}
use Rattle.store_tables.proofs.KeyedRows.{same_int, all_has, put_beside, has_stored, Apart}
use Rattle.store_tables.proofs.KeyedRows.{with_new, unchanged, int_itself}

abbrev pub member_id : MemberRow → ℤ
member_id m = m.id

pub apart : (ms : List MemberRow) → AreMembers ms → Apart member_id member_row (λ _. refl) ms
apart ms kept = ascending_weaker _ _ (λ a b h. h.0) ms kept

put_new : (id book : ℤ) (uid : List ℕ) (changed : ℤ) (card : Option (List ℕ)) (ms : List MemberRow)
    → AllByRecursion (λ m. has_uid book uid m ≡ false) ms
    → upsert_member id book uid changed card ms ≡ ms ++ record {
      id = id;
      book = book;
      uid = uid;
      changed = changed;
      card = card;
    } ∷ []
put_new id book uid changed card [] h = refl
put_new id book uid changed card (m ∷ ms) h =
    rw h.0 (ap (λ l. m ∷ l) (put_new id book uid changed card ms h.1))

-- ---- the members afterwards

pub at_parts : (book : ℤ) (uid : List ℕ) (m : MemberRow) → has_uid book uid m ≡ true
    → (m.book ≡ book) × (m.uid ≡ uid)
at_parts book uid m h = go (int_eq m.book book) (bytes_eq m.uid uid) refl refl h
  where
    go : (a b : Bool) → int_eq m.book book ≡ a → bytes_eq m.uid uid ≡ b → (a && b) ≡ true
        → (m.book ≡ book) × (m.uid ≡ uid)
    go true true e k h = (same_int m.book book e, (bytes_eq-Decides m.uid uid).0 k)
    go true false e k h = absurd (true≢false (sym h))
    go false b e k h = absurd (true≢false (sym h))

pub at_itself : (m : MemberRow) → has_uid m.book m.uid m ≡ true
at_itself m = ap₂ (λ a b. a && b) (int_itself m.book) ((bytes_eq-Decides m.uid m.uid).1 refl)

-- the test of a key is symmetric
at_turned : (book : ℤ) (uid : List ℕ) (m : MemberRow) (id changed : ℤ) (card : Option (List ℕ))
    → has_uid book uid m ≡ false → has_uid m.book m.uid (record {
      id = id;
      book = book;
      uid = uid;
      changed = changed;
      card = card;
    }) ≡ false
at_turned book uid m id changed card h =
    go (has_uid m.book m.uid (record {
      id = id;
      book = book;
      uid = uid;
      changed = changed;
      card = card;
    })) refl
  where
    go : (b : Bool) → has_uid m.book m.uid (record {
      id = id;
      book = book;
      uid = uid;
      changed = changed;
      card = card;
    }) ≡ b → b ≡ false
    go false e = refl
    go true e =
        let same = at_parts m.book m.uid (record {
          id = id;
          book = book;
          uid = uid;
          changed = changed;
          card = card;
        }) e in
        absurd (true≢false (sym (at_itself m) ∙ sym (ap₂ (λ b u. has_uid b u m) same.0 same.1) ∙ h))

pub at_same : (book : ℤ) (uid : List ℕ) (x m : MemberRow) → has_uid book uid m ≡ true
    → has_uid x.book x.uid m ≡ false → has_uid book uid x ≡ false
at_same book uid x m here apart = go (has_uid book uid x) refl
  where
    go : (b : Bool) → has_uid book uid x ≡ b → b ≡ false
    go false e = refl
    go true e =
        let same = at_parts book uid x e in
        absurd (true≢false (sym here ∙ sym (ap₂ (λ b u. has_uid b u m) same.0 same.1) ∙ apart))

module _ (id book : ℤ) (uid : List ℕ) (changed : ℤ) (card : Option (List ℕ)) where
  abbrev pub added : MemberRow
  added = record { id = id; book = book; uid = uid; changed = changed; card = card }

  abbrev pub changed_at : MemberRow → MemberRow
  changed_at m = record m { changed = changed; card = card }

  all_put : (P : MemberRow → Type 0) (ms : List MemberRow)
      → ((m : MemberRow) → P m → P (changed_at m)) → P added → AllByRecursion P ms
      → AllByRecursion P (upsert_member id book uid changed card ms)
  all_put P [] on new h = (new, tt)
  all_put P (m ∷ ms) on new h = step (has_uid book uid m) refl (all_put P ms on new h.1)
    where
      step : (b : Bool) → has_uid book uid m ≡ b
          → AllByRecursion P (upsert_member id book uid changed card ms)
          → AllByRecursion P (upsert_member id book uid changed card (m ∷ ms))
      step true e more = rw e (on m h.0, h.1)
      step false e more = rw e (h.0, more)

  put_kept : (ms : List MemberRow) → AreMembers ms → AllByRecursion (λ m. int_eq m.id id ≡ false) ms
      → AreMembers (upsert_member id book uid changed card ms)
  put_kept [] kept free = (tt, tt)
  put_kept (m ∷ ms) kept free = step (has_uid book uid m) refl (put_kept ms kept.1 free.1)
    where
      step : (b : Bool) → has_uid book uid m ≡ b
          → AreMembers (upsert_member id book uid changed card ms)
          → AreMembers (upsert_member id book uid changed card (m ∷ ms))
      step true e more = rw e (kept.0, kept.1)
      step false e more = rw e (
        all_put (λ x. (int_eq m.id x.id ≡ false)
            × (has_uid m.book m.uid x ≡ false)) ms (λ x h. h) (
              free.0,
              at_turned book uid m id changed card e,
            ) kept.0,
        more,
      )

  -- ---- no member has the key

  pub adds : (ms : List MemberRow) (rows : List Row) (row : Row)
      → member_cells row ≡ member_row added → HoldMembers rows ms → is_taken rows row ≡ false
      → AllByRecursion (λ m. has_uid book uid m ≡ false) ms
      → HoldMembers (put_row row rows) (upsert_member id book uid changed card ms)
  adds ms rows row shows has free none =
      subst (HoldMembers (put_row row rows)) (sym (put_new id book uid changed card ms none))
      (IsPermutation-trans _ _ _ (IsPermutation-map member_row _ _
      (IsPermutation-to_front ms added)) (put_beside member_id member_row (λ _. refl)
      member_cells row added shows ms rows has free))

  none_taken : (ms : List MemberRow) → list_any (λ r. is_eq (value_cmp (rowid r) (Int id)))
      (map member_row ms) ≡ false → AllByRecursion (λ m. int_eq m.id id ≡ false) ms
  none_taken [] h = tt
  none_taken (m ∷ ms) h = let both = Rattle.std.proofs.lemmas.Bool.or_parts _ _ h in
      (sym (has_stored member_id member_row (λ _. refl) id m) ∙ both.0, none_taken ms both.1)

  any_cells : (rows : List Row) → list_any (λ r. is_eq (value_cmp (rowid r) (Int id)))
      (map member_cells rows) ≡ list_any (λ r. is_eq (value_cmp (rowid r) (Int id))) rows
  any_cells [] = refl
  any_cells (r ∷ rs) = ap (λ b. is_eq (value_cmp (rowid r) (Int id)) || b) (any_cells rs)

  -- no member has the id of a row that is new
  pub ids_apart : (ms : List MemberRow) (rows : List Row) (row : Row)
      → member_cells row ≡ member_row added → HoldMembers rows ms → is_taken rows row ≡ false
      → AllByRecursion (λ m. int_eq m.id id ≡ false) ms
  ids_apart ms rows row shows has free =
      let same : rowid row ≡ Int id = ap rowid shows in
      let none = subst (λ v. list_any (λ r. is_eq (value_cmp (rowid r) v)) rows ≡ false) same
      free in
      none_taken ms (list_any-IsPermutation (λ r. is_eq (value_cmp (rowid r) (Int id))) _ _ has
      ∙ any_cells rows ∙ none)

  pub adds_kept : (ms : List MemberRow) (rows : List Row) (row : Row)
      → member_cells row ≡ member_row added → HoldMembers rows ms → is_taken rows row ≡ false
      → AreMembers ms → AreMembers (upsert_member id book uid changed card ms)
  adds_kept ms rows row shows has free kept =
      put_kept ms kept (ids_apart ms rows row shows has free)

  -- ---- a member has the key

  pub put_is_map : (ms : List MemberRow) (m : MemberRow) → AreMembers ms → Has ms m
      → has_uid book uid m ≡ true → upsert_member id book uid changed card ms
      ≡ map (with_new member_id member_row (λ _. refl) (changed_at m)) ms
  put_is_map [] m kept h here = absurd h
  put_is_map (x ∷ xs) m kept (inl same) here =
      let others : AllByRecursion (λ y. int_eq m.id y.id ≡ false) xs =
      subst (λ (k : MemberRow). AllByRecursion (λ y. int_eq k.id y.id ≡ false) xs) (sym same)
      (all_weaker _ (λ (y : MemberRow). int_eq x.id y.id ≡ false) (λ y h. h.0) xs kept.0) in
      rw (
        ap (has_uid book uid) (sym same) ∙ here,
        ap (λ (k : MemberRow). int_eq k.id m.id)
            (sym same) ∙ int_itself m.id,
        unchanged member_id member_row (λ _. refl) (changed_at m) xs
            others,
      )
      (ap (λ (k : MemberRow). changed_at k ∷ xs) (sym same))
  put_is_map (x ∷ xs) m kept (inr h) here =
      let apart = all_has (λ y. (int_eq x.id y.id ≡ false) × (has_uid x.book x.uid y ≡ false)) xs m
      kept.0 h in
      rw (
        at_same book uid x m here apart.1,
        apart.0,
      ) (ap (λ l. x ∷ l) (put_is_map xs m kept.1 h here))

  all_placed : (P : MemberRow → Type 0) (ms : List MemberRow) (m : MemberRow)
      → ((m : MemberRow) → P m → P (changed_at m)) → Has ms m → has_uid book uid m ≡ true
      → AllByRecursion P ms → AllByRecursion P (upsert_member id book uid changed card ms)
  all_placed P [] m on there here h = absurd there
  all_placed P (x ∷ xs) m on (inl same) here h =
      rw (ap (has_uid book uid) (sym same) ∙ here) (on x h.0, h.1)
  all_placed P (x ∷ xs) m on (inr there) here h =
      step (has_uid book uid x) refl (all_placed P xs m on there here h.1)
    where
      step : (b : Bool) → has_uid book uid x ≡ b
          → AllByRecursion P (upsert_member id book uid changed card xs)
          → AllByRecursion P (upsert_member id book uid changed card (x ∷ xs))
      step true e more = rw e (on x h.0, h.1)
      step false e more = rw e (h.0, more)

  pub changes_kept : (ms : List MemberRow) (m : MemberRow) → AreMembers ms → Has ms m
      → has_uid book uid m ≡ true → AreMembers (upsert_member id book uid changed card ms)
  changes_kept [] m kept h here = absurd h
  changes_kept (x ∷ xs) m kept (inl same) here =
      rw (ap (has_uid book uid) (sym same) ∙ here) (kept.0, kept.1)
  changes_kept (x ∷ xs) m kept (inr h) here =
      step (has_uid book uid x) refl (changes_kept xs m kept.1 h here)
    where
      step : (b : Bool) → has_uid book uid x ≡ b
          → AreMembers (upsert_member id book uid changed card xs)
          → AreMembers (upsert_member id book uid changed card (x ∷ xs))
      step true e more = rw e (kept.0, kept.1)
      step false e more = rw e (
        all_placed (λ y. (int_eq x.id y.id ≡ false)
            × (has_uid x.book x.uid y ≡ false)) xs m (λ y h. h) h here kept.0,
        more,
      )
