-- An upserted member, in its own book and in the others.
use Rattle.std.proofs.Common.{◌≡◌, ℕ, ℤ, Bool, true, false, ◌&&◌, cond, List, [], ◌∷◌, find, Option}
use Rattle.std.proofs.Common.{Some, None, IfSome, bytes_eq, int_eq, refl, sym, ap, ap₂, ◌∙◌}
use Rattle.std.proofs.Common.{true≢false}
use Rattle.std.specs.List.{AllByRecursion}
use Rattle.std.specs.Option.{option_map}
use Rattle.std.specs.Ordering.{eq_by_cmp}
use Rattle.std.specs.FinMap as finite
use Rattle.std.proofs.lemmas.Map.Lookups.{exact_bytes}
use Rattle.std.proofs.lemmas.Bool.{and_parts}
use Rattle.base_types.specs.TextMaps.{text_cmp}
use Rattle.base_types.proofs.TextLemmas.{text_total, same_text}
use Rattle.book_model.specs.declared.row.Row.{Row as Kept}
use Rattle.store_tables.specs.Members.{MemberRow, has_uid, upsert_member}
use Rattle.store_tables.proofs.KeyedRows.{same_int, int_itself}
use Rattle.store_rows.specs.SoundTables.{IsReadableMember}
use Rattle.store_rows.specs.Values.{natural, text_card, IsCanonical, IsLegalUid, IsNatural}
use Rattle.store_rows.specs.TableBooks.{model_row, members_in}
use Rattle.store_rows.proofs.KeyedEntries.{key_is, text_turned}
use Rattle.store_rows.proofs.RowLemmas.{get-members_in}

abbrev pub put_row : ℤ → Option (List ℕ) → Kept
put_row changed card = record { changed = natural changed; card = option_map text_card card }

module _ (id book : ℤ) (uid : List ℕ) (changed : ℤ) (card : Option (List ℕ)) where
  -- the upserted member is at this place
  abbrev new_at : ℤ → List ℕ → Bool
  new_at b u = int_eq book b && bytes_eq uid u

  -- a member at the place of the upserted one passes the same tests as the new one
  place_of : (m : MemberRow) (b : ℤ) (u : List ℕ) → has_uid book uid m ≡ true
      → new_at b u ≡ has_uid b u m
  place_of m b u here =
      let same = and_parts (int_eq m.book book) (bytes_eq m.uid uid) here in
      ap₂ (λ x y. int_eq x b && bytes_eq y u) (sym (same_int m.book book same.0))
      (sym (same_text m.uid uid same.1))

  -- a member elsewhere has another key than the new one
  elsewhere : (m : MemberRow) (b : ℤ) (u : List ℕ) → has_uid book uid m ≡ false
      → has_uid b u m ≡ true → new_at b u ≡ false
  elsewhere m b u away there = go (new_at b u) refl
    where
      go : (t : Bool) → new_at b u ≡ t → t ≡ false
      go false z = refl
      go true z =
          let at = and_parts (int_eq book b) (bytes_eq uid u) z in
          absurd (true≢false (sym there ∙ ap₂ (λ x y. has_uid x y m) (sym (same_int book b at.0))
          (sym (same_text uid u at.1)) ∙ away))

  find_put : (b : ℤ) (u : List ℕ) (ms : List MemberRow)
      → option_map model_row (find (has_uid b u) (upsert_member id book uid changed card ms))
      ≡ cond (new_at b u) (Some (put_row changed card))
      (option_map model_row (find (has_uid b u) ms))
  find_put b u [] = step (new_at b u) refl
    where
      step : (t : Bool) → new_at b u ≡ t
          → option_map model_row (find (has_uid b u) (upsert_member id book uid changed card []))
          ≡ cond t (Some (put_row changed card)) None
      step true e = rw e
      step false e = rw e
  find_put b u (m ∷ ms) = go (has_uid book uid m) (has_uid b u m) refl refl (find_put b u ms)
    where
      go : (here there : Bool) → has_uid book uid m ≡ here → has_uid b u m ≡ there
          → option_map model_row (find (has_uid b u) (upsert_member id book uid changed card ms))
          ≡ cond (new_at b u) (Some (put_row changed card))
          (option_map model_row (find (has_uid b u) ms))
          → option_map model_row (find (has_uid b u) (upsert_member id book uid changed card
          (m ∷ ms))) ≡ cond (new_at b u) (Some (put_row changed card))
          (option_map model_row (find (has_uid b u) (m ∷ ms)))
      go true true e k more = rw (e, k, place_of m b u e ∙ k)
      go true false e k more = rw (e, k, place_of m b u e ∙ k)
      go false true e k more = rw (e, k, elsewhere m b u e k)
      go false false e k more = rw (e, k) more

  pub members_put : (ms : List MemberRow)
      → members_in book (upsert_member id book uid changed card ms)
      ≡ finite.insert (members_in book ms) uid (put_row changed card)
  members_put ms = finite.same_map text_total exact_bytes _ _ (λ q.
      get-members_in book _ q ∙ find_put book q ms
      ∙ ap (λ t. cond t (Some (put_row changed card))
      (option_map model_row (find (has_uid book q) ms))) (at_new q)
      ∙ ap (cond (eq_by_cmp text_cmp q uid) (Some (put_row changed card)))
      (sym (get-members_in book ms q))
      ∙ sym (finite.get-insert text_total (members_in book ms) uid (put_row changed card) q))
    where
      at_new : (q : List ℕ) → new_at book q ≡ eq_by_cmp text_cmp q uid
      at_new q = ap (λ t. t && bytes_eq uid q) (int_itself book) ∙ text_turned uid q
          ∙ sym (key_is q uid)

  pub others_put : (other : ℤ) (ms : List MemberRow) → int_eq book other ≡ false
      → members_in other (upsert_member id book uid changed card ms) ≡ members_in other ms
  others_put other ms apart = finite.same_map text_total exact_bytes _ _ (λ q.
      get-members_in other _ q ∙ find_put other q ms
      ∙ ap (λ t. cond (t && bytes_eq uid q) (Some (put_row changed card))
      (option_map model_row (find (has_uid other q) ms))) apart
      ∙ sym (get-members_in other ms q))

  -- the members stay readable
  pub readable_put : (ms : List MemberRow) → IsLegalUid uid → IsNatural changed
      → IfSome card IsCanonical → AllByRecursion IsReadableMember ms
      → AllByRecursion IsReadableMember (upsert_member id book uid changed card ms)
  readable_put [] legal natural canonical h =
      (record { uid = legal; changed = natural; card = canonical }, tt)
  readable_put (m ∷ ms) legal natural canonical h =
      step (has_uid book uid m) refl (readable_put ms legal natural canonical h.1)
    where
      step : (t : Bool) → has_uid book uid m ≡ t
          → AllByRecursion IsReadableMember (upsert_member id book uid changed card ms)
          → AllByRecursion IsReadableMember (upsert_member id book uid changed card (m ∷ ms))
      step true e more = rw e (record { uid = h.0.uid; changed = natural; card = canonical }, h.1)
      step false e more = rw e (h.0, more)

  -- each member belongs to a book with the fact
  pub all_put : (P : ℤ → Type 0) (ms : List MemberRow) → P book → AllByRecursion (λ m. P m.book) ms
      → AllByRecursion (λ m. P m.book) (upsert_member id book uid changed card ms)
  all_put P [] mine h = (mine, tt)
  all_put P (m ∷ ms) mine h = step (has_uid book uid m) refl (all_put P ms mine h.1)
    where
      step : (t : Bool) → has_uid book uid m ≡ t
          → AllByRecursion (λ m. P m.book) (upsert_member id book uid changed card ms)
          → AllByRecursion (λ m. P m.book) (upsert_member id book uid changed card (m ∷ ms))
      step true e more = rw e (h.0, h.1)
      step false e more = rw e (h.0, more)
