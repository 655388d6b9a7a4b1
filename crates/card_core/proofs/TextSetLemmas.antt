-- A set of texts in a `BTreeSet`: what it has, what it gains, and its order.
use Rattle.std.proofs.Common.{◌≡◌, ℕ, Bool, true, false, cond, ◌||◌, List, [], ◌∷◌, map, String}
use Rattle.std.proofs.Common.{string_bytes, string_cmp, bytes_eq, nat_cmp, refl, sym, ap, subst}
use Rattle.std.proofs.Common.{◌∙◌, ⊎_elim, inl, inr}
use Rattle.std.specs.BTreeMap.{is_at}
use Rattle.std.specs.BTreeSet.{BTreeSet, UpdatesBy, contains_text}
use Rattle.std.specs.Cmp.{eq_by_cmp_equiv}
use Rattle.std.specs.Cmp.Lexicographic.{slice_cmp, nat_list_cmp_total}
use Rattle.std.specs.List.{Contains, AllByRecursion, list_any}
use Rattle.std.specs.List.Sorted.{IsStrictlySortedBy}
use Rattle.std.specs.Ordering.{is_eq, eq_by_cmp}
use Rattle.std.specs.declared.cmp.Ordering.TheVariants.{Less}
use Rattle.std.proofs.lemmas.Bool.{cases_Bool, cond-true, cond-false}
use Rattle.std.proofs.lemmas.Map.Text.{btree_set_updates_text}
use Rattle.std.proofs.lemmas.Map.Views.{Contains-from_any, list_any-from_Contains}
use Rattle.std.proofs.lemmas.Slice.Eq.{bytes_eq-Decides}
use Rattle.base_types.specs.TextMaps.{text_cmp}
use Rattle.base_types.proofs.TextLemmas.{same-equal}
use Rattle.card_core.specs.internal.TextSets.{GainsText}

-- ---- whether a list of texts has a text

pub found : (text : List ℕ) (texts : List (List ℕ)) → list_any (eq_by_cmp text_cmp text) texts
    ≡ true → Contains texts text
found text texts e = Contains-from_any same-equal text texts e

pub finds : (text : List ℕ) (texts : List (List ℕ)) → Contains texts text
    → list_any (eq_by_cmp text_cmp text) texts ≡ true
finds text texts c = list_any-from_Contains (eq_by_cmp_equiv nat_list_cmp_total) text texts c

any_text : {A : Type 0} (text : List ℕ) (keys : List (String A))
    → list_any (is_at (λ k. slice_cmp nat_cmp text (string_bytes k))) keys
    ≡ list_any (eq_by_cmp text_cmp text) (map string_bytes keys)
any_text text [] = refl
any_text text (k ∷ ks) = ap (λ b. is_eq (slice_cmp nat_cmp text (string_bytes k)) || b)
    (any_text text ks)

module _ {A : Type 0} (set : BTreeSet (String A)) (text : List ℕ) where
  pub has_text : contains_text set text ≡ true → Contains (map string_bytes set.keys) text
  has_text e = found text (map string_bytes set.keys) (sym (any_text text set.keys) ∙ e)

  pub text_had : Contains (map string_bytes set.keys) text → contains_text set text ≡ true
  text_had c = any_text text set.keys ∙ finds text (map string_bytes set.keys) c

-- ---- what a set gains

pub gains_again : (texts : List (List ℕ)) (text : List ℕ) → Contains texts text
    → GainsText texts texts text
gains_again texts text c =
    record {
      texts = λ other. (
        inl,
        λ either. ⊎_elim (λ had. had) (λ e. subst (Contains texts)
            (sym e) c) either,
      );
    }

pub gains_text : {A : Type 0} (old new : BTreeSet (String A)) (text : List ℕ)
    → UpdatesBy string_cmp (λ k. slice_cmp nat_cmp text (string_bytes k)) old new true
    → GainsText (map string_bytes old.keys) (map string_bytes new.keys) text
gains_text old new text u = record {
  texts = λ other.
      let updated : contains_text new other ≡ cond (bytes_eq text other) true
      (contains_text old other) = btree_set_updates_text text old new true u other in (
        λ had. ⊎_elim
            (λ same. inr (sym ((bytes_eq-Decides text other).0 same)))
            (λ differs. inl (has_text old other (sym (cond-false _ _ _ differs) ∙ sym updated
            ∙ text_had new other had)))
            (cases_Bool (bytes_eq text other)),
        λ either. has_text new other (updated ∙ ⊎_elim
            (λ had. either_way (bytes_eq text other) _ (text_had old other had))
            (λ e. cond-true _ _ _ ((bytes_eq-Decides text other).1 (sym e)))
            either),
      );
}
  where
    either_way : (b c : Bool) → c ≡ true → cond b true c ≡ true
    either_way b c e = elim b as (λ t. cond t true c ≡ true) [ true ↦ refl | false ↦ e ]

-- ---- in order

below_each : {A : Type 0} (key : String A) (keys : List (String A))
    → AllByRecursion (λ k. string_cmp key k ≡ Less) keys
    → AllByRecursion (λ t. text_cmp (string_bytes key) t ≡ Less) (map string_bytes keys)
below_each key [] below = tt
below_each key (k ∷ ks) below = (below.0, below_each key ks below.1)

pub texts_rise : {A : Type 0} (keys : List (String A)) → IsStrictlySortedBy string_cmp keys
    → IsStrictlySortedBy text_cmp (map string_bytes keys)
unfolding IsStrictlySortedBy
texts_rise [] rise = tt
texts_rise (k ∷ ks) rise = (below_each k ks rise.0, texts_rise ks rise.1)
