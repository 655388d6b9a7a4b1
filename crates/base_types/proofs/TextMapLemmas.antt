-- What a map with text keys has at any octets, before and after a change.
use Rattle.std.proofs.Common.{Result, Ok, Err, OnErr, ◌≡◌, ℕ, Bool, true, false, ◌&&◌, ◌≢◌, suc}
use Rattle.std.proofs.Common.{length, cond, List, [], ◌∷◌, map, refl, String, string_bytes}
use Rattle.std.proofs.Common.{string_cmp, Option, Some, None, BTreeMap, bytes_eq, nat_cmp, sym, ap}
use Rattle.std.proofs.Common.{◌∙◌}
use Rattle.std.specs.Ordering.{is_eq, eq_by_cmp}
use Rattle.std.specs.Cmp.{eq_by_cmp_equiv}
use Rattle.std.specs.Cmp.Lexicographic.{slice_cmp}
use Rattle.std.specs.FinMap as finite
use Rattle.std.specs.FinMap.{get-empty, get-insert, get-remove, same_map}
use Rattle.std.specs.FinMap.Entries.{put, by_order}
use Rattle.std.specs.List.{AllByRecursion}
use Rattle.std.specs.List.Sorted.{IsStrictlySortedBy}
use Rattle.std.specs.declared.cmp.Ordering.TheVariants.{Less}
use Rattle.std.specs.Map.{lookup, keys_of}
use Rattle.std.specs.BTreeMap.{UpdatesBy, get_by_text, IsOrdered}
use Rattle.std.proofs.lemmas.List.{nil_from_length}
use Rattle.std.proofs.lemmas.Map.Keys.{sorted_head, sorted_tail}
use Rattle.std.proofs.lemmas.Map.Lookups.{exact_bytes}
use Rattle.std.proofs.lemmas.Map.Text.{is_eq-slice_cmp, btree_map_updates_text}
use Rattle.std.specs.Cmp.Lexicographic.{pointwise}
use Rattle.base_types.specs.TextMaps.{text_cmp, entries_map, octet_map, same_entry}
use Rattle.base_types.proofs.TextLemmas.{text_total}

get-by_octets : {A V : Type 0} (entries : List (String A × V)) (key : List ℕ)
    → finite.get (entries_map entries) key
    ≡ lookup (λ k. is_eq (slice_cmp nat_cmp key (string_bytes k))) entries
get-by_octets [] key = get-empty text_cmp key
get-by_octets (e ∷ es) key =
    get-insert text_total (entries_map es) (string_bytes e.0) e.1 key
    ∙ ap (cond (eq_by_cmp text_cmp key (string_bytes e.0)) (Some e.1)) (get-by_octets es key)

pub get-texts : {A V : Type 0} (m : BTreeMap (String A) V) (key : List ℕ)
    → finite.get (octet_map m) key ≡ get_by_text m key
get-texts m key = get-by_octets m.entries key

turned : (a b : List ℕ) → bytes_eq a b ≡ eq_by_cmp text_cmp b a
turned a b = sym (is_eq-slice_cmp a b) ∙ (eq_by_cmp_equiv text_total).symm a b

-- a change at one key leaves the values at all other keys
module _ {A V : Type 0} (key : List ℕ) (old new : BTreeMap (String A) V) where
  get-updated : (value : Option V) → UpdatesBy string_cmp
      (λ k. slice_cmp nat_cmp key (string_bytes k)) old new value → (q : List ℕ)
      → finite.get (octet_map new) q ≡ cond (eq_by_cmp text_cmp q key) value
      (finite.get (octet_map old) q)
  get-updated value u q =
      get-texts new q ∙ btree_map_updates_text key old new value u q
      ∙ ap (λ b. cond b value (get_by_text old q)) (turned key q)
      ∙ ap (cond (eq_by_cmp text_cmp q key) value) (sym (get-texts old q))

  pub texts-insert : (value : V) → UpdatesBy string_cmp
      (λ k. slice_cmp nat_cmp key (string_bytes k)) old new (Some value)
      → octet_map new ≡ finite.insert (octet_map old) key value
  texts-insert value u = same_map text_total exact_bytes _ _ (λ q. get-updated (Some value) u q
      ∙ sym (get-insert text_total (octet_map old) key value q))

  pub texts-remove : UpdatesBy string_cmp (λ k. slice_cmp nat_cmp key (string_bytes k)) old new None
      → octet_map new ≡ finite.remove (octet_map old) key
  texts-remove u = same_map text_total exact_bytes _ _ (λ q. get-updated None u q
      ∙ sym (get-remove text_total (octet_map old) key q))

-- an entry, by the octets of its key
abbrev pub octet_entry : {A V : Type 0} → String A × V → List ℕ × V
octet_entry e = (string_bytes e.0, e.1)

put_first : {A V : Type 0} (e : String A × V) (es : List (String A × V))
    → AllByRecursion (λ k. string_cmp e.0 k ≡ Less) (keys_of es)
    → put text_cmp (string_bytes e.0) e.1 (map octet_entry es) ≡ octet_entry e ∷ map octet_entry es
put_first e [] below = refl
put_first e (f ∷ fs) below =
    ap (λ o. by_order o (octet_entry e ∷ octet_entry f ∷ map octet_entry fs) ((
      string_bytes f.0,
      e.1,
    ) ∷ map octet_entry fs) (octet_entry f ∷ put text_cmp (string_bytes e.0) e.1
    (map octet_entry fs))) below.0

entries-by_octets : {A V : Type 0} (es : List (String A × V))
    → IsStrictlySortedBy string_cmp (keys_of es) → finite.entries (entries_map es)
    ≡ map octet_entry es
entries-by_octets [] s = nil_from_length _ (sym (finite.len-entries finite.empty)
    ∙ finite.len-empty text_cmp _)
entries-by_octets (e ∷ es) s =
    finite.entries-insert text_total (entries_map es) (string_bytes e.0) e.1
    ∙ ap (put text_cmp (string_bytes e.0) e.1)
    (entries-by_octets es (sorted_tail string_cmp e.0 (keys_of es) s))
    ∙ put_first e es (sorted_head string_cmp e.0 (keys_of es) s)

-- the entries of a map with text keys are those of the finite map, in the same order
pub entries-texts : {A V : Type 0} (m : BTreeMap (String A) V) → IsOrdered string_cmp m
    → finite.entries (octet_map m) ≡ map octet_entry m.entries
entries-texts m s = entries-by_octets m.entries s

-- what always holds also holds if a call failed
pub on_err_from : {T E P : Type 0} (r : Result T E) → P → OnErr r P
on_err_from (Ok x) p = tt
on_err_from (Err e) p = p

-- entries that are equal pair by pair are so by the octets of their keys
pub same_entries : {A V : Type 0} (same : V → V → Bool) (es fs : List (String A × V))
    → pointwise (λ (p q : String A × V). bytes_eq (string_bytes p.0) (string_bytes q.0)
    && same p.1 q.1) es fs ≡ pointwise (same_entry same) (map octet_entry es)
    (map octet_entry fs)
same_entries same [] [] = refl
same_entries same [] (f ∷ fs) = refl
same_entries same (e ∷ es) [] = refl
same_entries same (e ∷ es) (f ∷ fs) = ap (λ t. same_entry same (octet_entry e) (octet_entry f) && t)
    (same_entries same es fs)

-- lists of two lengths aren't equal pair by pair
pub other_lengths : {X : Type 0} (same : X → X → Bool) (xs ys : List X) → length xs ≢ length ys
    → pointwise same xs ys ≡ false
other_lengths same [] [] ne = absurd (ne refl)
other_lengths same [] (y ∷ ys) ne = refl
other_lengths same (x ∷ xs) [] ne = refl
other_lengths same (x ∷ xs) (y ∷ ys) ne =
    ap (λ t. same x y && t) (other_lengths same xs ys (λ e. ne (ap suc e))) ∙ neither (same x y)
  where
    neither : (b : Bool) → (b && false) ≡ false
    neither true = refl
    neither false = refl
