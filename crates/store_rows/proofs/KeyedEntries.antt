-- Items with unique keys, of which some are entries of a map.
use Rattle.std.proofs.Common.{◌≡◌, inl, inr, ℕ, Bool, true, false, ◌&&◌, cond, List, [], ◌∷◌, map}
use Rattle.std.proofs.Common.{filter, find, Option, Some, None, Ordering, Less, Equal, Greater}
use Rattle.std.proofs.Common.{bytes_eq, is_eq, IsPermutation, refl, sym, ap, subst, ◌∙◌, true≢false}
use Rattle.std.specs.List.{AllByRecursion}
use Rattle.std.specs.Option.{option_map, option_and_then}
use Rattle.std.specs.Ordering.{eq_by_cmp}
use Rattle.std.specs.FinMap as finite
use Rattle.std.specs.FinMap.Entries.{put}
use Rattle.std.proofs.lemmas.List.{nil_from_length}
use Rattle.std.proofs.lemmas.List.Sorted.{IsPermutation-refl, IsPermutation-cons}
use Rattle.std.proofs.lemmas.List.Sorted.{IsPermutation-middle, IsPermutation-trans}
use Rattle.std.proofs.lemmas.Map.Lookups.{exact_bytes}
use Rattle.std.proofs.lemmas.Map.Text.{is_eq-slice_cmp}
use Rattle.std.proofs.lemmas.Bool.{and_parts}
use Rattle.sqlite_rules.specs.Lists.{Has}
use Rattle.sqlite_trees.specs.Tree.{IsAscending}
use Rattle.sqlite_trees.proofs.ListLemmas.{along_permutation, IsPermutation-same, all_weaker}
use Rattle.sqlite_trees.proofs.ListLemmas.{all-permutation, ascending_weaker}
use Rattle.base_types.specs.TextMaps.{text_cmp}
use Rattle.base_types.proofs.TextLemmas.{text_total, same_text}
use Rattle.book_model.proofs.BasicLemmas.{same_Some_at}
use Rattle.store_tables.proofs.KeyedRows.{all_has, text_itself}

-- ---- texts and tests

pub key_is : (a b : List ℕ) → eq_by_cmp text_cmp a b ≡ bytes_eq a b
key_is a b = is_eq-slice_cmp a b

pub text_turned : (a b : List ℕ) → bytes_eq a b ≡ bytes_eq b a
text_turned a b = go (bytes_eq a b) (bytes_eq b a) refl refl
  where
    go : (s t : Bool) → bytes_eq a b ≡ s → bytes_eq b a ≡ t → s ≡ t
    go true true e k = refl
    go false false e k = refl
    go true false e k = absurd (true≢false (sym (text_itself a)
        ∙ ap (λ x. bytes_eq x a) (same_text a b e) ∙ k))
    go false true e k = absurd (true≢false (sym (text_itself b)
        ∙ ap (λ x. bytes_eq x b) (same_text b a k) ∙ e))

-- ---- the first item that passes

pub find_none : {X : Type 0} (p : X → Bool) (xs : List X) → filter p xs ≡ [] → find p xs ≡ None
find_none p [] h = refl
find_none p (x ∷ xs) h = step (p x) refl h (find_none p xs)
  where
    step : (b : Bool) → p x ≡ b → filter p (x ∷ xs) ≡ [] → (filter p xs ≡ [] → find p xs ≡ None)
        → find p (x ∷ xs) ≡ None
    step true e h more = absurd (let k = rw e at h in cc)
    step false e h more = rw e (more (rw e at h))

pub has_filtered : {X : Type 0} (p : X → Bool) (xs : List X) (x : X) → Has (filter p xs) x
    → Has xs x × (p x ≡ true)
has_filtered p [] x h = absurd h
has_filtered p (y ∷ ys) x h = step (p y) refl h (has_filtered p ys x)
  where
    step : (b : Bool) → p y ≡ b → Has (filter p (y ∷ ys)) x
        → (Has (filter p ys) x → Has ys x × (p x ≡ true)) → Has (y ∷ ys) x × (p x ≡ true)
    step true e h more = elim (rw e at h) [
      | inl same ↦ (inl same, ap p same ∙ e)
      | inr k ↦
          let it = more k in (inr it.0, it.1)
    ]
    step false e h more = let it = more (rw e at h) in (inr it.0, it.1)

pub found_has : {X : Type 0} (p : X → Bool) (xs : List X) (x : X) → find p xs ≡ Some x → Has xs x
    × (p x ≡ true)
found_has p [] x h = absurd cc
found_has p (y ∷ ys) x h = step (p y) refl (found_has p ys x)
  where
    step : (b : Bool) → p y ≡ b → (find p ys ≡ Some x → Has ys x × (p x ≡ true)) → Has (y ∷ ys) x
        × (p x ≡ true)
    step true e more = let same : y ≡ x = same_Some_at y x (rw e at h) in
        (inl (sym same), ap p (sym same) ∙ e)
    step false e more = let it = more (rw e at h) in (inr it.0, it.1)

-- at most one item passes
abbrev pub Single : {X : Type 0} → (X → Bool) → List X → Type 0
Single p = IsAscending (λ a b. p a ≡ true → p b ≡ false)

pub find_single : {X : Type 0} (p : X → Bool) (xs : List X) (x : X) → Single p xs → Has xs x
    → p x ≡ true → find p xs ≡ Some x
find_single p [] x one h here = absurd h
find_single p (y ∷ ys) x one (inl same) here = rw (ap p (sym same) ∙ here) (ap Some (sym same))
find_single p (y ∷ ys) x one (inr h) here = step (p y) refl (find_single p ys x one.1 h here)
  where
    step : (b : Bool) → p y ≡ b → find p ys ≡ Some x → find p (y ∷ ys) ≡ Some x
    step true e more = absurd (true≢false (sym here
        ∙ all_has (λ z. p y ≡ true → p z ≡ false) ys x one.0 h e))
    step false e more = rw e more

nothing_found : {X : Type 0} (p r : X → Bool) (ys : List X) → AllByRecursion (λ y. p y ≡ false) ys
    → find p (filter r ys) ≡ None
nothing_found p r [] h = refl
nothing_found p r (y ∷ ys) h = step (r y) refl (nothing_found p r ys h.1)
  where
    step : (b : Bool) → r y ≡ b → find p (filter r ys) ≡ None → find p (filter r (y ∷ ys)) ≡ None
    step true e more = rw (e, h.0) more
    step false e more = rw e more

-- the item that passes stays if it is kept by the filter
pub find_left : {X : Type 0} (p r : X → Bool) (xs : List X) → Single p xs
    → find p (filter r xs) ≡ option_and_then (λ x. cond (r x) (Some x) None) (find p xs)
find_left p r [] one = refl
find_left p r (x ∷ xs) one = step (p x) (r x) refl refl (find_left p r xs one.1)
  where
    step : (a b : Bool) → p x ≡ a → r x ≡ b
        → find p (filter r xs) ≡ option_and_then (λ x. cond (r x) (Some x) None) (find p xs)
        → find p (filter r (x ∷ xs)) ≡ option_and_then (λ x. cond (r x) (Some x) None)
        (find p (x ∷ xs))
    step true true e k more = rw (e, k, e)
    step true false e k more = rw (
      e,
      k,
    ) (nothing_found p r xs (all_weaker _ (λ y. p y ≡ false) (λ y h. h e) xs one.0))
    step false true e k more = rw (e, k, e) more
    step false false e k more = rw (e, k) more

module _ {X : Type 0} (p : X → Bool) where
  abbrev Others : X → List X → Type 0
  Others x = AllByRecursion (λ y. p x ≡ true → p y ≡ false)

  record Moves (xs ys : List X) : Type 0 where
    away : (x : X) → Others x xs → Others x ys
    single : Single p xs → Single p ys
    finds : Single p xs → find p xs ≡ find p ys

  turn : (x y : X) → (p x ≡ true → p y ≡ false) → p y ≡ true → p x ≡ false
  turn x y h here = go (p x) refl
    where
      go : (b : Bool) → p x ≡ b → b ≡ false
      go false e = refl
      go true e = absurd (true≢false (sym here ∙ h e))

  swap : (x y : X) (r : Option X) → (p x ≡ true → p y ≡ false)
      → cond (p x) (Some x) (cond (p y) (Some y) r) ≡ cond (p y) (Some y) (cond (p x) (Some x) r)
  swap x y r h = go (p x) (p y) refl refl
    where
      go : (a b : Bool) → p x ≡ a → p y ≡ b → cond a (Some x) (cond b (Some y) r)
          ≡ cond b (Some y) (cond a (Some x) r)
      go true true e k = absurd (true≢false (sym k ∙ h e))
      go true false e k = refl
      go false b e k = refl

  moves : (xs ys : List X) → IsPermutation xs ys → Moves xs ys
  moves = along_permutation Moves
      (λ xs. record { away = λ x h. h; single = λ d. d; finds = λ d. refl })
      (λ x xs ys m. record {
        away = λ z h. (h.0, m.away z h.1);
        single = λ d. (m.away x d.0, m.single d.1);
        finds = λ d. ap (cond (p x) (Some x)) (m.finds d.1);
      })
      (λ x y xs. record {
        away = λ z h. (h.1.0, (h.0, h.1.1));
        single = λ d. ((turn x y d.0.0, d.1.0), (d.0.1, d.1.1));
        finds = λ d. swap x y (find p xs) d.0.0;
      })
      (λ xs ys zs m n. record {
        away = λ x h. n.away x (m.away x h);
        single = λ d. n.single (m.single d);
        finds = λ d. m.finds d ∙ n.finds (m.single d);
      })

  -- the item that passes does not depend on the order
  pub find_moved : (xs ys : List X) → IsPermutation xs ys → Single p xs → find p xs ≡ find p ys
  find_moved xs ys h = (moves xs ys h).finds

  pub single_moved : (xs ys : List X) → IsPermutation xs ys → Single p xs → Single p ys
  single_moved xs ys h = (moves xs ys h).single

-- ---- entries

module _ {V : Type 0} where
  abbrev Away : List ℕ → List (List ℕ × V) → Type 0
  Away k = AllByRecursion (λ e. bytes_eq e.0 k ≡ false)

  put_away : (k : List ℕ) (v : V) (es : List (List ℕ × V)) → Away k es
      → IsPermutation ((k, v) ∷ es) (put text_cmp k v es)
  put_away k v [] h = IsPermutation-refl ((k, v) ∷ [])
  put_away k v (e ∷ es) h = step (text_cmp k e.0) refl (put_away k v es h.1)
    where
      step : (o : Ordering) → text_cmp k e.0 ≡ o → IsPermutation ((k, v) ∷ es) (put text_cmp k v es)
          → IsPermutation ((k, v) ∷ e ∷ es) (put text_cmp k v (e ∷ es))
      step Less is more = rw is (IsPermutation-refl ((k, v) ∷ e ∷ es))
      step Equal is more = absurd (true≢false (ap is_eq (sym is) ∙ key_is k e.0 ∙ text_turned k e.0
          ∙ h.0))
      step Greater is more = rw is (IsPermutation-trans _ _ _ (IsPermutation-middle ((k, v) ∷ []) e
          es) (IsPermutation-cons e _ _ more))

-- the entries of the selected items, by key
module _ {X V : Type 0} (mine : X → Bool) (key : X → List ℕ) (value : X → V) where
  abbrev pub here : List ℕ → X → Bool
  here q x = mine x && bytes_eq (key x) q

  abbrev pub entry : X → List ℕ × V
  entry x = (key x, value x)

  abbrev pub map_of : List X → finite.FinMap text_cmp V
  map_of xs = finite.from_entries (map entry (filter mine xs))

  -- no two selected items share a key
  abbrev pub Once : List X → Type 0
  Once = IsAscending (λ a b. mine a ≡ true → here (key a) b ≡ false)

  -- ---- look-ups

  found_entry : (q : List ℕ) (xs : List X) → finite.find text_cmp q (map entry (filter mine xs))
      ≡ option_map value (find (here q) xs)
  found_entry q [] = refl
  found_entry q (x ∷ xs) = step (mine x) (bytes_eq (key x) q) refl refl (found_entry q xs)
    where
      step : (a b : Bool) → mine x ≡ a → bytes_eq (key x) q ≡ b
          → finite.find text_cmp q (map entry (filter mine xs)) ≡ option_map value
          (find (here q) xs)
          → finite.find text_cmp q (map entry (filter mine (x ∷ xs))) ≡ option_map value
          (find (here q) (x ∷ xs))
      step true true e k more = rw (e, key_is q (key x) ∙ text_turned q (key x) ∙ k, k)
      step true false e k more = rw (e, key_is q (key x) ∙ text_turned q (key x) ∙ k, k) more
      step false b e k more = rw e more

  pub get_is : (xs : List X) (q : List ℕ)
      → finite.get (map_of xs) q ≡ option_map value (find (here q) xs)
  get_is xs q = finite.get-from_entries text_total (map entry (filter mine xs)) q ∙ found_entry q xs

  pub once_single : (q : List ℕ) (xs : List X) → Once xs → Single (here q) xs
  once_single q xs once = ascending_weaker (λ a b. mine a ≡ true → here (key a) b ≡ false)
      (λ a b. here q a ≡ true → here q b ≡ false)
      (λ a b h e. let same = and_parts (mine a) (bytes_eq (key a) q) e in
      ap (λ k. here k b) (sym (same_text (key a) q same.1)) ∙ h same.0) xs once

  -- ---- the order is irrelevant

  pub same_maps : (xs ys : List X) → IsPermutation xs ys → Once xs → map_of xs ≡ map_of ys
  same_maps xs ys h once = finite.same_map text_total exact_bytes _ _ (λ q.
      get_is xs q ∙ ap (option_map value) (find_moved (here q) xs ys h (once_single q xs once))
      ∙ sym (get_is ys q))

  -- ---- the map has just these entries

  away_entries : (x : X) (ys : List X) → mine x ≡ true → AllByRecursion (λ y. mine x ≡ true
      → here (key x) y ≡ false) ys → Away (key x) (map entry (filter mine ys))
  away_entries x [] is h = tt
  away_entries x (y ∷ ys) is h = step (mine y) refl (away_entries x ys is h.1)
    where
      step : (b : Bool) → mine y ≡ b → Away (key x) (map entry (filter mine ys))
          → Away (key x) (map entry (filter mine (y ∷ ys)))
      step true e more = rw e (sym (ap (λ b. b && bytes_eq (key y) (key x)) e) ∙ h.0 is, more)
      step false e more = rw e more

  pub entries_are : (xs : List X) → Once xs
      → IsPermutation (map entry (filter mine xs)) (finite.entries (map_of xs))
  entries_are [] once = IsPermutation-same _ _
      (sym (nil_from_length _ (sym (finite.len-entries (finite.empty {X = V} {R = text_cmp}))
      ∙ finite.len-empty text_cmp V)))
  entries_are (x ∷ xs) once = step (mine x) refl (entries_are xs once.1)
    where
      step : (b : Bool) → mine x ≡ b → IsPermutation (map entry (filter mine xs))
          (finite.entries (map_of xs)) → IsPermutation (map entry (filter mine (x ∷ xs)))
          (finite.entries (map_of (x ∷ xs)))
      step true e more = rw e (subst (IsPermutation (entry x ∷ map entry (filter mine xs)))
          (sym (finite.entries-insert text_total (map_of xs) (key x) (value x)))
          (IsPermutation-trans _ _ _ (IsPermutation-cons (entry x) _ _ more)
          (put_away (key x) (value x) _ (all-permutation (λ f. bytes_eq f.0 (key x) ≡ false) _ _
          more (away_entries x xs e once.0)))))
      step false e more = rw e more

  -- ---- one item more, or fewer items

  pub added_mine : (x : X) (xs : List X) → mine x ≡ true
      → map_of (x ∷ xs) ≡ finite.insert (map_of xs) (key x) (value x)
  added_mine x xs e = rw e refl

  pub added_other : (x : X) (xs : List X) → mine x ≡ false → map_of (x ∷ xs) ≡ map_of xs
  added_other x xs e = rw e refl

  -- no item is selected
  pub none_mine : (xs : List X) → AllByRecursion (λ x. mine x ≡ false) xs → map_of xs ≡ finite.empty
  none_mine [] h = refl
  none_mine (x ∷ xs) h = added_other x xs h.0 ∙ none_mine xs h.1
