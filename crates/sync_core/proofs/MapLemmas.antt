-- Values moved out of a map and written back.
use Rattle.std.proofs.Common.{◌≡◌, ◌≢◌, ℕ, true, false, cond, List, Option, Some, None, Result, Ok}
use Rattle.std.proofs.Common.{Err, OnOk, OnErr, IfSome, IsSomeAnd, subst, refl, sym, ap, ◌∙◌}
use Rattle.std.specs.FinMap as finite
use Rattle.std.specs.FinMap.{get-insert, same_map}
use Rattle.std.proofs.lemmas.Bool.{cond-false}
use Rattle.std.proofs.lemmas.Map.Lookups.{exact_bytes}
use Rattle.base_types.specs.TextMaps.{text_cmp}
use Rattle.base_types.proofs.TextLemmas.{text_total, same, same-equal, same-other, insert_over}
use Rattle.base_types.proofs.TextLemmas.{insert-insert, get-insert_here}

module _ {X : Type 0} (m : finite.FinMap text_cmp X) where
  -- overwriting a value with itself changes nothing
  pub insert_same : (k : List ℕ) (w : X) → finite.get m k ≡ Some w → finite.insert m k w ≡ m
  insert_same k w here = same_map text_total exact_bytes _ _ (λ q.
      get-insert text_total m k w q
      ∙ elim (same q k) as (λ b. same q k ≡ b → cond b (Some w) (finite.get m q) ≡ finite.get m q) [
        | true ↦ λ t. sym (ap (finite.get m) (same-equal q k t) ∙ here)
        | false ↦ λ t. refl
      ] refl)

  pub restore_row : (k : List ℕ) (v w : X) → finite.get m k ≡ Some w
      → finite.insert (finite.insert m k v) k w ≡ m
  restore_row k v w here = insert_over m k v w ∙ insert_same k w here

  -- a write at another key leaves this key's value
  pub get_other : (k q : List ℕ) (v : X) → q ≢ k → finite.get (finite.insert m k v) q
      ≡ finite.get m q
  get_other k q v ne = get-insert text_total m k v q ∙ cond-false _ _ _ (same-other q k ne)

pub on_ok_map : {T E : Type 0} {P Q : Type 0} (r : Result T E) → OnOk r P → (P → Q) → OnOk r Q
on_ok_map (Ok x) p f = f p
on_ok_map (Err e) p f = tt

pub on_err_map : {T E : Type 0} {P Q : Type 0} (r : Result T E) → OnErr r P → (P → Q) → OnErr r Q
on_err_map (Ok x) p f = tt
on_err_map (Err e) p f = f p

-- a value moved out of the map, and another one written at its key
pub in_place : {X : Type 0} (m one two : finite.FinMap text_cmp X) (k : List ℕ) (v w : X) (second :
    Option X) → one ≡ finite.insert m k v → second ≡ finite.get one k
    → IfSome second (λ _. two ≡ finite.insert one k w) → two ≡ finite.insert m k w
in_place {X = X} m one two k v w second out is wrote =
    let there : second ≡ Some v = is ∙ ap (λ n. finite.get n k) out ∙ get-insert_here m k v in
    let put : two ≡ finite.insert one k w =
    subst (λ (o : Option X). IfSome o (λ _. two ≡ finite.insert one k w)) there wrote in
    put ∙ ap (λ n. finite.insert n k w) out ∙ insert_over m k v w

-- two values moved out of the map, and others written at their keys
pub both_in_place : {X : Type 0} (m one two three four : finite.FinMap text_cmp X) (from to :
    List ℕ) (v w x y : X) (third fourth : Option X) → from ≢ to
    → one ≡ finite.insert m from v → two ≡ finite.insert one to w
    → third ≡ finite.get two to → IfSome third (λ _. three ≡ finite.insert two to x)
    → fourth ≡ finite.get three from → IfSome fourth (λ _. four ≡ finite.insert three from y)
    → four ≡ finite.insert (finite.insert m to x) from y
both_in_place {X = X} m one two three four from to v w x y third fourth apart e1 e2 is3 w3 is4 w4 =
    let e3 : three ≡ finite.insert one to x = in_place one two three to w x third e2 is3 w3 in
    let there : fourth ≡ Some v = is4 ∙ ap (λ n. finite.get n from) e3
    ∙ get_other one to from x apart ∙ ap (λ n. finite.get n from) e1
    ∙ get-insert_here m from v in
    let e4 : four ≡ finite.insert three from y =
    subst (λ (o : Option X). IfSome o (λ _. four ≡ finite.insert three from y)) there w4 in
    e4 ∙ ap (λ n. finite.insert n from y) (e3 ∙ ap (λ n. finite.insert n to x) e1
    ∙ insert-insert m to from x v (same-other from to apart))
    ∙ insert_over (finite.insert m to x) from v y

pub none_there : {X : Type 0} (o : Option X) (P : X → Type 0) → o ≡ None → IsSomeAnd o P → ⊥
none_there {X = X} o P e h = subst (λ (q : Option X). IsSomeAnd q P) e h

pub on_ok_both : {T E : Type 0} (r : Result T E) (P Q : Type 0) → OnOk r P → OnOk r Q
    → OnOk r (P × Q)
on_ok_both (Ok x) P Q p q = (p, q)
on_ok_both (Err e) P Q p q = tt

pub on_err_both : {T E : Type 0} (r : Result T E) (P Q : Type 0) → OnErr r P → OnErr r Q
    → OnErr r (P × Q)
on_err_both (Ok x) P Q p q = tt
on_err_both (Err e) P Q p q = (p, q)

pub if_some_map : {X : Type 0} (o : Option X) (P Q : X → Type 0) → IfSome o P
    → ((x : X) → P x → Q x) → IfSome o Q
if_some_map (Some x) P Q p f = f x p
if_some_map None P Q p f = tt
