-- The test of two cards, line by line, decides whether they are equal.
use Rattle.std.proofs.Common.{◌≡◌, Bool, List, Option, Some, None, bytes_eq, refl, ap, ◌∙◌, Decides}
use Rattle.std.proofs.Common.{ℕ}
use Rattle.std.specs.Cmp.{booleans_Decides}
use Rattle.std.specs.Option.{option_eq}
use Rattle.std.specs.Cmp.Lexicographic.{pointwise}
use Rattle.std.proofs.lemmas.Bool.{and_parts}
use Rattle.std.proofs.lemmas.Slice.Eq.{bytes_eq-Decides, slice_eq-Decides}
use Rattle.vcard_lines.specs.declared.line.Line.{Line}
use Rattle.vcard_lines.specs.declared.line.Param.{Param}
use Rattle.vcard_lines.specs.declared.line.ParamValue.{ParamValue}
use Rattle.book_model.specs.SameCards.{same_value, same_param, same_line, same_card}
use Rattle.book_model.proofs.BasicLemmas.{both}

value-Decides : (a b : ParamValue) → Decides (same_value a b) (a ≡ b)
value-Decides a b = (
  λ e. let parts = and_parts _ _ e in
      let quoted : a.quoted ≡ b.quoted = (booleans_Decides a.quoted b.quoted).0 parts.0 in
      let text : a.text ≡ b.text = (bytes_eq-Decides a.text b.text).0 parts.1 in
      ap (λ (q : Bool). let v : ParamValue = record { quoted = q; text = a.text } in v) quoted
      ∙ ap (λ (t : List ℕ). let v : ParamValue = record { quoted = b.quoted; text = t } in
      v) text,
  λ e. both _ _ ((booleans_Decides a.quoted b.quoted).1 (ap (λ (v : ParamValue). v.quoted) e))
      ((bytes_eq-Decides a.text b.text).1 (ap (λ (v : ParamValue). v.text) e)),
)

values-Decides : (xs ys : List ParamValue) → Decides (pointwise same_value xs ys) (xs ≡ ys)
values-Decides xs ys = slice_eq-Decides value-Decides xs ys _ refl

param-Decides : (a b : Param) → Decides (same_param a b) (a ≡ b)
param-Decides a b = (
  λ e. let parts = and_parts _ _ e in
      let name : a.name ≡ b.name = (bytes_eq-Decides a.name b.name).0 parts.0 in
      let values : a.values ≡ b.values = (values-Decides a.values b.values).0 parts.1 in
      ap (λ (n : List ℕ). let p : Param = record { name = n; values = a.values } in p) name
      ∙ ap (λ (vs : List ParamValue). let p : Param = record { name = b.name; values = vs } in
      p) values,
  λ e. both _ _ ((bytes_eq-Decides a.name b.name).1 (ap (λ (p : Param). p.name) e))
      ((values-Decides a.values b.values).1 (ap (λ (p : Param). p.values) e)),
)

params-Decides : (xs ys : List Param) → Decides (pointwise same_param xs ys) (xs ≡ ys)
params-Decides xs ys = slice_eq-Decides param-Decides xs ys _ refl

group-Decides : (a b : Option (List ℕ)) → Decides (option_eq bytes_eq a b) (a ≡ b)
group-Decides None None = (λ e. refl, λ e. refl)
group-Decides None (Some y) = (λ e. cc, λ e. cc)
group-Decides (Some x) None = (λ e. cc, λ e. cc)
group-Decides (Some x) (Some y) = (
  λ e. ap Some ((bytes_eq-Decides x y).0 e),
  λ e. let is :
      x ≡ y = cc in (bytes_eq-Decides x y).1 is,
)

line-Decides : (a b : Line) → Decides (same_line a b) (a ≡ b)
line-Decides a b = (
  λ e.
      let last = and_parts _ _ e in
      let third = and_parts _ _ last.0 in
      let second = and_parts _ _ third.0 in
      let group : a.group ≡ b.group = (group-Decides a.group b.group).0 second.0 in
      let name : a.name ≡ b.name = (bytes_eq-Decides a.name b.name).0 second.1 in
      let params : a.params ≡ b.params = (params-Decides a.params b.params).0 third.1 in
      let value : a.value ≡ b.value = (bytes_eq-Decides a.value b.value).0 last.1 in
      ap (λ (g : Option (List ℕ)). line g a.name a.params a.value) group
      ∙ ap (λ (n : List ℕ). line b.group n a.params a.value) name
      ∙ ap (λ (ps : List Param). line b.group b.name ps a.value) params
      ∙ ap (λ (v : List ℕ). line b.group b.name b.params v) value,
  λ e. both _ _
      (both _ _
      (both _ _ ((group-Decides a.group b.group).1 (ap (λ (l : Line). l.group) e))
      ((bytes_eq-Decides a.name b.name).1 (ap (λ (l : Line). l.name) e)))
      ((params-Decides a.params b.params).1 (ap (λ (l : Line). l.params) e)))
      ((bytes_eq-Decides a.value b.value).1 (ap (λ (l : Line). l.value) e)),
)
  where
    line : Option (List ℕ) → List ℕ → List Param → List ℕ → Line
    line g n ps v = record { group = g; name = n; params = ps; value = v }

pub card-Decides : (a b : List Line) → Decides (same_card a b) (a ≡ b)
card-Decides a b = slice_eq-Decides line-Decides a b _ refl
