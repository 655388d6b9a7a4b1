-- The line that is read of a text is the line that the text spells.
use Rattle.std.proofs.Common.{◌≡◌, ◌↔◌, ℕ, true, false, cond, ◌==◌, List, [], ◌∷◌, ◌++◌, Option}
use Rattle.std.proofs.Common.{Some, None, Result, Ok, Err, refl, sym, ap, subst, ◌∙◌, append_assoc}
use Rattle.std.specs.Prelude.{IfSome}
use Rattle.std.specs.List.{list_all}
use Rattle.std.proofs.lemmas.Bool.Decides.{nat_tests}
use Rattle.std.proofs.Common.{arith}
use Rattle.vcard_lines.specs.declared.fault.CardFault.{CardFault}
use Rattle.vcard_lines.specs.declared.fault.CardFault.TheVariants.{BadChar}
use Rattle.vcard_lines.specs.declared.line.Param.{Param}
use Rattle.vcard_lines.specs.declared.line.Line.{Line}
use Rattle.vcard_lines.specs.ParseSteps.{◌>>=◌, strip_byte, or_bad_line}
use Rattle.vcard_lines.specs.Grammar.{is_name_octet, is_permitted, IsName, params_text, group_text}
use Rattle.vcard_lines.specs.Grammar.{HasLineParts, SpellsLine}
use Rattle.vcard_lines.specs.Parsing.{parse_name, parse_params, parse_head_by, parse_head}
use Rattle.vcard_lines.specs.Parsing.{make_line, parse_parts, parse_line}
use Rattle.vcard_lines.proofs.FrontLemmas.{Stops, of_class, all_of_class}
use Rattle.vcard_lines.proofs.StepLemmas.{bind_ok, same_ok, same_triple, some_read, was_stripped}
use Rattle.vcard_lines.proofs.PartLemmas.{Begins, ends_param, name_reader, params_reader}

-- ---- the group and the name

head_takes : (text : List ℕ) (group : Option (List ℕ)) (name rest : List ℕ)
    → parse_head text ≡ Ok (group, name, rest) → IfSome group IsName × IsName name
    × (text ≡ group_text group ++ (name ++ rest))
unfolding parse_head parse_head_by
head_takes text group name rest e =
    let first = bind_ok (parse_name text) _ _ e in
    let n = name_reader.takes text first.0.0 first.0.1 first.1 in
    elim (strip_byte 46 first.0.1) as (λ p. strip_byte 46 first.0.1 ≡ p
    → parse_head_by first.0.0 first.0.1 p ≡ Ok (group, name, rest) → IfSome group IsName
    × IsName name × (text ≡ group_text group ++ (name ++ rest))) [
      | None ↦ λ p h.
          let none : Option (List ℕ) = None in
          let q = same_triple none group first.0.0 name first.0.1 rest h in (
            subst (λ g. IfSome g IsName) q.0 tt,
            subst IsName q.1 n.0,
            n.1 ∙ ap (λ g. group_text g ++ (first.0.0 ++ first.0.1)) q.0
                ∙ ap (λ x. group_text group ++ (x ++ first.0.1)) q.1
                ∙ ap (λ b. group_text group ++ (name ++ b)) q.2,
          )
      | Some more ↦ λ p h.
          let second = bind_ok (parse_name more) _ _ h in
          let m = name_reader.takes more second.0.0 second.0.1 second.1 in
          let q = same_triple (Some first.0.0) group second.0.0 name second.0.1 rest second.2 in (
            subst (λ g. IfSome g IsName) q.0 n.0,
            subst IsName q.1 m.0,
            n.1 ∙ ap (λ b. first.0.0 ++ b) (was_stripped 46 first.0.1 more p ∙ ap (λ t. 46 ∷ t) m.1)
                ∙ sym (append_assoc first.0.0 (46 ∷ []) (second.0.0 ++ second.0.1))
                ∙ ap (λ g. group_text g ++ (second.0.0 ++ second.0.1)) q.0
                ∙ ap (λ x. group_text group ++ (x ++ second.0.1)) q.1
                ∙ ap (λ b. group_text group ++ (name ++ b)) q.2,
          )
    ] refl first.2

ends_name : (c : ℕ) → ends_param c ≡ true → is_name_octet c ≡ false
ends_name c e = grind (arith, nat_tests)

no_dot : (c : ℕ) → ends_param c ≡ true → (c == 46) ≡ false
no_dot c e = grind (arith, nat_tests)

name_stops : (rest : List ℕ) → Begins ends_param rest → Stops is_name_octet rest
name_stops [] b = tt
name_stops (c ∷ cs) b = ends_name c b

stripped_no_dot : (rest : List ℕ) → Begins ends_param rest → strip_byte 46 rest ≡ None
stripped_no_dot [] b = refl
stripped_no_dot (c ∷ cs) b = ap (λ t. cond t (Some cs) None) (no_dot c b)

head_again : (group : Option (List ℕ)) (name rest : List ℕ) → IfSome group IsName → IsName name
    → Begins ends_param rest → parse_head (group_text group ++ (name ++ rest)) ≡ Ok (
      group,
      name,
      rest,
    )
unfolding parse_head parse_head_by
head_again None name rest g n b =
    ap (λ (r : Result (List ℕ × List ℕ) CardFault). r >>= λ first. parse_head_by first.0 first.1
    (strip_byte 46 first.1)) (name_reader.again name rest n (name_stops rest b))
    ∙ ap (parse_head_by name rest) (stripped_no_dot rest b)
head_again (Some group) name rest g n b =
    ap parse_head (append_assoc group (46 ∷ []) (name ++ rest))
    ∙ ap (λ (r : Result (List ℕ × List ℕ) CardFault). r >>= λ first. parse_head_by first.0 first.1
    (strip_byte 46 first.1)) (name_reader.again group (46 ∷ (name ++ rest)) g refl)
    ∙ ap (λ (r : Result (List ℕ × List ℕ) CardFault). r >>= λ second. Ok (
      Some group,
      second.0,
      second.1,
    )) (name_reader.again name rest n (name_stops rest b))

-- ---- the parts together

parts_found : (text : List ℕ) (line : Line) → parse_parts text ≡ Ok line → HasLineParts text line
unfolding parse_parts
parts_found text line e =
    let head = bind_ok (parse_head text) _ _ e in
    let params = bind_ok (parse_params head.0.2) _ _ head.2 in
    let value = bind_ok (or_bad_line (strip_byte 58 params.0.1)) _ _ params.2 in
    let h = head_takes text head.0.0 head.0.1 head.0.2 head.1 in
    let p = params_reader.takes head.0.2 params.0.0 params.0.1 params.1 in
    let v : params.0.1 ≡ 58 ∷ value.0 = was_stripped 58 _ value.0 (some_read _ value.0 value.1) in
    subst (HasLineParts text) (same_ok (make_line head.0.0 head.0.1 params.0.0 value.0) line
    value.2) (record {
      name_written = head.0.1;
      name = refl;
      is_name = h.1;
      group = h.0;
      params = p.0;
      text_is = h.2 ∙ ap (λ t. group_text head.0.0 ++ (head.0.1 ++ t)) (p.1
          ∙ ap (λ t. params_text params.0.0 ++ t) v);
    })

begins_params : (params : List Param) (value : List ℕ)
    → Begins ends_param (params_text params ++ 58 ∷ value)
begins_params [] value = refl
begins_params (p ∷ ps) value = refl

parts_again : (text : List ℕ) (line : Line) → HasLineParts text line → parse_parts text ≡ Ok line
unfolding parse_parts
parts_again text line h =
    ap parse_parts h.text_is
    ∙ ap (λ (r : Result (Option (List ℕ) × List ℕ × List ℕ) CardFault). r >>= λ head. parse_params
    head.2 >>= λ params. or_bad_line (strip_byte 58 params.1) >>= λ value. Ok
    (make_line head.0 head.1 params.0 value))
    (head_again line.group h.name_written (params_text line.params ++ 58 ∷ line.value) h.group
    h.is_name (begins_params line.params line.value))
    ∙ ap (λ (r : Result (List Param × List ℕ) CardFault). r >>= λ params. or_bad_line
    (strip_byte 58 params.1) >>= λ value. Ok (make_line line.group h.name_written params.0
    value)) (params_reader.again line.params (58 ∷ line.value) h.params (refl, refl))
    ∙ ap (λ n. Ok (record {
      group = line.group;
      name = n;
      params = line.params;
      value = line.value;
    })) (sym h.name)

-- ---- with the characters

pub line_found : (text : List ℕ) (line : Line) → parse_line text ≡ Ok line → SpellsLine text line
unfolding parse_line
line_found text line e =
    elim (list_all is_permitted text) as (λ t. list_all is_permitted text ≡ t
    → cond t (parse_parts text) (Err BadChar) ≡ Ok line → SpellsLine text line) [
      | true ↦ λ t h. record {
        permitted = of_class is_permitted text t;
        parts = parts_found text line h;
      }
      | false ↦ λ t h. absurd cc
    ] refl e

pub line_again : (text : List ℕ) (line : Line) → SpellsLine text line → parse_line text ≡ Ok line
unfolding parse_line
line_again text line s = ap (λ t. cond t (parse_parts text) (Err BadChar))
    (all_of_class is_permitted text s.permitted) ∙ parts_again text line s.parts

-- a text spells at most one line
pub one_line : (text : List ℕ) (a b : Line) → SpellsLine text a → SpellsLine text b → a ≡ b
one_line text a b s t = same_ok a b (sym (line_again text a s) ∙ line_again text b t)

pub line_is_read : (text : List ℕ) (line : Line)
    → SpellsLine text line ↔ (parse_line text ≡ Ok line)
line_is_read text line = (line_again text line, line_found text line)
