-- The parts of a line by test, and as the grammar says.
use Rattle.std.proofs.Common.{◌≡◌, ℕ, ◌<◌, true, nat_lt, List, [], ◌∷◌, length, Option, Some, None}
use Rattle.std.proofs.Common.{refl, arith}
use Rattle.std.specs.Prelude.{IfSome}
use Rattle.std.specs.List.{AllByRecursion, list_all}
use Rattle.std.proofs.lemmas.Bool.{and_parts, ltb-true}
use Rattle.std.proofs.lemmas.Bool.Decides.{nat_tests}
use Rattle.vcard_lines.specs.declared.line.ParamValue.{ParamValue}
use Rattle.vcard_lines.specs.declared.line.Param.{Param}
use Rattle.vcard_lines.specs.declared.line.Line.{Line}
use Rattle.vcard_lines.specs.Grammar.{is_name_octet, is_value_octet, IsName, IsValue, IsParam}
use Rattle.vcard_lines.specs.LegalParts.{HasLegalParts, is_name, is_value, is_param, is_group_name}
use Rattle.vcard_lines.specs.LegalParts.{has_legal_parts}
use Rattle.vcard_lines.proofs.FrontLemmas.{of_class, all_of_class}

pub name_from_test : (octets : List ℕ) → is_name octets ≡ true → IsName octets
name_from_test octets e =
    let p = and_parts (nat_lt 0 (length octets)) (list_all is_name_octet octets) e in
    record {
      nonempty = ltb-true 0 (length octets) p.0;
      of_class = of_class is_name_octet octets p.1;
    }

lt_test : (n : ℕ) → 0 < n → nat_lt 0 n ≡ true
lt_test n l = grind (arith, nat_tests, l)

pub name_to_test : (octets : List ℕ) → IsName octets → is_name octets ≡ true
name_to_test octets n = rw (
  lt_test (length octets) n.nonempty,
  all_of_class is_name_octet octets n.of_class,
) refl

values_from_test : (values : List ParamValue) → list_all is_value values ≡ true
    → AllByRecursion IsValue values
values_from_test [] e = tt
values_from_test (v ∷ vs) e = let p = and_parts (is_value v) (list_all is_value vs) e in
    (of_class (is_value_octet v.quoted) v.text p.0, values_from_test vs p.1)

values_to_test : (values : List ParamValue) → AllByRecursion IsValue values
    → list_all is_value values ≡ true
values_to_test [] a = refl
values_to_test (v ∷ vs) a = rw (
  all_of_class (is_value_octet v.quoted) v.text a.0,
  values_to_test vs a.1,
) refl

pub param_from_test : (param : Param) → is_param param ≡ true → IsParam param
param_from_test param e =
    let p = and_parts _ (list_all is_value param.values) e in
    let q = and_parts (is_name param.name) (nat_lt 0 (length param.values)) p.0 in
    record {
      name = name_from_test param.name q.0;
      nonempty = ltb-true 0 (length param.values) q.1;
      values = values_from_test param.values p.1;
    }

pub param_to_test : (param : Param) → IsParam param → is_param param ≡ true
param_to_test param i = rw (
  name_to_test param.name i.name,
  lt_test (length param.values) i.nonempty,
  values_to_test param.values i.values,
) refl

params_from_test : (params : List Param) → list_all is_param params ≡ true
    → AllByRecursion IsParam params
params_from_test [] e = tt
params_from_test (x ∷ xs) e = let p = and_parts (is_param x) (list_all is_param xs) e in
    (param_from_test x p.0, params_from_test xs p.1)

params_to_test : (params : List Param) → AllByRecursion IsParam params
    → list_all is_param params ≡ true
params_to_test [] a = refl
params_to_test (x ∷ xs) a = rw (param_to_test x a.0, params_to_test xs a.1) refl

group_from_test : (group : Option (List ℕ)) → is_group_name group ≡ true → IfSome group IsName
group_from_test None e = tt
group_from_test (Some group) e = name_from_test group e

group_to_test : (group : Option (List ℕ)) → IfSome group IsName → is_group_name group ≡ true
group_to_test None i = refl
group_to_test (Some group) i = name_to_test group i

pub legal_from_test : (line : Line) → has_legal_parts line ≡ true → HasLegalParts line
legal_from_test line e =
    let p = and_parts _ (list_all is_param line.params) e in
    let q = and_parts (is_name line.name) (is_group_name line.group) p.0 in
    record {
      name = name_from_test line.name q.0;
      group = group_from_test line.group q.1;
      params = params_from_test line.params p.1;
    }

pub legal_to_test : (line : Line) → HasLegalParts line → has_legal_parts line ≡ true
legal_to_test line l = rw (
  name_to_test line.name l.name,
  group_to_test line.group l.group,
  params_to_test line.params l.params,
) refl
