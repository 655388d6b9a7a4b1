-- The parts of a property line are read as they are spelled: names, values, parameters.
use Rattle.std.proofs.Common.{◌≡◌, ℕ, ◌<◌, Bool, true, false, cond, ◌==◌, ◌||◌, List, [], ◌∷◌, ◌++◌}
use Rattle.std.proofs.Common.{length, flat_map, Some, None, Result, Ok, Err, refl, sym, ap, subst}
use Rattle.std.proofs.Common.{◌∙◌, append_assoc, arith}
use Rattle.std.specs.List.{AllByRecursion}
use Rattle.std.proofs.Math.Dec.{eqb-suc-zero}
use Rattle.std.proofs.lemmas.Bool.Decides.{nat_tests}
use Rattle.vcard_lines.specs.declared.fault.CardFault.{CardFault}
use Rattle.vcard_lines.specs.declared.fault.CardFault.TheVariants.{BadLine}
use Rattle.vcard_lines.specs.declared.line.ParamValue.{ParamValue}
use Rattle.vcard_lines.specs.declared.line.Param.{Param}
use Rattle.vcard_lines.specs.ParseSteps.{◌>>=◌, strip_byte, or_bad_line, parse_then_others}
use Rattle.vcard_lines.specs.ParseSteps.{parse_many}
use Rattle.vcard_lines.specs.Grammar.{is_name_octet, is_value_octet, AllInClass, IsName, IsValue}
use Rattle.vcard_lines.specs.Grammar.{IsParam, value_text, values_text, param_text, params_text}
use Rattle.vcard_lines.specs.Parsing.{leading, after_leading, parse_name, param_value, parse_quoted}
use Rattle.vcard_lines.specs.Parsing.{parse_value_by, parse_param_value, parse_values, make_param}
use Rattle.vcard_lines.specs.Parsing.{parse_param, parse_params}
use Rattle.vcard_lines.proofs.FrontLemmas.{Stops, front_is_of, front-append, behind-append}
use Rattle.vcard_lines.proofs.FrontLemmas.{leading_and_rest}
use Rattle.vcard_lines.proofs.StepLemmas.{bind_ok, same_pair, some_read, was_stripped}
use Rattle.vcard_lines.proofs.Readers.{IsReaderOf, Shrinks, shrinks, many_reader}

-- ---- what ends a part

abbrev pub ends_param : ℕ → Bool
ends_param c = c == 59 || c == 58

abbrev pub ends_value : ℕ → Bool
ends_value c = c == 44 || ends_param c

-- nothing follows, or an octet that passes
abbrev pub Begins : (ℕ → Bool) → List ℕ → Type 0
Begins p [] = Unit {0}
Begins p (c ∷ cs) = p c ≡ true

-- ---- names

abbrev name_parts : List ℕ → List ℕ → Result (List ℕ × List ℕ) CardFault
name_parts name rest = cond (length name == 0) (Err BadLine) (Ok (name, rest))

some_name : (x : ℕ) (name rest : List ℕ) → name_parts (x ∷ name) rest ≡ Ok (x ∷ name, rest)
some_name x name rest = ap (λ t. cond t (Err BadLine) (Ok (x ∷ name, rest)))
    (eqb-suc-zero (length name))

name_parts_ok : (a b name rest : List ℕ) → name_parts a b ≡ Ok (name, rest) → (0 < length a)
    × (a ≡ name) × (b ≡ rest)
name_parts_ok [] b name rest e = absurd (cc)
name_parts_ok (x ∷ a) b name rest e = let p = same_pair (x ∷ a) name b rest (sym (some_name x a b)
    ∙ e) in (omega arith, p.0, p.1)

name_takes : (text name rest : List ℕ) → parse_name text ≡ Ok (name, rest) → IsName name
    × (text ≡ name ++ rest)
unfolding parse_name
name_takes text name rest e =
    let p = name_parts_ok (leading is_name_octet text) (after_leading is_name_octet text) name rest
    e in (
      subst IsName p.1 (record { nonempty = p.0; of_class = front_is_of is_name_octet text }),
      leading_and_rest is_name_octet text ∙ ap (λ a. a ++ after_leading is_name_octet text) p.1
          ∙ ap (λ b. name ++ b) p.2,
    )

name_parts_again : (name rest : List ℕ) → 0 < length name → name_parts name rest ≡ Ok (name, rest)
name_parts_again [] rest l = absurd (omega arith)
name_parts_again (x ∷ name) rest l = some_name x name rest

name_again : (name rest : List ℕ) → IsName name → Stops is_name_octet rest
    → parse_name (name ++ rest) ≡ Ok (name, rest)
unfolding parse_name
name_again name rest n s =
    ap (λ a. name_parts a (after_leading is_name_octet (name ++ rest)))
    (front-append is_name_octet name rest n.of_class s)
    ∙ ap (λ b. name_parts name b) (behind-append is_name_octet name rest n.of_class s)
    ∙ name_parts_again name rest n.nonempty

pub name_reader : IsReaderOf parse_name (λ name. name) IsName (Stops is_name_octet)
name_reader = record { takes = name_takes; again = name_again }

-- ---- values

value_takes : (text : List ℕ) (value : ParamValue) (rest : List ℕ)
    → parse_param_value text ≡ Ok (value, rest) → IsValue value × (text ≡ value_text value ++ rest)
unfolding parse_param_value parse_quoted
value_takes text value rest e =
    elim (strip_byte 34 text) as (λ p. strip_byte 34 text ≡ p
    → parse_value_by p text ≡ Ok (value, rest) → IsValue value
    × (text ≡ value_text value ++ rest)) [
      | None ↦ λ p h.
          let q = same_pair (param_value false (leading (is_value_octet false) text)) value
          (after_leading (is_value_octet false) text) rest h in (
            subst IsValue q.0 (front_is_of (is_value_octet false) text),
            leading_and_rest (is_value_octet false) text
                ∙ ap (λ w. value_text w ++ after_leading (is_value_octet false) text) q.0
                ∙ ap (λ b. value_text value ++ b) q.1,
          )
      | Some inside ↦ λ p h.
          let one =
          bind_ok (or_bad_line (strip_byte 34 (after_leading (is_value_octet true) inside))) _ _
          h in
          let q = same_pair (param_value true (leading (is_value_octet true) inside)) value one.0
          rest one.2 in
          let closed : after_leading (is_value_octet true) inside ≡ 34 ∷ one.0 =
          was_stripped 34 _ one.0 (some_read _ one.0 one.1) in (
            subst IsValue q.0 (front_is_of (is_value_octet true) inside),
            was_stripped 34 text inside p
                ∙ ap (λ t. 34 ∷ t) (leading_and_rest (is_value_octet true) inside
                ∙ ap (λ b. leading (is_value_octet true) inside ++ b) closed
                ∙ sym (append_assoc (leading (is_value_octet true) inside) (34 ∷ []) one.0))
                ∙ ap (λ w. value_text w ++ one.0) q.0 ∙ ap (λ b. value_text value ++ b) q.1,
          )
    ] refl e

stops_plain : (c : ℕ) → ends_value c ≡ true → is_value_octet false c ≡ false
stops_plain c e = grind (arith, nat_tests)

end_is_no_quote : (c : ℕ) → ends_value c ≡ true → (c == 34) ≡ false
end_is_no_quote c e = grind (arith, nat_tests)

plain_is_no_quote : (c : ℕ) → is_value_octet false c ≡ true → (c == 34) ≡ false
plain_is_no_quote c e = grind (arith, nat_tests)

plain_stops : (rest : List ℕ) → Begins ends_value rest → Stops (is_value_octet false) rest
plain_stops [] b = tt
plain_stops (c ∷ cs) b = stops_plain c b

not_quoted : (text rest : List ℕ) → AllInClass (is_value_octet false) text → Begins ends_value rest
    → strip_byte 34 (text ++ rest) ≡ None
not_quoted [] [] all b = refl
not_quoted [] (c ∷ cs) all b = ap (λ t. cond t (Some cs) None) (end_is_no_quote c b)
not_quoted (c ∷ text) rest all b =
    ap (λ t. cond t (Some (text ++ rest)) None) (plain_is_no_quote c all.0)

abbrev quoted_parts : List ℕ → List ℕ → Result (ParamValue × List ℕ) CardFault
quoted_parts a b = or_bad_line (strip_byte 34 b) >>= λ rest. Ok (param_value true a, rest)

value_again_by : (quoted : Bool) (text rest : List ℕ) → AllInClass (is_value_octet quoted) text
    → Begins ends_value rest → parse_param_value (value_text (param_value quoted text) ++ rest)
    ≡ Ok (param_value quoted text, rest)
unfolding parse_param_value parse_quoted
value_again_by true text rest all b =
    ap (λ t. parse_quoted t) (append_assoc text (34 ∷ []) rest)
    ∙ ap (λ x. quoted_parts x (after_leading (is_value_octet true) (text ++ 34 ∷ rest)))
    (front-append (is_value_octet true) text (34 ∷ rest) all refl)
    ∙ ap (λ y. quoted_parts text y) (behind-append (is_value_octet true) text (34 ∷ rest) all refl)
value_again_by false text rest all b =
    ap (λ p. parse_value_by p (text ++ rest)) (not_quoted text rest all b)
    ∙ ap (λ x. Ok (param_value false x, after_leading (is_value_octet false) (text ++ rest)))
    (front-append (is_value_octet false) text rest all (plain_stops rest b))
    ∙ ap (λ y. Ok (param_value false text, y)) (behind-append (is_value_octet false) text rest all
    (plain_stops rest b))

value_reader : IsReaderOf parse_param_value value_text IsValue (Begins ends_value)
value_reader = record {
  takes = value_takes;
  again = λ value rest all b. value_again_by value.quoted value.text rest all b;
}

pub value_shrinks : Shrinks parse_param_value
value_shrinks = shrinks parse_param_value value_text IsValue (Begins ends_value) value_reader

-- ---- values between commas

abbrev comma_values : List ParamValue → List ℕ
comma_values values = flat_map (λ v. 44 ∷ value_text v) values

more_values_reader : IsReaderOf (λ text. parse_many 44 parse_param_value (length text) text)
    comma_values (AllByRecursion IsValue) (λ rest. Begins ends_value rest
    × (strip_byte 44 rest ≡ None))
more_values_reader = many_reader 44 parse_param_value value_text IsValue (Begins ends_value)
    value_reader (λ more. refl)

-- a parameter's values are some
pub record AreValues (values : List ParamValue) : Type 0 where
  pub nonempty : 0 < length values
  pub each : AllByRecursion IsValue values

values_takes : (text : List ℕ) (values : List ParamValue) (rest : List ℕ)
    → parse_values text ≡ Ok (values, rest) → AreValues values × (text ≡ values_text values ++ rest)
unfolding parse_values
values_takes text values rest e =
    let one = bind_ok (parse_param_value text) _ _ e in
    let others = bind_ok (parse_many 44 parse_param_value (length one.0.1) one.0.1) _ _ one.2 in
    let first = value_takes text one.0.0 one.0.1 one.1 in
    let more = more_values_reader.takes one.0.1 others.0.0 others.0.1 others.1 in
    let q = same_pair (one.0.0 ∷ others.0.0) values others.0.1 rest others.2 in
    let are : AreValues (one.0.0 ∷ others.0.0) = record {
      nonempty = omega arith;
      each = (first.0, more.0);
    } in
    let is : text ≡ values_text (one.0.0 ∷ others.0.0) ++ others.0.1 =
    first.1 ∙ ap (λ t. value_text one.0.0 ++ t) more.1
    ∙ sym (append_assoc (value_text one.0.0) (comma_values others.0.0) others.0.1) in (
      subst AreValues q.0 are,
      is ∙ ap (λ ws. values_text ws ++ others.0.1) q.0 ∙ ap (λ b. values_text values ++ b) q.1,
    )

param_end_ends_value : (c : ℕ) → ends_param c ≡ true → ends_value c ≡ true
param_end_ends_value c e = grind (arith, nat_tests)

no_comma : (c : ℕ) → ends_param c ≡ true → (c == 44) ≡ false
no_comma c e = grind (arith, nat_tests)

begins_value : (rest : List ℕ) → Begins ends_param rest → Begins ends_value rest
begins_value [] b = tt
begins_value (c ∷ cs) b = param_end_ends_value c b

stripped_no_comma : (rest : List ℕ) → Begins ends_param rest → strip_byte 44 rest ≡ None
stripped_no_comma [] b = refl
stripped_no_comma (c ∷ cs) b = ap (λ t. cond t (Some cs) None) (no_comma c b)

values_again : (values : List ParamValue) (rest : List ℕ) → AreValues values
    → Begins ends_param rest → parse_values (values_text values ++ rest) ≡ Ok (values, rest)
unfolding parse_values
values_again [] rest are b = absurd (let l = are.nonempty in omega arith)
values_again (v ∷ vs) rest are b =
    ap (λ t. parse_then_others (parse_param_value t) (λ r. parse_many 44 parse_param_value
    (length r) r)) (append_assoc (value_text v) (comma_values vs) rest)
    ∙ ap (λ (r : Result (ParamValue × List ℕ) CardFault). parse_then_others r
    (λ t. parse_many 44 parse_param_value (length t) t)) (value_again_by v.quoted v.text
    (comma_values vs ++ rest) are.each.0 (begins vs))
    ∙ ap (λ (r : Result (List ParamValue × List ℕ) CardFault). r >>= λ ws. Ok (v ∷ ws.0, ws.1))
    (more_values_reader.again vs rest are.each.1 (
      begins_value rest b,
      stripped_no_comma rest b,
    ))
  where
    begins : (ws : List ParamValue) → Begins ends_value (comma_values ws ++ rest)
    begins [] = begins_value rest b
    begins (w ∷ ws) = refl

-- ---- parameters

param_takes : (text : List ℕ) (param : Param) (rest : List ℕ) → parse_param text ≡ Ok (param, rest)
    → IsParam param × (text ≡ param_text param ++ rest)
unfolding parse_param
param_takes text param rest e =
    let name = bind_ok (parse_name text) _ _ e in
    let equals = bind_ok (or_bad_line (strip_byte 61 name.0.1)) _ _ name.2 in
    let values = bind_ok (parse_values equals.0) _ _ equals.2 in
    let n = name_takes text name.0.0 name.0.1 name.1 in
    let after_name : name.0.1 ≡ 61 ∷ equals.0 =
    was_stripped 61 _ equals.0 (some_read _ equals.0 equals.1) in
    let v = values_takes equals.0 values.0.0 values.0.1 values.1 in
    let q = same_pair (make_param name.0.0 values.0.0) param values.0.1 rest values.2 in (
      subst IsParam q.0 (record { name = n.0; nonempty = v.0.nonempty; values = v.0.each }),
      n.1 ∙ ap (λ t. name.0.0 ++ t) (after_name ∙ ap (λ t. 61 ∷ t) v.1)
          ∙ sym (append_assoc name.0.0 (61 ∷ values_text values.0.0) values.0.1)
          ∙ ap (λ w. param_text w ++ values.0.1) q.0 ∙ ap (λ b. param_text param ++ b) q.1,
    )

param_again : (param : Param) (rest : List ℕ) → IsParam param → Begins ends_param rest
    → parse_param (param_text param ++ rest) ≡ Ok (param, rest)
unfolding parse_param
param_again param rest is b =
    ap parse_param (append_assoc param.name (61 ∷ values_text param.values) rest)
    ∙ ap (λ (r : Result (List ℕ × List ℕ) CardFault). r >>= λ name. or_bad_line
    (strip_byte 61 name.1) >>= λ after. parse_values after >>= λ values. Ok
    (make_param name.0 values.0, values.1))
    (name_again param.name (61 ∷ values_text param.values ++ rest) is.name refl)
    ∙ ap (λ (r : Result (List ParamValue × List ℕ) CardFault). r >>= λ values. Ok
    (make_param param.name values.0, values.1)) (values_again param.values rest
    (record { nonempty = is.nonempty; each = is.values }) b)

param_reader : IsReaderOf parse_param param_text IsParam (Begins ends_param)
param_reader = record { takes = param_takes; again = param_again }

pub param_shrinks : Shrinks parse_param
param_shrinks = shrinks parse_param param_text IsParam (Begins ends_param) param_reader

pub params_reader : IsReaderOf parse_params params_text (AllByRecursion IsParam)
    (λ rest. Begins ends_param rest × (strip_byte 59 rest ≡ None))
unfolding parse_params
params_reader = many_reader 59 parse_param param_text IsParam (Begins ends_param) param_reader
    (λ more. refl)
