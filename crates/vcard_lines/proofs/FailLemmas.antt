-- Reading a line fails in two ways: for a character, or else for the grammar.
use Rattle.std.proofs.Common.{◌≡◌, ◌⊎◌, ℕ, zero, suc, true, false, cond, ◌==◌, List, length, Option}
use Rattle.std.proofs.Common.{Some, None, Result, Ok, Err, refl, sym, ◌∙◌, inl, inr}
use Rattle.std.specs.List.{list_all}
use Rattle.vcard_lines.specs.declared.fault.CardFault.{CardFault}
use Rattle.vcard_lines.specs.declared.fault.CardFault.TheVariants.{BadChar, BadLine}
use Rattle.vcard_lines.specs.declared.line.ParamValue.{ParamValue}
use Rattle.vcard_lines.specs.ParseSteps.{◌>>=◌, strip_byte, or_bad_line, parse_then_others}
use Rattle.vcard_lines.specs.ParseSteps.{parse_one_more, parse_many}
use Rattle.vcard_lines.specs.Grammar.{is_name_octet, is_value_octet, is_permitted}
use Rattle.vcard_lines.specs.Parsing.{leading, after_leading, parse_name, param_value, parse_quoted}
use Rattle.vcard_lines.specs.Parsing.{parse_value_by, parse_param_value, parse_values, parse_param}
use Rattle.vcard_lines.specs.Parsing.{parse_params, parse_head_by, parse_head, parse_parts}
use Rattle.vcard_lines.specs.Parsing.{parse_line}

-- it fails for the grammar alone
abbrev FailsByGrammar : {A : Type 0} → Result A CardFault → Type 0
FailsByGrammar (Ok x) = Unit {0}
FailsByGrammar (Err fault) = fault ≡ BadLine

then : {A B : Type 0} (first : Result A CardFault) (next : A → Result B CardFault)
    → FailsByGrammar first → ((x : A) → FailsByGrammar (next x)) → FailsByGrammar (first >>= next)
then (Ok x) next a b = b x
then (Err fault) next a b = a

octet_fails : (o : Option (List ℕ)) → FailsByGrammar (or_bad_line o)
octet_fails None = refl
octet_fails (Some x) = tt

name_fails : (text : List ℕ) → FailsByGrammar (parse_name text)
unfolding parse_name
name_fails text = elim (length (leading is_name_octet text) == 0) as
    (λ b. FailsByGrammar {A = List ℕ × List ℕ}
    (cond b (Err BadLine) (Ok (leading is_name_octet text, after_leading is_name_octet text))))
    [ true ↦ refl | false ↦ tt ]

quoted_fails : (text : List ℕ) → FailsByGrammar (parse_quoted text)
unfolding parse_quoted
quoted_fails text =
    then (or_bad_line (strip_byte 34 (after_leading (is_value_octet true) text)))
    (λ rest. done (param_value true (leading (is_value_octet true) text), rest)) (octet_fails _)
    (λ rest. tt)
  where
    done : ParamValue × List ℕ → Result (ParamValue × List ℕ) CardFault
    done x = Ok x

value_by_fails : (inside : Option (List ℕ)) (text : List ℕ)
    → FailsByGrammar (parse_value_by inside text)
value_by_fails None text = tt
value_by_fails (Some inside) text = quoted_fails inside

value_fails : (text : List ℕ) → FailsByGrammar (parse_param_value text)
unfolding parse_param_value
value_fails text = value_by_fails (strip_byte 34 text) text

others_fail : {X : Type 0} (first : Result (X × List ℕ) CardFault) (others : List ℕ
    → Result (List X × List ℕ) CardFault) → FailsByGrammar first
    → ((rest : List ℕ) → FailsByGrammar (others rest))
    → FailsByGrammar (parse_then_others first others)
others_fail first others a b = then first _ a (λ x. then (others x.1) _ (b x.1) (λ xs. tt))

module _ {X : Type 0} (separator : ℕ) (item : List ℕ → Result (X × List ℕ) CardFault) (item_fails :
    (text : List ℕ) → FailsByGrammar (item text)) where
  one_more_fails : (more : Option (List ℕ)) (text : List ℕ) (others : List ℕ
      → Result (List X × List ℕ) CardFault) → ((rest : List ℕ) → FailsByGrammar (others rest))
      → FailsByGrammar (parse_one_more more text item others)
  unfolding parse_one_more
  one_more_fails None text others b = tt
  one_more_fails (Some more) text others b = others_fail (item more) others (item_fails more) b

  many_fails : (most : ℕ) (text : List ℕ) → FailsByGrammar (parse_many separator item most text)
  unfolding parse_many
  many_fails zero text = tt
  many_fails (suc most) text = one_more_fails (strip_byte separator text) text
      (parse_many separator item most) (many_fails most)

values_fail : (text : List ℕ) → FailsByGrammar (parse_values text)
unfolding parse_values
values_fail text = others_fail (parse_param_value text) (λ rest. parse_many 44 parse_param_value
    (length rest) rest) (value_fails text) (λ rest. many_fails 44 parse_param_value value_fails
    (length rest) rest)

param_fails : (text : List ℕ) → FailsByGrammar (parse_param text)
unfolding parse_param
param_fails text = then (parse_name text) _ (name_fails text) (λ name.
    then (or_bad_line (strip_byte 61 name.1)) _ (octet_fails _) (λ rest.
    then (parse_values rest) _ (values_fail rest) (λ values. tt)))

params_fail : (text : List ℕ) → FailsByGrammar (parse_params text)
unfolding parse_params
params_fail text = many_fails 59 parse_param param_fails (length text) text

head_by_fails : (first rest : List ℕ) (more : Option (List ℕ))
    → FailsByGrammar (parse_head_by first rest more)
unfolding parse_head_by
head_by_fails first rest None = tt
head_by_fails first rest (Some more) = then (parse_name more) _ (name_fails more) (λ name. tt)

head_fails : (text : List ℕ) → FailsByGrammar (parse_head text)
unfolding parse_head
head_fails text = then (parse_name text) _ (name_fails text) (λ first. head_by_fails first.0 first.1
    (strip_byte 46 first.1))

parts_fail : (text : List ℕ) → FailsByGrammar (parse_parts text)
unfolding parse_parts
parts_fail text = then (parse_head text) _ (head_fails text) (λ head.
    then (parse_params head.2) _ (params_fail head.2) (λ params.
    then (or_bad_line (strip_byte 58 params.1)) _ (octet_fails _) (λ value. tt)))

failed : {A : Type 0} (r : Result A CardFault) (fault : CardFault) → FailsByGrammar r
    → r ≡ Err fault → fault ≡ BadLine
failed (Ok x) fault f e = absurd (cc)
failed (Err other) fault f e = let same : other ≡ fault = cc in sym same ∙ f

pub line_fails : (text : List ℕ) (fault : CardFault) → parse_line text ≡ Err fault
    → ((fault ≡ BadChar) × (list_all is_permitted text ≡ false))
    ⊎ ((fault ≡ BadLine) × (list_all is_permitted text ≡ true))
unfolding parse_line
line_fails text fault e =
    elim (list_all is_permitted text) as (λ t. list_all is_permitted text ≡ t
    → cond t (parse_parts text) (Err BadChar) ≡ Err fault
    → ((fault ≡ BadChar) × (list_all is_permitted text ≡ false))
    ⊎ ((fault ≡ BadLine) × (list_all is_permitted text ≡ true))) [
      | true ↦ λ t h. inr (failed (parse_parts text) fault (parts_fail text) h, t)
      | false ↦ λ t h. let same : BadChar ≡ fault = cc in inl (sym same, t)
    ] refl e
