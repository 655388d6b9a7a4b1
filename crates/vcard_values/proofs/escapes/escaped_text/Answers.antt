use Rattle.std.proofs.Common.{◌≡◌, ◌∙◌, ◌&&◌, flat_map, chars, rules, false, sym, ap, cond}
use Rattle.std.specs.Prelude.{string_bytes}
use Rattle.std.specs.Str.{encode_utf8_all}
use Rattle.std.proofs.lemmas.Bool.{cond-false}
use Rattle.vcard_lines.specs.TextValues.{text_chars}
use Rattle.vcard_values.specs.Escapes.{is_path, plain_units, unit_chars, units_of_char}
use Rattle.vcard_values.proofs.EscapeLemmas.{by_units, follows}
use Rattle.vcard_values.proofs.escapes.escaped_text.Goals as goal

pub returns : goal.returns
returns c =
    let form = c.args.form in
    let value = c.args.value.now in
    let no_path : (form.is_old && is_path value) ≡ false = search rules in
    follows (λ new. string_bytes new
    ≡ encode_utf8_all (flat_map (λ t. flat_map unit_chars (units_of_char form t))
    (text_chars (chars value))))
    (λ new. string_bytes new ≡ encode_utf8_all (flat_map unit_chars
    (cond (form.is_old && is_path value) (flat_map (plain_units form) (chars value))
    (flat_map (units_of_char form) (text_chars (chars value)))))) c.escaped_value.result
    (λ new is. is ∙ ap encode_utf8_all (by_units form (text_chars (chars value))
    ∙ ap (flat_map unit_chars) (sym (cond-false _ _ _ no_path)))) c.escaped_value.ensures
