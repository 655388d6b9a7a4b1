use Rattle.std.proofs.Common.{◌≡◌, ◌∙◌, ap, subst, sym}
use Rattle.std.specs.Prelude.{string_bytes}
use Rattle.vcard_lines.specs.Grammar.{AllInClass, is_permitted}
use Rattle.vcard_lines.specs.TextValues.{escaped_value, unescaped_text}
use Rattle.vcard_values.specs.KeptTexts.{kept_text}
use Rattle.vcard_values.proofs.EscapeLemmas.{follows}
use Rattle.vcard_values.proofs.KeptLemmas.{kept_is_same, kept_permitted}
use Rattle.vcard_values.proofs.kept_texts.text_value.Goals as goal

pub returns-clause-permitted : goal.returns-clause-permitted
returns-clause-permitted c =
    let text : c.as_str.result.now ≡ kept_text c.args.text.now =
    c.as_str.ensures.value ∙ c.in_ok-text.ensures in
    follows (λ value. string_bytes value ≡ escaped_value c.as_str.result.now)
    (λ value. AllInClass is_permitted (string_bytes value)) c.escape.result
    (λ value is. subst (AllInClass is_permitted) (sym (is ∙ ap escaped_value text))
    (kept_permitted c.args.text.now c.utf8.text)) c.escape.ensures.value

pub returns-clause-kept : goal.returns-clause-kept
returns-clause-kept c =
    let text : c.as_str.result.now ≡ kept_text c.args.text.now =
    c.as_str.ensures.value ∙ c.in_ok-text.ensures in
    follows (λ value. unescaped_text (string_bytes value) ≡ c.as_str.result.now)
    (λ value. unescaped_text (string_bytes value) ≡ kept_text c.args.text.now) c.escape.result
    (λ value is. is ∙ text) c.escape.ensures.round_trip

pub returns-clause-text : goal.returns-clause-text
returns-clause-text c = λ plain.
    let text : c.as_str.result.now ≡ kept_text c.args.text.now =
    c.as_str.ensures.value ∙ c.in_ok-text.ensures in
    follows (λ value. unescaped_text (string_bytes value) ≡ c.as_str.result.now)
    (λ value. unescaped_text (string_bytes value) ≡ c.args.text.now) c.escape.result
    (λ value is. is ∙ text ∙ kept_is_same c.args.text.now c.utf8.text plain)
    c.escape.ensures.round_trip
