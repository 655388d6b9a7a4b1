use Rattle.std.proofs.Common.{◌≡◌, ◌∙◌, rules, true, false, true≢false}
use Rattle.std.proofs.Common.{None, Some, ap, sym, refl, inl, inr}
use Rattle.std.specs.Prelude.{string_bytes}
use Rattle.std.specs.Option.{option_map}
use Rattle.vcard_values.specs.Escapes.{SpellsSame, rewritten_value}
use Rattle.vcard_values.specs.Forms.{value_form}
use Rattle.vcard_values.specs.ValueTexts.{value_text}
use Rattle.vcard_values.specs.Values.{HasValueOf, IsUriOf, has_known_value, is_known}
use Rattle.vcard_values.specs.Values.{known_date, media_of}
use Rattle.vcard_property.proofs.MadeLemmas.{relaxed, relaxed_both}
use Rattle.vcard_property.proofs.conversion.property_line.Goals as goal

pub returns-then-has_known_value-clause-value : goal.returns-then-has_known_value-clause-value
returns-then-has_known_value-clause-value c = λ text _.
    let known : has_known_value c.args.octets.now ≡ true = search rules in
    let form = value_form c.args.version c.args.octets.now in
    relaxed_both (λ line. line.0.value ≡ rewritten_value form (value_text c.args.octets.now))
    (λ line. SpellsSame form (value_text c.args.octets.now) line.0.value)
    (λ line. HasValueOf c.args.version c.args.octets.now line.0.value) c.known_line.result
    (λ line value spells. inl (record { known = known; value_is = value; spells = spells }))
    (c.known_line.ensures.value text) (c.known_line.ensures.spells text)

pub returns-in-Some-2-clause-value : goal.returns-in-Some-2-clause-value
returns-in-Some-2-clause-value c = λ _ _.
    let found : media_of c.args.octets.now ≡ Some c.as_slice.result.now = search rules in
    relaxed (λ line. IsUriOf c.as_slice.result.now line.0.value)
    (λ line. HasValueOf c.args.version c.args.octets.now line.0.value) c.media_line.result
    (λ line uri. inr (inl (record {
      media = c.as_slice.result.now;
      found = found;
      uri = uri;
    }))) c.media_line.ensures.value

pub returns-in-Some-3-clause-value : goal.returns-in-Some-3-clause-value
returns-in-Some-3-clause-value c = λ text _.
    let found : known_date c.args.octets.now ≡ Some (string_bytes c.in-Some-3.date) =
    search (rules, text) in
    relaxed (λ line. line.0.value ≡ string_bytes c.in-Some-3.date)
    (λ line. HasValueOf c.args.version c.args.octets.now line.0.value) c.date_line.result
    (λ line is. inr (inr (found ∙ ap Some (sym is)))) c.date_line.ensures.value

pub returns-clause-value : goal.returns-clause-value
returns-clause-value c = λ text known.
    let undated : c.in_ok-date.field-0 ≡ None = search rules in
    let no_date : known_date c.args.octets.now ≡ None =
    sym (c.in_ok-date.ensures text) ∙ ap (option_map string_bytes) undated in
    let other : has_known_value c.args.octets.now ≡ false = search rules in
    let absent : c.in_ok-media.field-0 ≡ None = search rules in
    let none : media_of c.args.octets.now ≡ None =
    sym c.in_ok-media.ensures ∙ ap (option_map (λ octets. octets.items)) absent in
    let neither : is_known c.args.octets.now ≡ false = rw (other, none, no_date) refl in
    absurd (true≢false (sym known ∙ neither))

pub returns-then-has_known_value-clause-content : goal.returns-then-has_known_value-clause-content
returns-then-has_known_value-clause-content c = λ _ unknown.
    let known : has_known_value c.args.octets.now ≡ true = search rules in
    absurd (true≢false (sym (rw known refl) ∙ unknown))

pub returns-in-Some-2-clause-content : goal.returns-in-Some-2-clause-content
returns-in-Some-2-clause-content c = λ _ unknown.
    let found : media_of c.args.octets.now ≡ Some c.as_slice.result.now = search rules in
    let other : has_known_value c.args.octets.now ≡ false = search rules in
    let known : is_known c.args.octets.now ≡ true = rw (other, found) refl in
    absurd (true≢false (sym known ∙ unknown))

pub returns-in-Some-3-clause-content : goal.returns-in-Some-3-clause-content
returns-in-Some-3-clause-content c = λ text unknown.
    let found : known_date c.args.octets.now ≡ Some (string_bytes c.in-Some-3.date) =
    search (rules, text) in
    let other : has_known_value c.args.octets.now ≡ false = search rules in
    let absent : c.in_ok-media.field-0 ≡ None = search rules in
    let none : media_of c.args.octets.now ≡ None =
    sym c.in_ok-media.ensures ∙ ap (option_map (λ octets. octets.items)) absent in
    let known : is_known c.args.octets.now ≡ true = rw (other, none, found) refl in
    absurd (true≢false (sym known ∙ unknown))
