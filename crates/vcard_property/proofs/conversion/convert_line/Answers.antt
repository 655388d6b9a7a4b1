use Rattle.std.proofs.Common.{◌≡◌, ◌∙◌, rules, None, Some, sym, ap, inl, inr}
use Rattle.import_text.specs.Encodings.{text_of}
use Rattle.vcard_values.specs.KeptTexts.{kept_text}
use Rattle.vcard_values.specs.Values.{HasValueOf}
use Rattle.vcard_property.specs.NewLines.{HasHeadOf}
use Rattle.vcard_property.proofs.MadeLemmas.{found_meets}
use Rattle.vcard_property.proofs.SameLemmas.{line_is_found}
use Rattle.vcard_property.proofs.conversion.convert_line.Goals as goal

pub returns-in-Some-2-clause-stays : goal.returns-in-Some-2-clause-stays
returns-in-Some-2-clause-stays c = λ line are same.
    let none : c.in_ok-line.field-0 ≡ None = search rules in
    absurd (line_is_found c.args.version c.args.octets.now line are same (sym none
    ∙ c.in_ok-line.ensures.line))

pub returns-clause-stays : goal.returns-clause-stays
returns-clause-stays c = λ line are same.
    let none : c.in_ok-line.field-0 ≡ None = search rules in
    absurd (line_is_found c.args.version c.args.octets.now line are same (sym none
    ∙ c.in_ok-line.ensures.line))

pub returns-in-Some-clause-becomes : goal.returns-in-Some-clause-becomes
returns-in-Some-clause-becomes c =
    inl (record { spelled = search rules; same = search rules })

pub returns-in-Some-2-clause-proper : goal.returns-in-Some-2-clause-proper
returns-in-Some-2-clause-proper c =
    let is : c.in_ok-made.field-0 ≡ Some c.in-Some-2.made = search rules in
    (found_meets c.in_ok-made.field-0 c.in-Some-2.made (HasHeadOf c.args.octets.now) is
    c.in_ok-made.ensures.head).proper

pub returns-in-Some-2-clause-kind : goal.returns-in-Some-2-clause-kind
returns-in-Some-2-clause-kind c =
    let is : c.in_ok-made.field-0 ≡ Some c.in-Some-2.made = search rules in
    (found_meets c.in_ok-made.field-0 c.in-Some-2.made (HasHeadOf c.args.octets.now) is
    c.in_ok-made.ensures.head).kind

pub returns-in-Some-2-clause-becomes : goal.returns-in-Some-2-clause-becomes
returns-in-Some-2-clause-becomes c =
    let text : c.as_str.result.now ≡ text_of c.args.octets.now =
    c.as_str.ensures.value ∙ c.in_ok-text.ensures in
    let is : c.in_ok-made.field-0 ≡ Some c.in-Some-2.made = search rules in
    let head : HasHeadOf c.args.octets.now c.in-Some-2.made =
    found_meets c.in_ok-made.field-0 c.in-Some-2.made (HasHeadOf c.args.octets.now) is
    c.in_ok-made.ensures.head in
    inr (inl (record {
      named = head.named;
      typed = head.typed;
      value = λ known. found_meets c.in_ok-made.field-0 c.in-Some-2.made
          (λ line. HasValueOf c.args.version c.args.octets.now line.0.value) is
          (c.in_ok-made.ensures.value text known);
      content = λ unknown. search (rules, unknown, text);
    }))

pub returns-clause-becomes : goal.returns-clause-becomes
returns-clause-becomes c = inr (inr (record {
  named = c.in_ok-line-2.ensures.name;
  text = c.in_ok-line-2.ensures.kept ∙ ap kept_text (c.as_str-2.ensures.value
      ∙ c.in_ok-text.ensures);
}))
