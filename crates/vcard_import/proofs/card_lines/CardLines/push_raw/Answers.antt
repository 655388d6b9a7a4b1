use Rattle.std.proofs.Common.{◌≡◌, ◌∙◌, rules, true, false, sym, ap, subst, inl, inr, codes}
use Rattle.std.proofs.lemmas.Result.{on_ok_weaker}
use Rattle.vcard_property.specs.NewLines.{KeepsText}
use Rattle.vcard_changes.specs.declared.change_kind.ChangeKind.TheVariants.{KeptAside}
use Rattle.vcard_import.specs.Conversions.{IsLineOf}
use Rattle.vcard_import.specs.Delimiters.{is_delimiter}
use Rattle.vcard_import.specs.Labels.{fits}
use Rattle.vcard_import.specs.internal.Steps.{breaks_rule}
use Rattle.vcard_import.proofs.StepLemmas.{skipped}
use Rattle.vcard_import.proofs.card_lines.CardLines.push_raw.Goals as goal

pub returns-then-is_nested : goal.returns-then-is_nested
returns-then-is_nested c =
    let kind : fits KeptAside c.in_ok-line.line ≡ true = search rules in
    let allowed : breaks_rule c.args.self.now.seen c.args.reading c.in_ok-line.line ≡ false =
    search rules in
    let text : KeepsText (codes "X-AGENT") c.args.raw.now.octets c.in_ok-line.line =
    subst (λ octets. KeepsText (codes "X-AGENT") octets c.in_ok-line.line)
    c.as_slice-octets.ensures c.in_ok-line.ensures.text in
    on_ok_weaker c.push.result (λ extends. extends c.args.reading c.in_ok-line.ensures.proper kind
    allowed (inr text)) c.push.ensures.extends

pub returns-then-is_delimiter : goal.returns-then-is_delimiter
returns-then-is_delimiter c = skipped c.args.reading c.args.raw.now c.args.self.now
    (ap is_delimiter (sym c.as_slice-octets.ensures) ∙ sym c.is_delimiter.ensures
    ∙ c.if-is_delimiter.true)

pub returns : goal.returns
returns c =
    let made : IsLineOf c.args.reading.version c.args.raw.now.octets c.in_ok-line-2.line =
    subst (λ octets. IsLineOf c.args.reading.version octets c.in_ok-line-2.line)
    c.as_slice-octets.ensures
    c.in_ok-line-2.ensures.made in
    on_ok_weaker c.push-2.result (λ extends. extends c.args.reading c.in_ok-line-2.ensures.proper
    c.in_ok-line-2.ensures.kind c.in_ok-line-2.ensures.allowed (inl made)) c.push-2.ensures.extends
