use Rattle.std.proofs.Common.{◌∙◌, refl, ap, sym}
use Rattle.httparse.specs.Spans.{header_bytes}
use Rattle.http_requests.specs.Fields.{asks_close, has_close}
use Rattle.http_requests.proofs.FieldLemmas.{any_yes, blank_field}
use Rattle.http_requests.proofs.fields.asks_close.Goals as goal

pub returns-then-has_close : goal.returns-then-has_close
returns-then-has_close c =
    let named = sym c.field_is_named.ensures ∙ c.if-field_is_named.true in
    let closing = sym (ap has_close c.of.ensures) ∙ sym c.has_close.ensures ∙ c.if-has_close.true in
    sym (any_yes asks_close (header_bytes c.args.text.now) c.args.fields.now c.loop-i.i blank_field
    c.loop-i-test.true (rw (named, closing) refl))
