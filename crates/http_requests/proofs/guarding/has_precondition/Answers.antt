use Rattle.std.proofs.Common.{◌∙◌, sym}
use Rattle.httparse.specs.Spans.{header_bytes}
use Rattle.http_requests.specs.Guards.{is_precondition}
use Rattle.http_requests.proofs.FieldLemmas.{any_yes, blank_field}
use Rattle.http_requests.proofs.guarding.has_precondition.Goals as goal

pub returns-then-is_precondition : goal.returns-then-is_precondition
returns-then-is_precondition c =
    sym (any_yes is_precondition (header_bytes c.args.text.now) c.args.fields.now c.loop-i.i
    blank_field c.loop-i-test.true (sym c.is_precondition.ensures ∙ c.if-is_precondition.true))
