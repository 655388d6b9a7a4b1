use Rattle.std.proofs.Common.{◌∙◌, sym}
use Rattle.httparse.specs.Spans.{header_bytes}
use Rattle.http_requests.specs.Guards.{is_foreign_host}
use Rattle.http_requests.proofs.FieldLemmas.{any_yes, blank_field}
use Rattle.http_requests.proofs.guarding.has_foreign_host.Goals as goal

pub returns-then-is_foreign_host : goal.returns-then-is_foreign_host
returns-then-is_foreign_host c =
    sym (any_yes (is_foreign_host c.args.names.now) (header_bytes c.args.text.now) c.args.fields.now
    c.loop-i.i blank_field c.loop-i-test.true (sym c.is_foreign_host.ensures
    ∙ c.if-is_foreign_host.true))
