use Rattle.contact_csv.specs.Carrying.{as_text}
use Rattle.contact_csv.proofs.ResultLemmas.{ok_then}
use Rattle.contact_csv.proofs.carried.holds_label.Goals as goal

pub returns-then-has_label : goal.returns-then-has_label
returns-then-has_label c = λ t. (
  c.plain_label-label.result.now,
  c.plain_label-label.ensures,
  c.has_label.ensures c.if-has_label.true,
)

pub returns : goal.returns
returns c = ok_then c.holds_text.result (λ holds held t. (
  c.plain_label-label.result.now,
  c.plain_label-label.ensures,
  as_text (held t),
)) c.holds_text.ensures
