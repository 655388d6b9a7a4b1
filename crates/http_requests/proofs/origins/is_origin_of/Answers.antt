use Rattle.std.proofs.Common.{◌∙◌, ap, length, sym}
use Rattle.http_requests.specs.Fields.{equals_ignoring_case}
use Rattle.http_requests.proofs.FeedLemmas.{cut_rest}
use Rattle.http_requests.proofs.FieldLemmas.{same_word}
use Rattle.http_requests.proofs.origins.is_origin_of.Goals as goal

pub returns-then-starts_ignoring_case : goal.returns-then-starts_ignoring_case
returns-then-starts_ignoring_case c =
    rw (sym c.starts_ignoring_case.ensures ∙ c.if-starts_ignoring_case.true)
    (same_word c.eq_ignore_ascii_case.result _ _ c.eq_ignore_ascii_case.ensures.test
    ∙ ap (λ t. equals_ignoring_case t c.args.host.now)
    (cut_rest c.args.value.now (length c.args.scheme.now)))
