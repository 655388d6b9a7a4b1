use Rattle.std.proofs.Common.{◌∙◌, ◌+◌, ap, sym}
use Rattle.http_requests.specs.Fields.{has_close}
use Rattle.http_requests.proofs.FieldLemmas.{close_here, close_later, close_none}
use Rattle.http_requests.proofs.FeedLemmas.{cut_rest}
use Rattle.http_requests.proofs.fields.has_close.Goals as goal

pub returns-then-is_close : goal.returns-then-is_close
returns-then-is_close c = sym (c.loop-at.invariant
    ∙ close_here c.loop-at.rest.now c.in-Some.at (sym c.find_comma.ensures.first
    ∙ c.in-Some.is) (sym c.is_close.ensures ∙ c.if-is_close.true))

pub loop-at-preserved : goal.loop-at-preserved
loop-at-preserved c = c.loop-at.invariant
    ∙ close_later c.loop-at.rest.now c.in-Some.at (sym c.find_comma.ensures.first
    ∙ c.in-Some.is) (sym c.is_close.ensures ∙ c.if-is_close.false)
    ∙ ap has_close (sym (cut_rest c.loop-at.rest.now (c.in-Some.at + 1)))

pub returns : goal.returns
returns c = c.is_close-2.ensures ∙ sym (c.loop-at.invariant
    ∙ close_none c.loop-at.rest.now (sym c.find_comma.ensures.first ∙ c.in_default.is))
