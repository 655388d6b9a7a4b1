use Rattle.hub_server.proofs.ExpiringLemmas.{expires_all, expires_more, expires_nothing}
use Rattle.hub_server.proofs.server.Server.expire.Goals as goal

pub loop-place-init : goal.loop-place-init
loop-place-init g c = expires_nothing g.E.Endpoint.calls c.args.limits c.places_end-place-end.result
    c.args.self.now c.args.endpoint.now c.places_end-place-end.ensures.below

pub loop-place-preserved : goal.loop-place-preserved
loop-place-preserved g c =
    expires_more g.E.Endpoint.calls c.args.limits c.places_end-place-end.result c.loop-place.place
    c.args.self.now c.loop-place.self c.expire_at.new.self c.args.endpoint.now
    c.loop-place.endpoint c.expire_at.new.endpoint
    c.loop-place-test.true c.loop-place.invariant c.expire_at.ensures

pub returns-clause-acts : goal.returns-clause-acts
returns-clause-acts g c = c.loop-place.invariant.acts

pub returns-clause-none_expired : goal.returns-clause-none_expired
returns-clause-none_expired g c =
    expires_all g.E.Endpoint.calls c.args.limits c.places_end-place-end.result c.loop-place.place
    c.args.self.now c.loop-place.self c.args.endpoint.now c.loop-place.endpoint
    c.loop-place-test.false c.loop-place.invariant

pub returns-clause-turns : goal.returns-clause-turns
returns-clause-turns g c = c.loop-place.invariant.turns
