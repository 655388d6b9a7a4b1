use Rattle.std.proofs.lemmas.Bool.{iff_false}
use Rattle.hub_server.proofs.ExpiringLemmas.{expires_none, expires_one}
use Rattle.hub_server.proofs.server.Server.expire_at.Goals as goal

pub returns-then-has_expired : goal.returns-then-has_expired
returns-then-has_expired g c =
    expires_one g.E.Endpoint.calls c.args.limits c.args.place c.args.self.now c.close.new.self
    c.args.endpoint.now c.close.new.endpoint (c.has_expired.ensures.0 c.if-has_expired.true)
    c.close.ensures.left c.close.ensures.event

pub returns-else-has_expired : goal.returns-else-has_expired
returns-else-has_expired g c = expires_none g.E.Endpoint.calls c.args.limits c.args.place
    c.args.self.now c.args.endpoint.now (iff_false c.has_expired.ensures c.if-has_expired.false)
