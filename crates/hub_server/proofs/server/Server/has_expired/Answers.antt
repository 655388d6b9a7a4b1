use Rattle.std.proofs.Common.{◌<◌, IsTrue, arith, length, subst}
use Rattle.hub_server.specs.Expiries.{HasExpiredAt}
use Rattle.hub_server.specs.Servers.{ServerValue}
use Rattle.hub_server.proofs.ExpiringLemmas.{expired_by_test}
use Rattle.hub_server.proofs.server.Server.has_expired.Goals as goal

pub returns : goal.returns
returns c =
    let seen : ServerValue = record {
      hub = c.self.inside.hub;
      seats = c.self.inside.seats.items;
      listener = c.self.inside.listener;
      time = c.self.inside.time;
    } in
    let within : c.args.place < length c.self.inside.seats.items =
    omega (arith, c.self.inside.seats.ok.0, c.len.ensures, c.if-place-len.false) in
    subst (λ (x : ServerValue). (IsTrue c.has_expired.result
    → HasExpiredAt c.args.limits x c.args.place) × (HasExpiredAt c.args.limits x c.args.place
    → IsTrue c.has_expired.result)) c.self.view_is
    (expired_by_test c.args.limits seen c.args.place c.has_expired.result within
    (c.is_open.ensures.0 c.if-not-is_open.false) c.has_expired.ensures)
