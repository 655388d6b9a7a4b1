use Rattle.std.proofs.Common.{◌≡◌, false}
use Rattle.std.proofs.lemmas.Result.{IfErr-weaker}
use Rattle.hub_server.specs.Acceptings.{FailsAfterActs}
use Rattle.hub_server.specs.EndpointRuns.{ReachesByActs}
use Rattle.hub_server.specs.Expiries.{KeepsNoneExpired, KeepsTurnsOver}
use Rattle.hub_server.specs.Rounds.{FailsInRound, ServesRound}
use Rattle.hub_server.specs.Servers.{accepts_at}
use Rattle.hub_server.proofs.ServingLemmas.{on_ok_four, round_done, round_failed}
use Rattle.hub_server.proofs.server.Server.serve_round.Goals as goal

pub returns-clause-round : goal.returns-clause-round
returns-clause-round g c =
    on_ok_four (ReachesByActs g.E.Endpoint.calls c.args.limits c.expire.new.self
    c.expire.new.endpoint c.accept_all.new.self c.accept_all.new.endpoint)
    (accepts_at c.args.limits.connections c.accept_all.new.self c.accept_all.new.self.time ≡ false)
    (KeepsTurnsOver c.expire.new.self c.accept_all.new.self)
    (KeepsNoneExpired c.args.limits c.expire.new.self c.accept_all.new.self)
    (ServesRound g.H.Handler.does g.H.Handler.fault_reply g.E.Endpoint.calls c.args.limits
    c.args.self.now c.args.handler.now c.args.endpoint.now c.accept_all.new.self
    c.serve_ready.new.handler c.accept_all.new.endpoint)
    c.accept_all.result
    (λ acts awaited turns kept.
    round_done g.H.Handler.does g.H.Handler.fault_reply g.E.Endpoint.calls c.args.limits
    c.args.self.now c.wait.new.self c.serve_ready.new.self c.expire.new.self
    c.accept_all.new.self c.args.handler.now c.serve_ready.new.handler
    c.args.endpoint.now c.wait.new.endpoint c.serve_ready.new.endpoint c.expire.new.endpoint
    c.accept_all.new.endpoint c.in_ok-wait.ensures.waited c.serve_ready.ensures.steps
    c.expire.ensures.acts
    acts c.serve_ready.ensures.over c.expire.ensures.turns c.expire.ensures.none_expired turns kept
    awaited)
    c.accept_all.ensures.acts c.accept_all.ensures.none_awaited c.accept_all.ensures.turns
    c.accept_all.ensures.none_expired

pub returns-clause-failed : goal.returns-clause-failed
returns-clause-failed g c =
    IfErr-weaker c.accept_all.result (λ why. FailsAfterActs g.E.Endpoint.calls c.args.limits why
    c.expire.new.self c.expire.new.endpoint c.accept_all.new.self c.accept_all.new.endpoint)
    (λ why.
    FailsInRound g.H.Handler.does g.H.Handler.fault_reply g.E.Endpoint.calls c.args.limits why
    c.args.self.now c.args.handler.now c.args.endpoint.now c.accept_all.new.self
    c.serve_ready.new.handler c.accept_all.new.endpoint)
    (λ why failed.
    round_failed g.H.Handler.does g.H.Handler.fault_reply g.E.Endpoint.calls c.args.limits
    c.args.self.now c.wait.new.self c.serve_ready.new.self c.expire.new.self
    c.accept_all.new.self c.args.handler.now c.serve_ready.new.handler
    c.args.endpoint.now c.wait.new.endpoint c.serve_ready.new.endpoint c.expire.new.endpoint
    c.accept_all.new.endpoint c.in_ok-wait.ensures.waited c.serve_ready.ensures.steps
    c.expire.ensures.acts
    why failed)
    c.accept_all.ensures.failed
