use Rattle.hub_server.proofs.AcceptingLemmas.{accepts_more, accepts_nothing}
use Rattle.hub_server.proofs.server.Server.accept_all.Goals as goal

pub loop-alloc-init : goal.loop-alloc-init
loop-alloc-init g c = accepts_nothing g.E.Endpoint.calls c.args.limits c.args.self.now
    c.args.endpoint.now

pub returns-then-not-branch-clause-acts : goal.returns-then-not-branch-clause-acts
returns-then-not-branch-clause-acts g c =
    let far = accepts_more g.E.Endpoint.calls c.args.limits c.in_ok-accept_next.field-0
    c.args.self.now c.loop-alloc.self c.accept_next.new.self c.args.endpoint.now
    c.loop-alloc.endpoint c.accept_next.new.endpoint
    c.loop-alloc.invariant c.in_ok-accept_next.ensures.accepted in
    far.acts

pub returns-then-not-branch-clause-none_expired : goal.returns-then-not-branch-clause-none_expired
returns-then-not-branch-clause-none_expired g c =
    let far = accepts_more g.E.Endpoint.calls c.args.limits c.in_ok-accept_next.field-0
    c.args.self.now c.loop-alloc.self c.accept_next.new.self c.args.endpoint.now
    c.loop-alloc.endpoint c.accept_next.new.endpoint
    c.loop-alloc.invariant c.in_ok-accept_next.ensures.accepted in
    far.none_expired

pub loop-alloc-preserved : goal.loop-alloc-preserved
loop-alloc-preserved g c =
    accepts_more g.E.Endpoint.calls c.args.limits c.in_ok-accept_next.field-0 c.args.self.now
    c.loop-alloc.self c.accept_next.new.self c.args.endpoint.now c.loop-alloc.endpoint
    c.accept_next.new.endpoint
    c.loop-alloc.invariant c.in_ok-accept_next.ensures.accepted
