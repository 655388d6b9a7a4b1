use Rattle.std.proofs.Common.{IfErr, OnOk, subst}
use Rattle.std.proofs.lemmas.Result.{err_from_is_err_and}
use Rattle.cli_host.specs.Hosts.{Finishes}
use Rattle.cli_orders.specs.Announcements.{AnnouncesAndServes, StopsServing}
use Rattle.cli_host.proofs.StoreCallLemmas.{at_served, at_stopped, at_unbound}
use Rattle.cli_host.proofs.serving.serve_at.Goals as goal

pub returns-in_err-endpoint-clause-stopped : goal.returns-in_err-endpoint-clause-stopped
returns-in_err-endpoint-clause-stopped g c =
    let p = err_from_is_err_and c.from_residual.result c.from_residual.ensures.1 in
    rw (p.1, p.2)
    (at_unbound g.H.Handler.does g.H.Handler.fault_reply g.P.Endpoint.calls g.M.Host.calls
    c.args.host.now c.listen.new.self c.args.address c.args.limits c.args.handler
    c.in_err-endpoint.field-0.0 (g.W.Write.contents c.args.writer.now)
    c.in_err-endpoint.ensures.called c.in_err-endpoint.ensures.stop)

pub returns-clause-done : goal.returns-clause-done
returns-clause-done g c =
    let at_handler = subst (λ state. OnOk c.announce_and_serve-served.result
    (AnnouncesAndServes g.H.Handler.does g.H.Handler.fault_reply g.P.Endpoint.calls
    c.in_ok-endpoint.address c.args.limits state c.new-connections.result
    (g.W.Write.contents c.args.writer.now)
    (g.W.Write.contents c.announce_and_serve-served.new.writer)
    c.announce_and_serve-served.new.handler c.announce_and_serve-served.new.endpoint))
    c.new-logged.ensures c.announce_and_serve-served.ensures.served in
    let announces = subst (λ endpoint. OnOk c.announce_and_serve-served.result
    (AnnouncesAndServes g.H.Handler.does g.H.Handler.fault_reply g.P.Endpoint.calls
    c.in_ok-endpoint.address c.args.limits c.args.handler endpoint
    (g.W.Write.contents c.args.writer.now)
    (g.W.Write.contents c.announce_and_serve-served.new.writer)
    c.announce_and_serve-served.new.handler c.announce_and_serve-served.new.endpoint))
    c.new-connections.ensures at_handler in
    let finished = subst (λ endpoint. g.M.Host.calls (Finishes endpoint) c.listen.new.self
    c.finish.new.self) c.into_endpoint-left.ensures c.finish.ensures in
    at_served g.H.Handler.does g.H.Handler.fault_reply g.P.Endpoint.calls g.M.Host.calls
    c.announce_and_serve-served.result c.args.host.now c.listen.new.self c.finish.new.self
    c.args.address c.in_ok-endpoint.address c.args.limits c.args.handler
    c.announce_and_serve-served.new.handler c.in_ok-endpoint.endpoint
    c.announce_and_serve-served.new.endpoint
    (g.W.Write.contents c.args.writer.now)
    (g.W.Write.contents c.announce_and_serve-served.new.writer) c.in_ok-endpoint.ensures.called
    finished c.in_ok-endpoint.ensures.bound announces

pub returns-clause-stopped : goal.returns-clause-stopped
returns-clause-stopped g c =
    let at_handler = subst (λ state. IfErr c.announce_and_serve-served.result
    (λ stop. StopsServing g.H.Handler.does g.H.Handler.fault_reply g.P.Endpoint.calls
    c.in_ok-endpoint.address c.args.limits state c.new-connections.result
    (g.W.Write.contents c.args.writer.now)
    (g.W.Write.contents c.announce_and_serve-served.new.writer) stop
    c.announce_and_serve-served.new.handler c.announce_and_serve-served.new.endpoint))
    c.new-logged.ensures c.announce_and_serve-served.ensures.stopped in
    let stops = subst (λ endpoint. IfErr c.announce_and_serve-served.result
    (λ stop. StopsServing g.H.Handler.does g.H.Handler.fault_reply g.P.Endpoint.calls
    c.in_ok-endpoint.address c.args.limits c.args.handler endpoint
    (g.W.Write.contents c.args.writer.now)
    (g.W.Write.contents c.announce_and_serve-served.new.writer) stop
    c.announce_and_serve-served.new.handler c.announce_and_serve-served.new.endpoint))
    c.new-connections.ensures at_handler in
    let finished = subst (λ endpoint. g.M.Host.calls (Finishes endpoint) c.listen.new.self
    c.finish.new.self) c.into_endpoint-left.ensures c.finish.ensures in
    at_stopped g.H.Handler.does g.H.Handler.fault_reply g.P.Endpoint.calls g.M.Host.calls
    c.announce_and_serve-served.result c.args.host.now c.listen.new.self c.finish.new.self
    c.args.address c.in_ok-endpoint.address c.args.limits c.args.handler
    c.announce_and_serve-served.new.handler c.in_ok-endpoint.endpoint
    c.announce_and_serve-served.new.endpoint
    (g.W.Write.contents c.args.writer.now)
    (g.W.Write.contents c.announce_and_serve-served.new.writer) c.in_ok-endpoint.ensures.called
    finished c.in_ok-endpoint.ensures.bound stops
