use Rattle.std.proofs.Common.{false, Ok, Err, IfErr, OnOk, rules, subst}
use Rattle.std.proofs.lemmas.Result.{err_from_is_err_and}
use Rattle.cli_host.specs.Hosts.{Closes, LogsCalls, Opens}
use Rattle.cli_host.specs.OrdersInTurn.{ServesAtPort, StopsAtPort}
use Rattle.cli_host.proofs.CallLemmas.{store_opened_at, store_used_well}
use Rattle.cli_host.proofs.TurnLemmas.{serve_stopped, serve_unopened, serve_without_memory}
use Rattle.cli_host.proofs.serving.run_serve.Goals as goal

pub returns-in_err-store-clause-stopped : goal.returns-in_err-store-clause-stopped
returns-in_err-store-clause-stopped g c =
    let made : g.M.Host.calls (Opens c.args.file (Err c.in_err-store.field-0.0)) c.args.host.now
    c.open_watched.new.host = search (rules) in
    let p = err_from_is_err_and c.from_residual.result c.from_residual.ensures.1 in
    rw (p.1, p.2)
    (serve_unopened g.S.BookStore.model g.L.Stream.Connection.model g.L.Listener.coming
    g.M.Host.calls c.args.host.now c.open_watched.new.host c.args.file c.args.port
    c.args.connections c.in_err-store.field-0.0 (g.W.Write.contents c.args.writer.now) made)

pub returns-in_err-service-clause-stopped : goal.returns-in_err-service-clause-stopped
returns-in_err-service-clause-stopped g c =
    let made : g.M.Host.calls (Opens c.args.file (Ok c.in_ok-store.store)) c.args.host.now
    c.open_watched.new.host = search (rules) in
    let p = err_from_is_err_and c.from_residual-in_err-service.result
    c.from_residual-in_err-service.ensures.1 in
    rw (p.1, p.2)
    (serve_without_memory g.S.BookStore.model g.L.Stream.Connection.model g.L.Listener.coming
    g.M.Host.calls c.args.host.now c.open_watched.new.host c.args.file c.args.port
    c.args.connections c.in_ok-store.store (g.W.Write.contents c.args.writer.now) made)

pub returns-clause-done : goal.returns-clause-done
returns-clause-done g c =
    let made : g.M.Host.calls (Opens c.args.file (Ok c.in_ok-store.store)) c.args.host.now
    c.open_watched.new.host = search (rules) in
    let before = g.W.Write.contents c.args.writer.now in
    let after = g.W.Write.contents c.serve_at_port-served.new.writer in
    let serves = subst (λ state. OnOk c.serve_at_port-served.result
    (LogsCalls g.M.Host.calls c.open_watched.new.host c.serve_at_port-served.new.host
    (ServesAtPort g.S.BookStore.model g.L.Stream.Connection.model g.L.Listener.coming c.args.port
    c.args.connections state before after c.serve_at_port-served.new.service)))
    c.in_ok-service.ensures c.serve_at_port-served.ensures.done in
    let closes = subst (λ store. g.M.Host.calls (Closes store) c.serve_at_port-served.new.host
    c.close.new.self) c.service.view_is c.close.ensures in
    store_used_well g.M.Host.calls c.serve_at_port-served.result c.args.host.now
    c.open_watched.new.host c.serve_at_port-served.new.host c.close.new.self c.args.file false
    (λ old new later. ServesAtPort g.S.BookStore.model g.L.Stream.Connection.model
    g.L.Listener.coming c.args.port c.args.connections old before after new later)
    c.in_ok-store.store c.serve_at_port-served.new.service
    (store_opened_at g.M.Host.calls c.args.host.now c.open_watched.new.host c.args.file
    c.in_ok-store.store made) serves closes

pub returns-clause-stopped : goal.returns-clause-stopped
returns-clause-stopped g c =
    let made : g.M.Host.calls (Opens c.args.file (Ok c.in_ok-store.store)) c.args.host.now
    c.open_watched.new.host = search (rules) in
    let before = g.W.Write.contents c.args.writer.now in
    let after = g.W.Write.contents c.serve_at_port-served.new.writer in
    let stops = subst (λ state. IfErr c.serve_at_port-served.result
    (λ stop. LogsCalls g.M.Host.calls c.open_watched.new.host c.serve_at_port-served.new.host
    (StopsAtPort g.S.BookStore.model g.L.Stream.Connection.model g.L.Listener.coming c.args.port
    c.args.connections stop state before after c.serve_at_port-served.new.service)))
    c.in_ok-service.ensures c.serve_at_port-served.ensures.stopped in
    let closes = subst (λ store. g.M.Host.calls (Closes store) c.serve_at_port-served.new.host
    c.close.new.self) c.service.view_is c.close.ensures in
    serve_stopped g.S.BookStore.model g.L.Stream.Connection.model g.L.Listener.coming
    g.M.Host.calls c.serve_at_port-served.result c.args.host.now c.open_watched.new.host
    c.serve_at_port-served.new.host c.close.new.self c.args.file c.args.port c.args.connections
    c.in_ok-store.store c.serve_at_port-served.new.service before after
    (store_opened_at g.M.Host.calls c.args.host.now c.open_watched.new.host c.args.file
    c.in_ok-store.store made) stops closes
