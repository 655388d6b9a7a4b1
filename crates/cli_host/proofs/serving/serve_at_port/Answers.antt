use Rattle.std.proofs.lemmas.Result.{err_from_is_err_and}
use Rattle.cli_host.proofs.TurnLemmas.{port_served, port_unbound, port_unserved}
use Rattle.cli_host.proofs.serving.serve_at_port.Goals as goal

pub returns-in_err-listener-clause-stopped : goal.returns-in_err-listener-clause-stopped
returns-in_err-listener-clause-stopped g c =
    let p = err_from_is_err_and c.from_residual.result c.from_residual.ensures.1 in
    rw (p.1, p.2)
    (port_unbound g.S.BookStore.model g.L.Stream.Connection.model g.L.Listener.coming
    g.M.Host.calls c.args.host.now c.bind_listener.new.self c.args.port c.args.connections
    c.args.service.now c.in_err-listener.field-0.0 (g.W.Write.contents c.args.writer.now)
    c.in_err-listener.ensures.called c.in_err-listener.ensures.stop)

pub returns-clause-done : goal.returns-clause-done
returns-clause-done g c =
    port_served g.S.BookStore.model g.L.Stream.Connection.model g.L.Listener.coming
    g.M.Host.calls c.announce_and_serve_in_turn.result c.args.host.now c.bind_listener.new.self
    c.args.port c.in_ok-listener.port c.args.connections c.args.service.now
    c.announce_and_serve_in_turn.new.handler c.in_ok-listener.listener
    (g.W.Write.contents c.args.writer.now)
    (g.W.Write.contents c.announce_and_serve_in_turn.new.writer)
    c.in_ok-listener.ensures.called c.in_ok-listener.ensures.port
    c.announce_and_serve_in_turn.ensures.served

pub returns-clause-stopped : goal.returns-clause-stopped
returns-clause-stopped g c =
    port_unserved g.S.BookStore.model g.L.Stream.Connection.model g.L.Listener.coming
    g.M.Host.calls c.announce_and_serve_in_turn.result c.args.host.now c.bind_listener.new.self
    c.args.port c.in_ok-listener.port c.args.connections c.args.service.now
    c.announce_and_serve_in_turn.new.handler c.in_ok-listener.listener
    (g.W.Write.contents c.args.writer.now)
    (g.W.Write.contents c.announce_and_serve_in_turn.new.writer)
    c.in_ok-listener.ensures.called c.in_ok-listener.ensures.port
    c.announce_and_serve_in_turn.ensures.stopped
