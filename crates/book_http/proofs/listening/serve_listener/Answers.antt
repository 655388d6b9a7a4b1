use Rattle.std.proofs.Common.{arith}
use Rattle.std.proofs.lemmas.Result.{err_from_is_err_and}
use Rattle.book_http.proofs.ListeningLemmas.{so_far_none, so_far_on, stopped_early, served_all}
use Rattle.book_http.proofs.ListeningLemmas.{served_others}
use Rattle.book_http.proofs.listening.serve_listener.Goals as goal

pub loop-connection-init : goal.loop-connection-init
loop-connection-init g c = so_far_none g.H.Handler.does g.H.Handler.fault_reply
    g.L.Stream.Connection.model (g.L.Listener.coming c.args.listener) c.args.handler.now

pub returns-in_err-end-clause-failed_to_wait : goal.returns-in_err-end-clause-failed_to_wait
returns-in_err-end-clause-failed_to_wait g c =
    let p = err_from_is_err_and c.from_residual.result c.from_residual.ensures.1 in
    rw (p.1, p.2, c.in_err-end.ensures.device.0, c.in_err-end.ensures.device.1)
    (stopped_early g.H.Handler.does g.H.Handler.fault_reply g.L.Stream.Connection.model
    c.loop-connection._connection c.args.connections c.loop-connection.first
    (g.L.Listener.coming c.args.listener) (g.L.Listener.coming c.loop-connection.listener)
    (g.L.Listener.coming c.serve_next.new.listener) c.args.handler.now c.loop-connection.handler
    c.loop-connection.invariant c.loop-connection-test.true c.in_err-end.ensures.failed)

pub loop-connection-preserved : goal.loop-connection-preserved
loop-connection-preserved g c =
    rw c.or-first.ensures (so_far_on g.H.Handler.does g.H.Handler.fault_reply
    g.L.Stream.Connection.model c.loop-connection._connection c.loop-connection.first
    c.in_ok-end.end (g.L.Listener.coming c.args.listener)
    (g.L.Listener.coming c.loop-connection.listener)
    (g.L.Listener.coming c.serve_next.new.listener) c.args.handler.now c.loop-connection.handler
    c.serve_next.new.handler c.loop-connection.invariant c.in_ok-end.ensures.served)

pub returns-in-None-clause-served : goal.returns-in-None-clause-served
returns-in-None-clause-served g c =
    served_all g.H.Handler.does g.H.Handler.fault_reply g.L.Stream.Connection.model
    c.loop-connection._connection c.args.connections c.loop-connection.first
    (g.L.Listener.coming c.args.listener) (g.L.Listener.coming c.loop-connection.listener)
    c.args.handler.now c.loop-connection.handler c.loop-connection.invariant
    (omega (arith, c.loop-connection-test.false, c.loop-connection.auto)) c.in-None.is

pub returns-clause-aborted : goal.returns-clause-aborted
returns-clause-aborted g c =
    served_others g.H.Handler.does g.H.Handler.fault_reply g.L.Stream.Connection.model
    c.loop-connection._connection c.args.connections c.loop-connection.first c.in-Some.fault
    (g.L.Listener.coming c.args.listener) (g.L.Listener.coming c.loop-connection.listener)
    c.args.handler.now c.loop-connection.handler c.loop-connection.invariant
    (omega (arith, c.loop-connection-test.false, c.loop-connection.auto)) c.in-Some.is
