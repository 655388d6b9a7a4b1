use Rattle.std.proofs.Common.{◌∙◌, subst}
use Rattle.std.proofs.lemmas.Result.{err_from_is_err_and}
use Rattle.std.specs.Io.KnownBytes.{Appends}
use Rattle.book_http.specs.Streams.{WritesPrefix}
use Rattle.cli_orders.proofs.TurnLemmas.{turns_announced, turns_mute, turns_without_line}
use Rattle.cli_orders.proofs.serving.announce_and_serve_in_turn.Goals as goal

pub returns-in_err-line-clause-stopped : goal.returns-in_err-line-clause-stopped
returns-in_err-line-clause-stopped g c =
    let p = err_from_is_err_and c.from_residual.result c.from_residual.ensures.1 in
    rw (p.1, p.2)
    (turns_without_line g.H.Handler.does g.H.Handler.fault_reply g.L.Stream.Connection.model
    c.args.port c.args.connections (g.L.Listener.coming c.args.listener) c.args.handler.now
    (g.W.Write.contents c.args.writer.now))

pub returns-in_err-write_out-clause-stopped : goal.returns-in_err-write_out-clause-stopped
returns-in_err-write_out-clause-stopped g c =
    let p = err_from_is_err_and c.from_residual-in_err-write_out.result
    c.from_residual-in_err-write_out.ensures.1 in
    rw (p.1, p.2)
    (turns_mute g.H.Handler.does g.H.Handler.fault_reply g.L.Stream.Connection.model c.args.port
    c.args.connections (g.L.Listener.coming c.args.listener) c.args.handler.now
    (g.W.Write.contents c.args.writer.now) (g.W.Write.contents c.write_out.new.writer)
    c.in_err-write_out.field-0.0 c.in_err-write_out.ensures.stop
    (subst (λ octets. WritesPrefix octets (g.W.Write.contents c.args.writer.now)
    (g.W.Write.contents c.write_out.new.writer)) (c.as_slice.ensures.value
    ∙ c.in_ok-line.ensures) c.in_err-write_out.ensures.prefix))

pub returns-in_err-serve_listener-clause-stopped : goal.returns-in_err-serve_listener-clause-stopped
returns-in_err-serve_listener-clause-stopped g c =
    let p = err_from_is_err_and c.from_residual-in_err-serve_listener.result
    c.from_residual-in_err-serve_listener.ensures.1 in
    rw (p.1, p.2)
    (turns_announced g.H.Handler.does g.H.Handler.fault_reply g.L.Stream.Connection.model
    c.args.port c.args.connections (g.L.Listener.coming c.args.listener) c.args.handler.now
    c.serve_listener.new.handler (g.W.Write.contents c.args.writer.now)
    (g.W.Write.contents c.write_out.new.writer) c.in_err-serve_listener.field-0.0
    (subst (λ octets. Appends (g.W.Write.contents c.args.writer.now)
    (g.W.Write.contents c.write_out.new.writer) octets) (c.as_slice.ensures.value
    ∙ c.in_ok-line.ensures) c.in_ok-write_out.ensures.written)
    c.in_err-serve_listener.ensures.aborted c.in_err-serve_listener.ensures.failed_to_wait)
