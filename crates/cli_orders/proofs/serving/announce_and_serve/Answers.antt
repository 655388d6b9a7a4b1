use Rattle.std.proofs.Common.{◌∙◌, subst}
use Rattle.std.proofs.lemmas.Result.{err_from_is_err_and}
use Rattle.std.specs.Io.KnownBytes.{Appends}
use Rattle.book_http.specs.Streams.{WritesPrefix}
use Rattle.cli_orders.proofs.StopLemmas.{stops_announced, stops_mute, stops_without_line}
use Rattle.cli_orders.proofs.serving.announce_and_serve.Goals as goal

pub returns-in_err-line-clause-stopped : goal.returns-in_err-line-clause-stopped
returns-in_err-line-clause-stopped g c =
    let p = err_from_is_err_and c.from_residual.result c.from_residual.ensures.1 in
    rw (p.1, p.2)
    (stops_without_line g.H.Handler.does g.H.Handler.fault_reply g.E.Endpoint.calls
    c.args.address.now c.args.limits c.args.handler.now c.args.endpoint.now
    (g.W.Write.contents c.args.writer.now))

pub returns-in_err-write_out-clause-stopped : goal.returns-in_err-write_out-clause-stopped
returns-in_err-write_out-clause-stopped g c =
    let p = err_from_is_err_and c.from_residual-in_err-write_out.result
    c.from_residual-in_err-write_out.ensures.1 in
    rw (p.1, p.2)
    (stops_mute g.H.Handler.does g.H.Handler.fault_reply g.E.Endpoint.calls c.args.address.now
    c.args.limits c.args.handler.now c.args.endpoint.now (g.W.Write.contents c.args.writer.now)
    (g.W.Write.contents c.write_out.new.writer) c.in_err-write_out.field-0.0
    c.in_err-write_out.ensures.stop
    (subst (λ octets. WritesPrefix octets (g.W.Write.contents c.args.writer.now)
    (g.W.Write.contents c.write_out.new.writer)) (c.as_slice.ensures.value
    ∙ c.in_ok-line.ensures) c.in_err-write_out.ensures.prefix))

pub returns-in_err-serve_endpoint-clause-stopped : goal.returns-in_err-serve_endpoint-clause-stopped
returns-in_err-serve_endpoint-clause-stopped g c =
    let p = err_from_is_err_and c.from_residual-in_err-serve_endpoint.result
    c.from_residual-in_err-serve_endpoint.ensures.1 in
    rw (p.1, p.2)
    (stops_announced g.H.Handler.does g.H.Handler.fault_reply g.E.Endpoint.calls c.args.address.now
    c.args.limits c.args.handler.now c.serve_endpoint.new.handler c.args.endpoint.now
    c.serve_endpoint.new.endpoint (g.W.Write.contents c.args.writer.now)
    (g.W.Write.contents c.write_out.new.writer) c.in_err-serve_endpoint.field-0.0
    (subst (λ octets. Appends (g.W.Write.contents c.args.writer.now)
    (g.W.Write.contents c.write_out.new.writer) octets) (c.as_slice.ensures.value
    ∙ c.in_ok-line.ensures) c.in_ok-write_out.ensures.written)
    c.in_err-serve_endpoint.ensures.stopped)
