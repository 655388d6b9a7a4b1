use Rattle.std.proofs.Common.{◌∙◌, OnOk, subst}
use Rattle.std.proofs.lemmas.Result.{err_from_is_err_and}
use Rattle.std.specs.Io.KnownBytes.{Appends}
use Rattle.cli_orders.specs.TryResults.{IsTryResult}
use Rattle.cli_orders.specs.TryStops.{IsTryStop}
use Rattle.cli_orders.specs.Stops.{stop_of}
use Rattle.book_http.specs.Streams.{WritesPrefix}
use Rattle.cli_orders.proofs.LongTextLemmas.{stopped_for_all, stopped_for_input, printed_of_input}
use Rattle.cli_orders.proofs.LongTextLemmas.{output_kept_of_input}
use Rattle.cli_orders.proofs.try_order.run_try.Goals as goal

pub returns-in_err-octets-clause-stopped : goal.returns-in_err-octets-clause-stopped
returns-in_err-octets-clause-stopped g c =
    let p = err_from_is_err_and c.from_residual.result c.from_residual.ensures.1 in
    rw (p.1, p.2) (stopped_for_all (g.R.Read.remaining c.args.reader.now) c.in_err-octets.field-0.0
    c.in_err-octets.ensures.stop)

pub returns-in_err-path-clause-stopped : goal.returns-in_err-path-clause-stopped
returns-in_err-path-clause-stopped g c =
    let p = err_from_is_err_and c.from_residual-in_err-path.result
    c.from_residual-in_err-path.ensures.1 in
    rw (p.1, p.2) (stopped_for_input (g.R.Read.remaining c.args.reader.now)
    c.in_ok-octets.octets.items _ c.in_ok-octets.ensures.read
    (subst (λ text. IsTryStop text (stop_of c.in_err-path.field-0.0)) c.as_slice.ensures.value
    c.in_err-path.ensures.first_fault))

pub returns-clause-printed : goal.returns-clause-printed
returns-clause-printed g c = printed_of_input c.write_out.result
    (g.R.Read.remaining c.args.reader.now) _ _ c.in_ok-octets.octets.items c.in_ok-path.path
    c.in_ok-octets.ensures.read
    (subst (λ text. IsTryResult text c.in_ok-path.path) c.as_slice.ensures.value
    c.in_ok-path.ensures.result_is)
    (subst (λ octets. OnOk c.write_out.result (Appends (g.W.Write.contents c.args.writer.now)
    (g.W.Write.contents c.write_out.new.writer) octets)) (c.as_slice-2.ensures.value
    ∙ c.in_ok-output.ensures) c.write_out.ensures.written)

pub returns-clause-output_kept : goal.returns-clause-output_kept
returns-clause-output_kept g c = output_kept_of_input c.write_out.result
    (g.R.Read.remaining c.args.reader.now) _ _ c.in_ok-octets.octets.items c.in_ok-path.path
    c.in_ok-octets.ensures.read
    (subst (λ text. IsTryResult text c.in_ok-path.path) c.as_slice.ensures.value
    c.in_ok-path.ensures.result_is) c.write_out.ensures.stop
    (subst (λ octets. WritesPrefix octets (g.W.Write.contents c.args.writer.now)
    (g.W.Write.contents c.write_out.new.writer)) (c.as_slice-2.ensures.value
    ∙ c.in_ok-output.ensures) c.write_out.ensures.prefix)
