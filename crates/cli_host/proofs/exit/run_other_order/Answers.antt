use Rattle.cli_orders.specs.Outputs.{LeavesFlushed}
use Rattle.cli_host.proofs.EndingLemmas.{ran_ends}
use Rattle.cli_host.proofs.exit.run_other_order.Goals as goal

pub returns-clause-ends : goal.returns-clause-ends
returns-clause-ends g c = ran_ends g.S.BookStore.model g.M.Front.Front.answers g.P.Endpoint.calls
    g.L.Stream.Connection.model g.L.Listener.coming g.M.Host.calls c.run_on_host-done.result
    c.args.host.now c.run_on_host-done.new.host c.args.order (g.W.Write.contents c.args.writer.now)
    (g.W.Write.contents c.run_on_host-done.new.writer) (g.E.Write.contents c.args.errors.now)
    (g.E.Write.contents c.report_result.new.errors)
    (LeavesFlushed g.W.Write.contents g.W.Output.flushed c.args.writer.now
    c.run_on_host-done.new.writer) c.report_result.result
    c.run_on_host-done.ensures.done c.run_on_host-done.ensures.stopped
    c.run_on_host-done.ensures.output_kept c.run_on_host-done.ensures.flushed.stopped
    c.report_result.ensures.reports
