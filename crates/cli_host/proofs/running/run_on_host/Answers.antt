use Rattle.cli_host.specs.OrderWork.{work_of}
use Rattle.cli_host.proofs.FileLemmas.{stopped_work_leaves}
use Rattle.cli_host.proofs.running.run_on_host.Goals as goal

pub returns : goal.returns
returns g c = record {
  done = rw c.work_of.ensures at c.do_work.ensures.done;
  stopped = rw c.work_of.ensures at c.do_work.ensures.stopped;
  output_kept = stopped_work_leaves g.S.BookStore.model g.M.Front.Front.answers g.P.Endpoint.calls
      g.L.Stream.Connection.model g.L.Listener.coming g.M.Host.calls c.do_work.result
      c.args.host.now c.do_work.new.host (work_of c.args.order)
      (g.W.Write.contents c.args.writer.now) (g.W.Write.contents c.do_work.new.writer)
      (rw c.work_of.ensures at c.do_work.ensures.stopped);
  flushed = c.do_work.ensures.flushed;
}
