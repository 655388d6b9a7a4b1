use Rattle.std.proofs.Common.{sym, []}
use Rattle.std.proofs.lemmas.Result.{err_from_is_err_and}
use Rattle.http_requests.proofs.StepLemmas.{failed_part, whole_run, run_part, ended_stop, going_run}
use Rattle.http_requests.proofs.StepLemmas.{fresh}
use Rattle.http_requests.proofs.progress.Progress.handle.Goals as goal

pub returns-in_err-reply-clause-step : goal.returns-in_err-reply-clause-step
returns-in_err-reply-clause-step g c =
    let p = err_from_is_err_and c.from_residual.result c.from_residual.ensures.1 in
    rw p.1 (
      failed_part g.H.Handler.does g.H.Handler.fault_reply c.args.self.now.held.items c.args.head.now
          c.args.start c.deref.result.now c.args.handler.now c.requires.whole c.deref.ensures.value
          c.handle.new.self c.in_err-reply.ensures.no_memory,
      c.requires.closed,
    )

pub returns-in_err-append_reply-clause-step : goal.returns-in_err-append_reply-clause-step
returns-in_err-append_reply-clause-step g c =
    let p = err_from_is_err_and c.from_residual-in_err-append_reply.result
    c.from_residual-in_err-append_reply.ensures.1 in
    rw p.1 (
      run_part g.H.Handler.does g.H.Handler.fault_reply c.args.self.now.held.items c.args.handler.now
          c.in_ok-reply.reply.items c.handle.new.self c.args.head.now.close []
          (whole_run g.H.Handler.does g.H.Handler.fault_reply c.args.self.now.held.items c.args.head.now
          c.args.start c.deref.result.now c.args.handler.now c.requires.whole c.deref.ensures.value
          c.in_ok-reply.reply.items c.handle.new.self c.in_ok-reply.ensures.done),
      c.requires.closed,
    )

pub returns-then-head-clause-step : goal.returns-then-head-clause-step
returns-then-head-clause-step g c = record {
  is_closed = c.requires.closed;
  added = c.in_ok-reply.reply.items;
  out_is = c.in_ok-append_reply.ensures;
  stopped = ended_stop g.H.Handler.does g.H.Handler.fault_reply c.args.self.now.held.items
      c.args.handler.now c.in_ok-reply.reply.items c.handle.new.self c.args.head.now.close []
      (whole_run g.H.Handler.does g.H.Handler.fault_reply c.args.self.now.held.items c.args.head.now
      c.args.start c.deref.result.now c.args.handler.now c.requires.whole c.deref.ensures.value
      c.in_ok-reply.reply.items c.handle.new.self c.in_ok-reply.ensures.done) c.if-head.true;
}

pub returns-else-head-clause-step : goal.returns-else-head-clause-step
returns-else-head-clause-step g c = record {
  holds = fresh c.empty.new.held.items c.empty.ensures.emptied;
  is_open = λ h. h;
  added = c.in_ok-reply.reply.items;
  out_is = c.in_ok-append_reply.ensures;
  runs = going_run g.H.Handler.does g.H.Handler.fault_reply c.args.self.now.held.items
      c.args.handler.now c.in_ok-reply.reply.items c.handle.new.self c.args.head.now.close []
      c.empty.new.held.items
      (whole_run g.H.Handler.does g.H.Handler.fault_reply c.args.self.now.held.items c.args.head.now
      c.args.start c.deref.result.now c.args.handler.now c.requires.whole c.deref.ensures.value
      c.in_ok-reply.reply.items c.handle.new.self c.in_ok-reply.ensures.done) c.if-head.false
      (sym c.empty.ensures.emptied);
}
