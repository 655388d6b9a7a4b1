use Rattle.std.proofs.Common.{refl}
use Rattle.http_requests.proofs.RunLemmas.{part_none}
use Rattle.std.proofs.lemmas.Result.{err_from_is_err_and}
use Rattle.http_requests.proofs.StepLemmas.{again_whole, again_screened, again_faulty}
use Rattle.http_requests.proofs.StepLemmas.{again_unreadable}
use Rattle.http_requests.proofs.progress.Progress.finish_body.Goals as goal

pub returns-in_err-head-clause-step : goal.returns-in_err-head-clause-step
returns-in_err-head-clause-step g c =
    let p = err_from_is_err_and c.from_residual.result c.from_residual.ensures.1 in
    rw p.1 (
      part_none g.H.Handler.does g.H.Handler.fault_reply c.args.self.now.held.items
          c.args.handler.now c.args.handler.now refl,
      c.requires.closed,
    )

pub handle-requires-clause-whole : goal.handle-requires-clause-whole
handle-requires-clause-whole g c =
    let found = rw (c.deref.ensures.value, c.in-Good.is) at c.in_ok-head.ensures in
    again_whole g.H.Handler.does g.H.Handler.fault_reply c.args.self.now.held.items c.args.start
    c.args.end c.in-Good.head c.args.handler.now c.requires.holds c.requires.whole found.0
    found.1 found.3 found.4

pub returns-in_err-refuse-in-Screened-clause-step : goal.returns-in_err-refuse-in-Screened-clause-step
returns-in_err-refuse-in-Screened-clause-step g c =
    let p = err_from_is_err_and c.from_residual-in_err-refuse-in-Screened.result
    c.from_residual-in_err-refuse-in-Screened.ensures.1 in
    rw p.1 (
      part_none g.H.Handler.does g.H.Handler.fault_reply c.args.self.now.held.items
          c.args.handler.now c.args.handler.now refl,
      c.requires.closed,
    )

pub returns-in_ok-refuse-in-Screened-clause-step : goal.returns-in_ok-refuse-in-Screened-clause-step
returns-in_ok-refuse-in-Screened-clause-step g c =
    let is = c.requires.holds in
    let found = rw (c.deref.ensures.value, c.in-Screened.is) at c.in_ok-head.ensures in
    record {
      is_closed = c.requires.closed;
      added = g.H.Handler.fault_reply c.in-Screened.fault;
      out_is = c.in_ok-refuse-in-Screened.ensures;
      stopped = again_screened g.H.Handler.does g.H.Handler.fault_reply c.args.self.now.held.items
          c.args.start c.args.end c.args.handler.now is found.0 c.in-Screened.fault found.1 found.3;
    }

pub returns-in-Faulty-clause-step : goal.returns-in-Faulty-clause-step
returns-in-Faulty-clause-step g c =
    let found = rw (c.deref.ensures.value, c.in-Faulty.is) at c.in_ok-head.ensures in
    absurd (again_faulty c.args.self.now.held.items c.args.start c.args.end c.requires.holds found.0
    c.in-Faulty.field-0 found.1 found.2)

pub returns-in-Unreadable-clause-step : goal.returns-in-Unreadable-clause-step
returns-in-Unreadable-clause-step g c =
    let found = rw (c.deref.ensures.value, c.in-Unreadable.is) at c.in_ok-head.ensures in
    absurd (again_unreadable c.args.self.now.held.items c.args.start c.args.end c.requires.holds
    found)
