-- A head that has ended is handled at once, kept until its body comes, or refused.
-- Given here: a case split on the answer of `read_head`. By what it says of the held octets, a head
-- without a body is a complete request (`head_whole`), one with a body is waited for (`waiting`),
-- and each refusal ends the session as the definition says (`fault_stop`, `screened_stop`,
-- `unreadable_stop`). A new `ParsedHead` has no answer here.
use Rattle.std.proofs.Common.{sym, refl, [], arith, inl}
use Rattle.std.proofs.lemmas.List.{append-nil}
use Rattle.http_requests.specs.declared.head_fault.HeadFault.TheVariants.{BadHead}
use Rattle.http_requests.proofs.AskingLemmas.{admits}
use Rattle.http_requests.proofs.RunLemmas.{run_none, part_none}
use Rattle.std.proofs.lemmas.Result.{err_from_is_err_and}
use Rattle.http_requests.proofs.StepLemmas.{waiting, head_whole, fault_stop, screened_stop}
use Rattle.http_requests.proofs.StepLemmas.{unreadable_stop}
use Rattle.http_requests.proofs.progress.Progress.finish_head.Goals as goal

pub returns-in_err-head-clause-step : goal.returns-in_err-head-clause-step
returns-in_err-head-clause-step g c =
    let p = err_from_is_err_and c.from_residual.result c.from_residual.ensures.1 in
    rw p.1 (
      part_none g.H.Handler.does g.H.Handler.fault_reply c.args.self.now.held.items
          c.args.handler.now c.args.handler.now refl,
      c.requires.closed,
    )

pub returns-in_err-refuse-in-Faulty-clause-step : goal.returns-in_err-refuse-in-Faulty-clause-step
returns-in_err-refuse-in-Faulty-clause-step g c =
    let p = err_from_is_err_and c.from_residual-in_err-refuse-in-Faulty.result
    c.from_residual-in_err-refuse-in-Faulty.ensures.1 in
    rw p.1 (
      part_none g.H.Handler.does g.H.Handler.fault_reply c.args.self.now.held.items
          c.args.handler.now c.args.handler.now refl,
      c.requires.closed,
    )

pub returns-in_err-refuse-in-Screened-clause-step : goal.returns-in_err-refuse-in-Screened-clause-step
returns-in_err-refuse-in-Screened-clause-step g c =
    let p = err_from_is_err_and c.from_residual-in_err-refuse-in-Screened.result
    c.from_residual-in_err-refuse-in-Screened.ensures.1 in
    rw p.1 (
      part_none g.H.Handler.does g.H.Handler.fault_reply c.args.self.now.held.items
          c.args.handler.now c.args.handler.now refl,
      c.requires.closed,
    )

pub returns-in_err-refuse-in-Unreadable-clause-step :
    goal.returns-in_err-refuse-in-Unreadable-clause-step
returns-in_err-refuse-in-Unreadable-clause-step g c =
    let p = err_from_is_err_and c.from_residual-in_err-refuse-in-Unreadable.result
    c.from_residual-in_err-refuse-in-Unreadable.ensures.1 in
    rw p.1 (
      part_none g.H.Handler.does g.H.Handler.fault_reply c.args.self.now.held.items
          c.args.handler.now c.args.handler.now refl,
      c.requires.closed,
    )

pub handle-requires-clause-whole : goal.handle-requires-clause-whole
handle-requires-clause-whole g c =
    let found = rw (c.deref.ensures.value, c.in-Good.is) at c.in_ok-head.ensures in
    head_whole g.H.Handler.does g.H.Handler.fault_reply c.args.self.now.held.items c.in-Good.head
    c.len-start.result c.args.handler.now found.0 c.requires.ends found.1 found.2 found.3
    found.4
    (omega (arith, c.len-start.ensures, c.args.self.now.held.ok)) c.if-head-eq0.true

pub returns-in-Good-clause-step : goal.returns-in-Good-clause-step
returns-in-Good-clause-step g c =
    let found = rw (c.deref.ensures.value, c.in-Good.is) at c.in_ok-head.ensures in
    record {
      holds = waiting c.args.self.now.held.items c.in-Good.head c.len-start.result _ found.0
          c.requires.ends found.1 found.2 found.4 found.5 (omega (
            arith,
            c.len-start.ensures,
            c.args.self.now.held.ok,
          )) refl c.if-head-eq0.false;
      is_open = λ h. h;
      added = [];
      out_is = sym (append-nil c.args.out.now.items);
      runs = run_none g.H.Handler.does g.H.Handler.fault_reply c.args.self.now.held.items
          c.args.handler.now;
    }

pub returns-in-Faulty-clause-step : goal.returns-in-Faulty-clause-step
returns-in-Faulty-clause-step g c =
    let found = rw (c.deref.ensures.value, c.in-Faulty.is) at c.in_ok-head.ensures in
    record {
      is_closed = c.requires.closed;
      added = g.H.Handler.fault_reply c.in-Faulty.fault;
      out_is = c.in_ok-refuse-in-Faulty.ensures;
      stopped = fault_stop g.H.Handler.does g.H.Handler.fault_reply c.args.self.now.held.items
          c.args.handler.now found.0 c.in-Faulty.fault found.1 found.2;
    }

pub returns-in-Screened-clause-step : goal.returns-in-Screened-clause-step
returns-in-Screened-clause-step g c =
    let found = rw (c.deref.ensures.value, c.in-Screened.is) at c.in_ok-head.ensures in
    record {
      is_closed = c.requires.closed;
      added = g.H.Handler.fault_reply c.in-Screened.fault;
      out_is = c.in_ok-refuse-in-Screened.ensures;
      stopped = screened_stop g.H.Handler.does g.H.Handler.fault_reply c.args.self.now.held.items
          c.args.handler.now found.0 [] c.in-Screened.fault found.1 found.2 found.3;
    }

pub returns-clause-step : goal.returns-clause-step
returns-clause-step g c =
    let found = rw (c.deref.ensures.value, c.in-Unreadable.is) at c.in_ok-head.ensures in
    record {
      is_closed = c.requires.closed;
      added = g.H.Handler.fault_reply BadHead;
      out_is = c.in_ok-refuse-in-Unreadable.ensures;
      stopped = unreadable_stop g.H.Handler.does g.H.Handler.fault_reply c.args.self.now.held.items
          c.args.handler.now (inl c.requires.ends.ended) found;
    }

pub returns-in-Good-clause-asked : goal.returns-in-Good-clause-asked
returns-in-Good-clause-asked g c =
    let found = rw (c.deref.ensures.value, c.in-Good.is) at c.in_ok-head.ensures in
    λ awaits. admits g.H.Handler.does c.args.handler.now c.args.self.now.held.items found.0 []
    found.1 found.3
