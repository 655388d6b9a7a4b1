-- A piece is consumed step by step, until nothing is left or the session closes.
-- Given here: an induction over the octets so far. The invariant says that what was held, with
-- them, is a run of complete requests and what is held now (`SoFar`), and that a head whose body is
-- awaited was admitted, or was held before the piece (`asked_step`). The loop ends, since `advance`
-- consumes something: its measure is the length of the rest.
use Rattle.std.proofs.Common.{◌∙◌, sym, length}
use Rattle.std.proofs.lemmas.Bool.{eqb-true}
use Rattle.http_requests.specs.internal.Progress.{IsOpen}
use Rattle.base_types.proofs.TextMapLemmas.{on_err_from}
use Rattle.http_requests.proofs.AskingLemmas.{asked_end, asked_start, asked_step}
use Rattle.http_requests.proofs.FeedLemmas.{cut_rest, so_far_start, so_far_cut, takes_nothing}
use Rattle.http_requests.proofs.FeedLemmas.{takes_stop, takes_all, loses_part, closed_holds}
use Rattle.http_requests.proofs.FeedLemmas.{empty_rest}
use Rattle.http_requests.proofs.progress.Progress.feed.Goals as goal

pub returns-then-is_closed-clause-fed : goal.returns-then-is_closed-clause-fed
returns-then-is_closed-clause-fed g c =
    takes_nothing g.H.Handler.does g.H.Handler.fault_reply c.args.self.now.held.items
    c.args.piece.now c.args.self.now.stage c.args.handler.now c.new-out.result.items
    (c.is_closed.ensures.0 c.if-is_closed.true) c.new-out.ensures.items

pub loop-rest-init : goal.loop-rest-init
loop-rest-init g c =
    let was_open : IsOpen c.args.self.now.stage = λ closed. let t = c.is_closed.ensures.1 closed in
    cc (t, c.if-is_closed.false) in
    record {
      holds = c.requires.holds;
      is_open = was_open;
      was_open = was_open;
      far = so_far_start g.H.Handler.does g.H.Handler.fault_reply c.args.self.now.held.items
          c.args.piece.now c.args.handler.now c.new-out.result.items c.new-out.ensures.items;
      asked = asked_start g.H.Handler.does c.args.handler.now c.args.self.now.held.items
          c.args.piece.now c.args.self.now.stage;
    }

pub returns-in_err-used-clause-holds : goal.returns-in_err-used-clause-holds
returns-in_err-used-clause-holds g c =
    closed_holds c.advance.new.self.held.items c.advance.new.self.stage
    c.in_err-used.ensures.step.1

pub returns-in_err-used-clause-fed_in_part : goal.returns-in_err-used-clause-fed_in_part
returns-in_err-used-clause-fed_in_part g c = on_err_from c.from_residual.result
    (loses_part g.H.Handler.does g.H.Handler.fault_reply c.args.self.now.held.items c.args.piece.now
    c.args.self.now.stage c.args.handler.now c.loop-rest.out.items c.loop-rest.handler
    c.loop-rest.self.held.items c.loop-rest.rest.now c.advance.new.handler
    c.loop-rest.invariant.was_open c.loop-rest.invariant.far c.in_err-used.ensures.step.0)

pub returns-then-not-stays_open-clause-holds : goal.returns-then-not-stays_open-clause-holds
returns-then-not-stays_open-clause-holds g c =
    let step = rw c.if-not-stays_open.true at c.in_ok-used.ensures.step in
    closed_holds c.advance.new.self.held.items c.advance.new.self.stage step.is_closed

pub returns-then-not-stays_open-clause-fed : goal.returns-then-not-stays_open-clause-fed
returns-then-not-stays_open-clause-fed g c =
    let step = rw c.if-not-stays_open.true at c.in_ok-used.ensures.step in
    takes_stop g.H.Handler.does g.H.Handler.fault_reply c.args.self.now.held.items c.args.piece.now
    c.args.self.now.stage c.args.handler.now c.loop-rest.out.items c.loop-rest.handler
    c.loop-rest.self.held.items c.loop-rest.rest.now c.in_ok-used.used
    c.advance.new.out.items c.advance.new.handler c.advance.new.self c.loop-rest.invariant.was_open
    c.loop-rest.invariant.far step

pub loop-rest-preserved : goal.loop-rest-preserved
loop-rest-preserved g c =
    let step = rw c.if-not-stays_open.false at c.in_ok-used.ensures.step in
    record {
      holds = step.holds;
      is_open = step.is_open;
      was_open = c.loop-rest.invariant.was_open;
      far = so_far_cut g.H.Handler.does g.H.Handler.fault_reply c.args.self.now.held.items
          c.args.piece.now c.args.handler.now c.loop-rest.out.items c.loop-rest.handler
          c.loop-rest.self.held.items c.loop-rest.rest.now c.in_ok-used.used
          c.advance.new.out.items c.advance.new.handler c.advance.new.self c.loop-rest.invariant.far
          step;
      asked = asked_step g.H.Handler.does c.args.self.now.held.items c.args.self.now.stage
          c.args.piece.now c.loop-rest.handler c.advance.new.handler c.loop-rest.self.held.items
          c.advance.new.self.held.items c.loop-rest.self.stage
          c.advance.new.self.stage c.loop-rest.rest.now c.in_ok-used.used _
          c.loop-rest.invariant.holds (cut_rest c.loop-rest.rest.now c.in_ok-used.used)
          c.loop-rest.invariant.asked c.in_ok-used.ensures.asked;
    }

pub returns-clause-holds : goal.returns-clause-holds
returns-clause-holds g c = c.loop-rest.invariant.holds

pub returns-clause-fed : goal.returns-clause-fed
returns-clause-fed g c =
    takes_all g.H.Handler.does g.H.Handler.fault_reply c.args.self.now.held.items c.args.piece.now
    c.args.self.now.stage c.args.handler.now c.loop-rest.out.items c.loop-rest.handler
    c.loop-rest.self c.loop-rest.rest.now c.loop-rest.invariant.was_open
    c.loop-rest.invariant.holds c.loop-rest.invariant.is_open c.loop-rest.invariant.far
    (empty_rest c.loop-rest.rest.now (eqb-true (length c.loop-rest.rest.now) 0
    (sym c.is_empty.ensures ∙ c.loop-rest-test.false)))

pub returns-clause-asks_at_once : goal.returns-clause-asks_at_once
returns-clause-asks_at_once g c =
    asked_end g.H.Handler.does c.args.self.now.held.items c.args.self.now.stage c.args.piece.now
    c.loop-rest.handler c.loop-rest.self.held.items c.loop-rest.self.stage c.loop-rest.rest.now
    c.requires.holds c.loop-rest.invariant.holds
    (empty_rest c.loop-rest.rest.now (eqb-true (length c.loop-rest.rest.now) 0
    (sym c.is_empty.ensures ∙ c.loop-rest-test.false))) c.loop-rest.invariant.asked
