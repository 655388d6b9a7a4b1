use Rattle.std.proofs.Common.{◌∙◌, Err, Ok, ap, inl, inr, map, refl, subst}
use Rattle.mio.specs.Events.{capacity, items}
use Rattle.socket_endpoint.specs.Lingering.{DrainsSlots, ServesSlots, room_octets}
use Rattle.socket_endpoint.specs.PollTimes.{nanos_in, time_left}
use Rattle.socket_endpoint.specs.Reports.{event_subject}
use Rattle.socket_endpoint.specs.SocketCalls.{SocketLog, logged}
use Rattle.socket_endpoint.specs.SocketCalls.SocketCall.{ReadsClock}
use Rattle.socket_endpoint.proofs.EventLemmas.{on_err, polled_by}
use Rattle.socket_endpoint.proofs.polling.Polling.poll_until.Goals as goal

pub returns-in_err-before-clause-failed : goal.returns-in_err-before-clause-failed
returns-in_err-before-clause-failed g c = on_err c.from_residual.result (record {
  fails = inl
      (c.in_err-before.field-0.0, c.in_err-before.ensures);
  kept = refl;
  waited = refl;
})

pub returns-in_err-poll-clause-failed : goal.returns-in_err-poll-clause-failed
returns-in_err-poll-clause-failed g c =
    let log = g.S.Sockets.log in
    let left_is = c.time_left-left.ensures ∙ ap (λ e. time_left e c.in_ok-before.before)
    c.earlier.ensures in
    let made = polled_by log c.args.until c.args.self.now c.in_ok-before.before (capacity
    c.args.self.now.events) c.deadline.result c.time_left-left.result (nanos_in
    c.timeout_of.result) (Err c.in_err-poll.field-0.0) (items c.poll.new.events) (log
    c.millis.new.self) (log c.poll.new.self)
    c.deadline.ensures left_is c.timeout_of.ensures c.args.self.now.most c.in_ok-before.ensures
    c.in_err-poll.ensures.logged in
    on_err c.from_residual-in_err-poll.result (record {
      fails = inr (inl (
        c.in_ok-before.before,
        c.in_err-poll.field-0.0,
        items c.poll.new.events,
        made,
      ));
      kept = refl;
      waited = refl;
    })

pub returns-in_err-now-clause-failed : goal.returns-in_err-now-clause-failed
returns-in_err-now-clause-failed g c =
    let log = g.S.Sockets.log in
    let left_is = c.time_left-left.ensures ∙ ap (λ e. time_left e c.in_ok-before.before)
    c.earlier.ensures in
    let made = polled_by log c.args.until c.args.self.now c.in_ok-before.before (capacity
    c.args.self.now.events) c.deadline.result c.time_left-left.result (nanos_in
    c.timeout_of.result) (Ok tt) (items c.poll.new.events) (log c.millis.new.self) (log
    c.poll.new.self)
    c.deadline.ensures left_is c.timeout_of.ensures c.args.self.now.most c.in_ok-before.ensures
    c.in_ok-poll.ensures.logged in
    let failed = c.in_err-now.ensures ∙ ap (λ t. logged (ReadsClock (Err c.in_err-now.field-0.0)) t)
    made in
    on_err c.from_residual-in_err-now.result (record {
      fails = inr (inr (
        c.in_ok-before.before,
        c.in_err-now.field-0.0,
        items c.poll.new.events,
        failed,
      ));
      kept = refl;
      waited = refl;
    })

pub returns-clause-polled : goal.returns-clause-polled
returns-clause-polled g c =
    let log = g.S.Sockets.log in
    let left_is = c.time_left-left.ensures ∙ ap (λ e. time_left e c.in_ok-before.before)
    c.earlier.ensures in
    let made = polled_by log c.args.until c.args.self.now c.in_ok-before.before (capacity
    c.args.self.now.events) c.deadline.result c.time_left-left.result (nanos_in
    c.timeout_of.result) (Ok tt) (items c.poll.new.events) (log c.millis.new.self) (log
    c.poll.new.self)
    c.deadline.ensures left_is c.timeout_of.ensures c.args.self.now.most c.in_ok-before.ensures
    c.in_ok-poll.ensures.logged in
    let clock = c.in_ok-now.ensures ∙ ap (λ t. logged (ReadsClock (Ok c.in_ok-now.now)) t) made in
    record {
      start = c.in_ok-before.before;
      drains = subst (λ (t : SocketLog g.row.L.Denot g.row.C.Denot). DrainsSlots
          c.args.self.now.lingerers.slots.items c.serve.new.self.slots.items t (log
          c.serve.new.system)) clock c.serve.ensures.drains;
      given_up = c.serve.ensures.given_up;
      serves = subst (λ (t : SocketLog g.row.L.Denot g.row.C.Denot). ServesSlots room_octets
          c.in_ok-now.now (map event_subject (items c.poll.new.events))
          c.args.self.now.lingerers.slots.items c.serve.new.self.slots.items t (log
          c.serve.new.system)) clock c.serve.ensures.serves;
      waited = refl;
    }
