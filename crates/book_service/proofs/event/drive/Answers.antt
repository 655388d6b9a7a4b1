use Rattle.std.proofs.Common.{◌≡◌, ◌+◌, List, [], length, take, inl, refl, sym, ap, ◌∙◌, subst}
use Rattle.std.proofs.Common.{arith}
use Rattle.std.proofs.lemmas.List.{take_all}
use Rattle.book_service.specs.declared.event.Event.{Event}
use Rattle.book_commands.specs.declared.reply.Reply.{Reply}
use Rattle.book_service.specs.Crashes.{IsLeftAsBefore, LeavesRun}
use Rattle.book_service.specs.Faults.{AllowedFaults}
use Rattle.book_service.specs.Runs.{MatchesRows, RanTo, SystemState}
use Rattle.book_service.proofs.DriveLemmas.{ran_nowhere, ran_more, faults_more, ran_few}
use Rattle.book_service.proofs.RanLemmas.{ran_further, run_begun}
use Rattle.book_service.proofs.event.drive.Goals as goal

pub loop-event-init : goal.loop-event-init
loop-event-init g c = record {
  room = omega (arith, c.in_ok-replies.ensures.exact);
  received = ap length c.in_ok-replies.ensures.items;
  count = refl;
  limits = refl;
  premise = λ premise. premise;
  faults = subst (λ (rs : List Reply). AllowedFaults g.S.BookStore.model.may_fault [] rs)
      (sym c.in_ok-replies.ensures.items) (λ k d lt. absurd (omega (arith, lt)));
  ran = λ premise now at device_at.
      subst (λ (rs : List Reply). RanTo now [] rs (g.S.BookStore.model.books c.args.store.now)
      c.args.devices.now.items) (sym c.in_ok-replies.ensures.items)
      (ran_nowhere now (g.S.BookStore.model.limits c.args.store.now)
      (g.S.BookStore.model.books c.args.store.now) c.args.devices.now.items at device_at);
  ends = λ books left.
      inl (subst (λ (rs : List Reply). IsLeftAsBefore g.S.BookStore.model c.args.store.now books []
      rs c.args.devices.now.items c.args.devices.now.items) (sym c.in_ok-replies.ensures.items)
      (run_begun g.S.BookStore.model c.args.store.now c.args.devices.now.items books left));
}

pub loop-event-preserved : goal.loop-event-preserved
loop-event-preserved g c = let ran_on :
    g.S.BookStore.model.premise c.do_event-reply.new.store → (now : SystemState)
    → MatchesRows now (g.S.BookStore.model.limits c.args.store.now)
    (g.S.BookStore.model.books c.args.store.now) → now.devices ≡ c.args.devices.now.items
    → RanTo now (take (c.loop-event.event-index + 1) c.args.events.now) c.push.new.self.items
    (g.S.BookStore.model.books c.do_event-reply.new.store) c.do_event-reply.new.devices.items =
    λ premise now at device_at.
    ran_more now (g.S.BookStore.model.limits c.loop-event.store)
    (g.S.BookStore.model.books c.loop-event.store)
    (g.S.BookStore.model.books c.do_event-reply.new.store) c.loop-event.devices.items
    c.do_event-reply.new.devices.items
    c.args.events.now c.loop-event.event-index c.loop-event.replies.items c.push.new.self.items
    c.event-item.result c.do_event-reply.result
    (at.limits_are ∙ sym c.loop-event.invariant.limits) c.loop-event-test.true c.event-item.is
    c.in_ok-push.ensures.items
    (c.loop-event.invariant.ran (c.do_event-reply.ensures.premise premise) now at device_at)
    (c.do_event-reply.ensures.step premise) in record {
      room = omega (arith, c.loop-event.invariant.room, c.in_ok-push.ensures.capacity);
      received = omega (arith, c.loop-event.invariant.received, c.in_ok-push.ensures.len);
      count = c.do_event-reply.ensures.count ∙ c.loop-event.invariant.count;
      limits = c.do_event-reply.ensures.limits ∙ c.loop-event.invariant.limits;
      premise = λ premise. c.loop-event.invariant.premise (c.do_event-reply.ensures.premise
          premise);
      faults =
          faults_more g.S.BookStore.model.may_fault c.args.events.now c.loop-event.event-index
          c.loop-event.replies.items c.push.new.self.items c.event-item.result
          c.do_event-reply.result
          c.loop-event-test.true c.event-item.is c.loop-event.invariant.received
          c.in_ok-push.ensures.items c.loop-event.invariant.faults
          c.do_event-reply.ensures.fault;
      ran = ran_on;
      ends =
          ran_further g.S.BookStore.model c.args.store.now c.loop-event.store
          c.do_event-reply.new.store c.args.events.now c.loop-event.event-index
          c.loop-event.replies.items c.push.new.self.items
          c.args.devices.now.items c.loop-event.devices.items c.do_event-reply.new.devices.items
          c.event-item.result c.do_event-reply.result c.loop-event-test.true c.event-item.is
          c.in_ok-push.ensures.items
          c.loop-event.invariant.limits c.loop-event.invariant.premise c.loop-event.invariant.ran
          ran_on c.do_event-reply.ensures.premise c.do_event-reply.ensures.crash
          c.loop-event.invariant.ends;
    }

pub returns-clause-one_each : goal.returns-clause-one_each
returns-clause-one_each g c = omega (arith, c.loop-event.invariant.received)

pub returns-clause-runs : goal.returns-clause-runs
returns-clause-runs g c = λ premise now at device_at.
    subst (λ (es : List Event). RanTo now es c.loop-event.replies.items
    (g.S.BookStore.model.books c.loop-event.store) c.loop-event.devices.items)
    (take_all c.loop-event.event-index c.args.events.now (omega arith))
    (c.loop-event.invariant.ran premise now at device_at)

pub returns-clause-crash : goal.returns-clause-crash
returns-clause-crash g c =
    subst (λ (es : List Event). LeavesRun g.S.BookStore.model c.args.store.now c.loop-event.store es
    c.loop-event.replies.items c.args.devices.now.items c.loop-event.devices.items)
    (take_all c.loop-event.event-index c.args.events.now (omega arith))
    c.loop-event.invariant.ends

pub returns-clause-faults : goal.returns-clause-faults
returns-clause-faults g c =
    subst (λ (es : List Event). AllowedFaults g.S.BookStore.model.may_fault es
    c.loop-event.replies.items)
    (take_all c.loop-event.event-index c.args.events.now (omega arith))
    c.loop-event.invariant.faults

pub returns-clause-truncated : goal.returns-clause-truncated
returns-clause-truncated g c = λ premise now at device_at.
    ran_few c.truncated_pages_are_bounded.ensures now c.args.events.now c.loop-event.replies.items
    (g.S.BookStore.model.books c.loop-event.store) c.loop-event.devices.items
    (subst (λ (es : List Event). RanTo now es c.loop-event.replies.items
    (g.S.BookStore.model.books c.loop-event.store) c.loop-event.devices.items)
    (take_all c.loop-event.event-index c.args.events.now (omega arith))
    (c.loop-event.invariant.ran premise now at device_at))
