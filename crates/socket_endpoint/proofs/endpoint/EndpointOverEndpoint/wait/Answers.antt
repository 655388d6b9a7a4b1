use Rattle.std.proofs.Common.{◌≡◌, ◌∙◌, ap, arith, length, refl}
use Rattle.mio.specs.Events.{items}
use Rattle.socket_endpoint.specs.Reports.{ready_after, reports_listener}
use Rattle.socket_endpoint.proofs.WaitLemmas.{marked_again}
use Rattle.socket_endpoint.proofs.endpoint.EndpointOverEndpoint.wait.Goals as goal

pub returns-in-Err-clause-failed : goal.returns-in-Err-clause-failed
returns-in-Err-clause-failed g c = record {
  fails = c.in-Err.ensures.failed;
  kept = record {
    listener = refl;
    places = refl;
    slots = c.in-Err.ensures.failed.kept;
  };
}

pub returns-clause-woken : goal.returns-clause-woken
returns-clause-woken g c =
    let same = ap items c.events.ensures in
    let marks = c.mark_reported-listener.ensures.places ∙ ap (λ events. ready_after events
    c.clear_ready.new.ready) same in
    let long : length c.mark_reported-listener.new.ready ≡ length c.args.ready.now = omega arith in
    record {
      events = items c.poll_until.new.self.events;
      polls = c.in-Ok.ensures.polled;
      ready_is = marked_again (items c.poll_until.new.self.events) c.args.ready.now
          c.clear_ready.new.ready c.mark_reported-listener.new.ready c.clear_ready.ensures marks
          long;
      listener_is = c.mark_reported-listener.ensures.listener ∙ ap reports_listener same;
      listener_kept = refl;
      places_kept = refl;
    }
