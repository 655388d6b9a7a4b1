use Rattle.std.proofs.Common.{◌≡◌, ◌∙◌, ap, arith, inl, inr, is_some, not, refl, sym}
use Rattle.mio.specs.Events.{items}
use Rattle.socket_endpoint.specs.SocketEvents.{most_waits}
use Rattle.socket_endpoint.specs.SocketEvents.Waits.{no_wait, one_wait}
use Rattle.socket_endpoint.proofs.polling.Polling.finish.Goals as goal

pub loop-wait-init : goal.loop-wait-init
loop-wait-init g c = no_wait

pub loop-wait-preserved : goal.loop-wait-preserved
loop-wait-preserved g c = one_wait (items c.poll_until.new.self.events) c.loop-wait.invariant
    c.in-Ok.ensures.polled

pub returns-in-Err : goal.returns-in-Err
returns-in-Err g c = record {
  count = c.loop-wait._wait;
  middle = c.loop-wait.self;
  waits =
      c.loop-wait.invariant;
  ends = inr (inl c.in-Err.ensures.failed);
}

pub returns : goal.returns
returns g c =
    let often : c.loop-wait._wait ≡ most_waits = omega arith in
    record {
      count = c.loop-wait._wait;
      middle = c.loop-wait.self;
      waits = c.loop-wait.invariant;
      ends = inr (inr (often, refl));
    }

pub returns-then-is_none : goal.returns-then-is_none
returns-then-is_none g c = record {
  count = c.loop-wait._wait;
  middle = c.loop-wait.self;
  waits = c.loop-wait.invariant;
  ends = inl (
    ap is_some (sym c.deadline.ensures) ∙ c.is_none.ensures
        ∙ ap not c.if-is_none.true,
    refl,
  );
}
