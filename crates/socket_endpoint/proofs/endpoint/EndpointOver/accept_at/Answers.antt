use Rattle.std.proofs.Common.{◌≡◌, ◌∙◌, Err, ap, arith, inl, inr, refl, sym}
use Rattle.socket_endpoint.specs.AcceptCauses.{accept_cause}
use Rattle.socket_endpoint.specs.SocketCalls.Repeats.{no_call, one_more_call}
use Rattle.socket_endpoint.specs.SocketCalls.SocketCall.{Accepts}
use Rattle.socket_endpoint.specs.SocketEvents.{most_accepts}
use Rattle.socket_endpoint.specs.declared.accept_causes.AcceptCause.TheVariants as cause
use Rattle.socket_endpoint.proofs.AcceptLemmas.{accepts_by, stops_by}
use Rattle.socket_endpoint.proofs.endpoint.EndpointOver.accept_at.Goals as goal

pub returns-then-not-is_free : goal.returns-then-not-is_free
returns-then-not-is_free g c = inr (record {
  taken = c.is_free.ensures.taken c.if-not-is_free.true;
  outcome_is = refl;
  same = refl;
  kept = record { listener = refl; places = refl; slots = refl };
})

pub loop-try-init : goal.loop-try-init
loop-try-init g c = (no_call, record { listener = refl; places = refl; slots = refl })

pub loop-try-preserved : goal.loop-try-preserved
loop-try-preserved g c =
    let keeps = c.loop-try.invariant.1 in
    let means = ap (λ code. accept_cause code) (sym c.raw_os_error.ensures)
    ∙ sym c.accept_cause.ensures ∙ c.in-TriesAgain.is in (
      one_more_call (Accepts c.loop-try.self.listener (Err c.in-Err.error)) c.loop-try.invariant.0
          (keeps.listener, means) c.in-Err.ensures,
      record {
        listener = keeps.listener;
        places =
            keeps.places;
        slots = keeps.slots;
      },
    )

pub returns-in-Ok : goal.returns-in-Ok
returns-in-Ok g c =
    let log = g.S.Sockets.log in
    let keeps = c.loop-try.invariant.1 in
    let loop = c.loop-try.self in
    inl (record {
      free = c.is_free.ensures.free c.if-not-is_free.false;
      tries = c.loop-try._try;
      middle = log loop.polling.system;
      failed = c.loop-try.invariant.0;
      ends = accepts_by log c.args.place c.loop-try._try c.in-Ok.stream loop.listener c.seat.result
          c.args.self.now _ c.seat.new.self (log loop.polling.system) (log c.accept.new.self)
          (record { listener = keeps.listener; places = keeps.places; slots = keeps.slots })
          keeps.listener c.in-Ok.ensures c.seat.ensures;
    })

pub returns-in-NoneWaits : goal.returns-in-NoneWaits
returns-in-NoneWaits g c =
    let log = g.S.Sockets.log in
    let keeps = c.loop-try.invariant.1 in
    let loop = c.loop-try.self in
    let means = ap (λ code. accept_cause code) (sym c.raw_os_error.ensures)
    ∙ sym c.accept_cause.ensures ∙ c.in-NoneWaits.is in
    inl (record {
      free = c.is_free.ensures.free c.if-not-is_free.false;
      tries = c.loop-try._try;
      middle = log loop.polling.system;
      failed = c.loop-try.invariant.0;
      ends = stops_by log cause.NoneWaits loop.listener c.in-Err.error c.args.self.now _ (log
          loop.polling.system) (record {
            listener = keeps.listener;
            places = keeps.places;
            slots =
                keeps.slots;
          }) keeps.listener means c.in-Err.ensures;
    })

pub returns-in-Shortage : goal.returns-in-Shortage
returns-in-Shortage g c =
    let log = g.S.Sockets.log in
    let keeps = c.loop-try.invariant.1 in
    let loop = c.loop-try.self in
    let means = ap (λ code. accept_cause code) (sym c.raw_os_error.ensures)
    ∙ sym c.accept_cause.ensures ∙ c.in-Shortage.is in
    inl (record {
      free = c.is_free.ensures.free c.if-not-is_free.false;
      tries = c.loop-try._try;
      middle = log loop.polling.system;
      failed = c.loop-try.invariant.0;
      ends = inr (inl (stops_by log cause.Shortage loop.listener c.in-Err.error c.args.self.now _
          (log loop.polling.system) (record {
            listener = keeps.listener;
            places = keeps.places;
            slots = keeps.slots;
          }) keeps.listener means c.in-Err.ensures));
    })

pub returns-in-Broken : goal.returns-in-Broken
returns-in-Broken g c =
    let log = g.S.Sockets.log in
    let keeps = c.loop-try.invariant.1 in
    let loop = c.loop-try.self in
    let means = ap (λ code. accept_cause code) (sym c.raw_os_error.ensures)
    ∙ sym c.accept_cause.ensures ∙ c.in-Broken.is in
    inl (record {
      free = c.is_free.ensures.free c.if-not-is_free.false;
      tries = c.loop-try._try;
      middle = log loop.polling.system;
      failed = c.loop-try.invariant.0;
      ends = inr (stops_by log cause.Broken loop.listener c.in-Err.error c.args.self.now _ (log
          loop.polling.system) (record {
            listener = keeps.listener;
            places = keeps.places;
            slots =
                keeps.slots;
          }) keeps.listener means c.in-Err.ensures);
    })

pub returns : goal.returns
returns g c =
    let often : c.loop-try._try ≡ most_accepts = omega arith in
    let keeps = c.loop-try.invariant.1 in
    inl (record {
      free = c.is_free.ensures.free c.if-not-is_free.false;
      tries = c.loop-try._try;
      middle = g.S.Sockets.log c.loop-try.self.polling.system;
      failed = c.loop-try.invariant.0;
      ends = inr (inr (record { often = often; same = refl; kept = keeps }));
    })
