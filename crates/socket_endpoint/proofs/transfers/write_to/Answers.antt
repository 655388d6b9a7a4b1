use Rattle.std.proofs.Common.{◌≡◌, Err, arith, inl, inr, refl}
use Rattle.socket_endpoint.specs.SocketCalls.Repeats.{no_call, one_more_call}
use Rattle.socket_endpoint.specs.SocketCalls.SocketCall.{WritesSocket}
use Rattle.socket_endpoint.specs.Transfers.{most_tries}
use Rattle.socket_endpoint.proofs.TransferLemmas.{not_so}
use Rattle.socket_endpoint.proofs.transfers.write_to.Goals as goal

pub loop-try-init : goal.loop-try-init
loop-try-init g c = no_call

pub loop-try-preserved : goal.loop-try-preserved
loop-try-preserved g c =
    let interrupted = c.is_interrupted.ensures.0 c.if-not-is_interrupted.false in
    one_more_call (WritesSocket c.args.stream.now c.args.octets.now (Err c.in-Err.error))
    c.loop-try.invariant (refl, refl, interrupted) c.in-Err.ensures.logged

pub returns-then-not-is_interrupted-clause-written :
    goal.returns-then-not-is_interrupted-clause-written
returns-then-not-is_interrupted-clause-written g c = record {
  tries = c.loop-try._try;
  middle = g.S.Sockets.log c.loop-try.system;
  interrupted = c.loop-try.invariant;
  last = inl (
    c.in-Err.error,
    not_so c.would_wait.result c.would_wait.ensures c.if-would_wait.false,
    not_so c.is_interrupted.result c.is_interrupted.ensures c.if-not-is_interrupted.true,
    c.in-Err.ensures.logged,
  );
}

pub returns-clause-written : goal.returns-clause-written
returns-clause-written g c =
    let often : c.loop-try._try ≡ most_tries = omega arith in
    record {
      tries = c.loop-try._try;
      middle = g.S.Sockets.log c.loop-try.system;
      interrupted = c.loop-try.invariant;
      last = inr (inl (often, refl));
    }
