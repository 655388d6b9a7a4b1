use Rattle.std.proofs.Common.{◌≡◌, Err, arith, inl, inr, length, refl}
use Rattle.socket_endpoint.specs.SocketCalls.Repeats.{no_call, one_more_call}
use Rattle.socket_endpoint.specs.SocketCalls.SocketCall.{ReadsSocket}
use Rattle.socket_endpoint.specs.Transfers.{most_tries}
use Rattle.socket_endpoint.proofs.TransferLemmas.{not_so}
use Rattle.socket_endpoint.proofs.transfers.read_from.Goals as goal

pub loop-try-init : goal.loop-try-init
loop-try-init g c = (no_call, refl)

pub loop-try-preserved : goal.loop-try-preserved
loop-try-preserved g c =
    let interrupted = c.is_interrupted.ensures.0 c.if-not-is_interrupted.false in
    let same : length c.read.new.buffer ≡ length c.args.buffer.now = omega (
      arith,
      c.read.auto.buffer,
      c.loop-try.invariant.1,
    ) in (
      one_more_call (ReadsSocket c.args.stream.now c.read.new.buffer (Err c.in-Err.error))
          c.loop-try.invariant.0 (refl, interrupted) c.in-Err.ensures.logged,
      same,
    )

pub returns-then-not-is_interrupted-clause-read : goal.returns-then-not-is_interrupted-clause-read
returns-then-not-is_interrupted-clause-read g c = record {
  room = omega (arith, c.read.auto.buffer, c.loop-try.invariant.1, c.requires);
  tries = c.loop-try._try;
  middle = g.S.Sockets.log c.loop-try.system;
  interrupted = c.loop-try.invariant.0;
  last = inl (
    c.in-Err.error,
    not_so c.would_wait.result c.would_wait.ensures c.if-would_wait.false,
    not_so c.is_interrupted.result c.is_interrupted.ensures c.if-not-is_interrupted.true,
    c.in-Err.ensures.logged,
  );
}

pub returns-clause-read : goal.returns-clause-read
returns-clause-read g c =
    let often : c.loop-try._try ≡ most_tries = omega arith in
    record {
      room = omega (arith, c.loop-try.invariant.1, c.requires);
      tries = c.loop-try._try;
      middle = g.S.Sockets.log c.loop-try.system;
      interrupted = c.loop-try.invariant.0;
      last = inr (often, refl);
    }
