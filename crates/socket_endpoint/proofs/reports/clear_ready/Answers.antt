use Rattle.std.proofs.Common.{◌<◌, arith, false, get_or, length, refl}
use Rattle.std.proofs.lemmas.Option.{slice_get-get_or}
use Rattle.socket_endpoint.specs.Reports.{not_ready}
use Rattle.socket_endpoint.proofs.LoopLemmas.{maps_next}
use Rattle.socket_endpoint.proofs.reports.clear_ready.Goals as goal

pub loop-place-preserved : goal.loop-place-preserved
loop-place-preserved c =
    let there : c.loop-place.place < length c.loop-place.ready = omega (
      arith,
      c.loop-place-test.true,
      c.loop-place.auto.ready,
    ) in
    maps_next not_ready c.args.ready.now c.loop-place.ready c.loop-place.place (get_or
    c.loop-place.ready c.loop-place.place false) false
    (slice_get-get_or c.loop-place.ready c.loop-place.place false there) c.loop-place.invariant refl
