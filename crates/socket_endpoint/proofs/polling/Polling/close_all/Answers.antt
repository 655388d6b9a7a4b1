use Rattle.std.proofs.Common.{◌<◌, arith, length, refl, subst, sym}
use Rattle.std.proofs.lemmas.List.{drop_all}
use Rattle.socket_endpoint.specs.SocketEvents.{ClosesAll}
use Rattle.socket_endpoint.proofs.CloseLemmas.{closes_next}
use Rattle.socket_endpoint.proofs.polling.Polling.close_all.Goals as goal

pub loop-place-init : goal.loop-place-init
loop-place-init g c = λ last closes. closes

pub loop-place-preserved : goal.loop-place-preserved
loop-place-preserved g c = λ last rest.
    let there : c.loop-place.place < length c.loop-place.places = omega (
      arith,
      c.loop-place-test.true,
      c.loop-place.auto.places,
    ) in
    c.loop-place.invariant last
    (closes_next g.S.Sockets.log c.loop-place.places c.close_at.new.places c.loop-place.place
    c.loop-place.self c.close_at.new.self last there c.close_at.ensures.closes
    c.close_at.ensures.frees rest)

pub returns : goal.returns
returns g c =
    let none = drop_all c.loop-place.place c.loop-place.places (omega (
      arith,
      c.loop-place-test.false,
      c.loop-place.auto.places,
    )) in
    c.loop-place.invariant c.loop-place.self (subst (λ ps. ClosesAll g.S.Sockets.log ps
    c.loop-place.self c.loop-place.self) (sym none) refl)
