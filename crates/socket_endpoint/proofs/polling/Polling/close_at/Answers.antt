use Rattle.std.proofs.Common.{◌∙◌, None, Some, ap, refl, set, sym}
use Rattle.std.proofs.lemmas.List.{get_or_default, set_past}
use Rattle.socket_endpoint.specs.SocketEvents.{socket_at}
use Rattle.socket_endpoint.proofs.EventLemmas.{nothing_past}
use Rattle.socket_endpoint.proofs.PlaceLemmas.{closes_if}
use Rattle.socket_endpoint.proofs.polling.Polling.close_at.Goals as goal

pub returns-then-place-places : goal.returns-then-place-places
returns-then-place-places g c =
    let places = c.args.places.now in
    record {
      closes = closes_if g.S.Sockets.log None (socket_at places c.args.place) c.args.self.now
          c.args.self.now (nothing_past places c.args.place c.if-place-places.true) refl;
      frees = sym (set_past places c.args.place None c.if-place-places.true);
    }

pub returns-in_default : goal.returns-in_default
returns-in_default g c =
    let places = c.args.places.now in
    let found = get_or_default places c.args.place None c.index-places-place.result
    c.if-place-places.false ∙ sym c.take.ensures.value ∙ c.in_default.is in
    record {
      closes = closes_if g.S.Sockets.log None (socket_at places c.args.place) c.args.self.now
          c.args.self.now found refl;
      frees = ap (λ t. set places c.args.place t) c.take.ensures.after;
    }

pub returns : goal.returns
returns g c =
    let places = c.args.places.now in
    let found = get_or_default places c.args.place None c.index-places-place.result
    c.if-place-places.false ∙ sym c.take.ensures.value ∙ c.in-Some.is in
    record {
      closes = closes_if g.S.Sockets.log (Some c.in-Some.stream) (socket_at places c.args.place)
          c.args.self.now c.close.new.self found c.close.ensures;
      frees = ap (λ t. set places c.args.place t) c.take.ensures.after;
    }
