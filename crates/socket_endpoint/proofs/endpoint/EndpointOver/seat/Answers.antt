use Rattle.std.proofs.Common.{◌∙◌, Err, Ok, Some, ap, is_some, refl, set}
use Rattle.socket_endpoint.specs.SocketCalls.{logged}
use Rattle.socket_endpoint.specs.SocketCalls.SocketCall.{Watches}
use Rattle.socket_endpoint.proofs.EventLemmas.{none_is}
use Rattle.socket_endpoint.proofs.endpoint.EndpointOver.seat.Goals as goal

pub returns-in_default : goal.returns-in_default
returns-in_default g c = record {
  too_great = c.token_of.ensures.none.0 (ap is_some (none_is c.token_of.result (λ token is.
      c.in_default.not-Some token is)));
  same = c.send_at_once.ensures;
  kept = record { listener = refl; places = refl; slots = refl };
}

pub returns-in-Err : goal.returns-in-Err
returns-in-Err g c = record {
  token = c.in-Some.token.0;
  error = c.in-Err._error;
  of_place = c.in-Some.ensures.one;
  refused = c.in-Err.ensures.logged ∙ ap (λ log. logged (Watches c.args.stream c.in-Some.token.0
      (Err c.in-Err._error)) log) c.send_at_once.ensures;
  kept = record { listener = refl; places = refl; slots = refl };
}

pub returns : goal.returns
returns g c = record {
  token = c.in-Some.token.0;
  of_place = c.in-Some.ensures.one;
  watched = c.in-Ok.ensures.logged ∙ ap (λ log. logged (Watches c.args.stream c.in-Some.token.0 (Ok
      tt)) log) c.send_at_once.ensures;
  listener = refl;
  places = ap (λ stream. set c.args.self.now.places.items c.args.place (Some stream))
      c.watch.ensures.same;
  slots = refl;
}
