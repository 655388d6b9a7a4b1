use Rattle.std.proofs.Common.{◌<◌, ◌∙◌, None, Some, arith, length, refl, sym}
use Rattle.std.proofs.lemmas.List.{get_or_read}
use Rattle.hub_server.specs.declared.outcome.Sent.TheVariants as sent
use Rattle.socket_endpoint.proofs.EventLemmas.{none_is, nothing_past}
use Rattle.socket_endpoint.proofs.PlaceLemmas.{writes_by}
use Rattle.socket_endpoint.proofs.endpoint.EndpointOver.write_at.Goals as goal

pub returns-then-place-len-clause-writes : goal.returns-then-place-len-clause-writes
returns-then-place-len-clause-writes g c =
    let old = c.args.self.now in
    writes_by g.S.Sockets.log c.args.place None c.args.octets.now sent.Failed old old (nothing_past
    old.places.items c.args.place (omega arith)) (refl, refl) (record {
      listener = refl;
      places
          = refl;
      slots = refl;
    })

pub returns-in_default-clause-writes : goal.returns-in_default-clause-writes
returns-in_default-clause-writes g c =
    let old = c.args.self.now in
    let there : c.args.place < length old.places.items = omega arith in
    let found = sym (get_or_read old.places.items c.args.place c.index.result.now there
    c.index.ensures None) in
    let none = none_is c.index.result.now (λ stream is. c.in_default.not-Some stream is) in
    writes_by g.S.Sockets.log c.args.place None c.args.octets.now sent.Failed old old (found
    ∙ none) (refl, refl) (record { listener = refl; places = refl; slots = refl })

pub returns-clause-writes : goal.returns-clause-writes
returns-clause-writes g c =
    let old = c.args.self.now in
    let there : c.args.place < length old.places.items = omega arith in
    let found = sym (get_or_read old.places.items c.args.place c.index.result.now there
    c.index.ensures None) in
    writes_by g.S.Sockets.log c.args.place (Some c.in-Some.stream) c.args.octets.now
    c.write_to.result old _ (found ∙ c.in-Some.is) c.write_to.ensures.written (record {
      listener
          = refl;
      places = refl;
      slots = refl;
    })
