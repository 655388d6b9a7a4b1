use Rattle.std.proofs.Common.{◌<◌, ◌∙◌, None, Some, arith, length, refl, sym}
use Rattle.std.proofs.lemmas.List.{get_or_read}
use Rattle.hub_server.specs.declared.outcome.Received.TheVariants as received
use Rattle.socket_endpoint.proofs.EventLemmas.{none_is, nothing_past}
use Rattle.socket_endpoint.proofs.PlaceLemmas.{reads_by}
use Rattle.socket_endpoint.proofs.endpoint.EndpointOver.read_at.Goals as goal

pub returns-then-place-len-clause-reads : goal.returns-then-place-len-clause-reads
returns-then-place-len-clause-reads g c =
    let old = c.args.self.now in
    reads_by g.S.Sockets.log c.args.place None c.args.buffer.now received.Failed old old
    (nothing_past old.places.items c.args.place (omega arith)) (refl, refl) (record {
      listener =
          refl;
      places = refl;
      slots = refl;
    })

pub returns-in_default-clause-reads : goal.returns-in_default-clause-reads
returns-in_default-clause-reads g c =
    let old = c.args.self.now in
    let there : c.args.place < length old.places.items = omega arith in
    let found = sym (get_or_read old.places.items c.args.place c.index.result.now there
    c.index.ensures None) in
    let none = none_is c.index.result.now (λ stream is. c.in_default.not-Some stream is) in
    reads_by g.S.Sockets.log c.args.place None c.args.buffer.now received.Failed old old (found
    ∙ none) (refl, refl) (record { listener = refl; places = refl; slots = refl })

pub returns-clause-reads : goal.returns-clause-reads
returns-clause-reads g c =
    let old = c.args.self.now in
    let there : c.args.place < length old.places.items = omega arith in
    let found = sym (get_or_read old.places.items c.args.place c.index.result.now there
    c.index.ensures None) in
    reads_by g.S.Sockets.log c.args.place (Some c.in-Some.stream) c.read_from.new.buffer
    c.read_from.result old _ (found ∙ c.in-Some.is) c.read_from.ensures.read (record {
      listener
          = refl;
      places = refl;
      slots = refl;
    })
