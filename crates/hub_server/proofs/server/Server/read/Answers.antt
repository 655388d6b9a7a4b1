use Rattle.std.proofs.Common.{◌≡◌, Some, ap, slice_get}
use Rattle.hub_server.specs.Servers.{ServerValue, with_seat}
use Rattle.hub_server.proofs.NeedLemmas.{read_at}
use Rattle.hub_server.proofs.PlaceStepLemmas.{reads_closed, reads_open}
use Rattle.hub_server.proofs.server.Server.read.Goals as goal

pub returns-in-Octets : goal.returns-in-Octets
returns-in-Octets g c =
    let seen : ServerValue = record {
      hub = c.self.inside.hub;
      seats = c.self.inside.seats.items;
      listener = c.self.inside.listener;
      time = c.self.inside.time;
    } in
    let after : ServerValue = with_seat seen c.args.place seen.hub c.read.new.self in
    let found : slice_get c.args.self.now.seats c.args.place ≡ Some c.index_mut.result.now =
    read_at seen c.args.self.now c.args.place c.requires.seat c.index_mut.result.now c.self.view_is
    c.requires.seated.at_seat c.index_mut.ensures.value in
    let done = reads_open g.E.Endpoint.calls c.args.self.now after c.args.place c.args.endpoint.now
    c.read.new.endpoint c.index_mut.result.now c.read.new.self c.read.result c.requires found
    c.in-Octets.is c.read.ensures
    (ap (λ (x : ServerValue). with_seat x c.args.place x.hub c.read.new.self) c.self.view_is) in
    record { acts = done.acts; others = done.others; less = done.less }

pub returns-in-End : goal.returns-in-End
returns-in-End g c =
    let seen : ServerValue = record {
      hub = c.self.inside.hub;
      seats = c.self.inside.seats.items;
      listener = c.self.inside.listener;
      time = c.self.inside.time;
    } in
    let between : ServerValue = with_seat seen c.args.place seen.hub c.read.new.self in
    let done = reads_closed g.E.Endpoint.calls c.args.self.now between c.close.new.self c.args.place
    c.args.endpoint.now c.read.new.endpoint c.close.new.endpoint c.index_mut.result.now
    c.read.new.self c.read.result
    c.requires c.in-End.is c.read.ensures
    (ap (λ (x : ServerValue). with_seat x c.args.place x.hub c.read.new.self) c.self.view_is)
    c.close.ensures.left c.close.ensures.event in
    record { acts = done.acts; others = done.others; less = done.less }
