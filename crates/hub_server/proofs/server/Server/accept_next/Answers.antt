use Rattle.std.proofs.Common.{◌≡◌, ◌∙◌, ap, subst}
use Rattle.http_hub.specs.Hubs.{IsFreeAt, OpensAt}
use Rattle.hub_server.specs.Seats.{new_seat}
use Rattle.hub_server.specs.Servers.{ServerValue, with_listener, with_seat}
use Rattle.hub_server.specs.declared.listener_state.ListenerState.TheVariants.{Deferred, Idle}
use Rattle.hub_server.specs.declared.listener_state.ListenerState.TheVariants.{Ready}
use Rattle.hub_server.proofs.AcceptingLemmas.{accepts_later, accepts_none, accepts_one}
use Rattle.hub_server.proofs.server.Server.accept_next.Goals as goal

pub returns-in-Connection-clause-accepted : goal.returns-in-Connection-clause-accepted
returns-in-Connection-clause-accepted g c =
    let opened : ServerValue = record {
      hub = c.open_at.new.self;
      seats = c.self.inside.seats.items;
      listener = c.self.inside.listener;
      time = c.self.inside.time;
    } in
    let after : ServerValue = record {
      hub = c.self-in-Connection.inside.hub;
      seats = c.self-in-Connection.inside.seats.items;
      listener = Ready;
      time = c.self-in-Connection.inside.time;
    } in
    let opens : OpensAt c.in-Some.place c.args.self.now.hub c.args.self.now.time
    c.open_at.new.self =
    subst (λ (x : ServerValue). OpensAt c.in-Some.place x.hub x.time c.open_at.new.self)
    c.self.view_is c.open_at.ensures in
    let cleared : c.clear_seat.new.self ≡ with_seat c.args.self.now c.in-Some.place
    c.open_at.new.self new_seat =
    c.clear_seat.ensures ∙ ap (λ (x : ServerValue). with_seat x c.in-Some.place c.open_at.new.self
    new_seat) c.self.view_is in
    accepts_one g.E.Endpoint.calls c.args.limits c.args.self.now c.clear_seat.new.self after
    c.in-Some.place c.open_at.new.self c.args.endpoint.now c.accept.new.self c.requires opens
    cleared
    (ap (λ (x : ServerValue). with_listener x Ready) c.self-in-Connection.view_is)
    c.in-Connection.ensures

pub returns-in-NoneNow-clause-accepted : goal.returns-in-NoneNow-clause-accepted
returns-in-NoneNow-clause-accepted g c =
    let after : ServerValue = record {
      hub = c.self.inside.hub;
      seats = c.self.inside.seats.items;
      listener = Idle;
      time = c.self.inside.time;
    } in
    accepts_none g.E.Endpoint.calls c.args.limits c.args.self.now after c.in-Some.place
    c.args.endpoint.now c.accept.new.self c.requires
    (subst (λ (x : ServerValue). IsFreeAt x.hub c.in-Some.place) c.self.view_is
    c.in-Some.ensures) (ap (λ (x : ServerValue). with_listener x Idle) c.self.view_is)
    c.in-NoneNow.ensures

pub returns-in-Later-clause-accepted : goal.returns-in-Later-clause-accepted
returns-in-Later-clause-accepted g c =
    let after : ServerValue = record {
      hub = c.self.inside.hub;
      seats = c.self.inside.seats.items;
      listener = Deferred c.self.inside.time;
      time = c.self.inside.time;
    } in
    accepts_later g.E.Endpoint.calls c.args.limits c.args.self.now after c.in-Some.place
    c.args.endpoint.now c.accept.new.self c.requires
    (subst (λ (x : ServerValue). IsFreeAt x.hub c.in-Some.place) c.self.view_is
    c.in-Some.ensures) (ap (λ (x : ServerValue). with_listener x (Deferred x.time))
    c.self.view_is) c.in-Later.ensures
