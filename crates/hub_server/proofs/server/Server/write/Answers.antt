use Rattle.std.proofs.Common.{◌≡◌, ◌∙◌, Some, ap, slice_get, subst}
use Rattle.http_hub.specs.HubRuns.{pending_of}
use Rattle.http_hub.specs.Hubs.{SendsAt, link_at}
use Rattle.hub_server.specs.Seats.{SeatValue, seat_after_step, seat_asleep}
use Rattle.hub_server.specs.Servers.{ServerValue, with_seat}
use Rattle.hub_server.proofs.NeedLemmas.{pending_at, read_at}
use Rattle.hub_server.proofs.PlaceStepLemmas.{writes_fault, writes_none, writes_some}
use Rattle.hub_server.proofs.server.Server.write.Goals as goal

pub returns-in-Octets : goal.returns-in-Octets
returns-in-Octets g c =
    let seen : ServerValue = record {
      hub = c.self.inside.hub;
      seats = c.self.inside.seats.items;
      listener = c.self.inside.listener;
      time = c.self.inside.time;
    } in
    let after : ServerValue = with_seat seen c.args.place c.mark_sent.new.self
    c.count_step.new.self in
    let found : slice_get c.args.self.now.seats c.args.place ≡ Some c.index_mut.result.now =
    read_at seen c.args.self.now c.args.place c.requires.seat c.index_mut.result.now c.self.view_is
    c.requires.seated.at_seat c.index_mut.ensures.value in
    let all : c.pending.result.now ≡ c.requires.link.pending =
    c.pending.ensures ∙ ap (λ (x : ServerValue). pending_of (link_at x.hub c.args.place))
    c.self.view_is ∙ pending_at c.args.self.now.hub c.args.place c.requires.link
    c.requires.seated.at_link in
    let sends : SendsAt c.args.place c.args.self.now.hub c.in-Octets.count c.args.self.now.time
    c.mark_sent.new.self =
    subst (λ (x : ServerValue). SendsAt c.args.place x.hub c.in-Octets.count x.time
    c.mark_sent.new.self) c.self.view_is c.mark_sent.ensures in
    let after_is : after ≡ with_seat c.args.self.now c.args.place c.mark_sent.new.self
    (seat_after_step c.index_mut.result.now c.index_mut.result.now.unfed) =
    ap (λ (x : ServerValue). with_seat x c.args.place c.mark_sent.new.self c.count_step.new.self)
    c.self.view_is
    ∙ ap (λ (x : SeatValue). with_seat c.args.self.now c.args.place c.mark_sent.new.self x)
    c.count_step.ensures in
    let done = writes_some g.E.Endpoint.calls c.args.self.now after c.args.place c.in-Octets.count
    c.pending.result.now c.mark_sent.new.self c.args.endpoint.now c.write.new.self
    c.index_mut.result.now
    c.requires found all c.in-Octets.ensures.within.0 c.in-Octets.ensures.event sends after_is in
    record { acts = done.acts; others = done.others; less = done.less }

pub returns-in-NoneNow : goal.returns-in-NoneNow
returns-in-NoneNow g c =
    let seen : ServerValue = record {
      hub = c.self.inside.hub;
      seats = c.self.inside.seats.items;
      listener = c.self.inside.listener;
      time = c.self.inside.time;
    } in
    let after : ServerValue = with_seat seen c.args.place seen.hub c.sleep.new.self in
    let found : slice_get c.args.self.now.seats c.args.place
    ≡ Some c.index_mut-in-NoneNow.result.now =
    read_at seen c.args.self.now c.args.place c.requires.seat c.index_mut-in-NoneNow.result.now
    c.self.view_is c.requires.seated.at_seat c.index_mut-in-NoneNow.ensures.value in
    let all : c.pending.result.now ≡ c.requires.link.pending =
    c.pending.ensures ∙ ap (λ (x : ServerValue). pending_of (link_at x.hub c.args.place))
    c.self.view_is ∙ pending_at c.args.self.now.hub c.args.place c.requires.link
    c.requires.seated.at_link in
    let after_is : after ≡ with_seat c.args.self.now c.args.place c.args.self.now.hub
    (seat_asleep c.index_mut-in-NoneNow.result.now) =
    ap (λ (x : ServerValue). with_seat x c.args.place x.hub c.sleep.new.self) c.self.view_is
    ∙ ap (λ (x : SeatValue). with_seat c.args.self.now c.args.place c.args.self.now.hub x)
    c.sleep.ensures in
    let done = writes_none g.E.Endpoint.calls c.args.self.now after c.args.place
    c.pending.result.now c.args.endpoint.now c.write.new.self c.index_mut-in-NoneNow.result.now
    c.requires found all c.in-NoneNow.ensures.event after_is in
    record { acts = done.acts; others = done.others; less = done.less }

pub returns-in-Failed : goal.returns-in-Failed
returns-in-Failed g c =
    let all : c.pending.result.now ≡ c.requires.link.pending =
    c.pending.ensures ∙ ap (λ (x : ServerValue). pending_of (link_at x.hub c.args.place))
    c.self.view_is ∙ pending_at c.args.self.now.hub c.args.place c.requires.link
    c.requires.seated.at_link in
    let done = writes_fault g.E.Endpoint.calls c.args.self.now c.close.new.self c.args.place
    c.pending.result.now c.args.endpoint.now c.write.new.self c.close.new.endpoint c.requires
    all c.in-Failed.ensures.event
    c.close.ensures.left c.close.ensures.event in
    record { acts = done.acts; others = done.others; less = done.less }
