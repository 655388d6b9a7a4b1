use Rattle.std.proofs.Common.{◌≡◌, ◌∙◌, ap, false, subst, sym, true}
use Rattle.http_hub.specs.Hubs.{any_expired}
use Rattle.http_hub.specs.Links.{IsFirstTime}
use Rattle.hub_server.specs.Servers.{ServerValue, has_room, is_due, is_listener_due}
use Rattle.hub_server.proofs.AwaitingLemmas.{due_by_expiry, due_later}
use Rattle.hub_server.proofs.server.Server.due_time.Goals as goal

pub returns-then-has_room : goal.returns-then-has_room
returns-then-has_room c =
    let seen : ServerValue = record {
      hub = c.self.inside.hub;
      seats = c.self.inside.seats.items;
      listener = c.self.inside.listener;
      time = c.self.inside.time;
    } in
    let room : has_room c.args.limits.connections c.self.inside.hub ≡ true =
    ap (λ (x : ServerValue). has_room c.args.limits.connections x.hub) c.self.view_is
    ∙ sym c.has_room.ensures ∙ c.if-has_room.true in
    subst (λ (x : ServerValue). IsFirstTime (λ time. is_due c.args.limits.connections
    c.args.limits.patience c.args.is_left x time) c.earlier.result) c.self.view_is
    (due_later c.args.limits.connections c.args.limits.patience seen c.args.is_left c.earlier.result
    c.if-is_left.false room
    (c.earlier.ensures (λ now. any_expired c.self.inside.hub.slots now c.args.limits.patience)
    (λ now. is_listener_due c.self.inside.listener now) c.next_expiry-expiry.ensures
    c.due_time.ensures))

pub returns-else-has_room : goal.returns-else-has_room
returns-else-has_room c =
    let seen : ServerValue = record {
      hub = c.self.inside.hub;
      seats = c.self.inside.seats.items;
      listener = c.self.inside.listener;
      time = c.self.inside.time;
    } in
    let room : has_room c.args.limits.connections c.self.inside.hub ≡ false =
    ap (λ (x : ServerValue). has_room c.args.limits.connections x.hub) c.self.view_is
    ∙ sym c.has_room.ensures ∙ c.if-has_room.false in
    subst (λ (x : ServerValue). IsFirstTime (λ time. is_due c.args.limits.connections
    c.args.limits.patience c.args.is_left x time) c.next_expiry-expiry.result) c.self.view_is
    (due_by_expiry c.args.limits.connections c.args.limits.patience seen c.args.is_left
    c.next_expiry-expiry.result c.if-is_left.false room c.next_expiry-expiry.ensures)
