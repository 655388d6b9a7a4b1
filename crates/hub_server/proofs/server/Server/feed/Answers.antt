use Rattle.std.proofs.Common.{◌≡◌, ◌∙◌, ◌<◌, Some, ap, arith, length, slice_get, subst}
use Rattle.http_hub.proofs.PlaceLemmas.{found_within}
use Rattle.http_hub.specs.BoundedHubs.{ReceivesWithin}
use Rattle.hub_server.specs.Seats.{HasTurn, SeatValue, next_piece}
use Rattle.hub_server.specs.Servers.{ServerValue, with_seat}
use Rattle.hub_server.proofs.NeedLemmas.{read_at, same_seat}
use Rattle.hub_server.proofs.FeedingLemmas.{feeds_piece, piece_fits, piece_given}
use Rattle.hub_server.proofs.server.Server.feed.Goals as goal

pub receive-requires-clause-some : goal.receive-requires-clause-some
receive-requires-clause-some g c =
    let seen : ServerValue = record {
      hub = c.self.inside.hub;
      seats = c.self.inside.seats.items;
      listener = c.self.inside.listener;
      time = c.self.inside.time;
    } in
    let found : slice_get c.args.self.now.seats c.args.place ≡ Some c.index.result.now =
    read_at seen c.args.self.now c.args.place c.requires.seat c.index.result.now c.self.view_is
    c.requires.seated.at_seat c.index.ensures in
    let same : c.index.result.now ≡ c.requires.seat =
    same_seat c.args.self.now.seats c.args.place c.index.result.now c.requires.seat found
    c.requires.seated.at_seat in
    piece_given c.requires.seat c.index.result.now c.piece-piece.result.now same
    c.piece-piece.ensures c.requires.wanted.some_unfed

pub index_mut-requires : goal.index_mut-requires
index_mut-requires g c =
    let within : c.args.place < length c.args.self.now.seats =
    found_within c.args.self.now.seats c.args.place c.requires.seat c.requires.seated.at_seat in
    let places : length c.self.inside.seats.items ≡ length c.args.self.now.seats =
    ap (λ (x : ServerValue). length x.seats) c.self.view_is in
    omega (arith, within, places, c.self.inside.seats.ok.0)

pub mark_fed-requires-clause-has_turn : goal.mark_fed-requires-clause-has_turn
mark_fed-requires-clause-has_turn g c =
    let seen : ServerValue = record {
      hub = c.self.inside.hub;
      seats = c.self.inside.seats.items;
      listener = c.self.inside.listener;
      time = c.self.inside.time;
    } in
    let found : slice_get c.args.self.now.seats c.args.place ≡ Some c.index_mut.result.now =
    read_at seen c.args.self.now c.args.place c.requires.seat c.index_mut.result.now c.self.view_is
    c.requires.seated.at_seat c.index_mut.ensures.value in
    let same : c.requires.seat ≡ c.index_mut.result.now =
    same_seat c.args.self.now.seats c.args.place c.requires.seat c.index_mut.result.now
    c.requires.seated.at_seat found in
    subst (λ (x : SeatValue). HasTurn x) same c.requires.has_turn

pub mark_fed-requires-clause-within : goal.mark_fed-requires-clause-within
mark_fed-requires-clause-within g c =
    let seen : ServerValue = record {
      hub = c.self.inside.hub;
      seats = c.self.inside.seats.items;
      listener = c.self.inside.listener;
      time = c.self.inside.time;
    } in
    let found : slice_get c.args.self.now.seats c.args.place ≡ Some c.index_mut.result.now =
    read_at seen c.args.self.now c.args.place c.requires.seat c.index_mut.result.now c.self.view_is
    c.requires.seated.at_seat c.index_mut.ensures.value in
    let first : slice_get c.args.self.now.seats c.args.place ≡ Some c.index.result.now =
    read_at seen c.args.self.now c.args.place c.requires.seat c.index.result.now c.self.view_is
    c.requires.seated.at_seat c.index.ensures in
    let same : c.index.result.now ≡ c.index_mut.result.now =
    same_seat c.args.self.now.seats c.args.place c.index.result.now c.index_mut.result.now first
    found in
    piece_fits c.index.result.now c.index_mut.result.now c.piece-piece.result.now same
    c.piece-piece.ensures

pub returns : goal.returns
returns g c =
    let seen : ServerValue = record {
      hub = c.self.inside.hub;
      seats = c.self.inside.seats.items;
      listener = c.self.inside.listener;
      time = c.self.inside.time;
    } in
    let after : ServerValue = with_seat seen c.args.place c.receive.new.self c.mark_fed.new.self in
    let found : slice_get c.args.self.now.seats c.args.place ≡ Some c.index_mut.result.now =
    read_at seen c.args.self.now c.args.place c.requires.seat c.index_mut.result.now c.self.view_is
    c.requires.seated.at_seat c.index_mut.ensures.value in
    let first : slice_get c.args.self.now.seats c.args.place ≡ Some c.index.result.now =
    read_at seen c.args.self.now c.args.place c.requires.seat c.index.result.now c.self.view_is
    c.requires.seated.at_seat c.index.ensures in
    let same : c.index.result.now ≡ c.index_mut.result.now =
    same_seat c.args.self.now.seats c.args.place c.index.result.now c.index_mut.result.now first
    found in
    let piece_is : c.piece-piece.result.now ≡ next_piece c.index_mut.result.now.unfed =
    c.piece-piece.ensures ∙ ap (λ (x : SeatValue). next_piece x.unfed) same in
    let fed = subst (λ (x : ServerValue).
    ReceivesWithin g.H.Handler.does g.H.Handler.fault_reply c.args.limits.held c.args.place x.hub
    c.args.handler.now c.piece-piece.result.now x.time c.receive.new.handler c.receive.new.self)
    c.self.view_is c.receive.ensures in
    let after_is = ap (λ (x : ServerValue). with_seat x c.args.place c.receive.new.self
    c.mark_fed.new.self) c.self.view_is
    ∙ ap (λ (x : SeatValue). with_seat c.args.self.now c.args.place c.receive.new.self x)
    c.mark_fed.ensures in
    let done = feeds_piece g.H.Handler.does g.H.Handler.fault_reply c.args.limits.held
    c.args.self.now after c.args.place c.piece-piece.result.now c.args.handler.now
    c.receive.new.handler c.receive.new.self c.index_mut.result.now
    c.requires found piece_is fed after_is in
    record {
      fed = (c.requires.link.serial, c.piece-piece.result.now, done.0);
      others = done.1.others;
      less = done.1.less;
    }
