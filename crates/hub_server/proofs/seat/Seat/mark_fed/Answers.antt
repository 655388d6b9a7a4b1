use Rattle.std.proofs.Common.{◌∙◌, ◌≤◌, List, ap, drop, length, slice_range, subst, sym, ℕ}
use Rattle.hub_server.specs.Seats.{SeatValue, seat_after_step}
use Rattle.hub_server.proofs.SeatLemmas.{slice_later}
use Rattle.hub_server.proofs.seat.Seat.mark_fed.Goals as goal

pub returns : goal.returns
returns c =
    let s = c.self.inside in
    let seen : SeatValue = record {
      turn = c.self.inside.turn;
      unfed = slice_range c.self.inside.buffer.items c.self.inside.fed_count
          c.self.inside.read_count;
    } in
    let within : c.args.count ≤ length (slice_range c.self.inside.buffer.items
    c.self.inside.fed_count c.self.inside.read_count) =
    subst (λ (x : SeatValue). c.args.count ≤ length x.unfed) (sym c.self.view_is)
    c.requires.within in
    c.count_step.ensures
    ∙ ap (λ (t : List ℕ). seat_after_step seen t) (slice_later c.self.inside.buffer.items
    c.self.inside.fed_count c.args.count c.self.inside.read_count within c.self.invariant.0)
    ∙ ap (λ (x : SeatValue). seat_after_step x (drop c.args.count x.unfed)) c.self.view_is
