use Rattle.std.proofs.Common.{◌∙◌, ◌≤◌, List, ap, length, subst, sym, take, ℕ}
use Rattle.std.proofs.lemmas.List.{length-take-le}
use Rattle.hub_server.specs.Seats.{next_piece}
use Rattle.hub_server.proofs.SeatLemmas.{piece_front, piece_within}
use Rattle.hub_server.proofs.seat.Seat.piece.Goals as goal

pub slice_bounds-result-end : goal.slice_bounds-result-end
slice_bounds-result-end c =
    let unfed = c.unfed-unfed.result.now in
    sym (length-take-le c.piece_len.result unfed (subst (λ n. n ≤ length unfed)
    (sym c.piece_len.ensures) (piece_within unfed)))

pub returns : goal.returns
returns c = ap (λ n. take n c.unfed-unfed.result.now) c.piece_len.ensures
    ∙ piece_front c.unfed-unfed.result.now ∙ ap (λ (t : List ℕ). next_piece t) c.unfed-unfed.ensures
