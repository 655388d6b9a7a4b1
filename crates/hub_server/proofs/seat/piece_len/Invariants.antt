use Rattle.std.proofs.Common.{◌≡◌, ◌+◌, drop, length}
use Rattle.hub_server.specs.Seats.{next_piece}
use Rattle.hub_server.proofs.seat.piece_len.Given as goal

abbrev pub invariant-loop-index : goal.invariant-loop-index
invariant-loop-index l = l.index + length (next_piece (drop l.index l.octets))
    ≡ length (next_piece l.octets)
