use Rattle.std.proofs.Common.{◌≡◌, replicate}
use Rattle.hub_server.specs.Seats.{new_seat}
use Rattle.hub_server.proofs.server.Server.new.Given as goal

abbrev pub invariant-loop-place : goal.invariant-loop-place
invariant-loop-place l = l.seats.items ≡ replicate l._place new_seat
