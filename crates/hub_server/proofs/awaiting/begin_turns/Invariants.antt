use Rattle.std.proofs.Common.{◌≡◌, take}
use Rattle.hub_server.specs.Seats.{seats_after_wait}
use Rattle.hub_server.proofs.awaiting.begin_turns.Given as goal

abbrev pub invariant-loop-place : goal.invariant-loop-place
invariant-loop-place l = l.seats ≡ seats_after_wait (take l.place l.ready) l.fn.seats
