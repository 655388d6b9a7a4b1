use Rattle.std.proofs.Common.{◌≡◌, count_by, is_some, take}
use Rattle.http_hub.proofs.places.first_free.Given as goal

abbrev pub invariant-loop-place : goal.invariant-loop-place
invariant-loop-place l = count_by is_some (take l.place l.slots) ≡ l.place
