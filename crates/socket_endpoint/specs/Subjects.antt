-- What the token of an event stands for.
use Rattle.std.specs.Prelude.{ℕ, ◌/◌, ◌%◌, ◌-◌, ◌==◌, if◌then◌else◌}
use Rattle.socket_endpoint.specs.declared.subject.Subject.{Subject}
use Rattle.socket_endpoint.specs.declared.subject.Subject.TheVariants.{Listener, Place, Lingerer}

-- 0 is the listener, an odd number a place, and another even number a slot of the sockets that
-- linger
abbrev pub subject_of : ℕ → Subject
subject_of token =
    if token == 0 then Listener
    else if token % 2 == 1 then Place (token / 2)
    else Lingerer (token / 2 - 1)

-- the number of the place or the slot
abbrev pub number_of : Subject → ℕ
number_of Listener = 0
number_of (Place place) = place
number_of (Lingerer slot) = slot
