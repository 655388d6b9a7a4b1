-- How long a poll waits.
use Rattle.std.specs.Prelude.{ℕ, ◌-◌, ◌*◌, ◌/◌, min, Option, Some, None}
use Rattle.std.specs.declared.time.Duration.{Duration}
use Rattle.std.specs.Duration.{as_nanos}

-- the greatest number of milliseconds
abbrev pub most_time : ℕ
most_time = 18446744073709551615

-- the whole milliseconds of this number of nanoseconds
abbrev pub whole_millis : ℕ → ℕ
whole_millis nanos = min (nanos / 1000000) most_time

-- the earlier of two times, if there is one
abbrev pub earlier : Option ℕ → Option ℕ → Option ℕ
earlier None second = second
earlier (Some first) None = Some first
earlier (Some first) (Some second) = Some (min first second)

-- the time that is left until then
abbrev pub time_left : Option ℕ → ℕ → Option ℕ
time_left None now = None
time_left (Some until) now = Some (until - now)

-- this number of milliseconds, as nanoseconds
abbrev pub nanos_of : Option ℕ → Option ℕ
nanos_of None = None
nanos_of (Some millis) = Some (millis * 1000000)

-- the nanoseconds of a timeout
abbrev pub nanos_in : Option Duration → Option ℕ
nanos_in None = None
nanos_in (Some timeout) = Some (as_nanos timeout)
