-- When a closed connection that lingers is given up.
use Rattle.std.specs.Prelude.{ℕ, ◌+◌, ◌-◌, min, Bool, nat_le, nat_eq, ◌||◌}
use Rattle.std.specs.Prelude.{if◌then◌else◌}
use Rattle.socket_endpoint.specs.PollTimes.{most_time}
use Rattle.socket_endpoint.specs.declared.linger.Linger.{Linger}

-- the longest time without octets from the client, in milliseconds
abbrev pub most_silence : ℕ
most_silence = 1000

-- the longest time in all
abbrev pub most_lingering : ℕ
most_lingering = 10000

-- the most octets that are dropped
abbrev pub most_dropped : ℕ
most_dropped = 16384000

-- a connection that is closed now
abbrev pub new_linger : ℕ → Linger
new_linger now = record { closed_at = now; heard_at = now; dropped = 0 }

-- the number of octets that may still be dropped
abbrev pub octets_left : Linger → ℕ
octets_left linger = most_dropped - linger.dropped

-- after this number of octets was dropped
abbrev pub linger_after : Linger → ℕ → ℕ → Linger
linger_after linger count now =
    if nat_eq count 0 then linger
    else record {
      closed_at = linger.closed_at;
      heard_at = now;
      dropped = min (linger.dropped + count) most_time;
    }

-- when it is given up if no octets come
abbrev pub deadline_of : Linger → ℕ
deadline_of linger = min (linger.heard_at + most_silence) (linger.closed_at + most_lingering)

-- its time is over, or the most octets were dropped
abbrev pub is_given_up : Linger → ℕ → Bool
is_given_up linger now = nat_le (deadline_of linger) now || nat_le most_dropped linger.dropped
