-- The line ends of a file of cards.
use Rattle.std.specs.Prelude.{ℕ, Bool, true, false, List, map, ◌==◌, if◌then◌else◌}
use Rattle.base_types.specs.Octets.{carriage_return, line_feed}

-- a line feed for a carriage return, and any other octet as it is
abbrev pub line_end : ℕ → ℕ
line_end octet = if octet == carriage_return then line_feed else octet

-- The octets of a file as its lines are read. If each line ends with a carriage return alone, as
-- the flag says, that is a line feed.
abbrev pub with_line_feeds : Bool → List ℕ → List ℕ
with_line_feeds true octets = map line_end octets
with_line_feeds false octets = octets
