-- How many octets the connections of a server hold: of requests that aren't complete, and of replies
-- that aren't taken. A reply counts whole until its last octet is sent, since until then the server
-- keeps all of it.
use Rattle.std.specs.Prelude.{◌≡◌, ◌≤◌, ◌⊎◌, ◌+◌, ℕ, zero, suc, List, Option, Some, None, length}
use Rattle.std.specs.Prelude.{nat_le, slice_get, sum_by, if◌then◌else◌}
use Rattle.http_hub.specs.Links.{LinkValue}

-- The octets of the incomplete request that a session holds. Once its head is complete, all octets
-- of the request count, since they may come.
abbrev pub request_load : Option (List ℕ) → ℕ → ℕ
request_load None request_length = 0
request_load (Some held) zero = length held
request_load (Some held) (suc more) = suc more

-- the octets of a connection: of its incomplete request, and of the replies that it holds
abbrev pub load_of : LinkValue → ℕ
load_of link = request_load link.session link.request_length + link.reply_length

-- the most octets of a small connection; an incomplete head has fewer
abbrev pub most_small : ℕ
most_small = 16384

-- this number of octets, or 0 if a small connection has as many
abbrev pub large_part : ℕ → ℕ
large_part load = if nat_le load most_small then 0 else load

-- the octets of the connection at a place, if it is a large one
abbrev pub large_at : Option LinkValue → ℕ
large_at None = 0
large_at (Some link) = large_part (load_of link)

-- the octets of all large connections
abbrev pub large_total : List (Option LinkValue) → ℕ
large_total slots = sum_by large_at slots

-- more octets than one connection can have, whose request and replies have fewer than 2^64 each
abbrev pub most_load : ℕ
most_load = 36893488147419103232

-- all large connections together have at most this many octets, or there is only one of them
abbrev pub AreWithin : ℕ → List (Option LinkValue) → Type 0
AreWithin most slots = (large_total slots ≤ most)
    ⊎ ((place : ℕ) × (link : Option LinkValue) × (slice_get slots place ≡ Some link)
    × (large_total slots ≡ large_at link))
