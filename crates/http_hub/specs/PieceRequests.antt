-- How many requests a piece completes.
use Rattle.std.specs.Prelude.{◌==◌, ◌*◌, ◌+◌, ◌≤◌, ℕ, Bool, List, ◌++◌, count_by, length}
use Rattle.base_types.specs.Octets.{line_feed}
use Rattle.http_requests.specs.Requests.{HasNoRequest, Request, StartsWithRequests}

-- the number of line feeds
abbrev pub line_feed_count : List ℕ → ℕ
line_feed_count octets = count_by (λ octet. octet == line_feed) octets

-- The octets held start with no complete request. Then a piece completes at most one request, and
-- one more for every two line feeds in it: a head has at least two.
abbrev pub PiecesCompleteFewRequests : Type 0
PiecesCompleteFewRequests =
    (held piece : List ℕ) (requests : List Request) (ended : Bool) (rest : List ℕ)
    → HasNoRequest held → StartsWithRequests (held ++ piece) requests ended rest
    → 2 * length requests ≤ line_feed_count piece + 2
