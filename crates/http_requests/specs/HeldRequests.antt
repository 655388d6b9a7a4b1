-- The incomplete request that a session holds: how many octets of it there are, and how long it is
-- with its body.
use Rattle.std.specs.Prelude.{◌≡◌, ◌+◌, ℕ, List, Option, Some, None, length}
use Rattle.httparse.specs.Grammar.{RequestHead, print_request}
use Rattle.http_requests.specs.Fields.{body_length}
use Rattle.http_requests.specs.Requests.{HasNoHead, StartsWithHead}

-- the number of octets that a session holds; 0 once it is closed
abbrev pub held_length : Option (List ℕ) → ℕ
held_length None = 0
held_length (Some held) = length held

-- the length of a request with this head, as its head gives it (RFC 9112, section 6.3)
abbrev pub request_length : RequestHead → ℕ
request_length head = length (print_request head) + body_length head

-- the length of the request whose head is held: 0 while no head is complete, and once the session is
-- closed
abbrev pub IsHeldRequestLength : Option (List ℕ) → ℕ → Type 0
IsHeldRequestLength None count = count ≡ 0
IsHeldRequestLength (Some held) count =
    ((head : RequestHead) (rest : List ℕ) → StartsWithHead held head rest
    → count ≡ request_length head)
    × (HasNoHead held → count ≡ 0)
