-- A stream has at most one list of requests, and it can be cut anywhere.
use Rattle.std.specs.Prelude.{◌≡◌, ℕ, Bool, true, false, List, ◌++◌}
use Rattle.http_requests.specs.Requests.{Request, StartsWithRequests, AreAllRequests}

-- the octets determine the list of requests and the rest
abbrev pub RequestsAreDetermined : Type 0
RequestsAreDetermined =
    (octets : List ℕ) (some others : List Request) (ended stopped : Bool) (rest left : List ℕ)
    → AreAllRequests octets some ended rest → AreAllRequests octets others stopped left
    → (some ≡ others) × (ended ≡ stopped) × (rest ≡ left)

-- the requests of two pieces are those of the first, then those of its rest and the second piece
abbrev pub RequestsConcatenate : Type 0
RequestsConcatenate =
    (piece next : List ℕ) (some others : List Request) (ended : Bool) (middle rest : List ℕ)
    → AreAllRequests piece some false middle → AreAllRequests (middle ++ next) others ended rest
    → AreAllRequests (piece ++ next) (some ++ others) ended rest

-- if the list of the first piece has ended, the requests of two pieces are those of the first
abbrev pub EndedListIsFinal : Type 0
EndedListIsFinal =
    (piece next : List ℕ) (requests : List Request) (rest : List ℕ)
    → AreAllRequests piece requests true rest
    → AreAllRequests (piece ++ next) requests true (rest ++ next)

-- requests at the front of the octets are a prefix of the list
abbrev pub LeadingRequestsArePrefix : Type 0
LeadingRequestsArePrefix =
    (octets : List ℕ) (some all : List Request) (ended stopped : Bool) (rest left : List ℕ)
    → StartsWithRequests octets some ended rest → AreAllRequests octets all stopped left
    → (more : List Request) × (all ≡ some ++ more)
