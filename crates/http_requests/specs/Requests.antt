-- The complete requests at the front of a stream of octets (RFC 9112, sections 2.1, 6.3 and
-- 9.3.2). The bounds are this project's own.
use Rattle.std.specs.Bool.{MatchBool}
use Rattle.std.specs.Prelude.{◌≡◌, ◌≤◌, ℕ, Bool, true, false, List, [], ◌∷◌, ◌++◌, length, None}
use Rattle.httparse.specs.Grammar.{RequestHead, print_request, ReadsRequest}
use Rattle.http_requests.specs.Fields.{fault_of_head, body_length, is_last_request}

-- the length of the longest head
abbrev pub longest_head : ℕ
longest_head = 16384

-- the most fields of a head
abbrev pub most_fields : ℕ
most_fields = 64

-- the octets are the head, which is within the bounds, and then the rest
abbrev pub StartsWithHead : List ℕ → RequestHead → List ℕ → Type 0
StartsWithHead octets head rest =
    ReadsRequest octets head rest × (length (print_request head) ≤ longest_head)
    × (length head.fields ≤ most_fields)

-- the octets start with no complete head
abbrev pub HasNoHead : List ℕ → Type 0
HasNoHead octets = (head : RequestHead) (rest : List ℕ) → ¬ (StartsWithHead octets head rest)

-- whatever follows, the octets start with no complete head
abbrev pub NeverHasHead : List ℕ → Type 0
NeverHasHead octets = (more : List ℕ) → HasNoHead (octets ++ more)

-- the octets start with a head without a fault
abbrev pub StartsWithGoodHead : List ℕ → Type 0
StartsWithGoodHead octets =
    (head : RequestHead) × (rest : List ℕ) × StartsWithHead octets head rest
    × (fault_of_head head ≡ None)

-- a head and its body
pub record Request : Type 0 where
  pub head : RequestHead
  pub body : List ℕ

-- the octets are the complete request and then the rest
abbrev pub StartsWithRequest : List ℕ → Request → List ℕ → Type 0
StartsWithRequest octets request rest =
    StartsWithHead octets request.head (request.body ++ rest)
    × (length request.body ≡ body_length request.head)

-- the octets start with no complete request
abbrev pub HasNoRequest : List ℕ → Type 0
HasNoRequest octets =
    (request : Request) (rest : List ℕ) → ¬ (StartsWithRequest octets request rest)

-- the octets are these requests in turn and then the rest; a request that is the last of its
-- connection ends the list
unfoldable pub StartsWithRequests : List ℕ → List Request → Bool → List ℕ → Type 0
StartsWithRequests octets [] ended rest = (ended ≡ false) × (octets ≡ rest)
StartsWithRequests octets (request ∷ requests) ended rest =
    (middle : List ℕ) × StartsWithRequest octets request middle
    × MatchBool (is_last_request request.head)
    ((requests ≡ []) × (ended ≡ true) × (middle ≡ rest))
    (StartsWithRequests middle requests ended rest)

-- these are all requests of the octets: the rest starts with no further one
abbrev pub AreAllRequests : List ℕ → List Request → Bool → List ℕ → Type 0
AreAllRequests octets requests ended rest =
    StartsWithRequests octets requests ended rest × (ended ≡ false → HasNoRequest rest)
