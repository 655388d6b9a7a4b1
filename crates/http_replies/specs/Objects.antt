-- JSON objects built from their members (RFC 8259, section 4).
use Rattle.std.specs.Prelude.{ℕ, List, [], ◌∷◌}
use Rattle.serde_json.specs.Data.{Data, number, unsigned, object, Members, member, no_members, put}

-- these members, each a name and its value, in this order
abbrev pub members_from : List (List ℕ × Data) → Members
members_from [] = no_members
members_from (each ∷ others) = member each.0 each.1 (members_from others)

-- an object with these members
abbrev pub object_of : List (List ℕ × Data) → Data
object_of members = object (members_from members)

-- a natural number as a JSON number
abbrev pub json_number : ℕ → Data
json_number n = number (unsigned n)

-- the members with one more number, in the order of the octets of the names
abbrev pub with_number : Members → List ℕ × ℕ → Members
with_number members row = put row.0 (json_number row.1) members
