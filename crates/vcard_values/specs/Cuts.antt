-- Octets cut at the first one of a kind.
use Rattle.std.specs.Prelude.{ℕ, Bool, not, ◌==◌, List, drop, length, take_while}
use Rattle.std.specs.List.{list_any}

-- the octets before the first one that is the mark
abbrev pub before : ℕ → List ℕ → List ℕ
before mark octets = take_while (λ octet. not (octet == mark)) octets

-- the octets after the first one that is the mark; none if there is no such one
abbrev pub after : ℕ → List ℕ → List ℕ
after mark octets = drop 1 (drop (length (before mark octets)) octets)

-- one of the octets is this one
abbrev pub has_octet : ℕ → List ℕ → Bool
has_octet octet value = list_any (λ other. other == octet) value
