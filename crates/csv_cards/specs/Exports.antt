-- Which files have rows of cards.
use Rattle.std.specs.Prelude.{ℕ, Bool, true, ◌||◌, ◌&&◌, ◌==◌, nat_eq}
use Rattle.std.specs.Prelude.{List, [], ◌∷◌, codes, drop}
use Rattle.std.specs.List.{starts_with}
use Rattle.base_types.specs.Octets.{carriage_return, line_feed}
use Rattle.vcard_text.specs.Spelling.{without_bom}

-- the octets are none, or begin with the end of a line
abbrev pub ends_line : List ℕ → Bool
ends_line [] = true
ends_line (octet ∷ octets) = octet == carriage_return || octet == line_feed

-- the first line is the header of rows of cards, perhaps after a byte order mark
abbrev pub is_export : List ℕ → Bool
is_export head = starts_with nat_eq (without_bom head) (codes "uid,vcard")
    && ends_line (drop 9 (without_bom head))
