-- Folding: a logical line is written as physical lines of at most 75 octets, split between
-- characters (RFC 6350, section 3.2).
use Rattle.std.specs.Prelude.{ℕ, ◌≡◌, ◌<◌, ◌≤◌, ◌+◌, List, [], ◌∷◌, ◌++◌, length, map, flat_map}
use Rattle.std.specs.Prelude.{encode_utf8}
use Rattle.std.specs.List.{AllByRecursion, concat}
use Rattle.std.specs.Str.{IsUtf8, chars, encode_utf8_all}
use Rattle.base_types.specs.Octets.{carriage_return, line_feed, space}
use Rattle.vcard_lines.specs.FoldingSteps.{Pieces, cut_pieces}

-- ---- what a folding is

-- the most octets of a physical line, without its line end
abbrev pub physical_octets_max : ℕ
physical_octets_max = 75

abbrev pub FitsPhysicalLine : List ℕ → Type 0
FitsPhysicalLine octets = length octets ≤ physical_octets_max

-- The octets are whole characters that fit into a physical line.
pub record IsPhysicalLine (octets : List ℕ) : Type 0 where
  pub utf8 : IsUtf8 octets
  pub fits : FitsPhysicalLine octets

-- a continuation line: a space and its characters
abbrev pub continuation_line : List ℕ → List ℕ
continuation_line characters = space ∷ encode_utf8_all characters

-- the physical lines with these characters: those of the first line and of each continuation line
abbrev pub encode_physical : List ℕ → List (List ℕ) → List (List ℕ)
encode_physical first further = encode_utf8_all first ∷ map continuation_line further

-- Continuation lines of these characters follow a physical line. Each has a first character, which
-- would not fit into the physical line before it.
abbrev pub NextWouldNotFit : List ℕ → List (List ℕ) → Type 0
NextWouldNotFit octets [] = Unit {0}
NextWouldNotFit octets ([] ∷ further) = ⊥
NextWouldNotFit octets ((c ∷ cs) ∷ further) =
    (physical_octets_max < length octets + length (encode_utf8 c))
    × NextWouldNotFit (continuation_line (c ∷ cs)) further

-- The logical line is split between characters into these physical lines. None is too long, and
-- into each but the last the next character would not fit.
pub record IsFolding (line : List ℕ) (physical : List (List ℕ)) : Type 0 where
  pub first : List ℕ
  pub further : List (List ℕ)
  pub whole : chars line ≡ first ++ concat further
  pub physical_are : physical ≡ encode_physical first further
  pub fit : AllByRecursion FitsPhysicalLine physical
  pub full : NextWouldNotFit (encode_utf8_all first) further

-- ---- what is written

abbrev pub encode_pieces : Pieces → List (List ℕ)
encode_pieces pieces = encode_physical pieces.first pieces.further

-- the physical lines of a logical line: its only folding
abbrev pub physical_lines : List ℕ → List (List ℕ)
physical_lines line = encode_pieces (cut_pieces physical_octets_max (chars line))

-- a physical line, ended by CRLF
abbrev pub crlf_line : List ℕ → List ℕ
crlf_line octets = octets ++ carriage_return ∷ line_feed ∷ []

-- the text of a logical line: its physical lines, each ended by CRLF
abbrev pub folded_text : List ℕ → List ℕ
folded_text line = flat_map crlf_line (physical_lines line)
