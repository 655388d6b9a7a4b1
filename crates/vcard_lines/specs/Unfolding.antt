-- Computes the logical lines of a text from left to right. The result is the only one that
-- LogicalLines.antt allows.
use Rattle.std.specs.Prelude.{ℕ, List, [], ◌∷◌, ◌++◌, drop, if◌then◌else◌}
use Rattle.std.specs.Str.Lines.{lines}
use Rattle.vcard_lines.specs.LogicalLines.{continues}

-- the other lines after this one, which is left out if it is empty
abbrev pub cons_nonempty : List ℕ → List (List ℕ) → List (List ℕ)
cons_nonempty [] others = others
cons_nonempty (octet ∷ octets) others = (octet ∷ octets) ∷ others

-- the logical line so far: its first physical line, until a continuation line was joined to it
abbrev pub line_so_far : List ℕ → List ℕ → List ℕ
line_so_far first [] = first
line_so_far first (octet ∷ octets) = octet ∷ octets

-- the logical lines of the line so far and of the physical lines after it
unfoldable pub unfold_from : List ℕ → List (List ℕ) → List (List ℕ)
unfold_from line [] = cons_nonempty line []
unfold_from line (piece ∷ pieces) =
    if continues piece then unfold_from (line ++ drop 1 piece) pieces
    else cons_nonempty line (unfold_from piece pieces)

unfoldable pub unfold_lines : List (List ℕ) → List (List ℕ)
unfold_lines [] = []
unfold_lines (piece ∷ pieces) = unfold_from piece pieces

abbrev pub logical_lines : List ℕ → List (List ℕ)
logical_lines text = unfold_lines (lines text)
