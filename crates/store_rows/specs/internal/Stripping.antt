-- What the private functions say that compare a text with a card part by part.
use Rattle.std.specs.Prelude.{◌≡◌, ◌≢◌, ◌-◌, ℕ, length, List, [], ◌∷◌, ◌++◌, Option, MatchOption}
use Rattle.std.specs.Borrow.{Bor}
use Rattle.base_types.specs.Octets.{carriage_return, colon, line_feed, space}
use Rattle.vcard_lines.specs.internal.FoldingLoop.{append_folded}

-- what is left of the text after the part, or none if the text does not begin with it
abbrev pub Strips : List ℕ → List ℕ → Option (Bor (List ℕ)) → Type 0
Strips text part result =
    MatchOption result ((rest : List ℕ) → text ≢ part ++ rest) (λ rest. text ≡ part ++ rest.now)

-- a line of a name and a value, ended by CRLF
abbrev pub short_text : List ℕ → List ℕ → List ℕ
short_text name value = name ++ (colon ∷ (value ++ carriage_return ∷ line_feed ∷ []))

-- a part of a logical line that is followed by a fold, or by the line end
abbrev pub piece_text : List ℕ → List ℕ
piece_text piece = piece ++ carriage_return ∷ line_feed ∷ space ∷ []

abbrev pub end_text : List ℕ → List ℕ
end_text piece = piece ++ carriage_return ∷ line_feed ∷ []

-- The rest of a logical line, folded and ended. This number of octets still fits into the physical
-- line.
abbrev pub folded_rest : ℕ → List ℕ → List ℕ
folded_rest room rest = append_folded [] room rest

-- a line of a name, which isn't folded, and a value
abbrev pub plain_text : List ℕ → List ℕ → List ℕ
plain_text name value = name ++ (colon ∷ folded_rest (74 - length name) value)
