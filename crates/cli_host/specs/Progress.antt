-- What is said on a terminal of a long import or a long opening.
use Rattle.std.specs.Prelude.{ℕ, ◌/◌, List, [], ◌∷◌, ◌++◌, codes, decimal}
use Rattle.base_types.specs.Octets.{line_feed}

-- before a file is opened that has this number of octets
abbrev pub opening_line : List ℕ → ℕ → List ℕ
opening_line file octets =
    codes "opening " ++ (file ++ (codes ": " ++ (decimal (octets / 1000000)
    ++ (codes " MB .." ++ line_feed ∷ []))))

-- before an import
abbrev pub begin_line : ℕ → List ℕ
begin_line lines = codes "importing " ++ (decimal lines ++ (codes " lines .." ++ line_feed ∷ []))

-- after either
abbrev pub end_line : ℕ → List ℕ
end_line micros = codes "done after " ++ (decimal (micros / 1000)
    ++ (codes " milliseconds" ++ line_feed ∷ []))
