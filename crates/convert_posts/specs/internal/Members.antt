-- The members of a part's object, one kind after another.
use Rattle.std.specs.Prelude.{ℕ, List, [], ◌∷◌, codes, map}
use Rattle.std.specs.Borrow.{Bor}
use Rattle.serde_json.specs.Data.{Members, put, string, array}
use Rattle.serde_json.specs.View.{items_of}
use Rattle.convert_posts.specs.PartValues.{dates_word, kind_word, line_value, row_value}
use Rattle.convert_posts.specs.declared.part.Part.{Part}

-- a row of a name and a number, with the name read from its reference
abbrev pub named_number : Bor (List ℕ) × ℕ → List ℕ × ℕ
named_number row = (row.0.now, row.1)

-- the numbers of a part, by name
abbrev pub part_numbers : Part → List (List ℕ × ℕ)
part_numbers part =
    (codes "card", part.card)
    ∷ (codes "changed", part.summary.changed)
    ∷ (codes "header", part.header)
    ∷ (codes "line", part.line)
    ∷ (codes "not_carried", part.summary.refused)
    ∷ (codes "taken", part.taken)
    ∷ (codes "written", part.summary.written)
    ∷ []

-- the members with those that are words
abbrev pub with_words : Part → Members → Members
with_words part members =
    put (codes "kind") (string (kind_word part.kind))
    (put (codes "dates") (string (dates_word part.dates))
    (put (codes "columns") (string part.columns) members))

-- the members with those that are lists
abbrev pub with_lists : Part → Members → Members
with_lists part members =
    put (codes "rows") (array (items_of (map row_value part.rows)))
    (put (codes "report") (array (items_of (map line_value part.report))) members)
