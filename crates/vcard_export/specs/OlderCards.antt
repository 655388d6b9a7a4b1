-- A card as vCard 3.0 (RFC 2426).
use Rattle.std.specs.Prelude.{ℕ, Bool, not, ◌||◌, ◌&&◌, ◌==◌, List, [], ◌∷◌, ◌++◌, codes, count_by}
use Rattle.std.specs.Prelude.{find, flat_map, length, if◌then◌else◌}
use Rattle.std.specs.List.{list_all}
use Rattle.std.specs.Option.{option_map_or}
use Rattle.vcard_lines.specs.declared.line.Line.{Line}
use Rattle.vcard_lines.specs.declared.line.Param.{Param}
use Rattle.vcard_lines.specs.Folding.{folded_text}
use Rattle.vcard_text.specs.Cards.{has_line_named, line_is_named}
use Rattle.vcard_export.specs.OlderLines.{label_line, name_line, older_line, splits_label}
use Rattle.vcard_export.specs.OlderParams.{is_label}

-- ---- labels

abbrev pub has_one_value : Param → Bool
has_one_value param = not (is_label param) || length param.values == 1

-- the line has one label, of one value
abbrev pub has_one_label : Line → Bool
has_one_label line = (count_by is_label line.params == 1) && list_all has_one_value line.params

-- the line is no address, or one with a label
abbrev pub is_settled : Line → Bool
is_settled line = not (line_is_named (codes "ADR") line) || has_one_label line

-- Labels become lines of their own if each address has one: so it is clear to which address each
-- belongs. Else they stay parameters.
abbrev pub splits_labels : List Line → Bool
splits_labels lines = list_all is_settled lines

-- ---- lines

-- what a line becomes: a line, and one of its label if that is split off
abbrev pub older_lines : Bool → Line → List (List ℕ)
older_lines splits line =
    if splits_label splits line then older_line splits line ∷ label_line line ∷ []
    else older_line splits line ∷ []

-- the same, each folded and ended by CRLF
abbrev pub folded_lines : Bool → Line → List ℕ
folded_lines splits line = flat_map folded_text (older_lines splits line)

-- the value of the first FN
abbrev pub first_name : List Line → List ℕ
first_name lines = option_map_or (λ line. line.value) (find (line_is_named (codes "FN")) lines) []

-- an N if there is none, since vCard 3.0 requires one (section 3.1.2)
abbrev pub missing_name : List Line → List (List ℕ)
missing_name lines =
    if has_line_named (codes "N") lines then [] else name_line (first_name lines) ∷ []

-- ---- the text

-- BEGIN, VERSION, what the lines become, in order, an N if there is none, and END
abbrev pub older_logical_lines : List Line → List (List ℕ)
older_logical_lines lines =
    codes "BEGIN:VCARD" ∷ codes "VERSION:3.0" ∷ (flat_map (older_lines (splits_labels lines)) lines
    ++ (missing_name lines ++ codes "END:VCARD" ∷ []))

-- the logical lines, each folded and ended by CRLF
abbrev pub older_card_text : List Line → List ℕ
older_card_text lines = flat_map folded_text (older_logical_lines lines)
