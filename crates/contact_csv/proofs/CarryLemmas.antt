-- What is held stays so when lines and changes are appended.
use Rattle.std.proofs.Common.{◌≡◌, ℕ, Bool, true, ◌||◌, List, ◌++◌, ap, codes, ◌∙◌}
use Rattle.std.specs.List.{list_any}
use Rattle.std.proofs.lemmas.List.Elements.{Contains-append_left}
use Rattle.std.proofs.lemmas.List.Folds.{list_any-append}
use Rattle.vcard_lines.specs.declared.line.Line.{Line}
use Rattle.vcard_changes.specs.declared.change.Change.{Change}
use Rattle.contact_csv.specs.Carrying.{IsPartHeld, ArePartsHeld, IsLabelHeld, IsCarried, void_part}
use Rattle.contact_csv.specs.Carrying.{whole_part, starred_part, last_part, next_part, as_types}
use Rattle.contact_csv.specs.Carrying.{as_name, as_text, left_out, no_value, in_component, whole}
use Rattle.contact_csv.specs.Carrying.{in_parts, in_addresses, as_label, as_date, as_date_text}
use Rattle.contact_csv.specs.Carrying.{IsComponentPart, void_component, held_component}
use Rattle.contact_csv.specs.Carrying.{kept_aside}
use Rattle.contact_columns.specs.declared.columns.Column.{Column}

pub any_stays : {X : Type 0} (p : X → Bool) (xs ys : List X) → list_any p xs ≡ true
    → list_any p (xs ++ ys) ≡ true
any_stays p xs ys any = list_any-append p xs ys ∙ ap (λ b. b || list_any p ys) any

part_stays : (property part : List ℕ) (lines more : List Line) → IsPartHeld property part lines
    → IsPartHeld property part (lines ++ more)
part_stays property part lines more (void_part void) = void_part void
part_stays property part lines more (whole_part held) = whole_part (any_stays _ lines more held)
part_stays property part lines more (starred_part text is held) =
    starred_part text is (any_stays _ lines more held)

component_stays : (property : List ℕ) (index : ℕ) (part : List ℕ) (lines more : List Line)
    → IsComponentPart property index part lines
    → IsComponentPart property index part (lines ++ more)
component_stays property index part lines more (void_component void) = void_component void
component_stays property index part lines more (held_component held) =
    held_component (any_stays _ lines more held)

-- parts that are held in one way are so in another that follows from it
parts_follow : (separator : List ℕ) (P Q : List ℕ → Type 0) → ((part : List ℕ) → P part → Q part)
    → (text : List ℕ) → ArePartsHeld separator P text → ArePartsHeld separator Q text
parts_follow separator P Q follows text (last_part part held) = last_part part (follows part held)
parts_follow separator P Q follows text (next_part whole_text part rest is held others) =
    next_part whole_text part rest is (follows part held)
    (parts_follow separator P Q follows rest others)

label_stays : (label : List ℕ) (lines more : List Line) → IsLabelHeld label lines
    → IsLabelHeld label (lines ++ more)
label_stays label lines more (as_types line has types) =
    as_types line (Contains-append_left lines more line has) types
label_stays label lines more (as_name line has name) =
    as_name line (Contains-append_left lines more line has) name
label_stays label lines more (as_text held) = as_text (any_stays _ lines more held)

pub carried_stays : (column : Column) (place : ℕ) (text : List ℕ) (lines more : List Line)
    (changes further : List Change) → IsCarried column place text lines changes
    → IsCarried column place text (lines ++ more) (changes ++ further)
carried_stays column place text lines more changes further (left_out is) = left_out is
carried_stays column place text lines more changes further (no_value void) = no_value void
carried_stays column place text lines more changes further (in_component index is held) =
    in_component index is (any_stays _ lines more held)
carried_stays column place text lines more changes further (in_addresses index is address parts) =
    in_addresses index is address (parts_follow (codes " ::: ")
    (λ part. IsComponentPart column.property index part lines)
    (λ part. IsComponentPart column.property index part (lines ++ more))
    (λ part held. component_stays column.property index part lines more held) text parts)
carried_stays column place text lines more changes further (whole none held) =
    whole none (any_stays _ lines more held)
carried_stays column place text lines more changes further (in_parts separator none parts is) =
    in_parts separator none (parts_follow separator
    (λ part. IsPartHeld column.property part lines)
    (λ part. IsPartHeld column.property part (lines ++ more))
    (λ part held. part_stays column.property part lines more held) text parts) is
carried_stays column place text lines more changes further (as_label label is of_cell held) =
    as_label label is of_cell (label_stays label lines more held)
carried_stays column place text lines more changes further (as_date is line reported) =
    as_date is (any_stays _ lines more line) (Contains-append_left changes further _ reported)
carried_stays column place text lines more changes further (as_date_text is line reported) =
    as_date_text is (any_stays _ lines more line) (Contains-append_left changes further _ reported)
carried_stays column place text lines more changes further (kept_aside line has name value
    reported) = kept_aside line (Contains-append_left lines more line has) name value
    (Contains-append_left changes further _ reported)
