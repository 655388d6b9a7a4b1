-- The conversion of one file.
use Rattle.std.specs.Prelude.{ℕ, ◌≡◌, Bool, List, Option, Some, IfSome, IsTrue}
use Rattle.vcard_lines.specs.declared.line.Line.{Line}
use Rattle.card_conversion.specs.Courses.{ConvertsPart, Part}
use Rattle.card_conversion.specs.LineEnds.{with_line_feeds}
use Rattle.card_conversion.specs.declared.course.Course.{Course}
use Rattle.cli_convert.specs.FileTexts.{IsPartOf, is_card_text}
use Rattle.cli_convert.specs.declared.content.Content.{Content}
use Rattle.cli_convert.specs.declared.content.Content.TheVariants.{Cards}

-- A reader gives this text whole, if it is known and is taken for cards, perhaps with a line feed
-- for each carriage return. `left` is what the reader will give, where that is known.
abbrev pub GivesText : Content → Option (List ℕ) → Option (List ℕ) → Type 0
GivesText content left whole = IfSome whole (λ text. IsTrue (is_card_text text)
    → (content ≡ Cards) × ((returns : Bool) × (left ≡ Some (with_line_feeds returns text))))

-- A file with this text, where it is known, was converted after cards with these UIDs.
pub record ConvertsFile {A : Type 0} (writes : List Line → A → A → Type 0)
    (whole : Option (List ℕ)) (uids : List (List ℕ)) (old new : Course) (before after : A) : Type 0
  where
    pub part : Part
    pub is : IfSome whole (λ text. IsPartOf text part)
    pub converts : ConvertsPart writes part uids old new before after
