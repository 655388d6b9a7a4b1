-- The lines and the changes while cells are kept aside. Public contracts don't cite it.
use Rattle.std.specs.Prelude.{ℕ, ◌≡◌, ◌<◌, ◌⊎◌, true, List, [], ◌∷◌, ◌++◌, codes, get_or}
use Rattle.vcard_lines.specs.declared.line.Line.{Line}
use Rattle.vcard_lines.specs.TextValues.{escaped_value}
use Rattle.vcard_text.specs.Making.{upper_line, upper_lines}
use Rattle.vcard_changes.specs.Lines.{plain_line}
use Rattle.vcard_changes.specs.declared.change.Change.{Change}
use Rattle.vcard_changes.specs.declared.change_kind.ChangeKind.TheVariants.{KeptAside}
use Rattle.contact_csv.specs.Carrying.{ArePartsHeld, IsCarried, IsAsideName, IsComponentPart}
use Rattle.contact_csv.specs.Carrying.{IsPartHeld, change, column_at, is_component_held, is_held}
use Rattle.contact_columns.specs.declared.columns.Column.{Column}
use Rattle.contact_csv.specs.declared.keeping.Kept.{Kept}

-- The text is carried in a column of the property whose cells are no components.
abbrev pub IsCarriedWhole : List ℕ → List ℕ → List Line → Type 0
IsCarriedWhole property text lines = (is_held property text lines ≡ true)
    ⊎ ((separator : List ℕ)
    × ArePartsHeld separator (λ part. IsPartHeld property part lines) text
    × ((separator ≡ codes " ::: ")
    ⊎ ((separator ≡ codes ";") × (property ≡ codes "CATEGORIES"))))

-- The text is carried in a column of the property whose cells are its component at the index.
abbrev pub IsComponentCarried : List ℕ → ℕ → List ℕ → List Line → Type 0
IsComponentCarried property index text lines =
    (is_component_held property index text lines ≡ true)
    ⊎ ((property ≡ codes "ADR")
    × ArePartsHeld (codes " ::: ") (λ part. IsComponentPart property index part lines) text)

-- the lines begin with that of the UID, and their names are in upper case
pub record BeginsWithUid (uid : List ℕ) (lines : List Line) : Type 0 where
  pub others : List Line
  pub lines_are : lines ≡ plain_line (codes "UID") uid ∷ others
  pub upper : upper_lines lines ≡ lines

-- a line that keeps a text is appended, and the change that reports it
pub record KeepsAside (place : ℕ) (text : List ℕ) (old new : Kept) : Type 0 where
  pub line : Line
  pub name : IsAsideName line.name
  pub value : line.value ≡ escaped_value text
  pub upper : upper_line line ≡ line
  pub lines_are : new.lines ≡ old.lines ++ line ∷ []
  pub changes_are : new.changes ≡ old.changes ++ change place KeptAside ∷ []

-- only changes are appended
pub record ReportsOnly (old new : Kept) : Type 0 where
  pub lines_are : new.lines ≡ old.lines
  pub changes : List Change
  pub changes_are : new.changes ≡ old.changes ++ changes

-- lines and changes are appended so that the cell is carried
pub record KeepsCell (column : Column) (place : ℕ) (text : List ℕ) (old new : Kept) : Type 0 where
  pub lines : List Line
  pub upper : upper_lines lines ≡ lines
  pub lines_are : new.lines ≡ old.lines ++ lines
  pub changes : List Change
  pub changes_are : new.changes ≡ old.changes ++ changes
  pub carried : IsCarried column place text new.lines new.changes

-- the lines begin with that of the UID, and the first cells are carried
pub record Keeps (uid : List ℕ) (columns : List Column) (texts : List (List ℕ)) (count : ℕ)
    (made : Kept) : Type 0 where
  pub begins : BeginsWithUid uid made.lines
  pub cells : (place : ℕ) → place < count
      → IsCarried (column_at columns place) place (get_or texts place []) made.lines made.changes
