-- The lines of columns, whose names are in upper case.
use Rattle.std.proofs.Common.{◌≡◌, ◌++◌, ◌∷◌, [], List, Bool, true, false, codes, refl, ap, ◌∙◌}
use Rattle.std.specs.Bool.{if◌then◌else◌}
use Rattle.std.proofs.lemmas.List.{map-append}
use Rattle.vcard_lines.specs.declared.line.Line.{Line}
use Rattle.vcard_text.specs.Making.{upper_line, upper_lines}
use Rattle.csv_cards.specs.Rows.{Row}
use Rattle.csv_cards.specs.Columns.{column_lines, email_in, family_in, given_in, nonempty_line}
use Rattle.csv_cards.specs.Columns.{name_in, nonempty_name_line, note_in, organization_in}
use Rattle.csv_cards.specs.Columns.{plain_line, telephone_in, uid_in}
use Rattle.vcard_lines.specs.TextValues.{escaped_value}

upper_or_none : (b : Bool) (line : Line) → upper_line line ≡ line
    → upper_lines (if b then [] else line ∷ []) ≡ (if b then [] else line ∷ [])
upper_or_none true line e = refl
upper_or_none false line e = ap (λ l. l ∷ []) e

upper_two : (a b : List Line) → upper_lines a ≡ a → upper_lines b ≡ b
    → upper_lines (a ++ b) ≡ a ++ b
upper_two a b e f = map-append upper_line a b ∙ ap (λ l. l ++ upper_lines b) e ∙ ap (λ l. a ++ l) f

upper_cons : (line : Line) (ls : List Line) → upper_line line ≡ line → upper_lines ls ≡ ls
    → upper_lines (line ∷ ls) ≡ line ∷ ls
upper_cons line ls e f = ap (λ l. l ∷ upper_lines ls) e ∙ ap (λ l. line ∷ l) f

module _ (row : Row) where
  pub upper_columns : upper_lines (column_lines row) ≡ column_lines row
  upper_columns =
      upper_cons (plain_line (codes "UID") (uid_in row)) _ refl
      (upper_cons (plain_line (codes "FN") (escaped_value (name_in row))) _ refl
      (upper_two _ (nonempty_line (codes "NOTE") (note_in row))
      (upper_two _ (nonempty_line (codes "ORG") (organization_in row))
      (upper_two _ (nonempty_line (codes "TEL") (telephone_in row))
      (upper_two (nonempty_name_line (family_in row) (given_in row)) (nonempty_line (codes "EMAIL")
      (email_in row)) (upper_or_none _ _ refl) (upper_or_none _ _ refl))
      (upper_or_none _ _ refl)) (upper_or_none _ _ refl)) (upper_or_none _ _ refl)))
