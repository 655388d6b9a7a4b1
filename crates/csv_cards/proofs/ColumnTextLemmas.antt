-- The lines that columns describe are UTF-8 if the fields are.
use Rattle.std.proofs.Common.{◌≡◌, ◌==◌, ◌&&◌, ◌++◌, ◌∷◌, [], ℕ, zero, suc, Bool, true, false}
use Rattle.std.proofs.Common.{if◌then◌else◌, List, flat_map, IsUtf8, chars, codes, refl}
use Rattle.std.proofs.Math.Utf8.{scalar, scalars}
use Rattle.std.proofs.lemmas.Bool.{and_parts}
use Rattle.std.proofs.lemmas.Str.{scalars-chars, IsUtf8-nil, IsUtf8-append}
use Rattle.csv.specs.Records.{AllText}
use Rattle.vcard_lines.specs.declared.line.Line.{Line}
use Rattle.vcard_lines.specs.Grammar.{line_text}
use Rattle.vcard_lines.proofs.FrontLemmas.{ascii_utf8}
use Rattle.vcard_lines.specs.TextValues.{written_chars, escaped_value, text_char_of}
use Rattle.vcard_text.proofs.MakingLemmas.{AllUtf8}
use Rattle.csv_cards.specs.Rows.{Row, row_field}
use Rattle.csv_cards.specs.Columns.{begins_with_line_feed, column, column_lines, email_in}
use Rattle.csv_cards.specs.Columns.{family_in, given_in, is_empty, nonempty_line, name_in}
use Rattle.csv_cards.specs.Columns.{nonempty_name_line, name_value, note_in, organization_in}
use Rattle.csv_cards.specs.Columns.{plain_line, telephone_in, uid_in, with_lf_line_ends}
use Rattle.vcard_lines.proofs.TextValueLemmas.{scalars_written}

-- ---- characters

plain_scalars : (cs : List ℕ) → scalars cs ≡ true → scalars (with_lf_line_ends cs) ≡ true
unfolding with_lf_line_ends
plain_scalars [] s = refl
plain_scalars (c ∷ cs) s =
    let p = and_parts (scalar c) (scalars cs) s in
    kept_or_not ((c == 13) && begins_with_line_feed cs) c (with_lf_line_ends cs) p.0
    (plain_scalars cs p.1)
  where
    kept_or_not : (b : Bool) (c : ℕ) (more : List ℕ) → scalar c ≡ true → scalars more ≡ true
        → scalars (if b then more else c ∷ more) ≡ true
    kept_or_not true c more one all = all
    kept_or_not false c more one all = rw (one, all) refl

-- ---- texts

field_utf8 : (row : Row) (place : ℕ) → AllText row → IsUtf8 (row_field row place)
unfolding AllText
field_utf8 [] place all = IsUtf8-nil
field_utf8 (f ∷ fs) zero all = all.0
field_utf8 (f ∷ fs) (suc place) all = field_utf8 fs place all.1

column_utf8 : (row : Row) (place : ℕ) → AllText row → IsUtf8 (column row place)
column_utf8 row place all = (
  with_lf_line_ends (chars (row_field row place)),
  (
    plain_scalars (chars (row_field row place)) (scalars-chars (row_field row place)
        (field_utf8 row place all)),
    refl,
  ),
)

escaped_utf8 : (text : List ℕ) → IsUtf8 text → IsUtf8 (escaped_value text)
escaped_utf8 text u = (
  flat_map (λ c. written_chars (text_char_of c)) (chars text),
  (scalars_written (chars text) (scalars-chars text u), refl),
)

-- ---- lines

line_utf8 : (name value : List ℕ) → IsUtf8 name → IsUtf8 value
    → IsUtf8 (line_text (plain_line name value))
line_utf8 name value n v = IsUtf8-append name (58 ∷ value) n (IsUtf8-append (58 ∷ []) value
    (ascii_utf8 (58 ∷ []) refl) v)

append_utf8 : (a b : List Line) → AllUtf8 a → AllUtf8 b → AllUtf8 (a ++ b)
append_utf8 [] b x y = y
append_utf8 (line ∷ lines) b x y = (x.0, append_utf8 lines b x.1 y)

one_or_none : (none : Bool) (line : Line) → IsUtf8 (line_text line)
    → AllUtf8 (if none then [] else line ∷ [])
one_or_none true line u = tt
one_or_none false line u = (u, tt)

if_any_utf8 : (name text : List ℕ) → IsUtf8 name → IsUtf8 text → AllUtf8 (nonempty_line name text)
if_any_utf8 name text n u = one_or_none (is_empty text) (plain_line name (escaped_value text))
    (line_utf8 name (escaped_value text) n (escaped_utf8 text u))

name_value_utf8 : (family given : List ℕ) → IsUtf8 family → IsUtf8 given
    → IsUtf8 (name_value family given)
name_value_utf8 family given f g =
    IsUtf8-append (escaped_value family ++ codes ";" ++ escaped_value given) (codes ";;;")
    (IsUtf8-append (escaped_value family ++ codes ";") (escaped_value given)
    (IsUtf8-append (escaped_value family) (codes ";") (escaped_utf8 family f)
    (ascii_utf8 (codes ";") refl)) (escaped_utf8 given g))
    (ascii_utf8 (codes ";;;") refl)

name_line_utf8 : (family given : List ℕ) → IsUtf8 family → IsUtf8 given
    → AllUtf8 (nonempty_name_line family given)
name_line_utf8 family given f g = one_or_none (is_empty family && is_empty given)
    (plain_line (codes "N") (name_value family given))
    (line_utf8 (codes "N") (name_value family given) (ascii_utf8 (codes "N") refl)
    (name_value_utf8 family given f g))

pub columns_utf8 : (row : Row) → AllText row → AllUtf8 (column_lines row)
columns_utf8 row all = (
  line_utf8 (codes "UID") (uid_in row) (ascii_utf8 (codes "UID") refl) (column_utf8 row 0 all),
  (
    line_utf8 (codes "FN") (escaped_value (name_in row)) (ascii_utf8 (codes "FN") refl)
        (escaped_utf8 (name_in row) (column_utf8 row 1 all)),
    append_utf8 _ (nonempty_line (codes "NOTE") (note_in row))
        (append_utf8 _ (nonempty_line (codes "ORG") (organization_in row))
        (append_utf8 _ (nonempty_line (codes "TEL") (telephone_in row))
        (append_utf8 (nonempty_name_line (family_in row) (given_in row))
        (nonempty_line (codes "EMAIL") (email_in row)) (name_line_utf8 (family_in row)
        (given_in row) (column_utf8 row 2 all) (column_utf8 row 3 all))
        (if_any_utf8 (codes "EMAIL") (email_in row) (ascii_utf8 (codes "EMAIL") refl)
        (column_utf8 row 4 all)))
        (if_any_utf8 (codes "TEL") (telephone_in row) (ascii_utf8 (codes "TEL") refl)
        (column_utf8 row 5 all)))
        (if_any_utf8 (codes "ORG") (organization_in row) (ascii_utf8 (codes "ORG") refl)
        (column_utf8 row 6 all)))
        (if_any_utf8 (codes "NOTE") (note_in row) (ascii_utf8 (codes "NOTE") refl)
        (column_utf8 row 7 all)),
  ),
)
