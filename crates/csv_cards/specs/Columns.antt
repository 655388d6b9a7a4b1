-- The property lines of a row of form Columns: which column becomes which line (RFC 6350, section
-- 6).
use Rattle.std.specs.Prelude.{ℕ, Bool, false, ◌==◌, ◌&&◌, List, [], ◌∷◌, ◌++◌, codes, None}
use Rattle.std.specs.Prelude.{if◌then◌else◌, length}
use Rattle.std.specs.Str.{chars, encode_utf8_all}
use Rattle.base_types.specs.Octets.{line_feed, carriage_return}
use Rattle.vcard_lines.specs.declared.line.Line.{Line}
use Rattle.vcard_lines.specs.TextValues.{escaped_value}
use Rattle.csv_cards.specs.Rows.{Row, row_field}

-- ---- line ends

abbrev pub begins_with_line_feed : List ℕ → Bool
begins_with_line_feed [] = false
begins_with_line_feed (c ∷ cs) = c == line_feed

-- the characters without each carriage return directly before a line feed
unfoldable pub with_lf_line_ends : List ℕ → List ℕ
with_lf_line_ends [] = []
with_lf_line_ends (c ∷ cs) =
    if (c == carriage_return) && begins_with_line_feed cs then with_lf_line_ends cs
    else c ∷ with_lf_line_ends cs

-- the field at the index, with CRLF replaced by LF
abbrev pub column : Row → ℕ → List ℕ
column row place = encode_utf8_all (with_lf_line_ends (chars (row_field row place)))

-- ---- the columns in order

abbrev pub uid_in : Row → List ℕ
uid_in row = column row 0

abbrev pub name_in : Row → List ℕ
name_in row = column row 1

abbrev pub family_in : Row → List ℕ
family_in row = column row 2

abbrev pub given_in : Row → List ℕ
given_in row = column row 3

abbrev pub email_in : Row → List ℕ
email_in row = column row 4

abbrev pub telephone_in : Row → List ℕ
telephone_in row = column row 5

abbrev pub organization_in : Row → List ℕ
organization_in row = column row 6

abbrev pub note_in : Row → List ℕ
note_in row = column row 7

-- ---- the lines

-- a line without group and parameters
abbrev pub plain_line : List ℕ → List ℕ → Line
plain_line name value = record { group = None; name = name; params = []; value = value }

abbrev pub is_empty : List ℕ → Bool
is_empty text = length text == 0

-- the line with the text as its value; none if the text is empty
abbrev pub nonempty_line : List ℕ → List ℕ → List Line
nonempty_line name text = if is_empty text then [] else plain_line name (escaped_value text) ∷ []

-- the five components of a name, of which the first two are family and given name (section 6.2.2)
abbrev pub name_value : List ℕ → List ℕ → List ℕ
name_value family given = escaped_value family ++ codes ";" ++ escaped_value given ++ codes ";;;"

-- the N line; none if both names are empty
abbrev pub nonempty_name_line : List ℕ → List ℕ → List Line
nonempty_name_line family given =
    if is_empty family && is_empty given then []
    else plain_line (codes "N") (name_value family given) ∷ []

-- The UID is used as written; everything else is escaped.
abbrev pub column_lines : Row → List Line
column_lines row =
    plain_line (codes "UID") (uid_in row)
    ∷ plain_line (codes "FN") (escaped_value (name_in row))
    ∷ (nonempty_name_line (family_in row) (given_in row)
    ++ nonempty_line (codes "EMAIL") (email_in row)
    ++ nonempty_line (codes "TEL") (telephone_in row)
    ++ nonempty_line (codes "ORG") (organization_in row)
    ++ nonempty_line (codes "NOTE") (note_in row))
