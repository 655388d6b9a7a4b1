-- The text of the value of a logical line: what its octets encode, if the line says in a clear way
-- how they are encoded (vCard 2.1, sections 2.1.4 and 2.1.5; RFC 2426, section 5; RFC 2045, section
-- 6.7).
use Rattle.std.specs.Prelude.{ℕ, Bool, false, not, ◌&&◌, ◌||◌, ◌==◌, List, [], ◌∷◌, ◌++◌}
use Rattle.std.specs.Prelude.{codes, drop, flat_map, map, if◌then◌else◌}
use Rattle.std.specs.Char.{is_ascii_graphic}
use Rattle.std.specs.List.{list_all, list_any, slice_split}
use Rattle.std.specs.Str.{chars, encode_utf8_all, str_eq_ignore_ascii_case}
use Rattle.std.specs.Str.Lossy.{utf8_lossy}
use Rattle.base_types.specs.Octets.{backslash, carriage_return, colon, line_feed, semicolon}
use Rattle.import_text.specs.Encodings.{text_of, windows_char}
use Rattle.import_text.specs.QuotedPrintable.{quoted_printable}
use Rattle.import_text.specs.RawLines.{is_encoded_as}
use Rattle.vcard_values.specs.Forms.{has_parts, says}
use Rattle.vcard_values.specs.Cuts.{after, has_octet}

-- ---- what the parameters say

-- the parameter says that the value is quoted-printable
abbrev pub names_quoted : List ℕ → Bool
names_quoted part = str_eq_ignore_ascii_case part (codes "ENCODING=QUOTED-PRINTABLE")
    || str_eq_ignore_ascii_case part (codes "QUOTED-PRINTABLE")

-- the parameter says that the value isn't encoded
abbrev pub names_plain : List ℕ → Bool
names_plain part = str_eq_ignore_ascii_case part (codes "ENCODING=8BIT")
    || str_eq_ignore_ascii_case part (codes "ENCODING=7BIT")
    || str_eq_ignore_ascii_case part (codes "ENCODING=8-BIT")

-- the parameter may say that the value isn't encoded
abbrev pub names_no_encoding : List ℕ → Bool
names_no_encoding part = is_encoded_as (codes "8BIT") part || is_encoded_as (codes "7BIT") part
    || is_encoded_as (codes "8-BIT") part

-- the parameter says that the value is in UTF-8
abbrev pub names_utf8 : List ℕ → Bool
names_utf8 part = str_eq_ignore_ascii_case part (codes "CHARSET=UTF-8")
    || str_eq_ignore_ascii_case part (codes "CHARSET=UTF8")

-- the parameter says that the value is in ASCII
abbrev pub names_ascii : List ℕ → Bool
names_ascii part = str_eq_ignore_ascii_case part (codes "CHARSET=US-ASCII")

-- the parameter names no encoding or no character set, and so says nothing
abbrev pub names_nothing : List ℕ → Bool
names_nothing part = str_eq_ignore_ascii_case part (codes "ENCODING=")
    || str_eq_ignore_ascii_case part (codes "CHARSET=")

-- The parameter says that the value is in Windows-1252, which has the characters of Latin-1.
abbrev pub names_windows : List ℕ → Bool
names_windows part = str_eq_ignore_ascii_case part (codes "CHARSET=ISO-8859-1")
    || str_eq_ignore_ascii_case part (codes "CHARSET=WINDOWS-1252")

abbrev pub is_b : ℕ → Bool
is_b octet = octet == 66 || octet == 98

-- the parameter is the word B, perhaps with white space around it, which means base64
abbrev pub is_bare_b : List ℕ → Bool
is_bare_b part = list_any is_b part
    && list_all (λ octet. is_b octet || not (is_ascii_graphic octet)) part

-- the parameter may say how the value is encoded, in another way than those above
abbrev pub may_name_encoding : List ℕ → Bool
may_name_encoding part =
    not (names_quoted part || names_plain part || names_utf8 part || names_ascii part
    || names_windows part || names_nothing part)
    && (is_encoded_as (codes "CHARSET") part || is_encoded_as (codes "ENCODING") part
    || is_encoded_as (codes "QUOTED-PRINTABLE") part || is_encoded_as (codes "BASE64") part
    || is_bare_b part)

-- How the value is encoded is said in the ways above, and in no two that differ.
abbrev pub has_clear_encoding : List ℕ → Bool
has_clear_encoding line = not (says may_name_encoding line)
    && not (says names_quoted line && says names_no_encoding line)
    && not ((says names_utf8 line || says names_ascii line) && says names_windows line)

-- ---- the text

-- the value is what is after the first colon
abbrev pub value_of : List ℕ → List ℕ
value_of line = after colon line

-- a character, where CRLF, and CR or LF alone, is a line feed; the flag says whether a CR is before
-- it
abbrev pub line_break : Bool → ℕ → List ℕ
line_break after_return c =
    if c == carriage_return then line_feed ∷ []
    else (if c == line_feed && after_return then [] else c ∷ [])

-- the characters with a line feed for each line break
unfoldable pub line_feeds_after : Bool → List ℕ → List ℕ
line_feeds_after after_return [] = []
line_feeds_after after_return (c ∷ cs) =
    line_break after_return c ++ line_feeds_after (c == carriage_return) cs

-- the text with a line feed for each line break
abbrev pub with_line_feeds : List ℕ → List ℕ
with_line_feeds text = encode_utf8_all (line_feeds_after false (chars text))

-- The text of octets that were quoted-printable, in the character set that the line names. In
-- UTF-8, U+FFFD stands for each sequence that is no character.
abbrev pub charset_text : List ℕ → List ℕ → List ℕ
charset_text line octets =
    if says names_windows line then encode_utf8_all (map windows_char octets)
    else (if says names_utf8 line then utf8_lossy octets else text_of octets)

-- ---- components in quoted-printable

-- an octet of a component, where a semicolon that no backslash precedes gets one; the flag says
-- whether one precedes it
abbrev pub marked_octet : Bool → ℕ → List ℕ
marked_octet is_escaped octet =
    if octet == semicolon && not is_escaped then backslash ∷ octet ∷ [] else octet ∷ []

-- the octets of a component, where each semicolon has a backslash before it
unfoldable pub marked_after : Bool → List ℕ → List ℕ
marked_after is_escaped [] = []
marked_after is_escaped (octet ∷ octets) = marked_octet is_escaped octet
    ++ marked_after (octet == backslash && not is_escaped) octets

-- a semicolon and what a component in quoted-printable encodes, of which no semicolon parts
-- components
abbrev pub decoded_component : List ℕ → List ℕ
decoded_component component = semicolon ∷ marked_after false (quoted_printable component)

-- what the components encode that are between semicolons
abbrev pub decoded_components : List ℕ → List ℕ
decoded_components value =
    drop 1 (flat_map decoded_component (slice_split (λ octet. octet == semicolon) value))

-- What a value in quoted-printable of the line encodes. If semicolons part its components that
-- aren't encoded, one that is encoded is a part of a component, as Android writes it.
abbrev pub decoded_value : List ℕ → List ℕ → List ℕ
decoded_value line value =
    if has_parts line && has_octet semicolon value then decoded_components value
    else quoted_printable value

-- ---- the text of the line

-- The text of the value. What isn't quoted-printable, nor said to be in Windows-1252, is read as
-- the octets of the whole line are: a program may have written the file anew in another set.
abbrev pub value_text : List ℕ → List ℕ
value_text line =
    if says names_quoted line
    then with_line_feeds (charset_text line (decoded_value line (value_of line)))
    else (if says names_windows line then encode_utf8_all (map windows_char (value_of line))
    else value_of (text_of line))
