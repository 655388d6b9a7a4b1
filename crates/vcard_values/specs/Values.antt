-- Lines whose value is known: the text after the first colon, as its version reads it. And
-- pictures, sounds and keys in base64, which are `data:` URIs in vCard 4.0 (RFC 6350, sections
-- 6.2.4, 6.6.3, 6.7.5 and 6.8.1).
use Rattle.std.specs.Prelude.{ℕ, ◌≡◌, Bool, true, false, not, ◌&&◌, ◌||◌, ◌==◌, ◌⊎◌, List, ◌++◌}
use Rattle.std.specs.Prelude.{codes, fold, if◌then◌else◌, Option, None, Some}
use Rattle.std.specs.List.{list_all, list_any, slice_split}
use Rattle.std.specs.Option.{is_some}
use Rattle.std.specs.Str.{str_eq_ignore_ascii_case}
use Rattle.base64.specs.Engines.{standard}
use Rattle.base64.specs.GeneralPurpose.{encode_of}
use Rattle.base_types.specs.Octets.{backslash, colon, comma, dot, quote, semicolon}
use Rattle.import_text.specs.RawLines.{head}
use Rattle.vcard_lines.specs.Grammar.{is_name_octet}
use Rattle.vcard_values.specs.Cuts.{has_octet}
use Rattle.vcard_values.specs.Dates.{date_of, is_date_property, is_plainly_dated}
use Rattle.vcard_values.specs.Escapes.{SpellsSame, rewritten_value}
use Rattle.vcard_values.specs.Forms.{has_clear_form, says, value_form, written_name}
use Rattle.vcard_values.specs.Media.{base64_octets}
use Rattle.vcard_values.specs.ValueTexts.{has_clear_encoding, is_bare_b, names_quoted, value_of}
use Rattle.vcard_values.specs.ValueTexts.{value_text}
use Rattle.vcard_values.specs.declared.version.Version.{Version}

-- ---- the name

-- letters, digits, hyphens and dots
abbrev pub is_plain_name : List ℕ → Bool
is_plain_name name = list_all (λ octet. is_name_octet octet || octet == dot) name

-- The values of the property have another form in vCard 4.0: a label is a parameter there, a place
-- a URI, and a date has no hyphens.
abbrev pub has_other_form : List ℕ → Bool
has_other_form name = str_eq_ignore_ascii_case name (codes "LABEL")
    || str_eq_ignore_ascii_case name (codes "GEO")
    || str_eq_ignore_ascii_case name (codes "BDAY")
    || str_eq_ignore_ascii_case name (codes "ANNIVERSARY")
    || str_eq_ignore_ascii_case name (codes "X-ANNIVERSARY")
    || str_eq_ignore_ascii_case name (codes "REV")

-- A comma of the text has a backslash before it in vCard 4.0, and may have none in another version.
abbrev pub may_lack_backslash : List ℕ → Bool
may_lack_backslash name = str_eq_ignore_ascii_case name (codes "FN")
    || str_eq_ignore_ascii_case name (codes "NOTE")
    || str_eq_ignore_ascii_case name (codes "TITLE")
    || str_eq_ignore_ascii_case name (codes "ROLE")
    || str_eq_ignore_ascii_case name (codes "ORG")
    || str_eq_ignore_ascii_case name (codes "N")
    || str_eq_ignore_ascii_case name (codes "ADR")

-- the name of the property, or its group, is one of these
abbrev pub is_named_so : (List ℕ → Bool) → List ℕ → Bool
is_named_so test line = list_any test (slice_split (λ octet. octet == dot) (written_name line))

-- ---- quotes

-- what follows the octet is in quotes, if what follows the octets before it is or isn't
abbrev pub open_after : Bool → ℕ → Bool
open_after is_open octet = if octet == quote then not is_open else is_open

-- a quote of the octets isn't closed
abbrev pub has_open_quote : List ℕ → Bool
has_open_quote octets = fold open_after false octets

-- each quote of the head is closed before the next semicolon, so that neither a semicolon nor the
-- colon at its end is in quotes
abbrev pub has_closed_quotes : List ℕ → Bool
has_closed_quotes line =
    not (list_any has_open_quote (slice_split (λ octet. octet == semicolon) (head line)))

-- ---- the value

-- No character of the value is escaped in any version, or encoded.
abbrev pub has_plain_value : List ℕ → Bool
has_plain_value line = not (says names_quoted line) && not (has_octet backslash (value_of line))
    && (not (has_octet comma (value_of line)) || not (is_named_so may_lack_backslash line))

-- ---- the line

-- The line has a colon. The name is made of letters, digits and hyphens. No quote is open where a
-- part of the head ends. How the value is encoded is clear.
abbrev pub has_known_text : List ℕ → Bool
has_known_text line = has_octet colon line && is_plain_name (written_name line)
    && has_closed_quotes line && has_clear_encoding line

-- The text of the value is known, and the name is none of those whose values have another form in
-- vCard 4.0. The form is clear, or no character of the value is escaped.
abbrev pub has_known_value : List ℕ → Bool
has_known_value line = has_known_text line && not (is_named_so has_other_form line)
    && (has_clear_form line || has_plain_value line)

-- ---- dates

-- the text of the value is known, and is a date by the name alone
abbrev pub may_have_date : List ℕ → Bool
may_have_date line = has_known_text line && is_date_property line && is_plainly_dated line

-- the date that the line has, as vCard 4.0 writes it, if it is one
abbrev pub known_date : List ℕ → Option (List ℕ)
known_date line = if may_have_date line then date_of (value_text line) else None

-- ---- pictures

abbrev pub is_media_name : List ℕ → Bool
is_media_name name = str_eq_ignore_ascii_case name (codes "PHOTO")
    || str_eq_ignore_ascii_case name (codes "LOGO")
    || str_eq_ignore_ascii_case name (codes "SOUND")
    || str_eq_ignore_ascii_case name (codes "KEY")

-- the part of a head says that the value is base64
abbrev pub names_base64 : List ℕ → Bool
names_base64 part = str_eq_ignore_ascii_case part (codes "ENCODING=B")
    || str_eq_ignore_ascii_case part (codes "ENCODING=BASE64")
    || str_eq_ignore_ascii_case part (codes "BASE64")

-- a part of the head says so
abbrev pub is_in_base64 : List ℕ → Bool
is_in_base64 line = list_any names_base64 (slice_split (λ octet. octet == semicolon) (head line))

-- the head may say so, also by the word B alone
abbrev pub may_be_base64 : List ℕ → Bool
may_be_base64 line = is_in_base64 line || says is_bare_b line

-- the line is a picture, a sound or a key, and its head says that its value is base64
abbrev pub has_media : List ℕ → Bool
has_media line = is_media_name (written_name line) && is_in_base64 line

-- the octets of the picture, the sound or the key that the line has in it; none if its value isn't
-- base64
abbrev pub media_of : List ℕ → Option (List ℕ)
media_of line = if has_media line then base64_octets (value_of line) else None

-- The value is a `data:` URI of these octets: a media type, and their base64.
pub record IsUriOf (media value : List ℕ) : Type 0 where
  pub media_type : List ℕ
  pub no_comma : has_octet comma media_type ≡ false
  pub value_is : value ≡ codes "data:" ++ media_type ++ codes ";base64," ++ encode_of standard media

-- the value is a `data:` URI of the picture, the sound or the key that the line has in it
pub record IsDataUri (line value : List ℕ) : Type 0 where
  pub media : List ℕ
  pub found : media_of line ≡ Some media
  pub uri : IsUriOf media value

-- ---- what stays

-- the value of the line is known, or a date, or the line is a picture, a sound or a key in base64
abbrev pub is_known : List ℕ → Bool
is_known octets =
    has_known_value octets || is_some (media_of octets) || is_some (known_date octets)

-- The value is that of the line of this version, as vCard 4.0 writes it. There it spells the same.
pub record IsRewritten (version : Version) (octets value : List ℕ) : Type 0 where
  pub known : has_known_value octets ≡ true
  pub value_is : value ≡ rewritten_value (value_form version octets) (value_text octets)
  pub spells : SpellsSame (value_form version octets) (value_text octets) value

-- the value is that of the line, as vCard 4.0 writes it, a `data:` URI of the picture, or the date
abbrev pub HasValueOf : Version → List ℕ → List ℕ → Type 0
HasValueOf version octets value = IsRewritten version octets value
    ⊎ (IsDataUri octets value ⊎ (known_date octets ≡ Some value))
