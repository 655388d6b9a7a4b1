-- How the value of a logical line is written: as a text or as a URI, and whether its commas are
-- parts of the text (RFC 6350, section 6; RFC 2426, section 3; vCard 2.1, section 2.1.3.1).
use Rattle.std.specs.Prelude.{ℕ, Bool, true, false, not, ◌&&◌, ◌||◌, ◌==◌, ◌-◌, nat_le, List, ◌∷◌}
use Rattle.std.specs.Prelude.{codes, drop, length, nat_lt, if◌then◌else◌}
use Rattle.std.specs.List.{list_all, list_any, slice_split}
use Rattle.std.specs.Str.{str_eq_ignore_ascii_case}
use Rattle.base_types.specs.Octets.{colon, dot, semicolon}
use Rattle.import_text.specs.RawLines.{head, is_encoded_as}
use Rattle.vcard_lines.specs.Grammar.{is_name_octet}
use Rattle.vcard_values.specs.Cuts.{after, before, has_octet}
use Rattle.vcard_values.specs.declared.escapes.ValueForm.{ValueForm}
use Rattle.vcard_values.specs.declared.escapes.ValueForm.TheVariants.{Uri, Text}
use Rattle.vcard_values.specs.declared.version.Version.{Version}
use Rattle.vcard_values.specs.declared.version.Version.TheVariants.{Old, Third, Fourth}

-- ---- the name

-- the name of a property with its group, as the line has it
abbrev pub written_name : List ℕ → List ℕ
written_name line = before semicolon (head line)

-- the octets end with the word, in any case
abbrev pub ends_with_word : List ℕ → List ℕ → Bool
ends_with_word word octets = nat_le (length word) (length octets)
    && str_eq_ignore_ascii_case (drop (length octets - length word) octets) word

-- the property has the name, in any case, with or without a group
abbrev pub is_property : List ℕ → List ℕ → Bool
is_property name line = str_eq_ignore_ascii_case (written_name line) name
    || ends_with_word (dot ∷ name) (written_name line)

-- the values of the property are URIs or the like
abbrev pub is_uri_property : List ℕ → Bool
is_uri_property line = is_property (codes "URL") line || is_property (codes "SOURCE") line
    || is_property (codes "IMPP") line || is_property (codes "FBURL") line
    || is_property (codes "CALURI") line || is_property (codes "CALADRURI") line
    || is_property (codes "UID") line || is_property (codes "MEMBER") line
    || is_property (codes "X-ADDRESSBOOKSERVER-MEMBER") line
    || is_property (codes "RELATED") line || is_property (codes "PHOTO") line
    || is_property (codes "LOGO") line || is_property (codes "SOUND") line
    || is_property (codes "KEY") line

-- the value of the property is one text
abbrev pub is_text_property : List ℕ → Bool
is_text_property line = is_property (codes "FN") line || is_property (codes "NOTE") line
    || is_property (codes "TITLE") line || is_property (codes "ROLE") line
    || is_property (codes "ORG") line

-- the value of the property has components
abbrev pub has_components : List ℕ → Bool
has_components line = is_property (codes "N") line || is_property (codes "ADR") line

-- semicolons part the value of the property
abbrev pub has_parts : List ℕ → Bool
has_parts line = has_components line || is_property (codes "ORG") line

-- ---- the parameters

-- the parameters, as the line has them
abbrev pub params : List ℕ → List ℕ
params line = after semicolon (head line)

-- one of the parameters is of this kind
abbrev pub says : (List ℕ → Bool) → List ℕ → Bool
says test line = list_any test (slice_split (λ octet. octet == semicolon) (params line))

-- the parameter says that the value is a URI
abbrev pub names_uri : List ℕ → Bool
names_uri part = str_eq_ignore_ascii_case part (codes "VALUE=URI")
    || str_eq_ignore_ascii_case part (codes "VALUE=URL")
    || str_eq_ignore_ascii_case part (codes "URL")

-- the parameter says that the value is a text
abbrev pub names_text : List ℕ → Bool
names_text part = str_eq_ignore_ascii_case part (codes "VALUE=TEXT")

-- The parameter may say that the value is a URI or a text, in another way than those above.
abbrev pub may_name_form : List ℕ → Bool
may_name_form part = not (names_uri part || names_text part)
    && (is_encoded_as (codes "URL") part || (is_encoded_as (codes "VALUE") part
    && (is_encoded_as (codes "URI") part || is_encoded_as (codes "TEXT") part)))

-- what the line says of the form of its value is said in one of the ways above
abbrev pub has_clear_form : List ℕ → Bool
has_clear_form line = not (says may_name_form line)

-- ---- the form

abbrev pub plus_sign : ℕ
plus_sign = 43

-- an octet of the scheme of a URI: a letter, a digit, a hyphen, a dot or a plus sign (RFC 3986,
-- section 3.1)
abbrev pub is_scheme_octet : ℕ → Bool
is_scheme_octet octet = is_name_octet octet || octet == dot || octet == plus_sign

-- the value begins as a URI does: with such octets and a colon
abbrev pub has_scheme : List ℕ → Bool
has_scheme value = has_octet colon value && nat_lt 0 (length (before colon value))
    && list_all is_scheme_octet (before colon value)

-- the value is a person in words, as `RELATED:Sue` has it (RFC 6350, section 6.6.6)
abbrev pub is_in_words : List ℕ → Bool
is_in_words line = is_property (codes "RELATED") line && not (has_scheme (after colon line))

-- the value is a URI or the like
abbrev pub has_uri : List ℕ → Bool
has_uri line = says names_uri line
    || (is_uri_property line && not (says names_text line || is_in_words line))

-- A comma is a part of the text. vCard 4.0 parts the values of some of these properties by commas,
-- and vCard 3.0 the components of a name or an address.
abbrev pub commas_are_text : Version → List ℕ → Bool
commas_are_text Old line = is_text_property line || has_components line
commas_are_text Third line = is_text_property line
commas_are_text Fourth line = false

abbrev pub is_old : Version → Bool
is_old Old = true
is_old Third = false
is_old Fourth = false

-- how the value of a line of that version is written
abbrev pub value_form : Version → List ℕ → ValueForm
value_form version line =
    if has_uri line then Uri
    else Text (record {
      commas_are_text = commas_are_text version line;
      is_old = is_old version;
    })
