-- What a value spells, and how vCard 4.0 writes it (RFC 6350, section 3.4; RFC 2426, section 4;
-- vCard 2.1, section 2.1.2).
use Rattle.std.specs.Prelude.{ℕ, ◌≡◌, Bool, false, not, ◌&&◌, ◌||◌, ◌==◌, nat_eq, List, [], ◌∷◌}
use Rattle.std.specs.Prelude.{codes, flat_map, if◌then◌else◌}
use Rattle.std.specs.Char.{is_control}
use Rattle.std.specs.List.{starts_with}
use Rattle.std.specs.Str.{chars, encode_utf8_all}
use Rattle.base_types.specs.Octets.{backslash, carriage_return, colon, comma, is_letter, line_feed}
use Rattle.base_types.specs.Octets.{lower_n, semicolon, space, tab, upper_n}
use Rattle.vcard_lines.specs.TextValues.{TextChar, Plain, Escaped, TrailingBackslash, text_chars}
use Rattle.vcard_lines.specs.TextValues.{text_char_of, written_chars}
use Rattle.vcard_values.specs.declared.escapes.TextForm.{TextForm}
use Rattle.vcard_values.specs.declared.escapes.ValueForm.{ValueForm}
use Rattle.vcard_values.specs.declared.escapes.ValueForm.TheVariants.{Uri, Text}

-- What a text is made of: characters, and the commas and the semicolons that part it.
pub data TextUnit : Type 0 where
  Character : ℕ → TextUnit
  Comma : TextUnit
  Semicolon : TextUnit

-- no value has a control character but the tab, and a text the line feed
abbrev pub cleaned : ℕ → ℕ
cleaned c = if is_control c && not (c == tab || c == line_feed) then space else c

-- ---- what a text spells

-- What a character spells that no backslash precedes. A semicolon parts the text, and so does a
-- comma, where it is no part of the text. A carriage return is nothing.
abbrev pub plain_units : TextForm → ℕ → List TextUnit
plain_units form c =
    if c == carriage_return then []
    else (if c == semicolon then Semicolon ∷ []
    else (if c == comma && not form.commas_are_text then Comma ∷ []
    else Character (cleaned c) ∷ []))

-- What a character spells after a backslash: an n is a line feed, and a backslash, a comma, a
-- semicolon and a colon are themselves. Before any other the backslash is one of the text.
abbrev pub escaped_units : TextForm → ℕ → List TextUnit
escaped_units form c =
    if c == lower_n || c == upper_n then Character line_feed ∷ []
    else (if c == backslash || c == comma || c == semicolon || c == colon
    then Character c ∷ []
    else Character backslash ∷ plain_units form c)

-- a backslash at the end is one of the text
abbrev pub units_of_char : TextForm → TextChar → List TextUnit
units_of_char form (Plain c) = plain_units form c
units_of_char form (Escaped c) = escaped_units form c
units_of_char form TrailingBackslash = Character backslash ∷ []

-- the octets begin with a letter, a colon and a backslash
abbrev pub begins_with_drive : List ℕ → Bool
begins_with_drive [] = false
begins_with_drive (letter ∷ rest) = is_letter letter && starts_with nat_eq rest (codes ":\\")

-- the text is the path of a file in Windows, as `C:\new` or `\\host`
abbrev pub is_path : List ℕ → Bool
is_path value = starts_with nat_eq value (codes "\\\\") || begins_with_drive value

-- What a text spells. In vCard 2.1 a path has no escapes.
abbrev pub spelled_units : TextForm → List ℕ → List TextUnit
spelled_units form value =
    if form.is_old && is_path value then flat_map (plain_units form) (chars value)
    else flat_map (units_of_char form) (text_chars (chars value))

-- ---- what a URI or the like spells

-- a line break is none of its characters
abbrev pub plain_uri_chars : ℕ → List ℕ
plain_uri_chars c = if c == carriage_return || c == line_feed then [] else cleaned c ∷ []

-- Programs write a backslash before these characters, though none is escaped in a URI. Any other
-- backslash is one of the value.
abbrev pub escaped_uri_chars : ℕ → List ℕ
escaped_uri_chars c =
    if c == colon || c == comma || c == semicolon || c == backslash then c ∷ []
    else backslash ∷ plain_uri_chars c

abbrev pub uri_chars_of : TextChar → List ℕ
uri_chars_of (Plain c) = plain_uri_chars c
uri_chars_of (Escaped c) = escaped_uri_chars c
uri_chars_of TrailingBackslash = backslash ∷ []

-- ---- how vCard 4.0 writes it

-- a text of vCard 4.0
abbrev pub fourth_form : TextForm
fourth_form = record { commas_are_text = false; is_old = false }

-- A line feed is an escaped n; a backslash, a comma and a semicolon of the text are escaped.
abbrev pub unit_chars : TextUnit → List ℕ
unit_chars (Character c) = written_chars (text_char_of c)
unit_chars Comma = comma ∷ []
unit_chars Semicolon = semicolon ∷ []

-- the value of vCard 4.0 for what a value of this form spells
abbrev pub rewritten_value : ValueForm → List ℕ → List ℕ
rewritten_value Uri value = encode_utf8_all (flat_map uri_chars_of (text_chars (chars value)))
rewritten_value (Text form) value = encode_utf8_all (flat_map unit_chars (spelled_units form value))

-- The value of vCard 4.0 spells what the value of this form does.
abbrev pub SpellsSame : ValueForm → List ℕ → List ℕ → Type 0
SpellsSame Uri value new = Unit {0}
SpellsSame (Text form) value new = spelled_units fourth_form new ≡ spelled_units form value
