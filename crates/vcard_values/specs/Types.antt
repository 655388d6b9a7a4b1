-- The types of a property, as the head of its line has them: the values of TYPE (RFC 6350, section
-- 5.6; RFC 2426, section 3), and in vCard 2.1 words without a name (vCard 2.1, section 2.1.2).
use Rattle.std.specs.Prelude.{ℕ, Bool, false, not, ◌&&◌, ◌||◌, ◌==◌, nat_lt, List, [], ◌∷◌, codes, drop}
use Rattle.std.specs.Prelude.{flat_map, length, if◌then◌else◌}
use Rattle.std.specs.Char.{is_ascii_graphic}
use Rattle.std.specs.List.{list_all, list_any, slice_split}
use Rattle.std.specs.Str.{str_eq_ignore_ascii_case, str_to_ascii_lowercase}
use Rattle.base_types.specs.Octets.{comma, equals, quote, semicolon}
use Rattle.import_text.specs.RawLines.{begins_with_word, head}
use Rattle.vcard_lines.specs.declared.line.ParamValue.{ParamValue}
use Rattle.vcard_values.specs.Cuts.{has_octet}
use Rattle.vcard_values.specs.Forms.{params}
use Rattle.vcard_values.specs.OwnLabels.{is_own_label, own_label_type, values_in}

-- The head has only visible characters of ASCII, and no double quote.
abbrev pub has_clear_types : List ℕ → Bool
has_clear_types line = list_all is_ascii_graphic (head line) && not (has_octet quote (head line))

-- the word says how the value is encoded
abbrev pub is_encoding_word : List ℕ → Bool
is_encoding_word word = str_eq_ignore_ascii_case word (codes "QUOTED-PRINTABLE")
    || str_eq_ignore_ascii_case word (codes "BASE64") || str_eq_ignore_ascii_case word (codes "B")
    || str_eq_ignore_ascii_case word (codes "8BIT") || str_eq_ignore_ascii_case word (codes "7BIT")

-- the word says where the value is
abbrev pub is_place_word : List ℕ → Bool
is_place_word word = str_eq_ignore_ascii_case word (codes "URL")
    || str_eq_ignore_ascii_case word (codes "INLINE")

-- The types of a parameter, with commas between them: what TYPE has, or a word without a name that
-- says nothing else.
abbrev pub types_text : List ℕ → List ℕ
types_text part =
    if begins_with_word (codes "TYPE=") part then drop 5 part
    else (if has_octet equals part || is_encoding_word part || is_place_word part then [] else part)

-- the words of a parameter that are types
abbrev pub part_words : List ℕ → List (List ℕ)
part_words part = slice_split (λ octet. octet == comma) (types_text part)

-- the parameters of the line
abbrev pub parts_of : List ℕ → List (List ℕ)
parts_of line = slice_split (λ octet. octet == semicolon) (params line)

-- ---- pref

-- the word says that the property is the preferred one
abbrev pub is_pref : List ℕ → Bool
is_pref word = str_eq_ignore_ascii_case word (codes "PREF")

-- one of the words of the parameter says so
abbrev pub part_prefers : List ℕ → Bool
part_prefers part = list_any is_pref (part_words part)

-- a parameter of the line does
abbrev pub is_preferred : List ℕ → Bool
is_preferred line = list_any part_prefers (parts_of line)

-- ---- values of TYPE

-- the word is a value of TYPE in vCard 4.0
abbrev pub is_type : List ℕ → Bool
is_type word = nat_lt 0 (length word) && list_all is_ascii_graphic word && not (is_pref word)

-- that value, in lower case
abbrev pub type_value : List ℕ → ParamValue
type_value word = record { quoted = false; text = str_to_ascii_lowercase word }

abbrev pub word_types : List ℕ → List ParamValue
word_types word = if is_type word then type_value word ∷ [] else []

-- the values of TYPE that a parameter has: a label of one's own, or the words that are types
abbrev pub part_types : List ℕ → List ParamValue
part_types part =
    if is_own_label part then values_in (own_label_type part)
    else flat_map word_types (part_words part)

-- the values of TYPE that the line has
abbrev pub types_of : List ℕ → List ParamValue
types_of line = flat_map part_types (parts_of line)
