-- The octets of the picture or the sound that a logical line has in it: base64, also in a `data:`
-- URI (RFC 6350, sections 6.2.4, 6.6.3 and 6.7.5; RFC 2397; RFC 4648, section 4).
use Rattle.std.specs.Prelude.{ℕ, List, [], ◌∷◌, Bool, ◌&&◌, ◌-◌, codes, drop, filter, length}
use Rattle.std.specs.Prelude.{not, take, nat_eq, nat_le, Option, None, if◌then◌else◌}
use Rattle.std.specs.Char.{is_ascii_whitespace}
use Rattle.std.specs.List.{ends_with}
use Rattle.std.specs.Result.{result_ok}
use Rattle.std.specs.Str.{str_eq_ignore_ascii_case}
use Rattle.base64.specs.Engines.{standard_pad_indifferent}
use Rattle.base64.specs.GeneralPurpose.{decode_of}
use Rattle.base_types.specs.Octets.{backslash, colon, comma}
use Rattle.import_text.specs.RawLines.{begins_with_word}
use Rattle.vcard_values.specs.Cuts.{after, before}

-- the octets that the text encodes in base64, with or without padding, and with white space
-- anywhere; none if it isn't base64
abbrev pub base64_octets : List ℕ → Option (List ℕ)
base64_octets text = result_ok (decode_of standard_pad_indifferent
    (filter (λ octet. not (is_ascii_whitespace octet)) text))

-- the octets without a backslash at their end, as some programs write it before the comma
abbrev pub without_backslash : List ℕ → List ℕ
without_backslash octets = if ends_with nat_eq octets (backslash ∷ [])
    then take (length octets - 1) octets else octets

-- what is before the comma of a `data:` URI says that base64 follows: it ends so, in any case
abbrev pub says_base64 : List ℕ → Bool
says_base64 front = nat_le 7 (length (without_backslash front)) && str_eq_ignore_ascii_case
    (drop (length (without_backslash front) - 7) (without_backslash front)) (codes ";base64")

-- the octets of a `data:` URI: those of the base64 after its comma, if it says that this is base64
abbrev pub uri_octets : List ℕ → Option (List ℕ)
uri_octets uri =
    if says_base64 (before comma uri) then base64_octets (after comma uri) else None

-- the octets of a value: of a `data:` URI, or of base64
abbrev pub value_octets : List ℕ → Option (List ℕ)
value_octets value =
    if begins_with_word (codes "DATA:") value then uri_octets value else base64_octets value

-- the octets of the picture or the sound in a logical line, whose value comes after the first colon
abbrev pub media_octets : List ℕ → Option (List ℕ)
media_octets line = value_octets (after colon line)
