-- The octets that are read of a file: its text in UTF-8, if the file is in UTF-16 (RFC 2781,
-- section 3.2).
use Rattle.std.specs.Prelude.{ℕ, Bool, List, Option, option_map, unwrap_or}
use Rattle.std.specs.Str.{encode_utf8_all}
use Rattle.std.specs.Char.Utf16.{utf16_lossy_chars}
use Rattle.import_text.specs.Units.{split_mark, units, utf16_text_of}

-- the text, in UTF-8, of octets in UTF-16; the flag says whether the first octet of each unit is
-- the greater half
abbrev pub utf16_octets : Bool → List ℕ → List ℕ
utf16_octets is_big octets = encode_utf8_all (utf16_lossy_chars (units is_big octets))

-- The octets that are read of a file. If it begins with a byte order mark of UTF-16, they are its
-- text in UTF-8, without the mark. Otherwise they are the file's own.
abbrev pub text_octets : List ℕ → List ℕ
text_octets octets = unwrap_or (utf16_text_of octets) octets

-- whether the first octet of each unit is the greater half, as a byte order mark of UTF-16 says
abbrev pub mark_order : List ℕ → Option Bool
mark_order octets = option_map (λ split. split.0) (split_mark octets)
