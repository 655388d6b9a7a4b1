-- The text of octets whose encoding isn't known (Windows-1252: the registry of character sets of
-- IANA).
use Rattle.std.specs.Prelude.{ℕ, ◌-◌, ◌==◌, Bool, ◌&&◌, not, List, [], ◌∷◌, map, get_or}
use Rattle.std.specs.Prelude.{nat_le, nat_lt, if◌then◌else◌}
use Rattle.std.specs.List.{count_by}
use Rattle.std.specs.Str.{is_utf8, chars, encode_utf8_all}
use Rattle.std.specs.Str.Lossy.{utf8_lossy}

-- the characters of the octets 128 to 159; U+FFFD stands for an octet without a character
abbrev pub windows_chars : List ℕ
windows_chars =
    8364 ∷ 65533 ∷ 8218 ∷ 402 ∷ 8222 ∷ 8230 ∷ 8224 ∷ 8225
    ∷ 710 ∷ 8240 ∷ 352 ∷ 8249 ∷ 338 ∷ 65533 ∷ 381 ∷ 65533
    ∷ 65533 ∷ 8216 ∷ 8217 ∷ 8220 ∷ 8221 ∷ 8226 ∷ 8211 ∷ 8212
    ∷ 732 ∷ 8482 ∷ 353 ∷ 8250 ∷ 339 ∷ 65533 ∷ 382 ∷ 376 ∷ []

-- The character of an octet in a character set, of which `chars` are the characters of the octet
-- `first` and the next ones. Any other octet is the character of its number.
unfoldable pub char_in : ℕ → List ℕ → ℕ → ℕ
char_in first chars octet = if nat_lt octet first then octet else get_or chars (octet - first) octet

-- The character of an octet in Windows-1252. But for those above it is the character of its number,
-- as in Latin-1.
unfoldable pub windows_char : ℕ → ℕ
windows_char octet = char_in 128 windows_chars octet

-- U+FFFD, which stands for what is no character
abbrev pub is_lost : ℕ → Bool
is_lost c = c == 65533

-- a character that isn't ASCII, and isn't lost
abbrev pub is_wide : ℕ → Bool
is_wide c = nat_le 128 c && not (is_lost c)

-- more characters of the text aren't ASCII than are lost
abbrev pub is_mostly_read : List ℕ → Bool
is_mostly_read text = nat_lt (count_by is_lost (chars text)) (count_by is_wide (chars text))

-- The text of octets that aren't UTF-8. They are UTF-8 that was damaged if more characters of it
-- aren't ASCII than are lost: U+FFFD stands for each sequence that is no character. Any others are
-- Windows-1252.
abbrev pub damaged_text : List ℕ → List ℕ
damaged_text octets =
    if is_mostly_read (utf8_lossy octets) then utf8_lossy octets
    else encode_utf8_all (map windows_char octets)

-- octets that are UTF-8 are the text
unfoldable pub text_of : List ℕ → List ℕ
text_of octets = if is_utf8 octets then octets else damaged_text octets

-- The octets aren't UTF-8, and `text_of` takes them for Windows-1252.
abbrev pub is_guessed : List ℕ → Bool
is_guessed octets = not (is_utf8 octets) && not (is_mostly_read (utf8_lossy octets))
