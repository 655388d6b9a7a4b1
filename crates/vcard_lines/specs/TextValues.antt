-- Text values: how a character is written, what it decodes to, and where semicolons separate
-- components (RFC 6350, sections 3.3 and 3.4).
use Rattle.std.specs.Prelude.{ℕ, ◌≡◌, ◌<◌, Bool, true, false, ◌||◌, ◌==◌, List, [], ◌∷◌, ◌++◌, map}
use Rattle.std.specs.Prelude.{flat_map, length, if◌then◌else◌}
use Rattle.std.specs.List.{AllByRecursion, list_any}
use Rattle.std.specs.Str.{chars, encode_utf8_all}
use Rattle.base_types.specs.Octets.{line_feed, comma, semicolon, backslash, upper_n, lower_n}

-- A character as written: plain, escaped by a backslash, or a backslash at the end of the value,
-- which escapes nothing.
pub data TextChar : Type 0 where
  Plain : ℕ → TextChar
  Escaped : ℕ → TextChar
  TrailingBackslash : TextChar

abbrev pub written_chars : TextChar → List ℕ
written_chars (Plain c) = c ∷ []
written_chars (Escaped c) = backslash ∷ c ∷ []
written_chars TrailingBackslash = backslash ∷ []

-- an escaped n, in either case, is a newline; any other escaped character is itself
abbrev pub decoded_char : TextChar → ℕ
decoded_char (Plain c) = c
decoded_char (Escaped c) = if c == lower_n || c == upper_n then line_feed else c
decoded_char TrailingBackslash = backslash

-- the character is written without a backslash
abbrev pub is_plain : ℕ → TextChar → Bool
is_plain d (Plain c) = c == d
is_plain d (Escaped c) = false
is_plain d TrailingBackslash = false

-- ---- the characters of a value

-- no backslash is plain, and one that escapes nothing is the last character
abbrev pub AreLegalTextChars : List TextChar → Type 0
AreLegalTextChars [] = Unit {0}
AreLegalTextChars (Plain c ∷ others) = ((c == backslash) ≡ false) × AreLegalTextChars others
AreLegalTextChars (Escaped c ∷ others) = AreLegalTextChars others
AreLegalTextChars (TrailingBackslash ∷ others) = others ≡ []

-- The value consists of these characters.
pub record AreTextChars (value : List ℕ) (text_chars : List TextChar) : Type 0 where
  pub concatenation : value ≡ flat_map written_chars text_chars
  pub legal : AreLegalTextChars text_chars

-- the characters of a value, read from left to right; the flag says whether an escaping backslash
-- was just read
unfoldable pub text_chars_from : Bool → List ℕ → List TextChar
text_chars_from true [] = TrailingBackslash ∷ []
text_chars_from true (c ∷ cs) = Escaped c ∷ text_chars_from false cs
text_chars_from false [] = []
text_chars_from false (c ∷ cs) =
    if c == backslash then text_chars_from true cs else Plain c ∷ text_chars_from false cs

abbrev pub text_chars : List ℕ → List TextChar
text_chars value = text_chars_from false value

-- the text that the characters encode
abbrev pub decoded_text : List TextChar → List ℕ
decoded_text text_chars = encode_utf8_all (map decoded_char text_chars)

-- the text that a value encodes
abbrev pub unescaped_text : List ℕ → List ℕ
unescaped_text value = decoded_text (text_chars (chars value))

-- ---- escaping

-- how a character is written: a newline as an escaped n; a backslash, a comma and a semicolon
-- escaped; any other plain
abbrev pub text_char_of : ℕ → TextChar
text_char_of c =
    if c == line_feed then Escaped lower_n
    else (if c == backslash || c == comma || c == semicolon then Escaped c
    else Plain c)

-- the value that encodes a text
abbrev pub escaped_value : List ℕ → List ℕ
escaped_value text = encode_utf8_all (flat_map (λ c. written_chars (text_char_of c)) (chars text))

-- A value that is safe in a comma- or semicolon-separated list: it has no newline, and each comma
-- and semicolon is escaped.
pub record IsFullyEscaped (value : List ℕ) : Type 0 where
  pub no_newline : list_any (λ c. c == line_feed) (chars value) ≡ false
  pub no_comma : list_any (is_plain comma) (text_chars (chars value)) ≡ false
  pub no_semicolon : list_any (is_plain semicolon) (text_chars (chars value)) ≡ false

-- ---- components

-- the pieces joined, with a plain semicolon after each but the last
abbrev pub joined_pieces : List (List TextChar) → List TextChar
joined_pieces [] = []
joined_pieces (piece ∷ []) = piece
joined_pieces (piece ∷ next ∷ pieces) =
    piece ++ Plain semicolon ∷ joined_pieces (next ∷ pieces)

-- The text characters are split into these pieces at each plain semicolon.
pub record IsSplitAtSemicolons (text_chars : List TextChar) (pieces : List (List TextChar)) : Type 0
  where
    pub nonempty : 0 < length pieces
    pub concatenation : text_chars ≡ joined_pieces pieces
    pub unsplit : AllByRecursion (λ piece. list_any (is_plain semicolon) piece ≡ false) pieces

-- the pieces with a character prepended to the first
abbrev pub prepend_to_first : TextChar → List (List TextChar) → List (List TextChar)
prepend_to_first c [] = (c ∷ []) ∷ []
prepend_to_first c (piece ∷ pieces) = (c ∷ piece) ∷ pieces

-- the pieces between plain semicolons, computed from left to right
unfoldable pub split_at_semicolons : List TextChar → List (List TextChar)
split_at_semicolons [] = [] ∷ []
split_at_semicolons (c ∷ cs) =
    if is_plain semicolon c then [] ∷ split_at_semicolons cs
    else prepend_to_first c (split_at_semicolons cs)

-- the texts that the pieces of a value encode
abbrev pub components : List ℕ → List (List ℕ)
components value = map decoded_text (split_at_semicolons (text_chars (chars value)))

-- the texts joined, with a semicolon after each but the last
abbrev pub joined_by_semicolons : List (List ℕ) → List ℕ
joined_by_semicolons [] = []
joined_by_semicolons (text ∷ []) = text
joined_by_semicolons (text ∷ next ∷ texts) = text ++ semicolon ∷ joined_by_semicolons (next ∷ texts)
