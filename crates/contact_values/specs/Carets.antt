-- How a text is written in the value of a parameter (RFC 6868, section 3).
use Rattle.std.specs.Prelude.{ℕ, ◌==◌, List, [], ◌∷◌, codes, flat_map, if◌then◌else◌}
use Rattle.std.specs.Str.{chars, encode_utf8_all}
use Rattle.base_types.specs.Octets.{line_feed, quote}

abbrev pub caret : ℕ
caret = 94

-- how RFC 6868 writes a character in a parameter's value
abbrev pub caret_char : ℕ → List ℕ
caret_char c =
    if c == caret then codes "^^"
    else (if c == line_feed then codes "^n" else (if c == quote then codes "^'" else c ∷ []))

abbrev pub caret_text : List ℕ → List ℕ
caret_text text = encode_utf8_all (flat_map caret_char (chars text))
