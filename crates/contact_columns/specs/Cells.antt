-- The text of a cell, and cells without a value.
use Rattle.std.specs.Prelude.{ℕ, Bool, false, ◌||◌, ◌==◌, List, [], ◌∷◌, ◌++◌, codes, bytes_eq}
use Rattle.std.specs.Prelude.{if◌then◌else◌}
use Rattle.std.specs.Char.{is_ascii_control}
use Rattle.std.specs.List.{list_all}
use Rattle.std.specs.Str.{chars, encode_utf8_all}
use Rattle.base_types.specs.Octets.{tab, line_feed, carriage_return, space}
use Rattle.import_text.specs.Encodings.{text_of}

-- What a character becomes, which may come right after a carriage return. A carriage return is a
-- line feed, and a line feed after it is nothing. Any other control character but the tab becomes a
-- space.
abbrev pub clean_char : Bool → ℕ → List ℕ
clean_char is_after_return c =
    if c == carriage_return then line_feed ∷ []
    else (if c == line_feed then (if is_after_return then [] else c ∷ [])
    else (if c == tab then c ∷ []
    else (if is_ascii_control c then space ∷ [] else c ∷ [])))

-- what characters become, of which the first may come right after a carriage return
abbrev pub clean_chars : Bool → List ℕ → List ℕ
clean_chars is_after_return [] = []
clean_chars is_after_return (c ∷ cs) =
    clean_char is_after_return c ++ clean_chars (c == carriage_return) cs

abbrev pub clean_text : List ℕ → List ℕ
clean_text text = encode_utf8_all (clean_chars false (chars text))

-- the text of a cell, with line feeds as its only line ends and no other control characters but
-- tabs
unfoldable pub cell_text : List ℕ → List ℕ
cell_text octets = clean_text (text_of octets)

abbrev pub is_blank : ℕ → Bool
is_blank octet = octet == space || octet == tab || octet == line_feed

-- The text is what the programs write where there is no value: white space, Google's `* ` for a
-- preferred value without a label, or Outlook's `0/0/00` or `0.0.00` for no date.
abbrev pub is_void : List ℕ → Bool
is_void text =
    list_all is_blank text || bytes_eq text (codes "* ") || bytes_eq text (codes "0/0/00")
    || bytes_eq text (codes "0.0.00")
