-- The texts that a line keeps as they are, for what no property of vCard 4.0 can hold.
use Rattle.std.specs.Prelude.{ℕ, Bool, not, ◌&&◌, ◌||◌, ◌==◌, List, map, if◌then◌else◌}
use Rattle.std.specs.Char.{is_control}
use Rattle.std.specs.List.{list_any}
use Rattle.std.specs.Str.{chars, encode_utf8_all}
use Rattle.base_types.specs.Octets.{line_feed, space, tab}
use Rattle.vcard_lines.specs.Grammar.{is_permitted}

-- a control character of ASCII is a space, but for the tab and the line feed
abbrev pub kept_char : ℕ → ℕ
kept_char c = if is_permitted c || c == line_feed then c else space

-- the text with a space for each such character
abbrev pub kept_text : List ℕ → List ℕ
kept_text text = encode_utf8_all (map kept_char (chars text))

-- the text has a control character but the tab
abbrev pub has_control : List ℕ → Bool
has_control text = list_any (λ c. is_control c && not (c == tab)) (chars text)
