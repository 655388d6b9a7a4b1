-- The state of the loops over a text value, from left to right. Readers of the public contracts can
-- skip it: at the end the loops compute what TextValues.antt defines for the whole value.
use Rattle.std.specs.Prelude.{ℕ, Bool, true, false, not, ◌&&◌, ◌==◌, List, [], ◌∷◌, ◌++◌}
use Rattle.std.specs.Prelude.{if◌then◌else◌}
use Rattle.std.specs.Char.{encode_utf8}
use Rattle.base_types.specs.Octets.{semicolon, backslash}
use Rattle.vcard_lines.specs.TextValues.{Escaped, decoded_char}

-- the text so far, and whether the last character read was an escaping backslash
pub record UnescapeState : Type 0 where
  pub text : List ℕ
  pub is_escaped : Bool

abbrev pub unescape_state : List ℕ → Bool → UnescapeState
unescape_state text is_escaped = record { text = text; is_escaped = is_escaped }

abbrev pub unescape_char : UnescapeState → ℕ → UnescapeState
unescape_char state c =
    if state.is_escaped
    then unescape_state (state.text ++ encode_utf8 (decoded_char (Escaped c))) false
    else (if c == backslash then unescape_state state.text true
    else unescape_state (state.text ++ encode_utf8 c) false)

-- the text, if the value ends here
abbrev pub finished_text : UnescapeState → List ℕ
finished_text state = if state.is_escaped then state.text ++ backslash ∷ [] else state.text

-- the finished components, and the state of the current one
pub record SplitState : Type 0 where
  pub parts : List (List ℕ)
  pub part : UnescapeState

abbrev pub split_state : List (List ℕ) → UnescapeState → SplitState
split_state parts part = record { parts = parts; part = part }

abbrev pub split_char : SplitState → ℕ → SplitState
split_char state c =
    if c == semicolon && not state.part.is_escaped
    then split_state (state.parts ++ state.part.text ∷ []) (unescape_state [] false)
    else split_state state.parts (unescape_char state.part c)

abbrev pub finished_parts : SplitState → List (List ℕ)
finished_parts state = state.parts ++ finished_text state.part ∷ []
