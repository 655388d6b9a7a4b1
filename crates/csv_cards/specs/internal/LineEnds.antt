-- The state of the loop that drops carriage returns before line feeds, from left to right.
use Rattle.std.specs.Prelude.{ℕ, Bool, true, false, ◌&&◌, ◌==◌, not, List, [], ◌∷◌, ◌++◌}
use Rattle.std.specs.Prelude.{if◌then◌else◌}
use Rattle.std.specs.Char.{encode_utf8}
use Rattle.base_types.specs.Octets.{line_feed, carriage_return}

-- the text so far, and whether a carriage return after it is held back
pub record LineEndState : Type 0 where
  pub text : List ℕ
  pub is_held : Bool

abbrev pub line_end_state : List ℕ → Bool → LineEndState
line_end_state text is_held = record { text = text; is_held = is_held }

-- the text, with the carriage return that was held back, if any
abbrev pub flushed_text : LineEndState → List ℕ
flushed_text state = if state.is_held then state.text ++ carriage_return ∷ [] else state.text

-- the text, with the carriage return that was held back unless this next character is a line feed
abbrev pub flush_return : LineEndState → ℕ → List ℕ
flush_return state c =
    if state.is_held && not (c == line_feed) then state.text ++ carriage_return ∷ []
    else state.text

abbrev pub append_char : LineEndState → ℕ → LineEndState
append_char state c =
    if c == carriage_return then line_end_state (flush_return state c) true
    else line_end_state (flush_return state c ++ encode_utf8 c) false
