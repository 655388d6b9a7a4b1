-- The state of the loop over a text, from left to right. Readers of the public contracts can skip
-- it: at the end the loop computes what Spellings.antt defines for the whole text.
use Rattle.std.specs.Prelude.{ℕ, Bool, true, false, ◌==◌, List, ◌++◌, if◌then◌else◌}
use Rattle.std.specs.Str.{encode_utf8_all}
use Rattle.vcard_export.specs.declared.spelling.Spelling.{Spelling}
use Rattle.vcard_export.specs.Spellings.{closing, mark_of, marked_char, plain_char}

-- the text so far, and whether the last character read was a mark
pub record SpellingState : Type 0 where
  pub text : List ℕ
  pub is_marked : Bool

abbrev pub spelling_state : List ℕ → Bool → SpellingState
spelling_state text is_marked = record { text = text; is_marked = is_marked }

abbrev pub spell_char : Spelling → SpellingState → ℕ → SpellingState
spell_char spelling state c =
    if state.is_marked
    then spelling_state (state.text ++ encode_utf8_all (marked_char spelling c)) false
    else (if c == mark_of spelling then spelling_state state.text true
    else spelling_state (state.text ++ encode_utf8_all (plain_char spelling c)) false)

-- the text, if it ends here
abbrev pub finished : Spelling → SpellingState → List ℕ
finished spelling state =
    if state.is_marked then state.text ++ encode_utf8_all (closing spelling) else state.text
