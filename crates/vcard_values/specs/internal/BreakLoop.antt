-- The state of the loop that makes line feeds of line breaks. Readers of the public contracts can
-- skip it.
use Rattle.std.specs.Prelude.{ℕ, Bool, ◌==◌, List, ◌++◌}
use Rattle.std.specs.Str.{encode_utf8_all}
use Rattle.base_types.specs.Octets.{carriage_return}
use Rattle.vcard_values.specs.ValueTexts.{line_break}

-- the octets so far, and whether the last character read was a carriage return
pub record BreakState : Type 0 where
  pub octets : List ℕ
  pub after_return : Bool

abbrev pub break_state : List ℕ → Bool → BreakState
break_state octets after_return = record { octets = octets; after_return = after_return }

abbrev pub break_char : BreakState → ℕ → BreakState
break_char state c = break_state
    (state.octets ++ encode_utf8_all (line_break state.after_return c)) (c == carriage_return)
