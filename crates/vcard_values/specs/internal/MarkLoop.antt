-- The state of the loop that marks the semicolons of a component. Readers of the public contracts
-- can skip it.
use Rattle.std.specs.Prelude.{ℕ, Bool, not, ◌&&◌, ◌==◌, List, ◌++◌}
use Rattle.base_types.specs.Octets.{backslash}
use Rattle.vcard_values.specs.ValueTexts.{marked_octet}

-- the octets so far, and whether the last one read is a backslash that escapes the next
pub record MarkState : Type 0 where
  pub octets : List ℕ
  pub is_escaped : Bool

abbrev pub mark_state : List ℕ → Bool → MarkState
mark_state octets is_escaped = record { octets = octets; is_escaped = is_escaped }

abbrev pub mark_octet : MarkState → ℕ → MarkState
mark_octet state octet = mark_state (state.octets ++ marked_octet state.is_escaped octet)
    (octet == backslash && not state.is_escaped)
