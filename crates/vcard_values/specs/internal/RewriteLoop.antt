-- The state of the loops over a value whose escapes are rewritten, from left to right. Readers of
-- the public contracts can skip it: at the end the loops have what Escapes.antt defines.
use Rattle.std.specs.Prelude.{ℕ, Bool, true, false, ◌==◌, List, ◌++◌, if◌then◌else◌, flat_map}
use Rattle.std.specs.Str.{encode_utf8_all}
use Rattle.base_types.specs.Octets.{backslash}
use Rattle.vcard_lines.specs.TextValues.{TextChar, Plain, Escaped, TrailingBackslash}
use Rattle.vcard_values.specs.Escapes.{uri_chars_of, unit_chars, units_of_char}
use Rattle.vcard_values.specs.declared.escapes.ValueForm.{ValueForm}
use Rattle.vcard_values.specs.declared.escapes.ValueForm.TheVariants.{Uri, Text}

-- what a character of a value becomes
abbrev pub rewritten_chars : ValueForm → TextChar → List ℕ
rewritten_chars Uri c = uri_chars_of c
rewritten_chars (Text form) c = flat_map unit_chars (units_of_char form c)

-- the same as octets
abbrev pub rewritten_octets : ValueForm → TextChar → List ℕ
rewritten_octets form c = encode_utf8_all (rewritten_chars form c)

-- the octets so far, and whether the last character read was an escaping backslash
pub record RewriteState : Type 0 where
  pub octets : List ℕ
  pub is_escaped : Bool

abbrev pub rewrite_state : List ℕ → Bool → RewriteState
rewrite_state octets is_escaped = record { octets = octets; is_escaped = is_escaped }

abbrev pub rewrite_char : ValueForm → RewriteState → ℕ → RewriteState
rewrite_char form state c =
    if state.is_escaped
    then rewrite_state (state.octets ++ rewritten_octets form (Escaped c)) false
    else (if c == backslash then rewrite_state state.octets true
    else rewrite_state (state.octets ++ rewritten_octets form (Plain c)) false)

-- the octets, if the value ends here
abbrev pub finished_octets : ValueForm → RewriteState → List ℕ
finished_octets form state =
    if state.is_escaped then state.octets ++ rewritten_octets form TrailingBackslash
    else state.octets
