-- The loop over the octets of a component marks each semicolon.
use Rattle.std.proofs.Common.{◌≡◌, ℕ, Bool, false, not, ◌&&◌, ◌==◌, List, [], ◌∷◌, ◌++◌, fold}
use Rattle.std.proofs.Common.{append_assoc, sym, ap, ◌∙◌}
use Rattle.std.proofs.lemmas.List.{append-nil}
use Rattle.vcard_values.specs.ValueTexts.{marked_after, marked_octet}
use Rattle.vcard_values.specs.internal.MarkLoop.{MarkState, mark_octet, mark_state}

marks_after : (octets out : List ℕ) (is_escaped : Bool)
    → (fold mark_octet (mark_state out is_escaped) octets).octets
    ≡ out ++ marked_after is_escaped octets
unfolding marked_after
marks_after [] out is_escaped = sym (append-nil out)
marks_after (octet ∷ octets) out is_escaped =
    marks_after octets (out ++ marked_octet is_escaped octet) (octet == 92 && not is_escaped)
    ∙ append_assoc out (marked_octet is_escaped octet)
    (marked_after (octet == 92 && not is_escaped) octets)

-- the loop has read all octets
pub marks_all : (octets out : List ℕ) (is_escaped : Bool)
    → mark_state out is_escaped ≡ fold mark_octet (mark_state [] false) octets
    → out ≡ marked_after false octets
marks_all octets out is_escaped e =
    ap (λ (state : MarkState). state.octets) e ∙ marks_after octets [] false
