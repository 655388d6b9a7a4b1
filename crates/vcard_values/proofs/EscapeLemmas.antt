-- The loops over a value rewrite it as Escapes.antt defines, and vCard 4.0 reads of the result what
-- the value spells.
use Rattle.std.proofs.Common.{◌≡◌, ℕ, Bool, true, false, cond, ◌==◌, List, [], ◌∷◌}
use Rattle.std.proofs.Common.{◌++◌, flat_map, fold, append_assoc, refl, sym, ap}
use Rattle.std.proofs.Common.{◌∙◌}
use Rattle.std.specs.Prelude.{Result, Ok, Err, IfOk}
use Rattle.std.specs.Str.{encode_utf8_all}
use Rattle.std.proofs.lemmas.List.{append-nil}
use Rattle.std.proofs.lemmas.List.Concat.{flat_map-append}
use Rattle.std.proofs.lemmas.Str.{encodes-append}
use Rattle.vcard_lines.specs.TextValues.{TextChar, Plain, Escaped, TrailingBackslash, text_chars}
use Rattle.vcard_lines.specs.TextValues.{text_chars_from}
use Rattle.vcard_values.specs.Escapes.{plain_units, unit_chars, units_of_char}
use Rattle.vcard_values.specs.internal.RewriteLoop.{finished_octets, rewrite_char, rewrite_state}
use Rattle.vcard_values.specs.internal.RewriteLoop.{rewritten_chars, rewritten_octets}
use Rattle.vcard_values.specs.declared.escapes.TextForm.{TextForm}
use Rattle.vcard_values.specs.declared.escapes.ValueForm.{ValueForm}

-- ---- the loops

rewrites_after : (form : ValueForm) (cs octets : List ℕ) (is_escaped : Bool)
    → finished_octets form (fold (rewrite_char form) (rewrite_state octets is_escaped) cs)
    ≡ octets ++ encode_utf8_all (flat_map (rewritten_chars form) (text_chars_from is_escaped cs))
unfolding text_chars_from
rewrites_after form [] octets true = ap (λ cs. octets ++ encode_utf8_all cs)
    (sym (append-nil (rewritten_chars form TrailingBackslash)))
rewrites_after form [] octets false = sym (append-nil octets)
rewrites_after form (c ∷ cs) octets true =
    rewrites_after form cs (octets ++ rewritten_octets form (Escaped c)) false
    ∙ append_assoc octets (rewritten_octets form (Escaped c))
    (encode_utf8_all (flat_map (rewritten_chars form) (text_chars_from false cs)))
    ∙ ap (λ end. octets ++ end) (sym (encodes-append (rewritten_chars form (Escaped c))
    (flat_map (rewritten_chars form) (text_chars_from false cs))))
rewrites_after form (c ∷ cs) octets false =
    elim (c == 92) as (λ b. finished_octets form (fold (rewrite_char form)
    (cond b (rewrite_state octets true)
    (rewrite_state (octets ++ rewritten_octets form (Plain c)) false)) cs)
    ≡ octets ++ encode_utf8_all (flat_map (rewritten_chars form)
    (cond b (text_chars_from true cs) (Plain c ∷ text_chars_from false cs)))) [
      | true ↦ rewrites_after form cs octets true
      | false ↦ rewrites_after form cs (octets ++ rewritten_octets form (Plain c)) false
          ∙ append_assoc octets (rewritten_octets form (Plain c))
          (encode_utf8_all (flat_map (rewritten_chars form) (text_chars_from false cs)))
          ∙ ap (λ end. octets ++ end) (sym (encodes-append (rewritten_chars form (Plain c))
          (flat_map (rewritten_chars form) (text_chars_from false cs))))
    ]

pub rewrites_all : (form : ValueForm) (cs : List ℕ)
    → finished_octets form (fold (rewrite_char form) (rewrite_state [] false) cs)
    ≡ encode_utf8_all (flat_map (rewritten_chars form) (text_chars cs))
rewrites_all form cs = rewrites_after form cs [] false

-- one more character of a path
pub one_more_of_path : (form : TextForm) (cs : List ℕ) (c : ℕ)
    → encode_utf8_all (flat_map unit_chars (flat_map (plain_units form) cs))
    ++ encode_utf8_all (flat_map unit_chars (plain_units form c))
    ≡ encode_utf8_all (flat_map unit_chars (flat_map (plain_units form) (cs ++ c ∷ [])))
one_more_of_path form cs c =
    sym (encodes-append (flat_map unit_chars (flat_map (plain_units form) cs))
    (flat_map unit_chars (plain_units form c)))
    ∙ ap encode_utf8_all
    (sym (flat_map-append unit_chars (flat_map (plain_units form) cs) (plain_units form c))
    ∙ ap (flat_map unit_chars) (sym (flat_map-append (plain_units form) cs (c ∷ [])
    ∙ ap (λ w. flat_map (plain_units form) cs ++ w) (append-nil (plain_units form c)))))

-- the characters that the units of each text character become
pub by_units : (form : TextForm) (cs : List TextChar)
    → flat_map (λ c. flat_map unit_chars (units_of_char form c)) cs
    ≡ flat_map unit_chars (flat_map (units_of_char form) cs)
by_units form [] = refl
by_units form (c ∷ cs) =
    ap (λ end. flat_map unit_chars (units_of_char form c) ++ end) (by_units form cs)
    ∙ sym (flat_map-append unit_chars (units_of_char form c) (flat_map (units_of_char form) cs))

-- what is made meets what follows from what it meets
pub follows : {A E : Type 0} (P Q : A → Type 0) (made : Result A E) → ((a : A) → P a → Q a)
    → IfOk made P → IfOk made Q
follows P Q (Ok a) f p = f a p
follows P Q (Err e) f p = tt
