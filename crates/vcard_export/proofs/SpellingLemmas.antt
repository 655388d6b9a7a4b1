-- The loop over a text writes what its characters are in vCard 3.0.
use Rattle.std.proofs.Common.{ℕ, ◌≡◌, Bool, true, false, cond, ◌==◌, List, [], ◌∷◌, ◌++◌, fold}
use Rattle.std.proofs.Common.{chars, refl, sym, ap, ◌∙◌, append_assoc}
use Rattle.std.specs.Str.{encode_utf8_all}
use Rattle.std.proofs.Math.Utf8.{encode}
use Rattle.std.proofs.lemmas.List.{append-nil}
use Rattle.std.proofs.lemmas.Str.{encodes-append}
use Rattle.vcard_export.specs.Spellings.{mark_of, marked_char, plain_char, spelled, spelled_from}
use Rattle.vcard_export.specs.declared.spelling.Spelling.{Spelling}
use Rattle.vcard_export.specs.internal.SpellingLoop.{finished, spell_char, spelling_state}

spells_after : (spelling : Spelling) (cs text : List ℕ) (is_marked : Bool)
    → finished spelling (fold (spell_char spelling) (spelling_state text is_marked) cs) ≡ text
    ++ encode_utf8_all (spelled_from spelling is_marked cs)
unfolding spelled_from encode
spells_after spelling [] text true = refl
spells_after spelling [] text false = sym (append-nil text)
spells_after spelling (c ∷ cs) text true =
    spells_after spelling cs (text ++ encode_utf8_all (marked_char spelling c)) false
    ∙ append_assoc text (encode_utf8_all (marked_char spelling c))
    (encode_utf8_all (spelled_from spelling false cs))
    ∙ ap (λ t. text ++ t) (sym (encodes-append (marked_char spelling c) (spelled_from spelling false
    cs)))
spells_after spelling (c ∷ cs) text false =
    elim (c == mark_of spelling) as (λ b. finished spelling
    (fold (spell_char spelling) (cond b (spelling_state text true)
    (spelling_state (text ++ encode_utf8_all (plain_char spelling c)) false)) cs) ≡ text
    ++ encode_utf8_all (cond b (spelled_from spelling true cs) (plain_char spelling c
    ++ spelled_from spelling false cs))) [
      | true ↦ spells_after spelling cs text true
      | false ↦ spells_after spelling cs (text ++ encode_utf8_all (plain_char spelling c)) false
          ∙ append_assoc text (encode_utf8_all (plain_char spelling c))
          (encode_utf8_all (spelled_from spelling false cs))
          ∙ ap (λ t. text ++ t) (sym (encodes-append (plain_char spelling c)
          (spelled_from spelling false cs)))
    ]

pub spells_all : (spelling : Spelling) (text value : List ℕ)
    → finished spelling (fold (spell_char spelling) (spelling_state text false) (chars value))
    ≡ text ++ spelled spelling value
spells_all spelling text value = spells_after spelling (chars value) text false
