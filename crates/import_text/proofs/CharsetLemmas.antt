-- Texts of octets in a character set: one more character.
use Rattle.std.proofs.Common.{◌≡◌, ℕ, ◌<◌, ◌+◌, List, [], ◌∷◌, ◌++◌, length, take, map, get_or, sym}
use Rattle.std.proofs.Common.{ap, ◌∙◌}
use Rattle.std.specs.Char.{encode_utf8}
use Rattle.std.specs.Str.{encode_utf8_all}
use Rattle.std.proofs.lemmas.List.{take_more, append-nil, map-append}
use Rattle.std.proofs.lemmas.Str.{encodes-append}

pub one_more : (char : ℕ → ℕ) (octets : List ℕ) (index : ℕ) (text : List ℕ) (c : ℕ)
    → index < length octets → c ≡ char (get_or octets index 0)
    → text ≡ encode_utf8_all (map char (take index octets))
    → text ++ encode_utf8 c ≡ encode_utf8_all (map char (take (index + 1) octets))
one_more char octets index text c within is so_far =
    let before = map char (take index octets) in
    let next = char (get_or octets index 0) in
    ap (λ t. t ++ encode_utf8 c) so_far
    ∙ ap (λ d. encode_utf8_all before ++ encode_utf8 d) is
    ∙ ap (λ t. encode_utf8_all before ++ t) (sym (append-nil (encode_utf8 next)))
    ∙ sym (encodes-append before (next ∷ []))
    ∙ ap encode_utf8_all (sym (map-append char (take index octets) (get_or octets index 0 ∷ [])))
    ∙ ap (λ o. encode_utf8_all (map char o)) (sym (take_more octets index 0 within))
