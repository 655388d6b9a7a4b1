-- Texts whose characters are written one by one.
use Rattle.std.proofs.Common.{◌≡◌, ℕ, List, [], ◌∷◌, ◌++◌, flat_map, sym, ap, ◌∙◌}
use Rattle.std.proofs.lemmas.List.{append-nil}
use Rattle.std.proofs.lemmas.List.Concat.{flat_map-append}
use Rattle.std.proofs.lemmas.Str.{encodes-append}
use Rattle.std.specs.Str.{encode_utf8_all}

-- one more character after those that are written
pub one_more_written : (f : ℕ → List ℕ) (cs : List ℕ) (c : ℕ) → encode_utf8_all (flat_map f cs)
    ++ encode_utf8_all (f c) ≡ encode_utf8_all (flat_map f (cs ++ c ∷ []))
one_more_written f cs c =
    sym (encodes-append (flat_map f cs) (f c))
    ∙ ap encode_utf8_all (sym (flat_map-append f cs (c ∷ [])
    ∙ ap (λ w. flat_map f cs ++ w) (append-nil (f c))))
