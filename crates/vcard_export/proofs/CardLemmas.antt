-- The text of a card, put together from its parts.
use Rattle.std.proofs.Common.{◌≡◌, ℕ, List, [], ◌∷◌, ◌++◌, flat_map, refl, sym, ap, ◌∙◌}
use Rattle.std.proofs.Common.{append_assoc}
use Rattle.std.proofs.lemmas.List.{append-nil}
use Rattle.std.proofs.lemmas.List.Concat.{flat_map-append}
use Rattle.vcard_lines.specs.declared.line.Line.{Line}

all_right : (a b c d e f : List ℕ) → ((((a ++ b) ++ c) ++ d) ++ e) ++ f ≡ a
    ++ (b ++ (c ++ (d ++ (e ++ f))))
all_right a b c d e f = simp append_assoc

module _ (fold_line : List ℕ → List ℕ) (becomes : Line → List (List ℕ)) where
  of_each : (lines : List Line) → flat_map fold_line (flat_map becomes lines)
      ≡ flat_map (λ line. flat_map fold_line (becomes line)) lines
  of_each [] = refl
  of_each (line ∷ lines) = flat_map-append fold_line (becomes line) (flat_map becomes lines)
      ∙ ap (λ t. flat_map fold_line (becomes line) ++ t) (of_each lines)

  of_body : (lines : List Line) (more : List (List ℕ)) (last : List ℕ)
      → flat_map fold_line (flat_map becomes lines ++ (more ++ last ∷ []))
      ≡ flat_map (λ line. flat_map fold_line (becomes line)) lines
      ++ (flat_map fold_line more ++ fold_line last)
  of_body lines more last =
      flat_map-append fold_line (flat_map becomes lines) (more ++ last ∷ [])
      ∙ ap (λ t. t ++ flat_map fold_line (more ++ last ∷ [])) (of_each lines)
      ∙ ap (λ t. flat_map (λ line. flat_map fold_line (becomes line)) lines ++ t)
      (flat_map-append fold_line more (last ∷ [])
      ∙ ap (λ t. flat_map fold_line more ++ t) (append-nil (fold_line last)))

  pub whole : (lines : List Line) (begin version last out : List ℕ) (more : List (List ℕ))
      → ((((out ++ fold_line begin) ++ fold_line version)
      ++ flat_map (λ line. flat_map fold_line (becomes line)) lines) ++ flat_map fold_line more)
      ++ fold_line last
      ≡ out ++ flat_map fold_line (begin ∷ version ∷ (flat_map becomes lines
      ++ (more ++ last ∷ [])))
  whole lines begin version last out more =
      all_right out (fold_line begin) (fold_line version)
      (flat_map (λ line. flat_map fold_line (becomes line)) lines) (flat_map fold_line more)
      (fold_line last)
      ∙ ap (λ t. out ++ (fold_line begin ++ (fold_line version ++ t)))
      (sym (of_body lines more last))
