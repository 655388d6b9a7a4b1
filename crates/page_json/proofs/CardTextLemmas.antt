-- The parts of a canonical text, written one after the other.
use Rattle.std.proofs.Common.{◌≡◌, ℕ, List, [], ◌∷◌, ◌++◌, map, flat_map, sym, ap, ◌∙◌}
use Rattle.std.proofs.Common.{append_assoc}
use Rattle.std.specs.Prelude.{codes}
use Rattle.std.proofs.lemmas.List.{append-nil}
use Rattle.std.proofs.lemmas.List.Concat.{flat_map-append}
use Rattle.vcard_lines.specs.declared.line.Line.{Line}
use Rattle.vcard_lines.specs.Grammar.{line_text}
use Rattle.vcard_lines.specs.Folding.{folded_text}
use Rattle.vcard_text.specs.Cards.{canonical_text}

abbrev begin : List ℕ
begin = folded_text (codes "BEGIN:VCARD")

abbrev version : List ℕ
version = folded_text (codes "VERSION:4.0")

abbrev last : List ℕ
last = folded_text (codes "END:VCARD")

abbrev body : List Line → List ℕ
body lines = flat_map folded_text (map line_text lines)

parts_of : (lines : List Line) → canonical_text lines ≡ begin ++ (version ++ (body lines ++ last))
parts_of lines =
    ap (λ t. begin ++ (version ++ t)) (flat_map-append folded_text (map line_text lines)
    (codes "END:VCARD" ∷ []))
    ∙ ap (λ t. begin ++ (version ++ (body lines ++ t))) (append-nil last)

pub written_whole : (lines : List Line) (a b c d e : List ℕ) → a ≡ [] → b ≡ a ++ begin
    → c ≡ b ++ version → d ≡ c ++ body lines → e ≡ d ++ last → e ≡ canonical_text lines
written_whole lines a b c d e is_a is_b is_c is_d is_e =
    is_e ∙ ap (λ x. x ++ last) (is_d ∙ ap (λ x. x ++ body lines) (is_c
    ∙ ap (λ x. x ++ version) (is_b ∙ ap (λ x. x ++ begin) is_a)))
    ∙ append_assoc (begin ++ version) (body lines) last
    ∙ append_assoc begin version (body lines ++ last)
    ∙ sym (parts_of lines)
