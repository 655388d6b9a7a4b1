-- A text that is kept has no control character but the tab and the line feed, and is the text
-- itself if that has none.
use Rattle.std.proofs.Common.{◌≡◌, ℕ, true, false, cond, ◌||◌, ◌&&◌, ◌==◌, not, List, [], ◌∷◌}
use Rattle.std.proofs.Common.{◌++◌, map, flat_map, encode_utf8, chars, IsUtf8, refl, sym, ap, subst}
use Rattle.std.proofs.Common.{◌∙◌, arith}
use Rattle.std.specs.Char.{is_control}
use Rattle.std.specs.List.{list_any}
use Rattle.std.specs.Str.{encode_utf8_all}
use Rattle.std.proofs.Math.Utf8.{scalar, scalars}
use Rattle.std.proofs.lemmas.Bool.{and_parts}
use Rattle.std.proofs.lemmas.Bool.Decides.{nat_tests}
use Rattle.std.proofs.lemmas.List.{append-nil, map-append}
use Rattle.std.proofs.lemmas.Str.{chars-encodes, encodes-append, encodes-chars, scalars-chars}
use Rattle.vcard_lines.specs.Grammar.{AllInClass, is_permitted}
use Rattle.vcard_lines.specs.TextValues.{escaped_value, text_char_of, written_chars}
use Rattle.vcard_values.specs.KeptTexts.{has_control, kept_char, kept_text}
use Rattle.vcard_values.proofs.ControlLemmas.{of-append}
use Rattle.vcard_values.proofs.TextLemmas.{encoded, parts, written}

pub one_more_kept : (cs : List ℕ) (c : ℕ)
    → encode_utf8_all (map kept_char cs) ++ encode_utf8 (kept_char c)
    ≡ encode_utf8_all (map kept_char (cs ++ c ∷ []))
one_more_kept cs c =
    ap (λ end. encode_utf8_all (map kept_char cs) ++ end)
    (sym (append-nil (encode_utf8 (kept_char c))))
    ∙ sym (encodes-append (map kept_char cs) (kept_char c ∷ []))
    ∙ ap encode_utf8_all (sym (map-append kept_char cs (c ∷ [])))

scalar_kept : (c : ℕ) → scalar c ≡ true → scalar (kept_char c) ≡ true
scalar_kept c s = elim (is_permitted c || c == 10) as (λ b. scalar (cond b c 32) ≡ true) [
  | true ↦ s
  | false ↦ refl
]

scalars_kept : (cs : List ℕ) → scalars cs ≡ true → scalars (map kept_char cs) ≡ true
scalars_kept [] s = refl
scalars_kept (c ∷ cs) s = let p = and_parts (scalar c) (scalars cs) s in
    rw (scalar_kept c p.0, scalars_kept cs p.1) refl

abbrev IsWrittenSo : ℕ → Type 0
IsWrittenSo c = AllInClass is_permitted (written_chars (text_char_of c))

written_kept : (c : ℕ) → IsWrittenSo (kept_char c)
written_kept c =
    elim (c == 10) as (λ b. (c == 10) ≡ b → IsWrittenSo (kept_char c)) [
      | true ↦ λ e.
          let is : c ≡ 10 = grind (arith, e) in
          subst (λ d. IsWrittenSo (kept_char d)) (sym is) (refl, (refl, tt))
      | false ↦ λ e. elim (is_permitted c) as
          (λ b. is_permitted c ≡ b → IsWrittenSo (kept_char c)) [
            | true ↦ λ p.
                let same : kept_char c ≡ c = rw p refl in
                subst IsWrittenSo (sym same) (written c p)
            | false ↦ λ p.
                let blank : kept_char c ≡ 32 = rw (p, e) refl in
                subst IsWrittenSo (sym blank) (refl, tt)
          ] refl
    ] refl

all_written_kept : (cs : List ℕ) → AllInClass is_permitted
    (flat_map (λ c. written_chars (text_char_of c)) (map kept_char cs))
all_written_kept [] = tt
all_written_kept (c ∷ cs) = of-append is_permitted (written_chars (text_char_of (kept_char c))) _
    (written_kept c) (all_written_kept cs)

pub kept_permitted : (text : List ℕ) → IsUtf8 text
    → AllInClass is_permitted (escaped_value (kept_text text))
kept_permitted text utf8 =
    subst (λ cs. AllInClass is_permitted (encode_utf8_all
    (flat_map (λ c. written_chars (text_char_of c)) cs)))
    (sym (chars-encodes _ (scalars_kept (chars text) (scalars-chars text utf8))))
    (encoded _ (all_written_kept (chars text)))

kept_same : (c : ℕ) → (is_control c && not (c == 9)) ≡ false → kept_char c ≡ c
kept_same c e = let p : is_permitted c ≡ true = grind (arith, nat_tests, e) in rw p refl

all_same : (cs : List ℕ) → list_any (λ c. is_control c && not (c == 9)) cs ≡ false
    → map kept_char cs ≡ cs
all_same [] e = refl
all_same (c ∷ cs) e =
    let p = parts (is_control c && not (c == 9)) (list_any (λ c. is_control c && not (c == 9)) cs) e
    in
    ap (λ d. d ∷ map kept_char cs) (kept_same c p.0) ∙ ap (λ ds. c ∷ ds) (all_same cs p.1)

pub kept_is_same : (text : List ℕ) → IsUtf8 text → has_control text ≡ false → kept_text text ≡ text
kept_is_same text utf8 e =
    ap encode_utf8_all (all_same (chars text) e) ∙ encodes-chars text utf8
