-- Where a value that begins with urn:uuid: may be cut.
use Rattle.std.proofs.Common.{◌≡◌, ℕ, ◌<◌, ◌≤◌, true, List, length, take, get_or, map, codes}
use Rattle.std.proofs.Common.{IsUtf8, IsCharBoundary, sym, ap, ◌∙◌, arith}
use Rattle.std.specs.Char.{to_ascii_lowercase}
use Rattle.std.proofs.lemmas.Bool.Decides.{nat_tests}
use Rattle.std.proofs.lemmas.List.{length-map, length-take, get_or-map, get_or-take}
use Rattle.std.proofs.lemmas.Slice.Eq.{bytes_eq-Decides}
use Rattle.std.proofs.lemmas.Str.{IsCharBoundary-after_ascii}
use Rattle.card_core.specs.Groups.{begins_with_urn}

-- only a colon is a colon in lower case
colon_alone : (b : ℕ) → to_ascii_lowercase b ≡ 58 → b ≡ 58
colon_alone b e = grind (arith, nat_tests)

pub boundary_after_urn : (value : List ℕ) → IsUtf8 value → begins_with_urn value ≡ true
    → IsCharBoundary value 9
boundary_after_urn value utf8 begins =
    let same : map to_ascii_lowercase (take 9 value) ≡ codes "urn:uuid:" =
    (bytes_eq-Decides _ _).0 begins in
    let front_len : length (take 9 value) ≡ 9 = sym (length-map (take 9 value) to_ascii_lowercase)
    ∙ ap length same in
    let long : 9 ≤ length value = omega (arith, length-take 9 value) in
    let in_front : 8 < length (take 9 value) = omega arith in
    let lower : to_ascii_lowercase (get_or (take 9 value) 8 0) ≡ 58 =
    sym (get_or-map to_ascii_lowercase (take 9 value) 8 0 0 in_front)
    ∙ ap (λ octets. get_or octets 8 0) same in
    let colon : get_or value 8 0 ≡ 58 = sym (get_or-take 9 value 8 0 (omega arith))
    ∙ colon_alone _ lower in
    IsCharBoundary-after_ascii value 8 utf8 (omega arith) (omega arith)
