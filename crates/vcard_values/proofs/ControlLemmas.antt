-- Octets that are all in a class; a character that is no control character has none among its octets.
use Rattle.std.proofs.Common.{◌≡◌, ◌<◌, ℕ, Bool, true, false, List, [], ◌∷◌, ◌++◌, get_or, encode_utf8, sym}
use Rattle.std.proofs.Common.{ap, ◌∙◌, arith}
use Rattle.std.proofs.lemmas.List.{append-nil, get_or_default}
use Rattle.std.proofs.lemmas.List.Elements.{recursion_from_All}
use Rattle.std.proofs.lemmas.Bool.{both_ways, true_from_ne_false}
use Rattle.std.proofs.lemmas.Bool.Decides.{nat_tests}
use Rattle.std.proofs.lemmas.Str.{inside_one}
use Rattle.vcard_lines.specs.Grammar.{AllInClass, is_permitted}

pub of-append : (class : ℕ → Bool) (a b : List ℕ) → AllInClass class a → AllInClass class b
    → AllInClass class (a ++ b)
of-append class [] b x y = y
of-append class (c ∷ a) b x y = (x.0, of-append class a b x.1 y)

is_low : (octet : ℕ) → is_permitted octet ≡ false → octet < 128
is_low octet e = grind (arith, nat_tests, e)

pub permitted_char : (c : ℕ) → is_permitted c ≡ true → AllInClass is_permitted (encode_utf8 c)
permitted_char c p = recursion_from_All (λ b. is_permitted b ≡ true) (encode_utf8 c)
    (λ k d l. true_from_ne_false (is_permitted (get_or (encode_utf8 c) k d)) (λ e.
    let at : get_or (encode_utf8 c) k d ≡ get_or (encode_utf8 c) k 0 =
    get_or_default (encode_utf8 c) k d 0 l in
    let low : get_or (encode_utf8 c) k 0 < 128 = is_low _ (ap is_permitted (sym at) ∙ e) in
    let same : c ≡ get_or (encode_utf8 c) k 0 =
    inside_one c [] (encode_utf8 c) k (sym (append-nil (encode_utf8 c))) l low in
    both_ways (is_permitted (get_or (encode_utf8 c) k 0)) (ap is_permitted (sym at)
    ∙ e) (ap is_permitted (sym same) ∙ p)))
