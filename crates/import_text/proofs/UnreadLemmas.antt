-- What readers of UTF-16 have left.
use Rattle.std.proofs.Common.{◌≡◌, ◌∷◌, ◌++◌, [], ℕ, List, Bool, Option, Some}
use Rattle.std.proofs.Common.{None, length, take, drop, refl, sym, ap, ◌∙◌, arith}
use Rattle.std.proofs.Common.{append_assoc}
use Rattle.std.specs.Prelude.{IfSome}
use Rattle.std.specs.Option.{option_map}
use Rattle.std.specs.Io.KnownBytes.{Consumes, IsAtEnd, Keeps}
use Rattle.std.proofs.lemmas.List.{take_all, drop_all}
use Rattle.std.specs.Char.Utf16.{utf16_chars}
use Rattle.import_text.specs.Units.{units}
use Rattle.import_text.specs.Texts.{utf16_octets}
use Rattle.import_text.proofs.CutLemmas.{cut_all}

pub keeps_same : (a : Option (List ℕ)) → Keeps a a
keeps_same None = tt
keeps_same (Some x) = refl

-- what was read is after what was undecoded
pub read_on : (big : Bool) (unread unread2 held held2 octets : List ℕ) (a b : Option (List ℕ))
    → Consumes a b octets → held2 ≡ held ++ octets → unread2 ≡ unread
    → Keeps (option_map (λ rest. unread ++ utf16_octets big (held ++ rest)) a)
    (option_map (λ rest. unread2 ++ utf16_octets big (held2 ++ rest)) b)
read_on big unread unread2 held held2 octets None b took is same = tt
read_on big unread unread2 held held2 octets (Some x) None took is same = absurd took
read_on big unread unread2 held held2 octets (Some x) (Some y) took is same =
    ap (λ u. u ++ utf16_octets big (held2 ++ y)) same
    ∙ ap (λ os. unread ++ utf16_octets big os) (ap (λ h. h ++ y) is ∙ append_assoc held octets y
    ∙ ap (λ os. held ++ os) (sym took))

-- octets were decoded
pub decoded : (big : Bool) (unread text held front rest : List ℕ) (a : Option (List ℕ))
    → unread ≡ [] → text ≡ utf16_octets big front
    → IfSome a (λ more. utf16_octets big (held ++ more) ≡ utf16_octets big front ++ utf16_octets big
    (rest ++ more))
    → Keeps (option_map (λ more. unread ++ utf16_octets big (held ++ more)) a)
    (option_map (λ more. text ++ utf16_octets big (rest ++ more)) a)
decoded big unread text held front rest None given is apart = tt
decoded big unread text held front rest (Some more) given is apart =
    ap (λ t. t ++ utf16_octets big (rest ++ more)) is ∙ sym apart
    ∙ sym (ap (λ u. u ++ utf16_octets big (held ++ more)) given)

nil_of : (xs : List ℕ) → length xs ≡ 0 → xs ≡ []
nil_of [] e = refl
nil_of (x ∷ xs) e = absurd (omega (arith, e))

-- all was decoded and given
pub ended : (big : Bool) (unread held : List ℕ) (a : Option (List ℕ)) → unread ≡ []
    → length held ≡ 0 → IsAtEnd a → IsAtEnd
    (option_map (λ rest. unread ++ utf16_octets big (held ++ rest)) a)
unfolding units utf16_chars
ended big unread held None given none at_end = tt
ended big unread held (Some rest) given none at_end = rw (given, nil_of held none, at_end) refl

-- the last octets are decoded
pub last_apart : (big : Bool) (held : List ℕ) (len : ℕ) (a : Option (List ℕ)) → len ≡ length held
    → IsAtEnd a → IfSome a (λ more. utf16_octets big (held ++ more)
    ≡ utf16_octets big (take len held) ++ utf16_octets big (drop len held ++ more))
last_apart big held len None is at_end = tt
last_apart big held len (Some more) is at_end =
    ap (λ m. utf16_octets big (held ++ m)) at_end
    ∙ cut_all big held
    ∙ ap (λ h. utf16_octets big h ++ utf16_octets big [])
    (sym (take_all len held (omega (arith, is))))
    ∙ ap (λ m. utf16_octets big (take len held) ++ utf16_octets big m)
    (sym (ap (λ d. d ++ more) (drop_all len held (omega (arith, is))) ∙ at_end))
