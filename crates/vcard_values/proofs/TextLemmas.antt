-- How a permitted character is written.
use Rattle.std.proofs.Common.{◌≡◌, ℕ, Bool, true, false, ◌||◌, ◌==◌, List, [], ◌∷◌, encode_utf8, refl}
use Rattle.std.proofs.Common.{true≢false, if◌then◌else◌}
use Rattle.std.specs.Str.{encode_utf8_all}
use Rattle.vcard_lines.specs.Grammar.{AllInClass, is_permitted}
use Rattle.vcard_lines.specs.TextValues.{text_char_of, written_chars, Plain, Escaped}
use Rattle.vcard_values.proofs.ControlLemmas.{of-append, permitted_char}

pub parts : (a b : Bool) → (a || b) ≡ false → (a ≡ false) × (b ≡ false)
parts true b e = absurd (true≢false e)
parts false b e = (refl, e)

pub written : (c : ℕ) → is_permitted c ≡ true
    → AllInClass is_permitted (written_chars (text_char_of c))
written c p = by_feed (c == 10) (c == 92 || c == 44 || c == 59)
  where
    by_feed : (a b : Bool) → AllInClass is_permitted (written_chars (
        if a then Escaped 110 else (if b then Escaped c else Plain c)))
    by_feed true b = (refl, (refl, tt))
    by_feed false true = (refl, (p, tt))
    by_feed false false = (p, tt)

pub encoded : (cs : List ℕ) → AllInClass is_permitted cs
    → AllInClass is_permitted (encode_utf8_all cs)
encoded [] a = tt
encoded (c ∷ cs) a =
    of-append is_permitted (encode_utf8 c) _ (permitted_char c a.0) (encoded cs a.1)
