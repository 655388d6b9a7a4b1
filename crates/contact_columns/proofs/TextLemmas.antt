-- Texts whose characters are written one by one.
use Rattle.std.proofs.Common.{◌≡◌, ℕ, Bool, false, List, [], ◌∷◌, ◌++◌, ◌==◌, refl, sym, ap, ◌∙◌}
use Rattle.std.proofs.Common.{append_assoc, append-nil}
use Rattle.std.specs.Str.{encode_utf8_all}
use Rattle.std.proofs.lemmas.Str.{encodes-append}
use Rattle.base_types.specs.Octets.{carriage_return}
use Rattle.contact_columns.specs.Cells.{clean_char, clean_chars}

-- whether the characters end with a carriage return, of which none may come after one
abbrev pub ends_with_return : Bool → List ℕ → Bool
ends_with_return is_after_return [] = is_after_return
ends_with_return is_after_return (c ∷ cs) = ends_with_return (c == carriage_return) cs

-- so they do if the last one is a carriage return
pub last_is_return : (is_after_return : Bool) (cs : List ℕ) (c : ℕ)
    → ends_with_return is_after_return (cs ++ c ∷ []) ≡ (c == carriage_return)
last_is_return is_after_return [] c = refl
last_is_return is_after_return (x ∷ xs) c = last_is_return (x == carriage_return) xs c

-- what one more character becomes comes after the others
more_clean : (is_after_return : Bool) (cs : List ℕ) (c : ℕ)
    → clean_chars is_after_return (cs ++ c ∷ []) ≡ clean_chars is_after_return cs
    ++ clean_char (ends_with_return is_after_return cs) c
more_clean is_after_return [] c = append-nil (clean_char is_after_return c)
more_clean is_after_return (x ∷ xs) c =
    ap (λ rest. clean_char is_after_return x ++ rest) (more_clean (x == carriage_return) xs c)
    ∙ sym (append_assoc (clean_char is_after_return x) (clean_chars (x == carriage_return) xs)
    (clean_char (ends_with_return (x == carriage_return) xs) c))

-- one more character after those that are written
pub one_more_clean : (cs : List ℕ) (c : ℕ) → encode_utf8_all (clean_chars false cs)
    ++ encode_utf8_all (clean_char (ends_with_return false cs) c)
    ≡ encode_utf8_all (clean_chars false (cs ++ c ∷ []))
one_more_clean cs c =
    sym (encodes-append (clean_chars false cs) (clean_char (ends_with_return false cs) c))
    ∙ ap encode_utf8_all (sym (more_clean false cs c))
