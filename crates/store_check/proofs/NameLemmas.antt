-- Names and keys have only octets below 128, so they are valid text.
use Rattle.std.proofs.Common.{◌≡◌, ℕ, Bool, true, false, ◌&&◌, nat_lt, nat_le, length, List, []}
use Rattle.std.proofs.Common.{◌∷◌, refl, sym, true≢false, arith}
use Rattle.std.specs.List.{list_all}
use Rattle.std.specs.Str.{IsUtf8}
use Rattle.vcard_lines.proofs.FrontLemmas.{ascii_utf8}
use Rattle.book_model.specs.BookNames.{is_legal_name, is_octet_of_name}
use Rattle.book_model.specs.Importing.{is_legal_key, is_key_octet}

last_true : (a b c : Bool) → (a && b && c) ≡ true → c ≡ true
last_true true true c h = h
last_true true false c h = absurd (true≢false (sym h))
last_true false b c h = absurd (true≢false (sym h))

weaker : (p q : ℕ → Bool) → ((b : ℕ) → p b ≡ true → q b ≡ true) → (bs : List ℕ)
    → list_all p bs ≡ true → list_all q bs ≡ true
weaker p q is [] h = refl
weaker p q is (b ∷ bs) h = step (p b) refl h (weaker p q is bs)
  where
    step : (t : Bool) → p b ≡ t → list_all p (b ∷ bs) ≡ true
        → (list_all p bs ≡ true → list_all q bs ≡ true) → list_all q (b ∷ bs) ≡ true
    step true e h more = rw (is b e) (more (rw e at h))
    step false e h more = absurd (true≢false (sym (rw e at h)))

name_below : (b : ℕ) → is_octet_of_name b ≡ true → nat_lt b 128 ≡ true
name_below b h = grind arith

key_below : (b : ℕ) → is_key_octet b ≡ true → nat_lt b 128 ≡ true
key_below b h = grind arith

pub no_name : (bs : List ℕ) → ¬ (IsUtf8 bs) → false ≡ is_legal_name bs
no_name bs wrong = go (is_legal_name bs) refl
  where
    go : (t : Bool) → is_legal_name bs ≡ t → false ≡ t
    go false e = refl
    go true e =
        absurd (wrong (ascii_utf8 bs (weaker is_octet_of_name (λ b. nat_lt b 128) name_below bs
        (last_true (nat_le 1 (length bs)) (nat_le (length bs) 40) (list_all is_octet_of_name bs)
        e))))

pub no_key : (bs : List ℕ) → ¬ (IsUtf8 bs) → false ≡ is_legal_key bs
no_key bs wrong = go (is_legal_key bs) refl
  where
    go : (t : Bool) → is_legal_key bs ≡ t → false ≡ t
    go false e = refl
    go true e =
        absurd (wrong (ascii_utf8 bs (weaker is_key_octet (λ b. nat_lt b 128) key_below bs
        (last_true (nat_le 1 (length bs)) (nat_le (length bs) 64) (list_all is_key_octet bs) e))))
