-- Heads of lines that grow, and of lines that lose an equals sign at their end.
use Rattle.std.proofs.Common.{◌≡◌, ◌⊎◌, ℕ, zero, suc, ◌+◌, ◌-◌, ◌<◌, ◌≤◌, List, [], ◌∷◌, ◌++◌, Bool}
use Rattle.std.proofs.Common.{true, false, not, ◌||◌, cond, refl, ap, sym, ◌∙◌, arith, take, drop}
use Rattle.std.proofs.Common.{length, get_or, inl, inr}
use Rattle.std.specs.Prelude.{◌==◌, codes}
use Rattle.std.proofs.lemmas.Bool.{cases_lt, eqb-true, and_parts}
use Rattle.std.proofs.lemmas.List.{append-nil, drop-append-le, take_all, take_more}
use Rattle.std.proofs.lemmas.List.Folds.{list_any-append}
use Rattle.std.proofs.lemmas.List.Sums.{take_while-cons}
use Rattle.base_types.specs.Octets.{colon, equals}
use Rattle.import_text.specs.declared.line_head.Head.{Head}
use Rattle.import_text.specs.RawLines.{head, has_colon, has_word, is_encoded_as, has_soft_break}
use Rattle.import_text.specs.internal.Heads.{head_of, searched}
use Rattle.import_text.proofs.WordLemmas.{word_grown, word_grown_all, word_dropped, EndsOther}

abbrev is_other : ℕ → Bool
is_other octet = not (octet == colon)

-- ---- heads

closed_step : (is any : Bool) (x : ℕ) (longer shorter : List ℕ) → (is || any) ≡ true
    → (any ≡ true → longer ≡ shorter) → cond (not is) (x ∷ longer) [] ≡ cond (not is) (x ∷ shorter)
    []
closed_step true any x longer shorter e same = refl
closed_step false any x longer shorter e same = ap (λ t. x ∷ t) (same e)

-- a head that is complete stays the same
closed : (xs ys : List ℕ) → has_colon xs ≡ true → head (xs ++ ys) ≡ head xs
closed [] ys e = cc
closed (x ∷ xs) ys e = take_while-cons is_other x (xs ++ ys)
    ∙ closed_step (x == colon) (has_colon xs) x (head (xs ++ ys)) (head xs) e (closed xs ys)
    ∙ sym (take_while-cons is_other x xs)

opened_step : (is any : Bool) (x : ℕ) (longer rest : List ℕ) → (is || any) ≡ false
    → (any ≡ false → longer ≡ rest) → cond (not is) (x ∷ longer) [] ≡ x ∷ rest
opened_step true any x longer rest e same = cc
opened_step false any x longer rest e same = ap (λ t. x ∷ t) (same e)

-- a line without a colon is the front of the head
opened : (xs ys : List ℕ) → has_colon xs ≡ false → head (xs ++ ys) ≡ xs ++ head ys
opened [] ys e = refl
opened (x ∷ xs) ys e = take_while-cons is_other x (xs ++ ys)
    ∙ opened_step (x == colon) (has_colon xs) x (head (xs ++ ys)) (xs ++ head ys) e (opened xs ys)

whole : (xs : List ℕ) → has_colon xs ≡ false → head xs ≡ xs
whole xs e = ap head (sym (append-nil xs)) ∙ opened xs [] e ∙ append-nil xs

-- ---- colons

colon_of : (xs ys : List ℕ) → has_colon (xs ++ ys) ≡ (has_colon xs || has_colon ys)
colon_of xs ys = list_any-append (λ octet. octet == colon) xs ys

no_colon_later : (xs : List ℕ) (n : ℕ) → has_colon xs ≡ false → has_colon (drop n xs) ≡ false
no_colon_later xs zero e = e
no_colon_later [] (suc n) e = refl
no_colon_later (x ∷ xs) (suc n) e = no_colon_later xs n (second (x == colon) (has_colon xs) e)
  where
    second : (a b : Bool) → (a || b) ≡ false → b ≡ false
    second true b e = cc
    second false b e = e

-- ---- what is searched

abbrev made : Bool → Bool → Bool → Head
made complete printable base64 = record {
  is_complete = complete;
  is_quoted_printable = printable;
  is_base64 = base64;
}

same_made : (a b c d e f : Bool) → a ≡ d → b ≡ e → c ≡ f → made a b c ≡ made d e f
same_made a b c d e f p q r = rw (p, q, r) refl

-- the head of a line that had no colon
word_so_far : (word old new : List ℕ) (most : ℕ) → length word ≤ most + 1 → has_colon old ≡ false
    → (is_encoded_as word old || is_encoded_as word (drop (length old - most) old ++ new))
    ≡ is_encoded_as word (old ++ new)
word_so_far word old new most w e =
    let before : head old ≡ old = whole old e in
    let recent : head (drop (length old - most) old ++ new) ≡ drop (length old - most) old
    ++ head new = opened (drop (length old - most) old) new
    (no_colon_later old (length old - most) e) in
    let all : head (old ++ new) ≡ old ++ head new = opened old new e in
    rw (before, recent, all) (sym (grown (cases_lt (length old) most)))
  where
    none_dropped : length old < most → drop (length old - most) old ≡ old
    none_dropped l =
        let none : length old - most ≡ 0 = omega arith in
        rw none refl

    grown : (length old < most) ⊎ (most ≤ length old) → has_word word (old ++ head new)
        ≡ (has_word word old || has_word word (drop (length old - most) old ++ head new))
    grown (inl l) = rw (none_dropped l) (word_grown_all word old (head new))
    grown (inr l) = word_grown word old (head new) most (length old - most) w (omega arith)

colon_so_far : (old new : List ℕ) (most : ℕ) → has_colon old ≡ false
    → has_colon (drop (length old - most) old ++ new) ≡ has_colon (old ++ new)
colon_so_far old new most e =
    let recent : has_colon (drop (length old - most) old) ≡ false =
    no_colon_later old (length old - most) e in
    colon_of (drop (length old - most) old) new ∙ ap (λ b. b || has_colon new) (recent ∙ sym e)
    ∙ sym (colon_of old new)

colon_kept : (old new : List ℕ) → has_colon old ≡ true → has_colon (old ++ new) ≡ true
colon_kept old new e = colon_of old new ∙ ap (λ b. b || has_colon new) e

word_same : (word old new : List ℕ) → has_colon old ≡ true
    → is_encoded_as word old ≡ is_encoded_as word (old ++ new)
word_same word old new e = ap (has_word word) (sym (closed old new e))

-- ---- one more append

searched_by : (old new : List ℕ) (is : Bool) → has_colon old ≡ is
    → searched (head_of old) (drop (length old - 15) old ++ new) ≡ head_of (old ++ new)
searched_by old new true e = rw e (same_made _ _ _ _ _ _ (sym (colon_kept old new e))
    (word_same (codes "QUOTED-PRINTABLE") old new e) (word_same (codes "BASE64") old new e))
searched_by old new false e = rw e (same_made _ _ _ _ _ _ (colon_so_far old new 15 e)
    (word_so_far (codes "QUOTED-PRINTABLE") old new 15 (omega arith) e)
    (word_so_far (codes "BASE64") old new 15 (omega arith) e))

-- Once more octets were appended, it is enough to search them and the last octets before them.
pub searched_more : (old new : List ℕ) (from : ℕ) → from ≡ length old - 15
    → searched (head_of old) (drop from (old ++ new)) ≡ head_of (old ++ new)
searched_more old new from is =
    let split : drop from (old ++ new) ≡ drop (length old - 15) old ++ new =
    ap (λ n. drop n (old ++ new)) is ∙ drop-append-le (length old - 15) old new (omega arith) in
    rw split (searched_by old new (has_colon old) refl)

-- ---- an equals sign at the end

printable_ends : EndsOther (codes "QUOTED-PRINTABLE") equals
printable_ends = (codes "QUOTED-PRINTABL", 69, refl, λ e. omega (arith, e))

base64_ends : EndsOther (codes "BASE64") equals
base64_ends = (codes "BASE6", 52, refl, λ e. omega (arith, e))

word_less : (word xs : List ℕ) (is : Bool) → EndsOther word equals → has_colon xs ≡ is
    → is_encoded_as word (xs ++ equals ∷ []) ≡ is_encoded_as word xs
word_less word xs true h e = ap (has_word word) (closed xs (equals ∷ []) e)
word_less word xs false h e = ap (has_word word) (opened xs (equals ∷ []) e)
    ∙ word_dropped word xs equals h ∙ ap (has_word word) (sym (whole xs e))

-- the head says the same without the equals sign of a soft break
pub head_less : (xs : List ℕ) → head_of (xs ++ equals ∷ []) ≡ head_of xs
head_less xs = same_made _ _ _ _ _ _ (colon_of xs (equals ∷ []) ∙ or_false (has_colon xs))
    (word_less (codes "QUOTED-PRINTABLE") xs (has_colon xs) printable_ends refl)
    (word_less (codes "BASE64") xs (has_colon xs) base64_ends refl)
  where
    or_false : (b : Bool) → (b || false) ≡ b
    or_false true = refl
    or_false false = refl

-- octets that end with an octet
ends_with : (xs : List ℕ) (octet : ℕ) → 0 < length xs → get_or xs (length xs - 1) 0 ≡ octet
    → xs ≡ take (length xs - 1) xs ++ octet ∷ []
ends_with xs octet l e = sym (take_all (length xs - 1 + 1) xs (omega arith))
    ∙ take_more xs (length xs - 1) 0 (omega arith) ∙ ap (λ o. take (length xs - 1) xs ++ o ∷ []) e

nonempty_from : (xs : List ℕ) → get_or xs (length xs - 1) 0 ≡ equals → 0 < length xs
nonempty_from [] e = absurd (omega (arith, e))
nonempty_from (x ∷ xs) e = omega arith

-- a line with a soft break ends with an equals sign
pub soft_end : (line : List ℕ) → has_soft_break line ≡ true → get_or line (length line - 1) 0
    ≡ equals
soft_end line e = eqb-true _ _ (and_parts _ _ e).0

pub head_front : (xs : List ℕ) → get_or xs (length xs - 1) 0 ≡ equals
    → head_of (take (length xs - 1) xs) ≡ head_of xs
head_front xs e = sym (ap head_of (ends_with xs equals (nonempty_from xs e) e)
    ∙ head_less (take (length xs - 1) xs))
