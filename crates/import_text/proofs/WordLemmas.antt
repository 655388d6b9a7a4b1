-- Words in octets: at the front, later, and in octets that were appended.
use Rattle.std.proofs.Common.{◌≡◌, ◌⊎◌, inl, inr, ℕ, zero, suc, ◌+◌, ◌<◌, ◌≤◌, List, [], ◌∷◌, ◌++◌}
use Rattle.std.proofs.Common.{Bool, true, false, ◌||◌, refl, ap, sym, ◌∙◌, arith, map, take, drop}
use Rattle.std.proofs.Common.{length, length-append}
use Rattle.std.specs.Prelude.{nat_le}
use Rattle.std.specs.Str.{str_eq_ignore_ascii_case}
use Rattle.std.specs.Char.{to_ascii_lowercase}
use Rattle.std.proofs.lemmas.Bool.{leb-true, le-leb, lt-leb, and_parts, or_cases, cases_lt}
use Rattle.std.proofs.lemmas.Bool.{cases_order, false_from_ne_true}
use Rattle.std.proofs.lemmas.List.{take-append-le, take_all, same_from_push, map-append}
use Rattle.std.proofs.lemmas.Slice.Eq.{bytes_eq-Decides}
use Rattle.import_text.specs.RawLines.{has_word, begins_with_word}

-- the word isn't at the front
word_later : (word : List ℕ) (octet : ℕ) (octets : List ℕ) → begins_with_word word (octet ∷ octets)
    ≡ false → has_word word octets ≡ has_word word (octet ∷ octets)
unfolding has_word
word_later word octet octets e = rw e refl

-- the word is at the front
word_here : (word : List ℕ) (octet : ℕ) (octets : List ℕ) → begins_with_word word (octet ∷ octets)
    ≡ true → has_word word (octet ∷ octets) ≡ true
unfolding has_word
word_here word octet octets e = rw e refl

pub found_here : (word rest : List ℕ) (octet : ℕ) (tail : List ℕ) → rest ≡ octet ∷ tail
    → begins_with_word word rest ≡ true → has_word word rest ≡ true
found_here word rest octet tail is e = ap (has_word word) is
    ∙ word_here word octet tail (ap (begins_with_word word) (sym is) ∙ e)

pub found_later : (word rest : List ℕ) (octet : ℕ) (tail : List ℕ) → rest ≡ octet ∷ tail
    → begins_with_word word rest ≡ false → has_word word tail ≡ has_word word rest
found_later word rest octet tail is e =
    word_later word octet tail (ap (begins_with_word word) (sym is) ∙ e)
    ∙ ap (has_word word) (sym is)

pub no_word : (word : List ℕ) → has_word word [] ≡ false
unfolding has_word
no_word word = refl

-- ---- octets that were appended

-- the same front, whatever follows
pub front_same : (word xs ys : List ℕ) → length word ≤ length xs → begins_with_word word (xs ++ ys)
    ≡ begins_with_word word xs
front_same word xs ys h =
    let longer : nat_le (length word) (length (xs ++ ys)) ≡ true =
    le-leb _ _ (omega (arith, length-append xs ys)) in
    let long : nat_le (length word) (length xs) ≡ true = le-leb _ _ h in
    rw (longer, long, take-append-le (length word) xs ys h) refl

pub too_short : (word xs : List ℕ) → length xs < length word → begins_with_word word xs ≡ false
too_short word xs h =
    let short : nat_le (length word) (length xs) ≡ false = lt-leb _ _ h in
    rw short refl

front_kept : (word xs ys : List ℕ) → begins_with_word word xs ≡ true
    → begins_with_word word (xs ++ ys) ≡ true
front_kept word xs ys e = front_same word xs ys (leb-true _ _ (and_parts _ _ e).0) ∙ e

or_true : (a b : Bool) → b ≡ true → (a || b) ≡ true
or_true true b e = refl
or_true false b e = e

or_first : (a b : Bool) → a ≡ true → (a || b) ≡ true
or_first true b e = refl
or_first false b e = cc

kept_by : (word : List ℕ) (x : ℕ) (xs ys : List ℕ)
    → (has_word word xs ≡ true → has_word word (xs ++ ys) ≡ true)
    → (begins_with_word word (x ∷ xs) ≡ true) ⊎ (has_word word xs ≡ true)
    → (begins_with_word word (x ∷ xs ++ ys) || has_word word (xs ++ ys)) ≡ true
kept_by word x xs ys later (inl f) = or_first _ _ (front_kept word (x ∷ xs) ys f)
kept_by word x xs ys later (inr l) = or_true _ _ (later l)

-- a word stays in octets that grow
word_kept : (word xs ys : List ℕ) → has_word word xs ≡ true → has_word word (xs ++ ys) ≡ true
unfolding has_word
word_kept word [] ys e = cc
word_kept word (x ∷ xs) ys e = kept_by word x xs ys (word_kept word xs ys) (or_cases _ _ e)

absorbed : (a b : Bool) → (a ≡ true → b ≡ true) → b ≡ (a || b)
absorbed true b h = h refl
absorbed false b h = refl

or_assoc : (a b c d e : Bool) → a ≡ b → c ≡ (d || e) → (a || c) ≡ ((b || d) || e)
or_assoc true b c d e p q = rw (sym p) refl
or_assoc false b c d e p q = rw (sym p) q

-- A word in octets that grew is in those before, or in the new ones with as many before them as a
-- word may have but one.
pub word_grown : (word old new : List ℕ) (most from : ℕ) → length word ≤ most + 1
    → from + most ≤ length old → has_word word (old ++ new)
    ≡ (has_word word old || has_word word (drop from old ++ new))
unfolding has_word
word_grown word old new most zero w f = absorbed _ _ (word_kept word old new)
word_grown word [] new most (suc from) w f = absurd (omega arith)
word_grown word (x ∷ old) new most (suc from) w f =
    or_assoc _ _ _ _ _ (front_same word (x ∷ old) new (omega arith)) (word_grown word old new most
    from w (omega arith))

pub word_grown_all : (word old new : List ℕ)
    → has_word word (old ++ new) ≡ (has_word word old || has_word word (old ++ new))
word_grown_all word old new = absorbed _ _ (word_kept word old new)

-- ---- an octet that no word ends with

-- the word doesn't end with the octet, in any case
abbrev pub EndsOther : List ℕ → ℕ → Type 0
EndsOther word octet = (front : List ℕ) × (last : ℕ) × (word ≡ front ++ last ∷ [])
    × (to_ascii_lowercase octet ≡ to_ascii_lowercase last → ⊥)

other_end : (xs front : List ℕ) (octet last : ℕ)
    → (to_ascii_lowercase octet ≡ to_ascii_lowercase last → ⊥)
    → str_eq_ignore_ascii_case (xs ++ octet ∷ []) (front ++ last ∷ []) ≡ false
other_end xs front octet last n = false_from_ne_true _ (λ e.
    let same = (bytes_eq-Decides _ _).0 e in
    n (same_from_push (map to_ascii_lowercase xs) (map to_ascii_lowercase front) _ _
    (sym (map-append to_ascii_lowercase xs (octet ∷ [])) ∙ same
    ∙ map-append to_ascii_lowercase front (last ∷ []))).1)

whole_end : (word xs : List ℕ) (octet : ℕ) → EndsOther word octet
    → length (xs ++ octet ∷ []) ≡ length word → begins_with_word word (xs ++ octet ∷ []) ≡ false
whole_end word xs octet h e =
    let long : nat_le (length word) (length (xs ++ octet ∷ [])) ≡ true = le-leb _ _ (omega arith) in
    let whole : take (length word) (xs ++ octet ∷ []) ≡ xs ++ octet ∷ [] =
    take_all (length word) (xs ++ octet ∷ []) (omega arith) in
    rw (long, whole, h.2) (other_end xs h.0 octet h.1 h.3)

front_dropped : (word xs : List ℕ) (octet : ℕ) → EndsOther word octet
    → begins_with_word word (xs ++ octet ∷ []) ≡ begins_with_word word xs
front_dropped word xs octet h = by (cases_lt (length xs) (length word))
  where
    one_more : length (xs ++ octet ∷ []) ≡ length xs + 1
    one_more = length-append xs (octet ∷ [])

    end_by : length xs < length word → (length (xs ++ octet ∷ []) ≡ length word)
        ⊎ ((length (xs ++ octet ∷ []) < length word) ⊎ (length word < length (xs ++ octet ∷ [])))
        → begins_with_word word (xs ++ octet ∷ []) ≡ false
    end_by l (inl e) = whole_end word xs octet h e
    end_by l (inr (inl e)) = too_short word (xs ++ octet ∷ []) e
    end_by l (inr (inr e)) = absurd (omega (arith, one_more))

    by : (length xs < length word) ⊎ (length word ≤ length xs)
        → begins_with_word word (xs ++ octet ∷ []) ≡ begins_with_word word xs
    by (inl l) = end_by l (cases_order _ _) ∙ sym (too_short word xs l)
    by (inr l) = front_same word xs (octet ∷ []) l

same_or : (a b c d : Bool) → a ≡ b → c ≡ d → (a || c) ≡ (b || d)
same_or a b c d p q = rw (p, q) refl

pub word_dropped : (word xs : List ℕ) (octet : ℕ) → EndsOther word octet
    → has_word word (xs ++ octet ∷ []) ≡ has_word word xs
unfolding has_word
word_dropped word [] octet h = same_or (begins_with_word word (octet ∷ []))
    (begins_with_word word []) false false (front_dropped word [] octet h) refl
    ∙ same_or _ _ _ _ (nothing word h) refl
  where
    nothing : (word : List ℕ) → EndsOther word octet → begins_with_word word [] ≡ false
    nothing word h = too_short word [] (rw h.2 (omega (arith, length-append h.0 (h.1 ∷ []))))
word_dropped word (x ∷ xs) octet h =
    same_or _ _ _ _ (front_dropped word (x ∷ xs) octet h) (word_dropped word xs octet h)
