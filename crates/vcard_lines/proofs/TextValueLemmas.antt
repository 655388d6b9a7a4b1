-- Text values: a value has exactly one list of characters, and reading from left to right decodes
-- them. Given here: inductions over the octets and over the characters of a value, each with a case
-- for a backslash before; of components, an induction that keeps the finished ones and the text
-- since (`splits_after`).
use Rattle.std.proofs.Common.{◌≡◌, ℕ, ◌<◌, ◌+◌, ◌↔◌, Bool, true, false, cond, ◌||◌, ◌==◌, List, []}
use Rattle.std.proofs.Common.{◌∷◌, ◌++◌, map, flat_map, length, fold, chars, encode_utf8, IsUtf8}
use Rattle.std.proofs.Common.{count_by, ◌&&◌, ◌⊎◌, inl, inr, append_assoc, refl, sym, ap, subst}
use Rattle.std.proofs.Common.{◌∙◌, arith}
use Rattle.std.specs.List.{AllByRecursion, list_any}
use Rattle.std.specs.Str.{encode_utf8_all}
use Rattle.std.proofs.Math.Utf8.{scalar, scalars, encode}
use Rattle.std.proofs.lemmas.Bool.{and_parts, cond-false}
use Rattle.std.proofs.lemmas.List.{append-nil, length-map}
use Rattle.std.proofs.lemmas.Bool.Decides.{nat_tests}
use Rattle.std.proofs.lemmas.List.Concat.{flat_map-append}
use Rattle.std.proofs.lemmas.List.Sums.{sum_by-cons}
use Rattle.std.proofs.lemmas.Str.{scalars-chars, chars-encodes, encodes-chars, encodes-append}
use Rattle.vcard_lines.specs.TextValues.{TextChar, Plain, Escaped, TrailingBackslash, written_chars}
use Rattle.vcard_lines.specs.TextValues.{decoded_char, is_plain, AreLegalTextChars, AreTextChars}
use Rattle.vcard_lines.specs.TextValues.{text_chars_from, text_chars, decoded_text, unescaped_text}
use Rattle.vcard_lines.specs.TextValues.{text_char_of, escaped_value, IsFullyEscaped, joined_pieces}
use Rattle.vcard_lines.specs.TextValues.{IsSplitAtSemicolons, prepend_to_first, split_at_semicolons}
use Rattle.vcard_lines.specs.TextValues.{components, joined_by_semicolons}
use Rattle.vcard_lines.specs.internal.UnescapeLoop.{unescape_state, unescape_char, finished_text}
use Rattle.vcard_lines.specs.internal.UnescapeLoop.{split_state, split_char, finished_parts}
use Rattle.base_types.proofs.BoolLemmas.{both_false}

-- ---- the characters of a value

abbrev backslash_if : Bool → List ℕ
backslash_if b = cond b (92 ∷ []) []

-- what is read is written so
read_is_written : (escaped_value : Bool) (value : List ℕ)
    → flat_map written_chars (text_chars_from escaped_value value) ≡ backslash_if escaped_value
    ++ value
unfolding text_chars_from
read_is_written true [] = refl
read_is_written true (c ∷ cs) = ap (λ w. 92 ∷ c ∷ w) (read_is_written false cs)
read_is_written false [] = refl
read_is_written false (c ∷ cs) =
    elim (c == 92) as (λ b. (c == 92) ≡ b
    → flat_map written_chars (cond b (text_chars_from true cs) (Plain c ∷ text_chars_from false
    cs)) ≡ c ∷ cs) [
      | true ↦ λ e. let is : c ≡ 92 = grind (arith, e) in read_is_written true cs
          ∙ ap (λ x. x ∷ cs) (sym is)
      | false ↦ λ e. ap (λ w. c ∷ w) (read_is_written false cs)
    ] refl

read_is_legal : (escaped_value : Bool) (value : List ℕ)
    → AreLegalTextChars (text_chars_from escaped_value value)
unfolding text_chars_from
read_is_legal true [] = refl
read_is_legal true (c ∷ cs) = read_is_legal false cs
read_is_legal false [] = tt
read_is_legal false (c ∷ cs) =
    elim (c == 92) as (λ b. (c == 92) ≡ b
    → AreLegalTextChars (cond b (text_chars_from true cs) (Plain c ∷ text_chars_from false cs))) [
      | true ↦ λ e. read_is_legal true cs
      | false ↦ λ e. (e, read_is_legal false cs)
    ] refl

-- what is written is read so
written_is_read : (cs : List TextChar) → AreLegalTextChars cs
    → text_chars (flat_map written_chars cs) ≡ cs
unfolding text_chars_from
written_is_read [] a = refl
written_is_read (Plain c ∷ cs) a =
    cond-false _ _ _ a.0 ∙ ap (λ t. Plain c ∷ t) (written_is_read cs a.1)
written_is_read (Escaped c ∷ cs) a = ap (λ t. Escaped c ∷ t) (written_is_read cs a)
written_is_read (TrailingBackslash ∷ cs) a = ap (λ t. text_chars (92 ∷ flat_map written_chars t)) a
    ∙ ap (λ t. TrailingBackslash ∷ t) (sym a)

pub one_list : (value : List ℕ) (cs : List TextChar)
    → AreTextChars value cs ↔ (cs ≡ text_chars value)
one_list value cs = (
  λ a. sym (ap text_chars a.concatenation ∙ written_is_read cs a.legal),
  λ e. subst (AreTextChars value) (sym e)
      (record {
        concatenation = sym (read_is_written false value);
        legal = read_is_legal false value;
      }),
)

-- ---- escaping

legal_one : (c : ℕ) (cs : List TextChar) → AreLegalTextChars cs
    → AreLegalTextChars (text_char_of c ∷ cs)
legal_one c cs a =
    elim (c == 10) as (λ b. AreLegalTextChars
    (cond b (Escaped 110) (cond (c == 92 || c == 44 || c == 59) (Escaped c) (Plain c)) ∷ cs)) [
      | true ↦ a
      | false ↦ elim (c == 92 || c == 44 || c == 59) as (λ b. (c == 92 || c == 44 || c == 59) ≡ b
          → AreLegalTextChars (cond b (Escaped c) (Plain c) ∷ cs)) [
            | true ↦ λ e. a
            | false ↦ λ e. (no_backslash e, a)
          ] refl
    ]
  where
    no_backslash : (c == 92 || c == 44 || c == 59) ≡ false → (c == 92) ≡ false
    no_backslash e = elim (c == 92) as (λ b. (b || c == 44 || c == 59) ≡ false → b ≡ false) [
      | true ↦
          λ e. absurd (cc)
      | false ↦ λ e. refl
    ] e

legal_all : (cs : List ℕ) → AreLegalTextChars (map text_char_of cs)
legal_all [] = tt
legal_all (c ∷ cs) = legal_one c (map text_char_of cs) (legal_all cs)

decoded_back : (c : ℕ) → decoded_char (text_char_of c) ≡ c
decoded_back c =
    elim (c == 10) as (λ b. (c == 10) ≡ b
    → decoded_char (cond b (Escaped 110) (cond (c == 92 || c == 44 || c == 59) (Escaped c)
    (Plain c))) ≡ c) [
      | true ↦ λ e. grind (arith, e)
      | false ↦ λ e. elim (c == 92 || c == 44 || c == 59) as (λ b. (c == 92 || c == 44 || c == 59)
          ≡ b → decoded_char (cond b (Escaped c) (Plain c)) ≡ c) [
            | true ↦ λ h. cond-false _ _ _ (no_n h)
            | false ↦ λ h. refl
          ] refl
    ] refl
  where
    no_n : (c == 92 || c == 44 || c == 59) ≡ true → (c == 110 || c == 78) ≡ false
    no_n h = grind (arith, h)

all_decoded_back : (cs : List ℕ) → map decoded_char (map text_char_of cs) ≡ cs
all_decoded_back [] = refl
all_decoded_back (c ∷ cs) = ap (λ x. x ∷ map decoded_char (map text_char_of cs)) (decoded_back c)
    ∙ ap (λ t. c ∷ t) (all_decoded_back cs)

flat_written : (cs : List ℕ) → flat_map (λ c. written_chars (text_char_of c)) cs
    ≡ flat_map written_chars (map text_char_of cs)
flat_written [] = refl
flat_written (c ∷ cs) = ap (λ t. written_chars (text_char_of c) ++ t) (flat_written cs)

-- one more character after those that are written
pub one_more_written : (cs : List ℕ) (c : ℕ)
    → encode_utf8_all (flat_map (λ d. written_chars (text_char_of d)) cs)
    ++ encode_utf8_all (written_chars (text_char_of c))
    ≡ encode_utf8_all (flat_map (λ d. written_chars (text_char_of d)) (cs ++ c ∷ []))
one_more_written cs c =
    sym (encodes-append (flat_map (λ d. written_chars (text_char_of d)) cs)
    (written_chars (text_char_of c)))
    ∙ ap encode_utf8_all (sym (flat_map-append (λ d. written_chars (text_char_of d)) cs (c ∷ [])
    ∙ ap (λ w. flat_map (λ d. written_chars (text_char_of d)) cs ++ w)
    (append-nil (written_chars (text_char_of c)))))

scalar_written : (c : ℕ) → scalar c ≡ true → scalars (written_chars (text_char_of c)) ≡ true
scalar_written c s =
    elim (c == 10) as (λ b. scalars (written_chars
    (cond b (Escaped 110) (cond (c == 92 || c == 44 || c == 59) (Escaped c) (Plain c)))) ≡ true) [
      | true ↦ refl
      | false ↦ elim (c == 92 || c == 44 || c == 59) as
          (λ b. scalars (written_chars (cond b (Escaped c) (Plain c))) ≡ true) [
            | true ↦ rw s refl
            | false ↦ rw s refl
          ]
    ]

pub scalars_append : (cs ds : List ℕ) → scalars cs ≡ true → scalars ds ≡ true
    → scalars (cs ++ ds) ≡ true
scalars_append [] ds a b = b
scalars_append (c ∷ cs) ds a b = let p = and_parts (scalar c) (scalars cs) a in
    rw (p.0, scalars_append cs ds p.1 b) refl

pub scalars_written : (cs : List ℕ) → scalars cs ≡ true
    → scalars (flat_map (λ c. written_chars (text_char_of c)) cs) ≡ true
scalars_written [] s = refl
scalars_written (c ∷ cs) s =
    let p = and_parts (scalar c) (scalars cs) s in
    scalars_append (written_chars (text_char_of c)) (flat_map (λ d. written_chars (text_char_of d))
    cs) (scalar_written c p.0) (scalars_written cs p.1)

-- the characters of an escaped text
module _ (text : List ℕ) (u : IsUtf8 text) where
  escaped_chars : chars (escaped_value text) ≡ flat_map written_chars
      (map text_char_of (chars text))
  escaped_chars = chars-encodes _ (scalars_written (chars text) (scalars-chars text u))
      ∙ flat_written (chars text)

  escaped_text_chars : text_chars (chars (escaped_value text)) ≡ map text_char_of (chars text)
  escaped_text_chars = ap text_chars escaped_chars ∙ written_is_read (map text_char_of (chars text))
      (legal_all (chars text))

  pub unescape_escaped : unescaped_text (escaped_value text) ≡ text
  unescape_escaped = ap decoded_text escaped_text_chars
      ∙ ap encode_utf8_all (all_decoded_back (chars text)) ∙ encodes-chars text u

-- an escaped value has none of these characters in plain form
never_plain : (d c : ℕ) → (d ≡ 44) ⊎ (d ≡ 59) → is_plain d (text_char_of c) ≡ false
never_plain d c w =
    elim (c == 10) as (λ b. is_plain d (cond b (Escaped 110) (cond (c == 92 || c == 44 || c == 59)
    (Escaped c) (Plain c))) ≡ false) [
      | true ↦ refl
      | false ↦ elim (c == 92 || c == 44 || c == 59) as (λ b. (c == 92 || c == 44 || c == 59) ≡ b
          → is_plain d (cond b (Escaped c) (Plain c)) ≡ false) [
            | true ↦ λ e. refl
            | false ↦ λ e. other e w
          ] refl
    ]
  where
    other : (c == 92 || c == 44 || c == 59) ≡ false → (d ≡ 44) ⊎ (d ≡ 59) → (c == d) ≡ false
    other e (inl is) = rw is (grind (arith, nat_tests, e))
    other e (inr is) = rw is (grind (arith, nat_tests, e))

none_plain : (d : ℕ) (cs : List ℕ) → (d ≡ 44) ⊎ (d ≡ 59)
    → list_any (is_plain d) (map text_char_of cs) ≡ false
none_plain d [] w = refl
none_plain d (c ∷ cs) w = rw (never_plain d c w, none_plain d cs w) refl

any_append : (p : ℕ → Bool) (xs ys : List ℕ) → list_any p xs ≡ false → list_any p ys ≡ false
    → list_any p (xs ++ ys) ≡ false
any_append p [] ys a b = b
any_append p (x ∷ xs) ys a b = elim (p x) as (λ t. (t || list_any p xs) ≡ false
    → (t || list_any p (xs ++ ys)) ≡ false) [
      | true ↦ λ h. absurd (cc)
      | false ↦
          λ h. any_append p xs ys h b
    ] a

no_newline_of : (c : ℕ) → list_any (λ d. d == 10) (written_chars (text_char_of c)) ≡ false
no_newline_of c =
    elim (c == 10) as (λ b. (c == 10) ≡ b
    → list_any (λ d. d == 10) (written_chars
    (cond b (Escaped 110) (cond (c == 92 || c == 44 || c == 59) (Escaped c) (Plain c))))
    ≡ false) [
      | true ↦ λ e. refl
      | false ↦ λ e. elim (c == 92 || c == 44 || c == 59) as (λ b. list_any (λ d. d == 10)
          (written_chars (cond b (Escaped c) (Plain c))) ≡ false) [
            | true ↦ rw e refl
            | false ↦
                rw e refl
          ]
    ] refl

no_newlines : (cs : List ℕ) → list_any (λ d. d == 10) (flat_map written_chars (map text_char_of cs))
    ≡ false
no_newlines [] = refl
no_newlines (c ∷ cs) = any_append (λ d. d == 10) (written_chars (text_char_of c))
    (flat_map written_chars (map text_char_of cs)) (no_newline_of c) (no_newlines cs)

pub escaped_guarded : (text : List ℕ) → IsUtf8 text → IsFullyEscaped (escaped_value text)
escaped_guarded text u = record {
  no_newline = ap (list_any (λ c. c == 10)) (escaped_chars text u) ∙ no_newlines (chars text);
  no_comma = ap (list_any (is_plain 44)) (escaped_text_chars text u)
      ∙ none_plain 44 (chars text) (inl refl);
  no_semicolon = ap (list_any (is_plain 59)) (escaped_text_chars text u)
      ∙ none_plain 59 (chars text) (inr refl);
}

-- ---- reading from left to right

unescapes_after : (cs : List ℕ) (text : List ℕ) (escaped_value : Bool)
    → finished_text (fold unescape_char (unescape_state text escaped_value) cs) ≡ text
    ++ decoded_text (text_chars_from escaped_value cs)
unfolding text_chars_from encode
unescapes_after [] text true = refl
unescapes_after [] text false = sym (append-nil text)
unescapes_after (c ∷ cs) text true =
    unescapes_after cs (text ++ encode_utf8 (decoded_char (Escaped c))) false
    ∙ append_assoc text (encode_utf8 (decoded_char (Escaped c)))
    (decoded_text (text_chars_from false cs))
unescapes_after (c ∷ cs) text false =
    elim (c == 92) as (λ b. finished_text
    (fold unescape_char (cond b (unescape_state text true)
    (unescape_state (text ++ encode_utf8 c) false)) cs) ≡ text
    ++ decoded_text (cond b (text_chars_from true cs) (Plain c ∷ text_chars_from false cs))) [
      | true ↦ unescapes_after cs text true
      | false ↦ unescapes_after cs (text ++ encode_utf8 c) false
          ∙ append_assoc text (encode_utf8 c) (decoded_text (text_chars_from false cs))
    ]

pub reads_all : (value : List ℕ) → finished_text (fold unescape_char (unescape_state [] false)
    (chars value)) ≡ unescaped_text value
reads_all value = unescapes_after (chars value) [] false

-- ---- components

abbrev onto_first : List ℕ → List (List ℕ) → List (List ℕ)
onto_first text [] = []
onto_first text (part ∷ parts) = (text ++ part) ∷ parts

abbrev parts_of : List TextChar → List (List ℕ)
parts_of cs = map decoded_text (split_at_semicolons cs)

onto_before : (text : List ℕ) (c : TextChar) (pieces : List (List TextChar)) → 0 < length pieces
    → onto_first text (map decoded_text (prepend_to_first c pieces))
    ≡ onto_first (text ++ encode_utf8 (decoded_char c)) (map decoded_text pieces)
onto_before text c [] l = absurd (omega arith)
onto_before text c (p ∷ ps) l = ap (λ t. t ∷ map decoded_text ps)
    (sym (append_assoc text (encode_utf8 (decoded_char c)) (decoded_text p)))

some_before : (c : TextChar) (pieces : List (List TextChar))
    → 0 < length (prepend_to_first c pieces)
some_before c [] = omega arith
some_before c (p ∷ ps) = omega arith

some_piece : (cs : List TextChar) → 0 < length (split_at_semicolons cs)
unfolding split_at_semicolons
some_piece [] = omega arith
some_piece (c ∷ cs) = elim (is_plain 59 c) as
    (λ b. 0 < length (cond b ([] ∷ split_at_semicolons cs)
    (prepend_to_first c (split_at_semicolons cs)))) [
      | true ↦ omega arith
      | false ↦
          some_before c (split_at_semicolons cs)
    ]

-- a piece that begins with nothing
onto_nothing : (parts : List (List ℕ)) → onto_first [] parts ≡ parts
onto_nothing [] = refl
onto_nothing (p ∷ ps) = refl

cut_before : (c : TextChar) (cs : List TextChar) (text : List ℕ) → is_plain 59 c ≡ false
    → onto_first text (parts_of (c ∷ cs)) ≡ onto_first (text ++ encode_utf8 (decoded_char c))
    (parts_of cs)
unfolding split_at_semicolons
cut_before c cs text e = ap (λ ps. onto_first text (map decoded_text ps)) (cond-false _ _ _ e)
    ∙ onto_before text c (split_at_semicolons cs) (some_piece cs)

splits_after : (cs : List ℕ) (parts : List (List ℕ)) (text : List ℕ) (escaped_value : Bool)
    → finished_parts (fold split_char (split_state parts (unescape_state text escaped_value)) cs)
    ≡ parts ++ onto_first text (parts_of (text_chars_from escaped_value cs))
unfolding text_chars_from split_at_semicolons encode
splits_after [] parts text true = refl
splits_after [] parts text false = ap (λ t. parts ++ t ∷ []) (sym (append-nil text))
splits_after (c ∷ cs) parts text true =
    ap (λ b. finished_parts (fold split_char
    (cond b (split_state (parts ++ text ∷ []) (unescape_state [] false))
    (split_state parts (unescape_state (text ++ encode_utf8 (decoded_char (Escaped c))) false)))
    cs)) (never c)
    ∙ splits_after cs parts (text ++ encode_utf8 (decoded_char (Escaped c))) false
    ∙ ap (λ ps. parts ++ ps) (sym (cut_before (Escaped c) (text_chars_from false cs) text refl))
  where
    never : (d : ℕ) → ((d == 59) && false) ≡ false
    never d = elim (d == 59) as (λ b. (b && false) ≡ false) [ true ↦ refl | false ↦ refl ]
splits_after (c ∷ cs) parts text false =
    elim (c == 59) as (λ b. (c == 59) ≡ b
    → finished_parts (fold split_char
    (cond (b && true) (split_state (parts ++ text ∷ []) (unescape_state [] false))
    (split_state parts (unescape_char (unescape_state text false) c))) cs) ≡ parts
    ++ onto_first text (parts_of (text_chars_from false (c ∷ cs)))) [
      | true ↦ λ e.
          splits_after cs (parts ++ text ∷ []) [] false
          ∙ ap (λ ps. (parts ++ text ∷ []) ++ ps) (onto_nothing _)
          ∙ append_assoc parts (text ∷ []) _
          ∙ ap (λ ps. parts ++ ps) (sym (at_semicolon e))
      | false ↦ λ e. elim (c == 92) as (λ b. (c == 92) ≡ b
          → finished_parts (fold split_char
          (split_state parts (cond b (unescape_state text true)
          (unescape_state (text ++ encode_utf8 c) false))) cs) ≡ parts ++ onto_first text
          (parts_of (cond b (text_chars_from true cs) (Plain c ∷ text_chars_from false cs)))) [
            | true ↦ λ h. splits_after cs parts text true
            | false ↦ λ h. splits_after cs parts (text ++ encode_utf8 c) false
                ∙ ap (λ ps. parts ++ ps) (sym (cut_before (Plain c) (text_chars_from false cs) text
                e))
          ] refl
    ] refl
  where
    at_semicolon : (c == 59) ≡ true → onto_first text (parts_of (text_chars_from false (c ∷ cs)))
        ≡ text ∷ parts_of (text_chars_from false cs)
    at_semicolon e = let is : c ≡ 59 = grind (arith, e) in
        rw is (ap (λ t. t ∷ parts_of (text_chars_from false cs)) (append-nil text))

pub cuts_all : (value : List ℕ) → finished_parts
    (fold split_char (split_state [] (unescape_state [] false)) (chars value)) ≡ components value
cuts_all value = splits_after (chars value) [] [] false ∙ onto_nothing _

abbrev one_if : Bool → ℕ
one_if b = cond b 1 0

count-cons : (p : TextChar → Bool) (c : TextChar) (cs : List TextChar)
    → count_by p (c ∷ cs) ≡ one_if (p c) + count_by p cs
count-cons p c cs = sum_by-cons (λ y. cond (p y) 1 0) c cs

length-before : (c : TextChar) (pieces : List (List TextChar)) → 0 < length pieces
    → length (prepend_to_first c pieces) ≡ length pieces
length-before c [] l = absurd (omega arith)
length-before c (p ∷ ps) l = refl

pieces_counted : (cs : List TextChar) → length (split_at_semicolons cs) ≡ 1 + count_by (is_plain 59)
    cs
unfolding split_at_semicolons
pieces_counted [] = refl
pieces_counted (c ∷ cs) =
    elim (is_plain 59 c) as (λ b. is_plain 59 c ≡ b
    → length (cond b ([] ∷ split_at_semicolons cs)
    (prepend_to_first c (split_at_semicolons cs))) ≡ 1 + count_by (is_plain 59) (c ∷ cs)) [
      | true ↦ λ e. let one : one_if (is_plain 59 c) ≡ 1 = ap one_if e in
          omega (arith, pieces_counted cs, count-cons (is_plain 59) c cs, one)
      | false ↦ λ e.
          let unsplit : one_if (is_plain 59 c) ≡ 0 = ap one_if e in
          omega (
            arith,
            length-before c (split_at_semicolons cs) (some_piece cs),
            pieces_counted cs,
            count-cons (is_plain 59) c cs,
            unsplit,
          )
    ] refl

pub components_counted : (value : List ℕ) → length (components value) ≡ 1 + count_by (is_plain 59)
    (text_chars (chars value))
components_counted value = length-map (split_at_semicolons (text_chars (chars value))) decoded_text
    ∙ pieces_counted (text_chars (chars value))

-- ---- pieces

semicolon_is_plain : (c : TextChar) → is_plain 59 c ≡ true → c ≡ Plain 59
semicolon_is_plain (Plain c) e = let is : c ≡ 59 = grind (arith, e) in ap Plain is
semicolon_is_plain (Escaped c) e = absurd (cc)
semicolon_is_plain TrailingBackslash e = absurd (cc)

between_nothing : (pieces : List (List TextChar)) → 0 < length pieces → joined_pieces ([] ∷ pieces)
    ≡ Plain 59 ∷ joined_pieces pieces
between_nothing [] l = absurd (omega arith)
between_nothing (p ∷ ps) l = refl

between_before : (c : TextChar) (pieces : List (List TextChar)) → 0 < length pieces
    → joined_pieces (prepend_to_first c pieces) ≡ c ∷ joined_pieces pieces
between_before c [] l = absurd (omega arith)
between_before c (p ∷ []) l = refl
between_before c (p ∷ q ∷ ps) l = refl

cut_is_whole : (cs : List TextChar) → cs ≡ joined_pieces (split_at_semicolons cs)
unfolding split_at_semicolons
cut_is_whole [] = refl
cut_is_whole (c ∷ cs) =
    elim (is_plain 59 c) as (λ b. is_plain 59 c ≡ b
    → c ∷ cs ≡ joined_pieces (cond b ([] ∷ split_at_semicolons cs)
    (prepend_to_first c (split_at_semicolons cs)))) [
      | true ↦ λ e. ap (λ d. d ∷ cs) (semicolon_is_plain c e)
          ∙ ap (λ ds. Plain 59 ∷ ds) (cut_is_whole cs)
          ∙ sym (between_nothing (split_at_semicolons cs) (some_piece cs))
      | false ↦ λ e. ap (λ ds. c ∷ ds) (cut_is_whole cs)
          ∙ sym (between_before c (split_at_semicolons cs) (some_piece cs))
    ] refl

abbrev NoSemicolon : List (List TextChar) → Type 0
NoSemicolon pieces = AllByRecursion (λ piece. list_any (is_plain 59) piece ≡ false) pieces

none_before : (c : TextChar) (pieces : List (List TextChar)) → is_plain 59 c ≡ false
    → NoSemicolon pieces → NoSemicolon (prepend_to_first c pieces)
none_before c [] e a = (rw e refl, tt)
none_before c (p ∷ ps) e a = (rw (e, a.0) refl, a.1)

cut_has_none : (cs : List TextChar) → NoSemicolon (split_at_semicolons cs)
unfolding split_at_semicolons
cut_has_none [] = (refl, tt)
cut_has_none (c ∷ cs) =
    elim (is_plain 59 c) as (λ b. is_plain 59 c ≡ b
    → NoSemicolon (cond b ([] ∷ split_at_semicolons cs)
    (prepend_to_first c (split_at_semicolons cs)))) [
      | true ↦ λ e. (refl, cut_has_none cs)
      | false ↦ λ e. none_before c (split_at_semicolons cs) e (cut_has_none cs)
    ] refl

cut_last : (piece : List TextChar) → list_any (is_plain 59) piece ≡ false
    → split_at_semicolons piece ≡ piece ∷ []
unfolding split_at_semicolons
cut_last [] e = refl
cut_last (c ∷ cs) e = let p = both_false (is_plain 59 c) (list_any (is_plain 59) cs) e in
    cond-false _ _ _ p.0 ∙ ap (prepend_to_first c) (cut_last cs p.1)

cut_first : (piece rest : List TextChar) → list_any (is_plain 59) piece ≡ false
    → split_at_semicolons (piece ++ Plain 59 ∷ rest) ≡ piece ∷ split_at_semicolons rest
unfolding split_at_semicolons
cut_first [] rest e = refl
cut_first (c ∷ cs) rest e = let p = both_false (is_plain 59 c) (list_any (is_plain 59) cs) e in
    cond-false _ _ _ p.0 ∙ ap (prepend_to_first c) (cut_first cs rest p.1)

cut_again : (pieces : List (List TextChar)) → 0 < length pieces → NoSemicolon pieces
    → split_at_semicolons (joined_pieces pieces) ≡ pieces
cut_again [] l a = absurd (omega arith)
cut_again (p ∷ []) l a = cut_last p a.0
cut_again (p ∷ q ∷ ps) l a = cut_first p (joined_pieces (q ∷ ps)) a.0
    ∙ ap (λ t. p ∷ t) (cut_again (q ∷ ps) (omega arith) a.1)

pub one_cut : (cs : List TextChar) (pieces : List (List TextChar))
    → IsSplitAtSemicolons cs pieces ↔ (pieces ≡ split_at_semicolons cs)
one_cut cs pieces = (
  λ a. sym (ap split_at_semicolons a.concatenation ∙ cut_again pieces a.nonempty a.unsplit),
  λ e. subst (IsSplitAtSemicolons cs) (sym e) (record {
    nonempty = some_piece cs;
    concatenation = cut_is_whole cs;
    unsplit = cut_has_none cs;
  }),
)

-- ---- joined texts

abbrev text_chars_of : List ℕ → List TextChar
text_chars_of text = map text_char_of (chars text)

-- a text's characters as they are written
abbrev written_of : List ℕ → List ℕ
written_of text = flat_map (λ c. written_chars (text_char_of c)) (chars text)

joined_encoded : (texts : List (List ℕ)) → joined_by_semicolons (map escaped_value texts)
    ≡ encode_utf8_all (joined_by_semicolons (map written_of texts))
unfolding encode
joined_encoded [] = refl
joined_encoded (t ∷ []) = refl
joined_encoded (t ∷ s ∷ ts) = ap (λ o. escaped_value t ++ 59 ∷ o) (joined_encoded (s ∷ ts))
    ∙ sym (encodes-append (written_of t) (59 ∷ joined_by_semicolons (map written_of (s ∷ ts))))

joined_scalars : (texts : List (List ℕ)) → AllByRecursion IsUtf8 texts
    → scalars (joined_by_semicolons (map written_of texts)) ≡ true
joined_scalars [] a = refl
joined_scalars (t ∷ []) a = scalars_written (chars t) (scalars-chars t a.0)
joined_scalars (t ∷ s ∷ ts) a = scalars_append (written_of t)
    (59 ∷ joined_by_semicolons (map written_of (s ∷ ts)))
    (scalars_written (chars t) (scalars-chars t a.0)) (joined_scalars (s ∷ ts) a.1)

joined_written : (texts : List (List ℕ)) → joined_by_semicolons (map written_of texts)
    ≡ flat_map written_chars (joined_pieces (map text_chars_of texts))
joined_written [] = refl
joined_written (t ∷ []) = flat_written (chars t)
joined_written (t ∷ s ∷ ts) =
    ap (λ w. w ++ 59 ∷ joined_by_semicolons (map written_of (s ∷ ts))) (flat_written (chars t))
    ∙ ap (λ w. flat_map written_chars (text_chars_of t) ++ 59 ∷ w) (joined_written (s ∷ ts))
    ∙ sym (flat_map-append written_chars (text_chars_of t)
    (Plain 59 ∷ joined_pieces (map text_chars_of (s ∷ ts))))

legal_before : (cs : List ℕ) (others : List TextChar) → AreLegalTextChars others
    → AreLegalTextChars (map text_char_of cs ++ others)
legal_before [] others a = a
legal_before (c ∷ cs) others a = legal_one c (map text_char_of cs ++ others)
    (legal_before cs others a)

joined_legal : (texts : List (List ℕ)) → AreLegalTextChars (joined_pieces (map text_chars_of texts))
joined_legal [] = tt
joined_legal (t ∷ []) = legal_all (chars t)
joined_legal (t ∷ s ∷ ts) = legal_before (chars t)
    (Plain 59 ∷ joined_pieces (map text_chars_of (s ∷ ts))) (refl, joined_legal (s ∷ ts))

no_semicolons : (texts : List (List ℕ)) → NoSemicolon (map text_chars_of texts)
no_semicolons [] = tt
no_semicolons (t ∷ ts) = (none_plain 59 (chars t) (inr refl), no_semicolons ts)

decoded_texts : (texts : List (List ℕ)) → AllByRecursion IsUtf8 texts
    → map decoded_text (map text_chars_of texts) ≡ texts
decoded_texts [] a = refl
decoded_texts (t ∷ ts) a =
    ap (λ x. x ∷ map decoded_text (map text_chars_of ts))
    (ap encode_utf8_all (all_decoded_back (chars t)) ∙ encodes-chars t a.0)
    ∙ ap (λ xs. t ∷ xs) (decoded_texts ts a.1)

pub joined_back : (texts : List (List ℕ)) → AllByRecursion IsUtf8 texts → 0 < length texts
    → components (joined_by_semicolons (map escaped_value texts)) ≡ texts
joined_back texts a l =
    ap components (joined_encoded texts)
    ∙ ap (λ cs. map decoded_text (split_at_semicolons (text_chars cs)))
    (chars-encodes _ (joined_scalars texts a) ∙ joined_written texts)
    ∙ ap (λ cs. map decoded_text (split_at_semicolons cs)) (written_is_read _ (joined_legal texts))
    ∙ ap (map decoded_text) (cut_again (map text_chars_of texts)
    (omega (arith, length-map texts text_chars_of)) (no_semicolons texts))
    ∙ decoded_texts texts a
