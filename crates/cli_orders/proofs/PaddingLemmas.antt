-- What a format writes for a right-aligned number and a left-aligned name.
use Rattle.std.proofs.Common.{◌≡◌, ◌∙◌, ℕ, zero, suc, ◌+◌, ◌-◌, ◌^◌, ◌<◌, ◌≤◌, ◌==◌, Bool, ◌||◌}
use Rattle.std.proofs.Common.{◌&&◌, if◌then◌else◌, List, [], ◌∷◌, ◌++◌, map, get_or, true, false}
use Rattle.std.proofs.Common.{length, refl, sym, ap, arith, append-nil, nat_lt, nat_le, IsAscii}
use Rattle.std.proofs.Common.{lt-ltb, ne_eqb, Bor}
use Rattle.std.proofs.lemmas.Bool.{and_parts, ltb-true}
use Rattle.std.proofs.lemmas.List.{length-map}
use Rattle.std.proofs.lemmas.Str.Ascii.{IsAscii-nil, IsAscii-cons}
use Rattle.std.specs.Fmt.{padded, padded_integral, format_spec, char_count, decimal, styled_decimal}
use Rattle.std.specs.Fmt.{styled_text, take_chars}
use Rattle.book_model.specs.declared.answers.Tally.{Tally}
use Rattle.book_model.specs.BookQueries.{named_number, tally_numbers}
use Rattle.std.specs.List.{repeat}
use Rattle.std.specs.Char.{encode_utf8}
use Rattle.cli_orders.specs.OutputPadding.{left_aligned, right_aligned}

-- a space is one octet
one_space : encode_utf8 32 ≡ 32 ∷ []
unfolding encode_utf8
one_space = refl

filled : (before after places : ℕ) (fill digits : List ℕ) → before ≡ places → after ≡ 0 →
    repeat before fill ++ [] ++ [] ++ [] ++ (digits ++ repeat after fill) ≡ repeat places fill
    ++ digits
filled before after places fill digits is none =
    rw (
      is,
      none,
      append-nil (repeat places fill),
      append-nil (repeat places fill),
      append-nil (repeat places fill),
      append-nil digits,
    ) refl

right_in_13 : (digits : List ℕ) → padded_integral (format_spec 32 3 0 13 (2 ^ 64 - 1)) false []
    digits ≡ right_aligned 13 digits
unfolding padded_integral char_count
right_in_13 digits =
    filled (13 - length digits - 0 - 0) (13 - length digits - 0 - 0 - (13 - length digits - 0 - 0))
    (13 - length digits) (encode_utf8 32) digits (omega arith) (omega arith)
    ∙ ap (λ fill. repeat (13 - length digits) fill ++ digits) one_space

pub styled_13 : (number : ℕ) → styled_decimal (format_spec 32 3 0 13 (2 ^ 64 - 1)) number
    ≡ right_aligned 13 (decimal number)
styled_13 number = right_in_13 (decimal number)

-- ---- names

-- a text with at most n octets is not cut
uncut : (n : ℕ) (text : List ℕ) → IsAscii text → length text ≤ n → take_chars n text ≡ text
unfolding take_chars
uncut n [] ascii fits = refl
uncut n (b ∷ text) ascii fits =
    ap (λ below. if (below || nat_le 192 b)
    then (if n == 0 then [] else b ∷ take_chars (n - 1) text) else b ∷ take_chars n text)
    (lt-ltb b 128 (ascii 0))
    ∙ ap (λ none. if none then [] else b ∷ take_chars (n - 1) text) (ne_eqb n 0 (omega arith))
    ∙ ap (λ rest. b ∷ rest) (uncut (n - 1) text (λ i. ascii (suc i)) (omega arith))

-- each octet of an ASCII text is a character
ascii_count : (text : List ℕ) → IsAscii text → char_count text ≡ length text
unfolding char_count
ascii_count [] ascii = refl
ascii_count (b ∷ text) ascii =
    ap (λ below. (if below || nat_le 192 b then 1 else 0) + char_count text)
    (lt-ltb b 128 (ascii 0))
    ∙ omega (arith, ascii_count text (λ i. ascii (suc i)))

pub left_in_14 : (name : List ℕ) → IsAscii name → length name < 2 ^ 64
    → styled_text (format_spec 32 1 0 14 (2 ^ 64 - 1)) name ≡ left_aligned 14 name
unfolding padded
left_in_14 name ascii fits =
    ap (λ text. text ++ repeat (14 - char_count text - 0) (encode_utf8 32))
    (uncut (2 ^ 64 - 1) name ascii (omega arith))
    ∙ ap (λ count. name ++ repeat (14 - count - 0) (encode_utf8 32)) (ascii_count name ascii)
    ∙ ap (λ count. name ++ repeat count (encode_utf8 32)) (no_less (14 - length name))
    ∙ ap (λ fill. name ++ repeat (14 - length name) fill) one_space
  where
    no_less : (count : ℕ) → count - 0 ≡ count
    no_less count = omega arith

-- whether all octets are ASCII
abbrev are_ascii : List ℕ → Bool
are_ascii [] = true
are_ascii (b ∷ text) = nat_lt b 128 && are_ascii text

ascii_from_test : (text : List ℕ) → are_ascii text ≡ true → IsAscii text
ascii_from_test [] is = IsAscii-nil
ascii_from_test (b ∷ text) is =
    let parts = and_parts _ _ is in
    IsAscii-cons b text (ltb-true b 128 parts.0) (ascii_from_test text parts.1)

-- whether all names are ASCII
abbrev have_ascii_names : List (List ℕ × ℕ) → Bool
have_ascii_names [] = true
have_ascii_names (row ∷ rows) = are_ascii row.0 && have_ascii_names rows

ascii_at : (rows : List (Bor (List ℕ) × ℕ)) (i : ℕ) (d : Bor (List ℕ) × ℕ)
    → have_ascii_names (map named_number rows) ≡ true → i < length rows
    → IsAscii (get_or rows i d).0.now
ascii_at [] i d is within = absurd (omega arith)
ascii_at (row ∷ rows) zero d is within = ascii_from_test row.0.now (and_parts _ _ is).0
ascii_at (row ∷ rows) (suc i) d is within = ascii_at rows i d (and_parts _ _ is).1 (omega arith)

pub names_are_ascii : (tally : Tally) (rows : List (Bor (List ℕ) × ℕ)) (i : ℕ) (d : Bor (List ℕ)
    × ℕ) → map named_number rows ≡ tally_numbers tally → i < 11 → IsAscii (get_or rows i d).0.now
names_are_ascii tally rows i d is within =
    let count : length rows ≡ 11 = sym (length-map rows named_number) ∙ ap length is in
    ascii_at rows i d (ap have_ascii_names is) (omega arith)
