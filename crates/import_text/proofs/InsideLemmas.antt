-- A BEGIN:VCARD inside a line, and words in octets of which a line has ended.
use Rattle.std.proofs.Common.{◌≡◌, ◌⊎◌, inl, inr, ℕ, suc, ◌+◌, ◌-◌, ◌<◌, ◌≤◌, List, [], ◌∷◌, ◌++◌}
use Rattle.std.proofs.Common.{Bool, true, false, ◌||◌, ◌&&◌, ◌==◌, refl, ap, sym, ◌∙◌, arith}
use Rattle.std.proofs.Common.{map, take, drop, length, subst}
use Rattle.std.specs.Str.{str_eq_ignore_ascii_case}
use Rattle.std.specs.Prelude.{nat_le, codes, Option, None, Some, option_map, if◌then◌else◌}
use Rattle.std.specs.List.{list_any}
use Rattle.std.specs.Char.{to_ascii_lowercase}
use Rattle.std.proofs.lemmas.Bool.{and_parts, cases_lt, eqb-true, false_from_ne_true}
use Rattle.std.proofs.lemmas.List.{take-append-drop, length-take}
use Rattle.std.proofs.lemmas.List.Folds.{list_any-append}
use Rattle.std.proofs.Math.Seq.{take-append-add}
use Rattle.std.proofs.lemmas.Slice.Eq.{bytes_eq-Decides}
use Rattle.base_types.specs.Octets.{line_feed}
use Rattle.import_text.specs.Pieces.{begin_inside, may_end_line}
use Rattle.import_text.specs.PieceLaws.{has_line_end}
use Rattle.import_text.specs.RawLines.{begins_with_word}
use Rattle.import_text.specs.internal.LineLens.{line_len}
use Rattle.import_text.specs.declared.pieces.Step.{Step}
use Rattle.import_text.specs.declared.pieces.Step.TheVariants.{Ends, GoesOn}
use Rattle.import_text.proofs.PieceLemmas.{feed_len, other_len}
use Rattle.import_text.proofs.WordLemmas.{front_same, too_short}

-- the first line, with its line feed
abbrev pub line_of : List ℕ → List ℕ
line_of octets = take (line_len octets) octets

abbrev pub begin : List ℕ
begin = codes "BEGIN:VCARD"

-- ---- words without a line feed

abbrev is_feed : ℕ → Bool
is_feed octet = octet == line_feed

-- no octet of the word is a line feed
abbrev pub HasNoFeed : List ℕ → Type 0
HasNoFeed word = list_any is_feed (map to_ascii_lowercase word) ≡ false

pub begin_no_feed : HasNoFeed begin
begin_no_feed = refl

lower_feed : (x : ℕ) → (x == line_feed) ≡ true → (to_ascii_lowercase x == line_feed) ≡ true
lower_feed x e = ap (λ y. to_ascii_lowercase y == line_feed) (eqb-true _ _ e)

none_of : (a b c d : Bool) → (a ≡ true → b ≡ true) → (d ≡ false → c ≡ false) → (b || d) ≡ false
    → (a || c) ≡ false
none_of true true c d p q e = cc
none_of true false c d p q e = let h = p refl in cc
none_of false true c d p q e = cc
none_of false false c d p q e = q e

feeds_lowered : (xs : List ℕ) → list_any is_feed (map to_ascii_lowercase xs) ≡ false
    → list_any is_feed xs ≡ false
feeds_lowered [] e = refl
feeds_lowered (x ∷ xs) e = none_of (x == line_feed) (to_ascii_lowercase x == line_feed)
    (list_any is_feed xs) (list_any is_feed (map to_ascii_lowercase xs)) (lower_feed x)
    (feeds_lowered xs) e

same_feeds : (xs ys : List ℕ) → xs ≡ ys → list_any is_feed xs ≡ list_any is_feed ys
same_feeds xs ys e = ap (list_any is_feed) e

-- a word without a line feed is found in octets without one
pub front_no_feed : (word zs : List ℕ) → HasNoFeed word → begins_with_word word zs ≡ true
    → list_any is_feed (take (length word) zs) ≡ false
front_no_feed word zs none e =
    let equal : str_eq_ignore_ascii_case (take (length word) zs) word ≡ true =
    (and_parts (nat_le (length word) (length zs)) (str_eq_ignore_ascii_case
    (take (length word) zs) word) e).1 in
    let same : map to_ascii_lowercase (take (length word) zs) ≡ map to_ascii_lowercase word =
    (bytes_eq-Decides _ _).0 equal in
    feeds_lowered (take (length word) zs) (same_feeds (map to_ascii_lowercase
    (take (length word) zs)) (map to_ascii_lowercase word) same ∙ none)

or_true : (a b : Bool) → a ≡ true → (a || b) ≡ true
or_true true b e = refl
or_true false b e = cc

feed_kept : (xs ys : List ℕ) → has_line_end xs ≡ true → has_line_end (xs ++ ys) ≡ true
feed_kept xs ys e = list_any-append is_feed xs ys ∙ or_true _ _ e

-- octets that follow change no word at the front once a line has ended
pub word_stays : (word xs ys : List ℕ) → HasNoFeed word → has_line_end xs ≡ true
    → begins_with_word word (xs ++ ys) ≡ begins_with_word word xs
word_stays word xs ys none e = by (cases_lt (length xs) (length word))
  where
    seen : length xs < length word → take (length word) (xs ++ ys) ≡ xs
        ++ take (length word - length xs) ys
    seen l =
        let more : length word ≡ length xs + (length word - length xs) = omega arith in
        ap (λ n. take n (xs ++ ys)) more ∙ take-append-add xs ys (length word - length xs)

    not_front : length xs < length word → begins_with_word word (xs ++ ys) ≡ true → ⊥
    not_front l f =
        let no = front_no_feed word (xs ++ ys) none f in
        let has : has_line_end (take (length word) (xs ++ ys)) ≡ true = ap has_line_end (seen l)
        ∙ feed_kept xs (take (length word - length xs) ys) e in
        cc

    by : (length xs < length word) ⊎ (length word ≤ length xs)
        → begins_with_word word (xs ++ ys) ≡ begins_with_word word xs
    by (inl l) = false_from_ne_true _ (not_front l) ∙ sym (too_short word xs l)
    by (inr l) = front_same word xs ys l

-- ---- the first line

pub line_feed_first : (octet : ℕ) (octets : List ℕ) → (octet == line_feed) ≡ true
    → line_of (octet ∷ octets) ≡ octet ∷ []
line_feed_first octet octets e = ap (λ n. take n (octet ∷ octets)) (feed_len octet octets e)

pub line_other_first : (octet : ℕ) (octets : List ℕ) → (octet == line_feed) ≡ false
    → line_of (octet ∷ octets) ≡ octet ∷ line_of octets
line_other_first octet octets e = ap (λ n. take n (octet ∷ octets)) (other_len octet octets e)

has_end_by : (x : ℕ) (xs : List ℕ) (b : Bool) → (x == line_feed) ≡ b
    → (has_line_end xs ≡ true → has_line_end (line_of xs) ≡ true)
    → has_line_end (x ∷ xs) ≡ true → has_line_end (line_of (x ∷ xs)) ≡ true
has_end_by x xs true is later e = ap has_line_end (line_feed_first x xs is) ∙ or_true _ _ is
has_end_by x xs false is later e = ap has_line_end (line_other_first x xs is)
    ∙ ap (λ b. b || has_line_end (line_of xs)) is
    ∙ later (sym (ap (λ b. b || has_line_end xs) is) ∙ e)

-- a line that ended has its line feed
pub line_has_end : (xs : List ℕ) → has_line_end xs ≡ true → has_line_end (line_of xs) ≡ true
line_has_end [] e = cc
line_has_end (x ∷ xs) e = has_end_by x xs (x == line_feed) refl (line_has_end xs) e

all_by : (x : ℕ) (xs : List ℕ) (b : Bool) → (x == line_feed) ≡ b
    → (has_line_end xs ≡ false → line_of xs ≡ xs) → has_line_end (x ∷ xs) ≡ false
    → line_of (x ∷ xs) ≡ x ∷ xs
all_by x xs true is later e = let h = sym (or_true _ (has_line_end xs) is) ∙ e in cc
all_by x xs false is later e = line_other_first x xs is
    ∙ ap (λ t. x ∷ t) (later (sym (ap (λ b. b || has_line_end xs) is) ∙ e))

-- octets without a line feed are one line
pub one_line : (xs : List ℕ) → has_line_end xs ≡ false → line_of xs ≡ xs
one_line [] e = refl
one_line (x ∷ xs) e = all_by x xs (x == line_feed) refl (one_line xs) e

word_by : (xs : List ℕ) (b : Bool) → has_line_end xs ≡ b
    → begins_with_word begin xs ≡ begins_with_word begin (line_of xs)
word_by xs true e = ap (begins_with_word begin) (sym (take-append-drop (line_len xs) xs))
    ∙ word_stays begin (line_of xs) (drop (line_len xs) xs) begin_no_feed (line_has_end xs e)
word_by xs false e = ap (begins_with_word begin) (sym (one_line xs e))

-- the word is at the front exactly if it is at the front of the first line
pub word_of_line : (xs : List ℕ)
    → begins_with_word begin xs ≡ begins_with_word begin (line_of xs)
word_of_line xs = word_by xs (has_line_end xs) refl

-- ---- a BEGIN:VCARD inside the line

-- so many octets more
abbrev pub after : ℕ → Option ℕ → Option ℕ
after count found = option_map (λ n. count + n) found

inside_step : (octet : ℕ) (octets : List ℕ) → begin_inside (octet ∷ octets)
    ≡ (if may_end_line octet && begins_with_word begin octets then Some 1
    else option_map suc (begin_inside octets))
unfolding begin_inside
inside_step octet octets = refl

pub nothing_inside : begin_inside [] ≡ None
unfolding begin_inside
nothing_inside = refl

feed_alone : begin_inside (line_feed ∷ []) ≡ None
unfolding begin_inside
feed_alone = refl

pub after_none : (count : ℕ) (found : Option ℕ) → found ≡ None → after count found ≡ None
after_none count found e = ap (after count) e

-- the line ends here
pub inside_ends : (count octet : ℕ) (octets : List ℕ) → (octet == line_feed) ≡ true
    → after count (begin_inside (line_of (octet ∷ octets))) ≡ None
inside_ends count octet octets e = after_none count _
    (ap begin_inside (line_feed_first octet octets e)
    ∙ ap (λ o. begin_inside (o ∷ [])) (eqb-true _ _ e) ∙ feed_alone)

-- what the test at an octet finds in the line
tested : (octet : ℕ) (octets : List ℕ) → (octet == line_feed) ≡ false
    → begin_inside (line_of (octet ∷ octets))
    ≡ (if may_end_line octet && begins_with_word begin octets then Some 1
    else option_map suc (begin_inside (line_of octets)))
tested octet octets e = ap begin_inside (line_other_first octet octets e)
    ∙ inside_step octet (line_of octets)
    ∙ ap (λ b. if may_end_line octet && b then Some 1
    else option_map suc (begin_inside (line_of octets))) (sym (word_of_line octets))

pub inside_here : (count octet : ℕ) (octets : List ℕ) → (octet == line_feed) ≡ false
    → (may_end_line octet && begins_with_word begin octets) ≡ true
    → after count (begin_inside (line_of (octet ∷ octets))) ≡ Some (count + 1)
inside_here count octet octets e here = ap (after count) (tested octet octets e
    ∙ ap (λ b. if b then Some 1 else option_map suc (begin_inside (line_of octets))) here)

after_suc : (count : ℕ) (found : Option ℕ) → after count (option_map suc found)
    ≡ after (count + 1) found
after_suc count None = refl
after_suc count (Some n) = ap Some (omega arith)

pub inside_later : (count octet : ℕ) (octets : List ℕ) → (octet == line_feed) ≡ false
    → (may_end_line octet && begins_with_word begin octets) ≡ false
    → after count (begin_inside (line_of (octet ∷ octets)))
    ≡ after (count + 1) (begin_inside (line_of octets))
inside_later count octet octets e not_here = ap (after count) (tested octet octets e
    ∙ ap (λ b. if b then Some 1 else option_map suc (begin_inside (line_of octets))) not_here)
    ∙ after_suc count (begin_inside (line_of octets))

-- the place is within the line, after its first octet
abbrev pub IsWithin : List ℕ → Option ℕ → Type 0
IsWithin octets None = Unit {0}
IsWithin octets (Some count) = (0 < count) × (count ≤ length octets)

within_suc : (octet : ℕ) (octets : List ℕ) (found : Option ℕ) → IsWithin octets found
    → IsWithin (octet ∷ octets) (option_map suc found)
within_suc octet octets None w = tt
within_suc octet octets (Some n) w = (omega arith, omega (arith, w.1))

within_by : (octet : ℕ) (octets : List ℕ) (b : Bool) (found : Option ℕ) → IsWithin octets found
    → IsWithin (octet ∷ octets) (if b then Some 1 else option_map suc found)
within_by octet octets true found w = (omega arith, omega arith)
within_by octet octets false found w = within_suc octet octets found w

pub inside_within : (octets : List ℕ) → IsWithin octets (begin_inside octets)
unfolding begin_inside
inside_within [] = tt
inside_within (octet ∷ octets) = within_by octet octets
    (may_end_line octet && begins_with_word begin octets) (begin_inside octets)
    (inside_within octets)

-- ---- tests of the code

pub is_end : (octet : ℕ) → octet ≡ 10 → (octet == line_feed) ≡ true
is_end octet e = ap (λ n. n == line_feed) e

pub is_no_end : (octet : ℕ) → (octet ≡ 10 → ⊥) → (octet == line_feed) ≡ false
is_no_end octet n = false_from_ne_true _ (λ t. n (eqb-true _ _ t))

pub both_true : (a b : Bool) → a ≡ true → b ≡ true → (a && b) ≡ true
both_true true b p q = q
both_true false b p q = cc

pub second_false : (a b : Bool) → b ≡ false → (a && b) ≡ false
second_false true b q = q
second_false false b q = refl

pub first_false : (a b : Bool) → a ≡ false → (a && b) ≡ false
first_false true b p = cc
first_false false b p = refl

-- the places of a piece's end
abbrev pub count_of : Step → ℕ
count_of (Ends count) = count
count_of (GoesOn next) = 0

-- where the line has a BEGIN:VCARD inside, its place is within the octets
pub place_within : (octets : List ℕ) (count : ℕ) → begin_inside (line_of octets) ≡ Some count
    → (0 < count) × (count ≤ length octets)
place_within octets count e =
    let within : IsWithin (line_of octets) (Some count) = subst (IsWithin (line_of octets)) e
    (inside_within (line_of octets)) in
    (within.0, grind (arith, within.1, length-take (line_len octets) octets))
