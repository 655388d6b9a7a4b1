-- The first piece of a text stays, whatever comes after it, once a line after it has ended.
use Rattle.std.proofs.Common.{◌≡◌, ◌⊎◌, inl, inr, ℕ, zero, suc, ◌+◌, ◌<◌, ◌≤◌, List, [], ◌∷◌, ◌++◌}
use Rattle.std.proofs.Common.{Bool, true, false, not, ◌||◌, ◌&&◌, ◌==◌, cond, refl, ap, sym, ◌∙◌}
use Rattle.std.proofs.Common.{arith, take, drop, length, length-append}
use Rattle.std.specs.List.{list_all}
use Rattle.std.proofs.lemmas.Bool.{cases_lt}
use Rattle.std.proofs.lemmas.List.{take_all, take-append-drop, take-append-le, drop-append-le}
use Rattle.std.proofs.lemmas.List.{drop-drop, drop_all, length-drop, length-take-le}
use Rattle.std.proofs.lemmas.List.Folds.{list_any-append}
use Rattle.std.proofs.lemmas.List.Sums.{take_while-cons}
use Rattle.base_types.specs.Octets.{line_feed}
use Rattle.import_text.specs.Pieces.{first_line, is_card, is_white}
use Rattle.import_text.specs.Pieces.{outside, piece_len, step_in, whole_lines}
use Rattle.import_text.specs.Pieces.{without_mark}
use Rattle.import_text.specs.PieceLaws.{PiecesStay, has_line_end}
use Rattle.import_text.specs.RawLines.{begins_with_word}
use Rattle.import_text.specs.internal.LineLens.{line_len}
use Rattle.import_text.specs.declared.pieces.Nesting.{Nesting}
use Rattle.import_text.specs.declared.pieces.Step.{Step}
use Rattle.import_text.specs.declared.pieces.Step.TheVariants.{Ends, GoesOn}
use Rattle.import_text.proofs.InsideLemmas.{begin, begin_no_feed, front_no_feed, word_stays}
use Rattle.import_text.proofs.PieceLemmas.{piece_ends, piece_goes_on}

-- ---- octets in which a line has ended

stays_step : (is any : Bool) (x : ℕ) (longer shorter : List ℕ) → (is || any) ≡ true
    → (any ≡ true → longer ≡ shorter) → cond (not is) (x ∷ longer) [] ≡ cond (not is) (x ∷ shorter)
    []
stays_step true any x longer shorter e same = refl
stays_step false any x longer shorter e same = ap (λ t. x ∷ t) (same e)

line_stays : (xs ys : List ℕ) → has_line_end xs ≡ true → first_line (xs ++ ys) ≡ first_line xs
line_stays [] ys e = cc
line_stays (x ∷ xs) ys e = take_while-cons (λ o. not (o == line_feed)) x (xs ++ ys)
    ∙ stays_step (x == line_feed) (has_line_end xs) x (first_line (xs ++ ys)) (first_line xs) e
    (line_stays xs ys)
    ∙ sym (take_while-cons (λ o. not (o == line_feed)) x xs)

shorter_step : (is any : Bool) (x : ℕ) (line xs : List ℕ) → (is || any) ≡ true
    → (any ≡ true → length line < length xs) → length (cond (not is) (x ∷ line) []) < suc (length xs)
shorter_step true any x line xs e less = omega arith
shorter_step false any x line xs e less = let l = less e in omega (arith, l)

line_shorter : (xs : List ℕ) → has_line_end xs ≡ true → length (first_line xs) < length xs
line_shorter [] e = cc
line_shorter (x ∷ xs) e = rw (take_while-cons (λ o. not (o == line_feed)) x xs)
    (shorter_step (x == line_feed) (has_line_end xs) x (first_line xs) xs e (line_shorter xs))

len_stays : (xs ys : List ℕ) → has_line_end xs ≡ true → line_len (xs ++ ys) ≡ line_len xs
len_stays xs ys e =
    let same = ap length (line_stays xs ys e) in
    let less = line_shorter xs e in
    let more = length-append xs ys in
    grind (arith, same, less, more)

len_within : (xs : List ℕ) → line_len xs ≤ length xs
len_within xs = grind arith

or_later : (a b : Bool) → a ≡ false → (a || b) ≡ true → b ≡ true
or_later true b n e = cc
or_later false b n e = e

-- the line feed is behind octets that have none
end_later : (n : ℕ) (xs : List ℕ) → has_line_end xs ≡ true → has_line_end (take n xs) ≡ false
    → has_line_end (drop n xs) ≡ true
end_later n xs e none = or_later (has_line_end (take n xs)) (has_line_end (drop n xs)) none
    (sym (list_any-append (λ octet. octet == line_feed) (take n xs) (drop n xs))
    ∙ ap has_line_end (take-append-drop n xs) ∙ e)

or_second : (a b : Bool) → b ≡ true → (a || b) ≡ true
or_second true b e = refl
or_second false b e = e

end_before : (n : ℕ) (xs : List ℕ) → has_line_end (drop n xs) ≡ true → has_line_end xs ≡ true
end_before n xs e = ap has_line_end (sym (take-append-drop n xs))
    ∙ list_any-append (λ octet. octet == line_feed) (take n xs) (drop n xs) ∙ or_second _ _ e

not_empty : (xs : List ℕ) → has_line_end xs ≡ true → 0 < length xs
not_empty [] e = cc
not_empty (x ∷ xs) e = omega arith

-- ---- the test for a card

abbrev mark : List ℕ
mark = 239 ∷ 187 ∷ 191 ∷ []

within_words : (n : ℕ) (xs : List ℕ) → has_line_end (drop n xs) ≡ true → n ≤ length xs
within_words n xs e = by (cases_lt (length xs) n)
  where
    by : (length xs < n) ⊎ (n ≤ length xs) → n ≤ length xs
    by (inl l) = let none = ap has_line_end (drop_all n xs (omega arith)) in cc
    by (inr l) = l

mark_by : (xs ys : List ℕ) (b : Bool) → begins_with_word mark xs ≡ b → has_line_end xs ≡ true
    → (without_mark (xs ++ ys) ≡ without_mark xs ++ ys) × (has_line_end (without_mark xs) ≡ true)
mark_by xs ys true is e =
    let later : has_line_end (drop 3 xs) ≡ true = end_later 3 xs e (front_no_feed mark xs refl is) in
    let longer : begins_with_word mark (xs ++ ys) ≡ true = word_stays mark xs ys refl e ∙ is in
    rw (longer, is) (drop-append-le 3 xs ys (within_words 3 xs later), later)
mark_by xs ys false is e =
    let longer : begins_with_word mark (xs ++ ys) ≡ false = word_stays mark xs ys refl e ∙ is in
    rw (longer, is) (refl, e)

white_by : (text ys : List ℕ) (b : Bool) → begins_with_word begin text ≡ b
    → has_line_end text ≡ true
    → (b && list_all is_white (first_line (drop 11 (text ++ ys))))
    ≡ (b && list_all is_white (first_line (drop 11 text)))
white_by text ys true is e =
    let later : has_line_end (drop 11 text) ≡ true =
    end_later 11 text e (front_no_feed begin text begin_no_feed is) in
    ap (λ octets. list_all is_white (first_line octets))
    (drop-append-le 11 text ys (within_words 11 text later))
    ∙ ap (list_all is_white) (line_stays (drop 11 text) ys later)
white_by text ys false is e = refl

text_stays : (text ys : List ℕ) → has_line_end text ≡ true
    → (begins_with_word begin (text ++ ys) && list_all is_white (first_line (drop 11 (text ++ ys))))
    ≡ (begins_with_word begin text && list_all is_white (first_line (drop 11 text)))
text_stays text ys e =
    ap (λ b. b && list_all is_white (first_line (drop 11 (text ++ ys))))
    (word_stays begin text ys begin_no_feed e)
    ∙ white_by text ys (begins_with_word begin text) refl e

card_stays : (xs ys : List ℕ) → has_line_end xs ≡ true → is_card (xs ++ ys) ≡ is_card xs
card_stays xs ys e =
    let marked = mark_by xs ys (begins_with_word mark xs) refl e in
    ap (λ text. begins_with_word begin text && list_all is_white (first_line (drop 11 text)))
    marked.0 ∙ text_stays (without_mark xs) ys marked.1

-- ---- the length of the piece

-- what the first line is, and what comes after it
same_line : (xs ys : List ℕ) → has_line_end xs ≡ true
    → (take (line_len xs) (xs ++ ys) ≡ take (line_len xs) xs)
    × (drop (line_len xs) (xs ++ ys) ≡ drop (line_len xs) xs ++ ys)
same_line xs ys e = (
  take-append-le (line_len xs) xs ys (len_within xs),
  drop-append-le (line_len xs) xs ys (len_within xs),
)

abbrev Stays : Bool → Nesting → List ℕ → List ℕ → Type 0
Stays inside nesting xs ys =
    has_line_end (drop (piece_len inside nesting (whole_lines xs)) xs) ≡ true
    → piece_len inside nesting (whole_lines (xs ++ ys)) ≡ piece_len inside nesting (whole_lines xs)

longer_by : (inside : Bool) (nesting : Nesting) (xs ys : List ℕ) (step : Step)
    → step ≡ step_in inside nesting (take (line_len xs) xs) → has_line_end xs ≡ true
    → ((next : Nesting) → Stays inside next (drop (line_len xs) xs) ys)
    → Stays inside nesting xs ys
longer_by inside nesting xs ys (Ends count) is e later h =
    let line = same_line xs ys e in
    piece_ends inside nesting (xs ++ ys) (line_len xs) (Ends count) count
    (not_empty (xs ++ ys) end_kept) (sym (len_stays xs ys e))
    (is ∙ ap (step_in inside nesting) (sym line.0)) refl
    ∙ sym (piece_ends inside nesting xs (line_len xs) (Ends count) count (not_empty xs e) refl is
    refl)
  where
    or_first : (a b : Bool) → a ≡ true → (a || b) ≡ true
    or_first true b e = refl
    or_first false b e = cc

    end_kept : has_line_end (xs ++ ys) ≡ true
    end_kept = list_any-append (λ octet. octet == line_feed) xs ys ∙ or_first _ _ e
longer_by inside nesting xs ys (GoesOn next) is e later h =
    let line = same_line xs ys e in
    let old = piece_goes_on inside nesting xs (line_len xs) (GoesOn next) next (not_empty xs e) refl
    is refl in
    let rest : has_line_end (drop (piece_len inside next (whole_lines (drop (line_len xs) xs)))
    (drop (line_len xs) xs)) ≡ true =
    ap has_line_end (drop-drop (piece_len inside next (whole_lines (drop (line_len xs) xs)))
    (line_len xs) xs ∙ ap (λ n. drop n xs) (sym old)) ∙ h in
    piece_goes_on inside nesting (xs ++ ys) (line_len xs) (GoesOn next) next
    (not_empty (xs ++ ys) end_kept) (sym (len_stays xs ys e))
    (is ∙ ap (step_in inside nesting) (sym line.0)) refl
    ∙ ap (λ octets. line_len xs + piece_len inside next (whole_lines octets)) line.1
    ∙ ap (λ n. line_len xs + n) (later next rest)
    ∙ sym old
  where
    or_first : (a b : Bool) → a ≡ true → (a || b) ≡ true
    or_first true b e = refl
    or_first false b e = cc

    end_kept : has_line_end (xs ++ ys) ≡ true
    end_kept = list_any-append (λ octet. octet == line_feed) xs ys ∙ or_first _ _ e

-- by the number of octets
len_by : (fuel : ℕ) (inside : Bool) (nesting : Nesting) (xs ys : List ℕ) → length xs ≤ fuel
    → Stays inside nesting xs ys
len_by zero inside nesting xs ys l h =
    let some = not_empty xs (end_before _ xs h) in absurd (omega (arith, some))
len_by (suc fuel) inside nesting xs ys l h =
    let e = end_before _ xs h in
    let some = not_empty xs e in
    let shorter : length (drop (line_len xs) xs) ≤ fuel =
    grind (arith, length-drop (line_len xs) xs, some) in
    longer_by inside nesting xs ys (step_in inside nesting (take (line_len xs) xs)) refl e
    (λ next. len_by fuel inside next (drop (line_len xs) xs) ys shorter) h

-- ---- the law

pub pieces_stay : PiecesStay
pieces_stay xs ys h =
    let e = end_before _ xs h in
    let card = card_stays xs ys e in
    let inside = not (is_card xs) in
    let len = piece_len inside outside (whole_lines xs) in
    let within : len ≤ length xs = by len (cases_lt (length xs) len) h in
    let rest : has_line_end (drop len xs) ≡ true =
    ap (λ n. has_line_end (drop n xs)) (sym (length-take-le len xs within)) ∙ h in
    ap (λ b. take (piece_len (not b) outside (whole_lines (xs ++ ys))) (xs ++ ys)) card
    ∙ ap (λ n. take n (xs ++ ys)) (len_by (length xs) inside outside xs ys (omega arith) rest)
    ∙ take-append-le len xs ys within
  where
    by : (len : ℕ) → (length xs < len) ⊎ (len ≤ length xs)
        → has_line_end (drop (length (take len xs)) xs) ≡ true → len ≤ length xs
    by len (inl l) g =
        let all = take_all len xs (omega arith) in
        let none : has_line_end (drop (length (take len xs)) xs) ≡ false =
        ap (λ zs. has_line_end (drop (length zs) xs)) all
        ∙ ap has_line_end (drop_all (length xs) xs (omega arith)) in
        cc
    by len (inr l) g = l
