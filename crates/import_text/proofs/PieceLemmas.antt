-- The physical lines of a file, one after another.
use Rattle.std.proofs.Common.{◌≡◌, ◌==◌, ◌<◌, ◌≤◌, ◌+◌, ◌∷◌, [], ℕ, suc, Bool, true, false, List}
use Rattle.std.proofs.Common.{length, take, drop, not, cond, refl, sym, ap, ◌∙◌, arith}
use Rattle.std.proofs.lemmas.List.Sums.{take_while-cons}
use Rattle.std.proofs.lemmas.List.{length-take-le, length-drop, drop-drop, drop_all}
use Rattle.base_types.specs.Octets.{line_feed}
use Rattle.import_text.specs.Pieces.{first_line, whole_lines, put_octet, step_in, octets_after}
use Rattle.import_text.specs.Pieces.{piece_len}
use Rattle.import_text.specs.internal.LineLens.{line_len}
use Rattle.import_text.specs.declared.pieces.Nesting.{Nesting}
use Rattle.import_text.specs.declared.pieces.Step.{Step}
use Rattle.import_text.specs.declared.pieces.Step.TheVariants.{Ends, GoesOn}

-- the first line and those after it
abbrev Split : List ℕ → Type 0
Split octets = whole_lines octets ≡ take (line_len octets) octets ∷ whole_lines
    (drop (line_len octets) octets)

put_feed : (octet : ℕ) (lines : List (List ℕ)) → (octet == line_feed) ≡ true
    → put_octet octet lines ≡ (octet ∷ []) ∷ lines
put_feed octet [] e = refl
put_feed octet (line ∷ lines) e = ap (λ t. cond t ((octet ∷ []) ∷ line ∷ lines)
    ((octet ∷ line) ∷ lines)) e

put_other : (octet : ℕ) (line : List ℕ) (lines : List (List ℕ)) → (octet == line_feed) ≡ false
    → put_octet octet (line ∷ lines) ≡ (octet ∷ line) ∷ lines
put_other octet line lines e = ap (λ t. cond t ((octet ∷ []) ∷ line ∷ lines)
    ((octet ∷ line) ∷ lines)) e

first_feed : (octet : ℕ) (octets : List ℕ) → (octet == line_feed) ≡ true
    → first_line (octet ∷ octets) ≡ []
first_feed octet octets e = take_while-cons (λ o. not (o == line_feed)) octet octets
    ∙ ap (λ t. cond (not t) (octet ∷ first_line octets) []) e

first_other : (octet : ℕ) (octets : List ℕ) → (octet == line_feed) ≡ false
    → first_line (octet ∷ octets) ≡ octet ∷ first_line octets
first_other octet octets e = take_while-cons (λ o. not (o == line_feed)) octet octets
    ∙ ap (λ t. cond (not t) (octet ∷ first_line octets) []) e

pub feed_len : (octet : ℕ) (octets : List ℕ) → (octet == line_feed) ≡ true
    → line_len (octet ∷ octets) ≡ 1
feed_len octet octets e = let f = ap length (first_feed octet octets e) in omega (arith, f)

pub other_len : (octet : ℕ) (octets : List ℕ) → (octet == line_feed) ≡ false
    → line_len (octet ∷ octets) ≡ suc (line_len octets)
other_len octet octets e = let f = ap length (first_other octet octets e) in omega (arith, f)

split_at : (n m : ℕ) (octets : List ℕ) → n ≡ m → take n octets ∷ whole_lines (drop n octets)
    ≡ take m octets ∷ whole_lines (drop m octets)
split_at n m octets e = ap (λ k. take k octets ∷ whole_lines (drop k octets)) e

lines_after : (octet : ℕ) (octets : List ℕ) → whole_lines (octet ∷ octets)
    ≡ put_octet octet (whole_lines octets)
unfolding whole_lines
lines_after octet octets = refl

one_line : (octet : ℕ) → whole_lines (octet ∷ []) ≡ (octet ∷ []) ∷ whole_lines []
unfolding whole_lines
one_line octet = refl

split_here : (octet : ℕ) (octets : List ℕ) (b : Bool) → (octet == line_feed) ≡ b
    → (0 < length octets → Split octets) → Split (octet ∷ octets)
split_here octet octets true e split = lines_after octet octets
    ∙ put_feed octet (whole_lines octets) e
    ∙ split_at 1 (line_len (octet ∷ octets)) (octet ∷ octets) (sym (feed_len octet octets e))
split_here octet [] false e split = one_line octet ∙ split_at 1 (line_len (octet ∷ [])) (octet ∷ [])
    (sym (other_len octet [] e))
split_here octet (second ∷ octets) false e split =
    lines_after octet (second ∷ octets)
    ∙ ap (put_octet octet) (split (omega arith))
    ∙ put_other octet (take (line_len (second ∷ octets)) (second ∷ octets))
    (whole_lines (drop (line_len (second ∷ octets)) (second ∷ octets))) e
    ∙ split_at (suc (line_len (second ∷ octets))) (line_len (octet ∷ second ∷ octets))
    (octet ∷ second ∷ octets) (sym (other_len octet (second ∷ octets) e))

pub lines_split : (octets : List ℕ) → 0 < length octets → Split octets
lines_split [] l = absurd (omega arith)
lines_split (octet ∷ octets) l = split_here octet octets (octet == line_feed) refl
    (lines_split octets)

piece_after : (inside : Bool) (nesting : Nesting) (line : List ℕ) (lines : List (List ℕ))
    → piece_len inside nesting (line ∷ lines) ≡ octets_after (step_in inside nesting line) line
    (λ next. piece_len inside next lines)
unfolding piece_len
piece_after inside nesting line lines = refl

pub no_lines : (inside : Bool) (nesting : Nesting) → piece_len inside nesting (whole_lines []) ≡ 0
unfolding piece_len whole_lines
no_lines inside nesting = refl

piece_from : (inside : Bool) (nesting : Nesting) (octets : List ℕ) (len : ℕ) (step : Step) → 0 < length octets
    → len ≡ line_len octets → step ≡ step_in inside nesting (take len octets)
    → piece_len inside nesting (whole_lines octets) ≡ octets_after step (take len octets)
    (λ next. piece_len inside next (whole_lines (drop len octets)))
piece_from inside nesting octets len step l e is =
    ap (piece_len inside nesting) (lines_split octets l ∙ split_at (line_len octets) len octets (sym e))
    ∙ piece_after inside nesting (take len octets) (whole_lines (drop len octets))
    ∙ ap (λ s. octets_after s (take len octets)
    (λ next. piece_len inside next (whole_lines (drop len octets)))) (sym is)

-- the piece ends in the first line of these octets
pub piece_ends : (inside : Bool) (nesting : Nesting) (octets : List ℕ) (len : ℕ) (step : Step) (count : ℕ)
    → 0 < length octets → len ≡ line_len octets → step ≡ step_in inside nesting (take len octets)
    → step ≡ Ends count → piece_len inside nesting (whole_lines octets) ≡ count
piece_ends inside nesting octets len step count l e is ends =
    piece_from inside nesting octets len step l e is
    ∙ ap (λ s. octets_after s (take len octets)
    (λ next. piece_len inside next (whole_lines (drop len octets)))) ends

-- the piece goes on after the first line of these octets
pub piece_goes_on : (inside : Bool) (nesting : Nesting) (octets : List ℕ) (len : ℕ) (step : Step) (next : Nesting)
    → 0 < length octets → len ≡ line_len octets → step ≡ step_in inside nesting (take len octets)
    → step ≡ GoesOn next → piece_len inside nesting (whole_lines octets) ≡ len + piece_len inside next
    (whole_lines (drop len octets))
piece_goes_on inside nesting octets len step next l e is goes =
    piece_from inside nesting octets len step l e is
    ∙ ap (λ s. octets_after s (take len octets)
    (λ next. piece_len inside next (whole_lines (drop len octets)))) goes
    ∙ ap (λ n. n + piece_len inside next (whole_lines (drop len octets)))
    (length-take-le len octets (omega (arith, e)))

-- the same, in the octets of a file of which some were passed
pub ends_at : (inside : Bool) (nesting : Nesting) (octets rest : List ℕ) (whole end len : ℕ) (step : Step) (count :
    ℕ) → end < length octets → rest ≡ drop end octets → len ≡ line_len rest
    → step ≡ step_in inside nesting (take len rest) → step ≡ Ends count
    → whole ≡ end + piece_len inside nesting (whole_lines (drop end octets)) → end + count ≡ whole
ends_at inside nesting octets rest whole end len step count l is_rest e is ends all =
    sym (all ∙ ap (λ octets. end + piece_len inside nesting (whole_lines octets)) (sym is_rest)
    ∙ ap (λ n. end + n) (piece_ends inside nesting rest len step count
    (omega (arith, length-drop end octets, ap length is_rest)) e is ends))

pub goes_on_at : (inside : Bool) (nesting : Nesting) (octets rest : List ℕ) (whole end len : ℕ) (step : Step)
    (next : Nesting) → end < length octets → rest ≡ drop end octets → len ≡ line_len rest
    → step ≡ step_in inside nesting (take len rest) → step ≡ GoesOn next
    → whole ≡ end + piece_len inside nesting (whole_lines (drop end octets))
    → whole ≡ end + len + piece_len inside next (whole_lines (drop (end + len) octets))
goes_on_at inside nesting octets rest whole end len step next l is_rest e is goes all =
    all
    ∙ ap (λ octets. end + piece_len inside nesting (whole_lines octets)) (sym is_rest)
    ∙ ap (λ n. end + n) (piece_goes_on inside nesting rest len step next
    (omega (arith, length-drop end octets, ap length is_rest)) e is goes)
    ∙ add_assoc end len (piece_len inside next (whole_lines (drop len rest)))
    ∙ ap (λ octets. end + len + piece_len inside next (whole_lines octets)) (ap (drop len) is_rest
    ∙ drop-drop len end octets)
  where
    add_assoc : (a b n : ℕ) → a + (b + n) ≡ a + b + n
    add_assoc a b n = omega arith

pub all_passed : (inside : Bool) (nesting : Nesting) (octets : List ℕ) (whole end : ℕ) → length octets ≤ end
    → whole ≡ end + piece_len inside nesting (whole_lines (drop end octets)) → end ≡ whole
all_passed inside nesting octets whole end l all =
    let none : piece_len inside nesting (whole_lines (drop end octets)) ≡ 0 =
    ap (λ octets. piece_len inside nesting (whole_lines octets)) (drop_all end octets l)
    ∙ no_lines inside nesting in
    omega (arith, all, none)
