-- There is exactly one folding of a logical line: the one that is cut from left to right.
use Rattle.std.proofs.Common.{◌≡◌, ℕ, ◌+◌, ◌-◌, ◌<◌, ◌≤◌, ◌↔◌, Bool, true, false, cond, List, []}
use Rattle.std.proofs.Common.{◌∷◌, ◌++◌, length, map, nat_lt, chars, encode_utf8, append_assoc}
use Rattle.std.proofs.Common.{refl, sym, ap, subst, ◌∙◌, arith}
use Rattle.std.specs.List.{AllByRecursion, concat}
use Rattle.std.specs.Str.{encode_utf8_all}
use Rattle.std.specs.Char.{len_utf8}
use Rattle.std.proofs.lemmas.Bool.Decides.{nat_tests}
use Rattle.std.proofs.lemmas.List.{append-nil, length-append}
use Rattle.std.proofs.lemmas.Str.{length-encode, len_utf8_bounds}
use Rattle.vcard_lines.specs.FoldingSteps.{Pieces, make_pieces, prepend, prepend_empty, cut_pieces}
use Rattle.vcard_lines.specs.Folding.{FitsPhysicalLine, continuation_line, encode_physical}
use Rattle.vcard_lines.specs.Folding.{NextWouldNotFit, IsFolding, physical_lines}

abbrev cut_by : Bool → ℕ → ℕ → List ℕ → Pieces
cut_by next room c cs = cond next (prepend_empty (prepend c (cut_pieces (74 - len_utf8 c) cs)))
    (prepend c (cut_pieces (room - len_utf8 c) cs))

pub cut_next : (room c : ℕ) (cs : List ℕ) → nat_lt room (len_utf8 c) ≡ true
    → cut_pieces room (c ∷ cs) ≡ prepend_empty (prepend c (cut_pieces (74 - len_utf8 c) cs))
unfolding cut_pieces
cut_next room c cs e = ap (λ b. cut_by b room c cs) e

pub cut_fit : (room c : ℕ) (cs : List ℕ) → nat_lt room (len_utf8 c) ≡ false
    → cut_pieces room (c ∷ cs) ≡ prepend c (cut_pieces (room - len_utf8 c) cs)
unfolding cut_pieces
cut_fit room c cs e = ap (λ b. cut_by b room c cs) e

pub cut_none : (room : ℕ) → cut_pieces room [] ≡ make_pieces [] []
unfolding cut_pieces
cut_none room = refl

-- ---- what is cut is a folding

abbrev AllFit : List (List ℕ) → Type 0
AllFit further = AllByRecursion FitsPhysicalLine (map continuation_line further)

-- if this many octets still fit into the physical line
record IsCutFrom (room : ℕ) (cs : List ℕ) (pieces : Pieces) : Type 0 where
  whole : cs ≡ pieces.first ++ concat pieces.further
  first_fits : length (encode_utf8_all pieces.first) ≤ room
  fit : AllFit pieces.further
  full : (front : List ℕ) → length front + room ≡ 75
      → NextWouldNotFit (front ++ encode_utf8_all pieces.first) pieces.further

fits_if : (room c : ℕ) → nat_lt room (len_utf8 c) ≡ false → len_utf8 c ≤ room
fits_if room c e = grind (arith, nat_tests)

not_fits_if : (room c : ℕ) → nat_lt room (len_utf8 c) ≡ true → room < len_utf8 c
not_fits_if room c e = grind (arith, nat_tests)

cut_is : (cs : List ℕ) (room : ℕ) → IsCutFrom room cs (cut_pieces room cs)
cut_is [] room = subst (IsCutFrom room []) (sym (cut_none room)) (record {
  whole = refl;
  first_fits = omega arith;
  fit = tt;
  full = λ front e. tt;
})
cut_is (c ∷ cs) room =
    elim (nat_lt room (len_utf8 c)) as (λ t. nat_lt room (len_utf8 c) ≡ t
    → IsCutFrom room (c ∷ cs) (cut_pieces room (c ∷ cs))) [
      | true ↦ λ e.
          let next = cut_is cs (74 - len_utf8 c) in
          let p = cut_pieces (74 - len_utf8 c) cs in
          subst (IsCutFrom room (c ∷ cs)) (sym (cut_next room c cs e)) (record {
            whole = ap (λ t. c ∷ t) next.whole;
            first_fits = omega arith;
            fit = (
              omega (
                arith,
                next.first_fits,
                length-append (encode_utf8 c) (encode_utf8_all p.first),
                length-encode c,
                len_utf8_bounds c,
              ),
              next.fit,
            );
            full = λ front l. (
              omega (arith, l, not_fits_if room c e, length-encode c, ap length (append-nil front)),
              next.full (32 ∷ encode_utf8 c) (omega (arith, length-encode c, len_utf8_bounds c)),
            );
          })
      | false ↦ λ e.
          let next = cut_is cs (room - len_utf8 c) in
          let p = cut_pieces (room - len_utf8 c) cs in
          let f = fits_if room c e in
          subst (IsCutFrom room (c ∷ cs)) (sym (cut_fit room c cs e)) (record {
            whole = ap (λ t. c ∷ t) next.whole;
            first_fits = omega (
              arith,
              f,
              next.first_fits,
              length-append (encode_utf8 c) (encode_utf8_all p.first),
              length-encode c,
            );
            fit = next.fit;
            full = λ front l. subst (λ o. NextWouldNotFit o p.further)
                (append_assoc front (encode_utf8 c) (encode_utf8_all p.first))
                (next.full (front ++ encode_utf8 c) (omega (
                  arith,
                  f,
                  l,
                  length-append front (encode_utf8 c),
                  length-encode c,
                )));
          })
    ] refl

pub is_folding : (line : List ℕ) → IsFolding line (physical_lines line)
is_folding line =
    let c = cut_is (chars line) 75 in
    record {
      first = (cut_pieces 75 (chars line)).first;
      further = (cut_pieces 75 (chars line)).further;
      whole = c.whole;
      physical_are = refl;
      fit = (c.first_fits, c.fit);
      full = c.full [] (omega arith);
    }

-- ---- each folding is what is cut

abbrev IsCutAs : List ℕ → List (List ℕ) → Type 0
IsCutAs first further = (front : List ℕ) (room : ℕ) → length front + room ≡ 75
    → length (front ++ encode_utf8_all first) ≤ 75 → AllFit further
    → NextWouldNotFit (front ++ encode_utf8_all first) further
    → cut_pieces room (first ++ concat further) ≡ make_pieces first further

by_first : (further : List (List ℕ)) → IsCutAs [] further → (first : List ℕ) → IsCutAs first further
by_first further none [] = none
by_first further none (c ∷ cs) = λ front room l m fit full.
    let whole = length-append front (encode_utf8 c ++ encode_utf8_all cs) in
    let part = length-append (encode_utf8 c) (encode_utf8_all cs) in
    let fits : nat_lt room (len_utf8 c) ≡ false =
    grind (arith, nat_tests, l, m, whole, part, length-encode c) in
    let same = append_assoc front (encode_utf8 c) (encode_utf8_all cs) in
    cut_fit room c (cs ++ concat further) fits
    ∙ ap (prepend c) (by_first further none cs (front ++ encode_utf8 c) (room - len_utf8 c)
    (omega (arith, l, m, whole, part, length-encode c, length-append front (encode_utf8 c)))
    (omega (arith, m, ap length same)) fit (subst (λ o. NextWouldNotFit o further) (sym same) full))

cut_as : (further : List (List ℕ)) (first : List ℕ) → IsCutAs first further
cut_as [] first = by_first [] (λ front room l m fit full. cut_none room) first
cut_as ([] ∷ further) first = by_first ([] ∷ further) (λ front room l m fit full. absurd full) first
cut_as ((c ∷ cs) ∷ further) first = by_first ((c ∷ cs) ∷ further) (λ front room l m fit full.
    let next : nat_lt room (len_utf8 c) ≡ true =
    grind (arith, nat_tests, l, full.0, ap length (append-nil front), length-encode c) in
    cut_next room c (cs ++ concat further) next
    ∙ ap (λ p. prepend_empty (prepend c p)) (cut_as further cs (32 ∷ encode_utf8 c)
    (74 - len_utf8 c) (omega (arith, length-encode c, len_utf8_bounds c)) fit.0 fit.1 full.1))
    first

pub one_folding : (line : List ℕ) (physical : List (List ℕ)) → IsFolding line physical
    → physical ≡ physical_lines line
one_folding line physical f =
    let fit = subst (AllByRecursion FitsPhysicalLine) f.physical_are f.fit in
    f.physical_are ∙ ap (λ p. encode_physical p.first p.further) (sym (ap (cut_pieces 75) f.whole
    ∙ cut_as f.further f.first [] 75 refl fit.0 fit.1 f.full))

pub folding_is_one : (line : List ℕ) (physical : List (List ℕ))
    → IsFolding line physical ↔ (physical ≡ physical_lines line)
folding_is_one line physical = (
  one_folding line physical,
  λ e. subst (IsFolding line) (sym e) (is_folding line),
)
