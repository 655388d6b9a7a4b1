-- Counting folded lines: what a text that fits, an ASCII text and any text add to a count.
use Rattle.std.proofs.Common.{◌≡◌, ℕ, zero, suc, ◌+◌, ◌-◌, ◌*◌, ◌<◌, ◌≤◌, true, false, List, []}
use Rattle.std.proofs.Common.{◌∷◌, ◌++◌, length, fold, nat_lt, chars, encode_utf8, IsUtf8}
use Rattle.std.proofs.Common.{append_assoc, refl, sym, ap, subst, ◌∙◌, arith}
use Rattle.std.specs.Str.{IsAscii, encode_utf8_all}
use Rattle.std.specs.Char.{len_utf8}
use Rattle.std.proofs.lemmas.Bool.Decides.{nat_tests}
use Rattle.std.proofs.lemmas.List.{append-nil, length-append}
use Rattle.std.proofs.lemmas.List.Sums.{fold-append}
use Rattle.std.proofs.lemmas.Str.{IsUtf8-nil, IsUtf8-append, chars-append, chars-nil, encodes-chars}
use Rattle.std.proofs.lemmas.Str.{length-encode, len_utf8_ascii, len_utf8_bounds}
use Rattle.vcard_lines.specs.declared.folded_count.FoldedCount.{FoldedCount}
use Rattle.vcard_lines.specs.internal.FoldingLoop.{FoldState, fold_state, fold_char, fold_line}
use Rattle.vcard_lines.specs.internal.FoldingLoop.{append_folded, IsCount, CountsChars, IsLineCount}
use Rattle.vcard_lines.specs.internal.FoldingLoop.{CountsLineText}
use Rattle.vcard_lines.proofs.FoldingLoopLemmas.{fold_by, fold-front, folded_is}
use Rattle.vcard_lines.specs.Folding.{folded_text}

step_fit : (part : FoldState) (c : ℕ) → len_utf8 c ≤ part.room
    → fold_char part c ≡ fold_state (part.octets ++ encode_utf8 c) (part.room - len_utf8 c)
step_fit part c l =
    let e : nat_lt part.room (len_utf8 c) ≡ false = grind (arith, nat_tests, l) in
    ap (λ b. fold_by b part.octets part.room c) e

step_next : (part : FoldState) (c : ℕ) → part.room < len_utf8 c
    → fold_char part c ≡ fold_state (part.octets ++ 13 ∷ 10 ∷ 32 ∷ encode_utf8 c) (74 - len_utf8 c)
step_next part c l =
    let e : nat_lt part.room (len_utf8 c) ≡ true = grind (arith, nat_tests, l) in
    ap (λ b. fold_by b part.octets part.room c) e

-- ---- a text that fits

pub record IsAdded (part next : FoldState) (octets : ℕ) : Type 0 where
  pub octets_are : length next.octets ≡ length part.octets + octets
  pub room_is : next.room + octets ≡ part.room

pub fits : (cs : List ℕ) (part : FoldState) → length (encode_utf8_all cs) ≤ part.room
    → IsAdded part (fold fold_char part cs) (length (encode_utf8_all cs))
fits [] part l = record { octets_are = omega arith; room_is = omega arith }
fits (c ∷ cs) part l =
    let whole = length-append (encode_utf8 c) (encode_utf8_all cs) in
    let size = length-encode c in
    let next = fold_state (part.octets ++ encode_utf8 c) (part.room - len_utf8 c) in
    let more = length-append part.octets (encode_utf8 c) in
    let e = step_fit part c (omega (arith, l, whole, size)) in
    let others = fits cs next (omega (arith, l, whole, size)) in
    subst (λ p. IsAdded part (fold fold_char p cs) (length (encode_utf8_all (c ∷ cs)))) (sym e)
    (record {
      octets_are = omega (arith, others.octets_are, whole, size, more);
      room_is = omega (arith, others.room_is, l, whole, size);
    })

-- characters that fit are written as they are
pub fits_whole : (cs : List ℕ) (part : FoldState) → length (encode_utf8_all cs) ≤ part.room
    → (fold fold_char part cs).octets ≡ part.octets ++ encode_utf8_all cs
fits_whole [] part l = sym (append-nil part.octets)
fits_whole (c ∷ cs) part l =
    let whole = length-append (encode_utf8 c) (encode_utf8_all cs) in
    let size = length-encode c in
    let next = fold_state (part.octets ++ encode_utf8 c) (part.room - len_utf8 c) in
    ap (λ p. (fold fold_char p cs).octets) (step_fit part c (omega (arith, l, whole, size)))
    ∙ fits_whole cs next (omega (arith, l, whole, size))
    ∙ append_assoc part.octets (encode_utf8 c) (encode_utf8_all cs)

-- ---- a text that fills the physical line, before others

-- a next character begins a continuation line, whether its space is written yet or not
next_line : (octets : List ℕ) (room c : ℕ) → room < len_utf8 c
    → fold_char (fold_state octets room) c ≡ fold_char (fold_state (octets ++ 13 ∷ 10 ∷ 32 ∷ []) 74)
    c
next_line octets room c l =
    step_next (fold_state octets room) c l
    ∙ ap (λ os. fold_state os (74 - len_utf8 c))
    (sym (append_assoc octets (13 ∷ 10 ∷ 32 ∷ []) (encode_utf8 c)))
    ∙ sym (step_fit (fold_state (octets ++ 13 ∷ 10 ∷ 32 ∷ []) 74) c
    (omega (arith, len_utf8_bounds c)))

next_lines : (cs octets : List ℕ) → 0 < length cs → fold fold_char (fold_state octets 0) cs
    ≡ fold fold_char (fold_state (octets ++ 13 ∷ 10 ∷ 32 ∷ []) 74) cs
next_lines [] octets l = absurd (omega (arith, l))
next_lines (c ∷ cs) octets l = ap (λ p. fold fold_char p cs)
    (next_line octets 0 c (omega (arith, len_utf8_bounds c)))

filled : (cs : List ℕ) (octets : List ℕ) (room : ℕ) → length (encode_utf8_all cs) ≡ room
    → fold fold_char (fold_state octets room) cs ≡ fold_state (octets ++ encode_utf8_all cs) 0
filled cs octets room e =
    let part = fold_state octets room in
    let added = fits cs part (omega (arith, e)) in
    let none : (fold fold_char part cs).room ≡ 0 = omega (arith, added.room_is, e) in
    ap (λ os. fold_state os (fold fold_char part cs).room) (fits_whole cs part (omega (arith, e)))
    ∙ ap (λ r. fold_state (octets ++ encode_utf8_all cs) r) none

some_chars : (text : List ℕ) → IsUtf8 text → 0 < length text → 0 < length (chars text)
some_chars text u l =
    elim (chars text) as (λ cs. encode_utf8_all cs ≡ text → 0 < length cs) [
      | [] ↦ λ e. absurd (omega (arith, ap length e, l))
      | c ∷ cs ↦ λ e. omega arith
    ] (encodes-chars text u)

-- a piece that fills the physical line is written whole, and its end and the next line's space
pub cut_after : (octets piece tail : List ℕ) (room : ℕ) → IsUtf8 piece → IsUtf8 tail
    → length piece ≡ room → 0 < length tail
    → fold fold_char (fold_state octets room) (chars (piece ++ tail))
    ≡ fold fold_char (fold_state ((octets ++ piece) ++ 13 ∷ 10 ∷ 32 ∷ []) 74) (chars tail)
cut_after octets piece tail room u v e l =
    let same = encodes-chars piece u in
    ap (fold fold_char (fold_state octets room)) (chars-append piece tail u)
    ∙ fold-append fold_char (fold_state octets room) (chars piece) (chars tail)
    ∙ ap (λ p. fold fold_char p (chars tail)) (filled (chars piece) octets room (ap length same ∙ e)
    ∙ ap (λ os. fold_state (octets ++ os) 0) same)
    ∙ next_lines (chars tail) (octets ++ piece) (some_chars tail v l)

-- after earlier octets, a line is folded from its beginning
pub folded_after : (before line : List ℕ) → append_folded before 75 line ≡ before
    ++ folded_text line
folded_after before line =
    ap (λ os. os ++ 13 ∷ 10 ∷ []) (ap
    (λ os. (fold fold_char (fold_state os 75) (chars line)).octets) (sym (append-nil before))
    ∙ fold-front (chars line) before [] 75)
    ∙ append_assoc before _ (13 ∷ 10 ∷ [])
    ∙ ap (λ os. before ++ os) (folded_is line)

-- what fits is written as it is, and ended
pub fits_from : (octets rest : List ℕ) (room : ℕ) → IsUtf8 rest → length rest ≤ room
    → append_folded octets room rest ≡ (octets ++ rest) ++ 13 ∷ 10 ∷ []
fits_from octets rest room u l =
    let same = encodes-chars rest u in
    ap (λ os. os ++ 13 ∷ 10 ∷ []) (fits_whole (chars rest) (fold_state octets room)
    (omega (arith, ap length same, l)) ∙ ap (λ os. octets ++ os) same)

-- ---- an ASCII text

pub record IsWrapped (part next : FoldState) (octets : ℕ) : Type 0 where
  pub breaks : ℕ
  pub octets_are : length next.octets ≡ length part.octets + octets + 3 * breaks
  pub room_is : next.room + octets ≡ part.room + 74 * breaks
  pub room_left : 0 < breaks → next.room ≤ 73

pub wraps : (cs : List ℕ) (part : FoldState) → IsAscii cs
    → IsWrapped part (fold fold_char part cs) (length cs)
wraps [] part a = record {
  breaks = 0;
  octets_are = omega arith;
  room_is = omega arith;
  room_left = λ l. omega (arith, l);
}
wraps (c ∷ cs) part a =
    let one = len_utf8_ascii c (a 0) in
    let size = length-encode c in
    let fit = fold_state (part.octets ++ encode_utf8 c) (part.room - len_utf8 c) in
    let next = fold_state (part.octets ++ 13 ∷ 10 ∷ 32 ∷ encode_utf8 c) (74 - len_utf8 c) in
    elim (nat_lt part.room (len_utf8 c)) as (λ t. nat_lt part.room (len_utf8 c) ≡ t
    → IsWrapped part (fold fold_char part (c ∷ cs)) (length (c ∷ cs))) [
      | true ↦ λ e.
          let l : part.room < len_utf8 c = grind (arith, nat_tests, e) in
          let others = wraps cs next (λ i. a (suc i)) in
          let more = length-append part.octets (13 ∷ 10 ∷ 32 ∷ encode_utf8 c) in
          subst (λ p. IsWrapped part (fold fold_char p cs) (length (c ∷ cs)))
          (sym (step_next part c l)) (record {
            breaks = others.breaks + 1;
            octets_are = omega (arith, others.octets_are, more, size, one);
            room_is = omega (arith, others.room_is, l, one);
            room_left = λ z. room_left others.breaks (fold fold_char next cs).room (length cs)
                others.room_left (omega (arith, others.room_is, one));
          })
      | false ↦ λ e.
          let l : len_utf8 c ≤ part.room = grind (arith, nat_tests, e) in
          let others = wraps cs fit (λ i. a (suc i)) in
          let more = length-append part.octets (encode_utf8 c) in
          subst (λ p. IsWrapped part (fold fold_char p cs) (length (c ∷ cs)))
          (sym (step_fit part c l)) (record {
            breaks = others.breaks;
            octets_are = omega (arith, others.octets_are, more, size, one);
            room_is = omega (arith, others.room_is, l, one);
            room_left = others.room_left;
          })
    ] refl
  where
    room_left : (breaks room octets : ℕ) → (0 < breaks → room ≤ 73)
        → room + octets ≡ 73 + 74 * breaks → room ≤ 73
    room_left zero room octets h e = omega (arith, e)
    room_left (suc k) room octets h e = h (omega arith)

-- ---- a count of a logical line continues

pub so_far-append : (before text : List ℕ) → IsUtf8 before
    → fold_line (before ++ text) ≡ fold fold_char (fold_line before) (chars text)
so_far-append before text u = ap (fold fold_char (fold_state [] 75)) (chars-append before text u)
    ∙ fold-append fold_char (fold_state [] 75) (chars before) (chars text)

pub counts_line : (old new : FoldedCount) (text : List ℕ) → IsUtf8 text → CountsChars old new text
    → CountsLineText old new text
counts_line old new text u on before n = record {
  utf8 = IsUtf8-append before text n.utf8 u;
  counted = subst (IsCount new) (sym (so_far-append before text n.utf8))
      (on (fold_line before) n.counted);
}

-- nothing is counted of no text
pub counts_none : (count : FoldedCount) → CountsLineText count count []
counts_none count before n = subst (IsLineCount count) (sym (append-nil before)) n

pub counts_both : (old mid new : FoldedCount) (a b : List ℕ) → CountsLineText old mid a
    → CountsLineText mid new b → CountsLineText old new (a ++ b)
counts_both old mid new a b p q before n =
    subst (IsLineCount new) (append_assoc before a b) (q (before ++ a) (p before n))

none_counted : IsCount (record { octets = 0; room = 75 }) (fold_state [] 75)
none_counted = record { octets_are = omega arith; room_is = refl; room_fits = omega arith }

pub none_so_far : IsLineCount (record { octets = 0; room = 75 }) []
none_so_far = record {
  utf8 = IsUtf8-nil;
  counted = subst (λ cs. IsCount (record { octets = 0; room = 75 })
      (fold fold_char (fold_state [] 75) cs)) (sym chars-nil) none_counted;
}

pub counts_same : (old new : FoldedCount) (a b : List ℕ) → a ≡ b → CountsLineText old new a
    → CountsLineText old new b
counts_same old new a b e p = subst (CountsLineText old new) e p
