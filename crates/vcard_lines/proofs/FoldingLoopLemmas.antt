-- Folding character by character: what was written before stays in front, and what results is the
-- one folding.
use Rattle.std.proofs.Common.{◌≡◌, ℕ, ◌-◌, Bool, true, false, cond, ◌&&◌, List, [], ◌∷◌, ◌++◌, fold}
use Rattle.std.proofs.Common.{map, flat_map, nat_lt, chars, encode_utf8, IsUtf8, append_assoc, refl}
use Rattle.std.proofs.Common.{sym, ap, ◌∙◌}
use Rattle.std.proofs.Math.Utf8.{scalar}
use Rattle.std.proofs.lemmas.List.{append-nil}
use Rattle.std.specs.Char.{len_utf8}
use Rattle.std.specs.Str.{encode_utf8_all}
use Rattle.vcard_lines.proofs.FoldingLemmas.{cut_none, cut_next, cut_fit}
use Rattle.vcard_lines.specs.FoldingSteps.{Pieces, prepend, cut_pieces}
use Rattle.vcard_lines.specs.Folding.{continuation_line, encode_pieces, crlf_line, folded_text}
use Rattle.vcard_lines.specs.internal.FoldingLoop.{FoldState, fold_state, fold_char, fold_line}

pub one_char : (c : ℕ) → scalar c ≡ true → IsUtf8 (encode_utf8 c)
one_char c s = (c ∷ [], (ap (λ t. t && true) s, append-nil (encode_utf8 c)))

-- a character into the physical line, or into the next
abbrev pub fold_by : Bool → List ℕ → ℕ → ℕ → FoldState
fold_by next octets room c = cond next (fold_state (octets ++ 13 ∷ 10 ∷ 32 ∷ encode_utf8 c)
    (74 - len_utf8 c)) (fold_state (octets ++ encode_utf8 c) (room - len_utf8 c))

-- folding a character after octets leaves those unchanged
fold_char-front : (before octets : List ℕ) (room c : ℕ)
    → fold_char (fold_state (before ++ octets) room) c
    ≡ fold_state (before ++ (fold_char (fold_state octets room) c).octets)
    (fold_char (fold_state octets room) c).room
fold_char-front before octets room c =
    elim (nat_lt room (len_utf8 c)) as (λ b. fold_by b (before ++ octets) room c
    ≡ fold_state (before ++ (fold_by b octets room c).octets) (fold_by b octets room c).room) [
      | true ↦ ap (λ os. fold_state os (74 - len_utf8 c)) (append_assoc before octets _)
      | false ↦ ap (λ os. fold_state os (room - len_utf8 c)) (append_assoc before octets _)
    ]

pub fold-front : (cs : List ℕ) (before octets : List ℕ) (room : ℕ)
    → (fold fold_char (fold_state (before ++ octets) room) cs).octets ≡ before
    ++ (fold fold_char (fold_state octets room) cs).octets
fold-front [] before octets room = refl
fold-front (c ∷ cs) before octets room =
    ap (λ s. (fold fold_char s cs).octets) (fold_char-front before octets room c)
    ∙ fold-front cs before (fold_char (fold_state octets room) c).octets
    (fold_char (fold_state octets room) c).room

-- ---- folding after a physical line

abbrev pub wrapped : ℕ → List ℕ → List ℕ
wrapped room cs = (fold fold_char (fold_state [] room) cs).octets

wrapped_next : (room c : ℕ) (cs : List ℕ) → nat_lt room (len_utf8 c) ≡ true
    → wrapped room (c ∷ cs) ≡ 13 ∷ 10 ∷ 32 ∷ (encode_utf8 c ++ wrapped (74 - len_utf8 c) cs)
wrapped_next room c cs e =
    ap (λ b. (fold fold_char (fold_by b [] room c) cs).octets) e
    ∙ ap (λ os. (fold fold_char (fold_state os (74 - len_utf8 c)) cs).octets)
    (sym (append-nil (13 ∷ 10 ∷ 32 ∷ encode_utf8 c)))
    ∙ fold-front cs (13 ∷ 10 ∷ 32 ∷ encode_utf8 c) [] (74 - len_utf8 c)

wrapped_fit : (room c : ℕ) (cs : List ℕ) → nat_lt room (len_utf8 c) ≡ false
    → wrapped room (c ∷ cs) ≡ encode_utf8 c ++ wrapped (room - len_utf8 c) cs
wrapped_fit room c cs e =
    ap (λ b. (fold fold_char (fold_by b [] room c) cs).octets) e
    ∙ ap (λ os. (fold fold_char (fold_state os (room - len_utf8 c)) cs).octets)
    (sym (append-nil (encode_utf8 c)))
    ∙ fold-front cs (encode_utf8 c) [] (room - len_utf8 c)

-- ---- what is folded is the physical lines, each ended

abbrev line_end : List ℕ
line_end = 13 ∷ 10 ∷ []

-- a first line with its end, and the others after it
abbrev ended_pieces : Pieces → List ℕ
ended_pieces pieces = flat_map crlf_line (encode_pieces pieces)

ended_in_front : (c : ℕ) (pieces : Pieces) → ended_pieces (prepend c pieces) ≡ encode_utf8 c
    ++ ended_pieces pieces
ended_in_front c pieces =
    let first = encode_utf8_all pieces.first in
    let others = flat_map crlf_line (map continuation_line pieces.further) in
    ap (λ t. t ++ others) (append_assoc (encode_utf8 c) first line_end)
    ∙ append_assoc (encode_utf8 c) (first ++ line_end) others

wrapped_is : (cs : List ℕ) (room : ℕ) → wrapped room cs ++ line_end
    ≡ ended_pieces (cut_pieces room cs)
wrapped_is [] room = ap ended_pieces (sym (cut_none room))
wrapped_is (c ∷ cs) room =
    elim (nat_lt room (len_utf8 c)) as (λ t. nat_lt room (len_utf8 c) ≡ t
    → wrapped room (c ∷ cs) ++ line_end ≡ ended_pieces (cut_pieces room (c ∷ cs))) [
      | true ↦ λ e.
          ap (λ w. w ++ line_end) (wrapped_next room c cs e)
          ∙ ap (λ t. 13 ∷ 10 ∷ 32 ∷ t) (append_assoc (encode_utf8 c) (wrapped (74 - len_utf8 c) cs)
          line_end
          ∙ ap (λ t. encode_utf8 c ++ t) (wrapped_is cs (74 - len_utf8 c))
          ∙ sym (ended_in_front c (cut_pieces (74 - len_utf8 c) cs)))
          ∙ ap ended_pieces (sym (cut_next room c cs e))
      | false ↦ λ e.
          ap (λ w. w ++ line_end) (wrapped_fit room c cs e)
          ∙ append_assoc (encode_utf8 c) (wrapped (room - len_utf8 c) cs) line_end
          ∙ ap (λ t. encode_utf8 c ++ t) (wrapped_is cs (room - len_utf8 c))
          ∙ sym (ended_in_front c (cut_pieces (room - len_utf8 c) cs))
          ∙ ap ended_pieces (sym (cut_fit room c cs e))
    ] refl

pub folded_is : (line : List ℕ) → (fold_line line).octets ++ 13 ∷ 10 ∷ [] ≡ folded_text line
folded_is line = wrapped_is (chars line) 75
