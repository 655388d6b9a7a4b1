-- A card that has no other card in it is one piece.
use Rattle.std.proofs.Common.{◌≡◌, ◌==◌, ◌<◌, ◌+◌, ◌∷◌, ◌++◌, [], ℕ, suc, Bool, true, false, List}
use Rattle.std.proofs.Common.{length, map, take, not, ◌||◌, cond, codes, refl, sym, ap, ◌∙◌, arith}
use Rattle.std.specs.Char.{to_ascii_lowercase}
use Rattle.std.specs.List.{list_all}
use Rattle.std.proofs.lemmas.Bool.{and_parts, false_from_ne_true, lt-leb}
use Rattle.std.proofs.lemmas.List.{take_at}
use Rattle.std.proofs.lemmas.Slice.Eq.{bytes_eq-Decides}
use Rattle.base_types.specs.Octets.{line_feed}
use Rattle.import_text.specs.RawLines.{begins_with_word}
use Rattle.import_text.specs.Pieces.{whole_lines, put_octet, begins_card, ends_and_begins}
use Rattle.import_text.specs.Pieces.{is_word_line, without_mark, next_step, octets_after, outside}
use Rattle.import_text.specs.Pieces.{deeper, piece_len, first_piece}
use Rattle.vcard_import.specs.WholeCards.{IsWholeCard, is_inner}

-- ---- the lines of octets one after another

lines_after : (octet : ℕ) (octets : List ℕ) → whole_lines (octet ∷ octets)
    ≡ put_octet octet (whole_lines octets)
unfolding whole_lines
lines_after octet octets = refl

some_put : (octet : ℕ) (lines : List (List ℕ)) → 0 < length (put_octet octet lines)
some_put octet [] = omega arith
some_put octet (line ∷ lines) = by (octet == line_feed)
  where
    by : (b : Bool) → 0 < length (cond b ((octet ∷ []) ∷ line ∷ lines) ((octet ∷ line) ∷ lines))
    by true = omega arith
    by false = omega arith

put_first : (octet : ℕ) (lines more : List (List ℕ)) → 0 < length lines
    → put_octet octet (lines ++ more) ≡ put_octet octet lines ++ more
put_first octet [] more l = absurd (omega arith)
put_first octet (line ∷ lines) more l = by (octet == line_feed)
  where
    by : (b : Bool) → cond b ((octet ∷ []) ∷ line ∷ lines ++ more) ((octet ∷ line) ∷ lines ++ more)
        ≡ cond b ((octet ∷ []) ∷ line ∷ lines) ((octet ∷ line) ∷ lines) ++ more
    by true = refl
    by false = refl

put_feed : (lines : List (List ℕ)) → put_octet line_feed lines ≡ (line_feed ∷ []) ∷ lines
put_feed [] = refl
put_feed (line ∷ lines) = refl

no_more : (octet : ℕ) → whole_lines (octet ∷ []) ≡ (octet ∷ []) ∷ []
unfolding whole_lines
no_more octet = refl

some_lines : (front : List ℕ) → 0 < length (whole_lines (front ++ line_feed ∷ []))
some_lines [] = rw (no_more line_feed) (omega arith)
some_lines (octet ∷ front) = rw (lines_after octet (front ++ line_feed ∷ []))
    (some_put octet (whole_lines (front ++ line_feed ∷ [])))

lines_append : (front rest : List ℕ) → whole_lines ((front ++ line_feed ∷ []) ++ rest)
    ≡ whole_lines (front ++ line_feed ∷ []) ++ whole_lines rest
lines_append [] rest = lines_after line_feed rest ∙ put_feed (whole_lines rest)
    ∙ ap (λ lines. lines ++ whole_lines rest) (sym (no_more line_feed))
lines_append (octet ∷ front) rest =
    lines_after octet ((front ++ line_feed ∷ []) ++ rest)
    ∙ ap (put_octet octet) (lines_append front rest)
    ∙ put_first octet (whole_lines (front ++ line_feed ∷ [])) (whole_lines rest) (some_lines front)
    ∙ ap (λ lines. lines ++ whole_lines rest) (sym (lines_after octet (front ++ line_feed ∷ [])))

-- the number of octets in lines
abbrev count : List (List ℕ) → ℕ
count [] = 0
count (line ∷ lines) = length line + count lines

put_count : (octet : ℕ) (lines : List (List ℕ)) → count (put_octet octet lines) ≡ 1 + count lines
put_count octet [] = refl
put_count octet (line ∷ lines) = by (octet == line_feed)
  where
    by : (b : Bool) → count (cond b ((octet ∷ []) ∷ line ∷ lines) ((octet ∷ line) ∷ lines))
        ≡ 1 + (length line + count lines)
    by true = refl
    by false = omega arith

none_count : count (whole_lines []) ≡ 0
unfolding whole_lines
none_count = refl

lines_count : (octets : List ℕ) → count (whole_lines octets) ≡ length octets
lines_count [] = none_count
lines_count (octet ∷ octets) = ap count (lines_after octet octets)
    ∙ put_count octet (whole_lines octets) ∙ ap (λ n. 1 + n) (lines_count octets)
    ∙ one_more (length octets)
  where
    one_more : (n : ℕ) → 1 + n ≡ suc n
    one_more n = omega arith

-- ---- lines that end a card begin none

abbrev head_or : ℕ → List ℕ → ℕ
head_or other [] = other
head_or other (octet ∷ octets) = octet

first_octet : (first : ℕ) (word : List ℕ) (octet : ℕ) (octets : List ℕ)
    → begins_with_word (first ∷ word) (octet ∷ octets) ≡ true
    → to_ascii_lowercase octet ≡ to_ascii_lowercase first
first_octet first word octet octets e =
    let same : to_ascii_lowercase octet ∷ map to_ascii_lowercase (take (length word) octets)
    ≡ to_ascii_lowercase first ∷ map to_ascii_lowercase word =
    (bytes_eq-Decides _ _).0 (and_parts _ _ e).1 in
    ap (head_or 0) same

other_word : (first second : ℕ) (word other octets : List ℕ)
    → (to_ascii_lowercase first ≡ to_ascii_lowercase second → ⊥)
    → begins_with_word (first ∷ word) octets ≡ true → begins_with_word (second ∷ other) octets
    ≡ false
other_word first second word other [] n e =
    rw (lt-leb (length (second ∷ other)) 0 (omega arith)) refl
other_word first second word other (octet ∷ octets) n e =
    false_from_ne_true _ (λ f. n (sym (first_octet first word octet octets e)
    ∙ first_octet second other octet octets f))

no_word_line : (word octets : List ℕ) → begins_with_word word octets ≡ false
    → is_word_line word octets ≡ false
no_word_line word octets e = rw e refl

module _ (end : List ℕ) (ends : is_word_line (codes "END:VCARD") end ≡ true) where
  word_of : begins_with_word (codes "END:VCARD") end ≡ true
  word_of = (and_parts _ _ ends).0

  no_mark : without_mark end ≡ end
  no_mark = rw (other_word 69 239 (codes "ND:VCARD") (187 ∷ 191 ∷ []) end
      (λ e. absurd (omega (arith, e))) word_of) refl

  begins_none : begins_card end ≡ false
  begins_none = rw no_mark (no_word_line (codes "BEGIN:VCARD") end
      (other_word 69 66 (codes "ND:VCARD") (codes "EGIN:VCARD") end (λ e. absurd (omega (arith, e)))
      word_of))

  no_agent : is_word_line (codes "AGENT:BEGIN:VCARD") end ≡ false
  no_agent = no_word_line (codes "AGENT:BEGIN:VCARD") end (other_word 69 65 (codes "ND:VCARD")
      (codes "GENT:BEGIN:VCARD") end (λ e. absurd (omega (arith, e))) word_of)

-- ---- the piece

-- Within a card that isn't in another is `deeper outside`.
after_begin : (line : List ℕ) (lines : List (List ℕ)) → piece_len false outside (line ∷ lines)
    ≡ octets_after (next_step outside line) line (λ next. piece_len false next lines)
unfolding piece_len
after_begin line lines = refl

after_inner : (line : List ℕ) (lines : List (List ℕ)) → piece_len false (deeper outside) (line ∷ lines)
    ≡ octets_after (next_step (deeper outside) line) line (λ next. piece_len false next lines)
unfolding piece_len
after_inner line lines = refl

begin_len : (begin : List ℕ) (lines : List (List ℕ)) → begins_card begin ≡ true
    → piece_len false outside (begin ∷ lines) ≡ length begin + piece_len false (deeper outside) lines
begin_len begin lines e = after_begin begin lines ∙ rw e refl

none_of : (a b c d f : Bool) → not (a || b || c || d || f) ≡ true → (a ≡ false) × (b ≡ false)
    × (c ≡ false) × (d ≡ false) × (f ≡ false)
none_of true b c d f e = cc
none_of false true c d f e = cc
none_of false false true d f e = cc
none_of false false false true f e = cc
none_of false false false false true e = cc
none_of false false false false false e = (refl, refl, refl, refl, refl)

inner_len : (line : List ℕ) (lines : List (List ℕ)) → is_inner line ≡ true
    → piece_len false (deeper outside) (line ∷ lines) ≡ length line + piece_len false (deeper outside) lines
inner_len line lines e =
    let n = none_of (begins_card line) (is_word_line (codes "AGENT:BEGIN:VCARD") line)
    (is_word_line (codes "END:VCARD") line) (ends_and_begins line)
    (is_word_line (codes "AGENT:") line) e in
    after_inner line lines ∙ rw (n.0, n.1, n.2, n.3, n.4) refl

end_len : (end : List ℕ) (lines : List (List ℕ)) → is_word_line (codes "END:VCARD") end ≡ true
    → piece_len false (deeper outside) (end ∷ lines) ≡ length end
end_len end lines e = after_inner end lines ∙ rw (begins_none end e, no_agent end e, e) refl

body_len : (body : List (List ℕ)) (end : List ℕ) (more : List (List ℕ))
    → list_all is_inner body ≡ true → is_word_line (codes "END:VCARD") end ≡ true
    → piece_len false (deeper outside) ((body ++ end ∷ []) ++ more) ≡ count (body ++ end ∷ [])
body_len [] end more e f = end_len end more f ∙ last (length end)
  where
    last : (n : ℕ) → n ≡ n + 0
    last n = omega arith
body_len (line ∷ body) end more e f =
    let p = and_parts (is_inner line) (list_all is_inner body) e in
    inner_len line ((body ++ end ∷ []) ++ more) p.0
    ∙ ap (λ n. length line + n) (body_len body end more p.1 f)

pub card_is_piece : (card rest : List ℕ) → IsWholeCard card → first_piece (card ++ rest) ≡ card
card_is_piece card rest w =
    let lines : whole_lines (card ++ rest) ≡ (w.begin ∷ w.body ++ w.end ∷ []) ++ whole_lines rest =
    rw (w.feed) (lines_append w.front rest)
    ∙ ap (λ lines. lines ++ whole_lines rest) (ap whole_lines (sym w.feed) ∙ w.lines) in
    let len : piece_len false outside (whole_lines (card ++ rest)) ≡ length card =
    ap (piece_len false outside) lines
    ∙ begin_len w.begin ((w.body ++ w.end ∷ []) ++ whole_lines rest) w.begins
    ∙ ap (λ n. length w.begin + n) (body_len w.body w.end (whole_lines rest) w.inner w.ends)
    ∙ ap count (sym w.lines)
    ∙ lines_count card in
    take_at card rest (piece_len false outside (whole_lines (card ++ rest))) (sym len)
