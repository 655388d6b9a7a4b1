-- Line ends: what is read from left to right is what is defined for the whole text.
use Rattle.std.proofs.Common.{◌≡◌, ◌∷◌, ◌++◌, [], ℕ, List, Bool, true, false, ◌==◌, fold, refl, sym}
use Rattle.std.proofs.Common.{ap, ◌∙◌, append_assoc, inl, inr, arith}
use Rattle.std.specs.Char.{encode_utf8}
use Rattle.std.specs.Str.{chars, encode_utf8_all}
use Rattle.std.proofs.lemmas.List.{append-nil}
use Rattle.std.proofs.lemmas.Bool.{cases_Bool}
use Rattle.std.proofs.lemmas.Str.{encode_ascii}
use Rattle.csv_cards.specs.Columns.{with_lf_line_ends}
use Rattle.csv_cards.specs.internal.LineEnds.{LineEndState, flushed_text, flush_return, append_char}
use Rattle.csv_cards.specs.internal.LineEnds.{line_end_state}

abbrev held_before : Bool → List ℕ → List ℕ
held_before true cs = 13 ∷ cs
held_before false cs = cs

other_char : (c : ℕ) (cs : List ℕ) → (c == 13) ≡ false
    → with_lf_line_ends (c ∷ cs) ≡ c ∷ with_lf_line_ends cs
unfolding with_lf_line_ends
other_char c cs e = rw e refl

-- a carriage return and what follows it
held_is_flushed : (c : ℕ) (cs : List ℕ) → (c == 10) ≡ false → with_lf_line_ends (13 ∷ c ∷ cs)
    ≡ 13 ∷ with_lf_line_ends (c ∷ cs)
unfolding with_lf_line_ends
held_is_flushed c cs e = rw e refl

held_goes : (c : ℕ) (cs : List ℕ) → (c == 10) ≡ true → with_lf_line_ends (13 ∷ c ∷ cs)
    ≡ with_lf_line_ends (c ∷ cs)
unfolding with_lf_line_ends
held_goes c cs e = rw e refl

-- the text before a character that is a line feed or not
before_char : (text : List ℕ) (held : Bool) (c : ℕ) (cs : List ℕ)
    → flush_return (line_end_state text held) c ++ encode_utf8_all (with_lf_line_ends (c ∷ cs))
    ≡ text ++ encode_utf8_all (with_lf_line_ends (held_before held (c ∷ cs)))
before_char text false c cs = refl
before_char text true c cs = elim (cases_Bool (c == 10)) [
  | inl feed ↦ rw (feed, held_goes c cs feed) refl
  | inr other ↦
      let one : encode_utf8 13 ≡ 13 ∷ [] = encode_ascii 13 (omega arith) in
      rw (other, held_is_flushed c cs other, one) (append_assoc text (13 ∷ []) _)
]

put_return : (state : LineEndState) (c : ℕ) → (c == 13) ≡ true
    → append_char state c ≡ line_end_state (flush_return state c) true
put_return state c e = rw e refl

put_other : (state : LineEndState) (c : ℕ) → (c == 13) ≡ false
    → append_char state c ≡ line_end_state (flush_return state c ++ encode_utf8 c) false
put_other state c e = rw e refl

reads_after : (cs : List ℕ) (text : List ℕ) (held : Bool)
    → flushed_text (fold append_char (line_end_state text held) cs) ≡ text
    ++ encode_utf8_all (with_lf_line_ends (held_before held cs))
unfolding with_lf_line_ends
reads_after [] text false = sym (append-nil text)
reads_after [] text true =
    let one : encode_utf8 13 ≡ 13 ∷ [] = encode_ascii 13 (omega arith) in
    rw one refl
reads_after (c ∷ cs) text held = elim (cases_Bool (c == 13)) [
  | inl return ↦
      let is : c ≡ 13 = grind (arith, return) in
      ap (λ state. flushed_text (fold append_char state cs)) (put_return (line_end_state text held)
      c return)
      ∙ reads_after cs (flush_return (line_end_state text held) c) true
      ∙ ap (λ d. flush_return (line_end_state text held) c ++ encode_utf8_all
      (with_lf_line_ends (d ∷ cs))) (sym is)
      ∙ before_char text held c cs
  | inr other ↦
      ap (λ state. flushed_text (fold append_char state cs)) (put_other (line_end_state text held) c
      other)
      ∙ reads_after cs (flush_return (line_end_state text held) c ++ encode_utf8 c) false
      ∙ append_assoc (flush_return (line_end_state text held) c) (encode_utf8 c) _
      ∙ ap (λ ds. flush_return (line_end_state text held) c ++ encode_utf8_all ds)
      (sym (other_char c cs other))
      ∙ before_char text held c cs
]

pub reads_all : (text : List ℕ) → flushed_text (fold append_char (line_end_state [] false)
    (chars text)) ≡ encode_utf8_all (with_lf_line_ends (chars text))
reads_all text = reads_after (chars text) [] false
