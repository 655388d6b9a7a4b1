-- The physical and logical lines of a UTF-8 text are UTF-8.
use Rattle.std.proofs.Common.{◌≡◌, ℕ, ◌-◌, true, false, cond, ◌==◌, List, [], ◌∷◌, ◌++◌, length}
use Rattle.std.proofs.Common.{get_or, take, drop, IsUtf8, encode_utf8, refl, sym, ap, subst, ◌∙◌}
use Rattle.std.proofs.Common.{arith}
use Rattle.std.specs.List.{AllByRecursion, slice_split, onto_first}
use Rattle.std.specs.Str.{encode_utf8_all}
use Rattle.std.specs.Str.Lines.{lines, lines_of_parts, strip_carriage_return}
use Rattle.std.proofs.Math.Utf8.{scalar, scalars}
use Rattle.std.proofs.lemmas.List.{append-nil, get_or_default}
use Rattle.std.proofs.lemmas.List.Elements.{recursion_from_All}
use Rattle.std.proofs.lemmas.Bool.{and_parts, eqb-true, eq-eqb, both_ways, false_from_ne_true}
use Rattle.std.proofs.lemmas.Str.{IsUtf8-nil, IsUtf8-append, IsUtf8-take, IsUtf8-drop}
use Rattle.std.proofs.lemmas.Str.{IsCharBoundary-before_ascii, encode_ascii, inside_one}
use Rattle.vcard_lines.specs.LogicalLines.{continues}
use Rattle.vcard_lines.specs.Unfolding.{cons_nonempty, unfold_from, unfold_lines, logical_lines}
use Rattle.vcard_lines.proofs.FrontLemmas.{boundary_after_space}
use Rattle.vcard_lines.proofs.FoldingLoopLemmas.{one_char}
use Rattle.vcard_lines.proofs.ReadBackLemmas.{is_feed, NoFeed, some_part}
use Rattle.vcard_lines.proofs.UnfoldingLemmas.{goes_on, ends, at_last}

abbrev pub AllUtf8 : List (List ℕ) → Type 0
AllUtf8 texts = AllByRecursion IsUtf8 texts

-- ---- parts between line feeds

-- no octet of another character is a line feed
no_feed_inside : (c : ℕ) → is_feed c ≡ false → NoFeed (encode_utf8 c)
no_feed_inside c n = recursion_from_All (λ b. is_feed b ≡ false) (encode_utf8 c)
    (λ k d l. false_from_ne_true (is_feed (get_or (encode_utf8 c) k d)) (λ e.
    let is : get_or (encode_utf8 c) k 0 ≡ 10 = get_or_default (encode_utf8 c) k 0 d l
    ∙ eqb-true _ 10 e in
    let same : c ≡ get_or (encode_utf8 c) k 0 =
    inside_one c [] (encode_utf8 c) k (sym (append-nil (encode_utf8 c))) l (omega arith) in
    both_ways (is_feed c) n (eq-eqb c 10 (same ∙ is))))

onto_part : (front rest part : List ℕ) (parts : List (List ℕ)) → NoFeed front
    → slice_split is_feed rest ≡ part ∷ parts → slice_split is_feed (front ++ rest)
    ≡ (front ++ part) ∷ parts
onto_part [] rest part parts n e = e
onto_part (b ∷ front) rest part parts n e =
    ap (λ t. cond t ([] ∷ slice_split is_feed (front ++ rest))
    (onto_first b (slice_split is_feed (front ++ rest)))) n.0
    ∙ ap (onto_first b) (onto_part front rest part parts n.1 e)

parts_utf8 : (cs : List ℕ) → scalars cs ≡ true → AllUtf8 (slice_split is_feed (encode_utf8_all cs))
parts_utf8 [] s = (IsUtf8-nil, tt)
parts_utf8 (c ∷ cs) s =
    let both = and_parts (scalar c) (scalars cs) s in
    let rest = parts_utf8 cs both.1 in
    elim (is_feed c) as (λ t. is_feed c ≡ t
    → AllUtf8 (slice_split is_feed (encode_utf8 c ++ encode_utf8_all cs))) [
      | true ↦ λ e.
          let is : c ≡ 10 = eqb-true c 10 e in
          let ascii : encode_utf8 c ≡ c ∷ [] = encode_ascii c (omega arith) in
          subst (λ os. AllUtf8 (slice_split is_feed (os ++ encode_utf8_all cs))) (sym ascii)
          (subst (λ t. AllUtf8 (cond t ([] ∷ slice_split is_feed (encode_utf8_all cs))
          (onto_first c (slice_split is_feed (encode_utf8_all cs))))) (sym e) (
            IsUtf8-nil,
            rest,
          ))
      | false ↦ λ e.
          let q = some_part (encode_utf8_all cs) in
          let more : AllUtf8 (q.0 ∷ q.1) = subst AllUtf8 q.2 rest in
          subst AllUtf8 (sym (onto_part (encode_utf8 c) (encode_utf8_all cs) q.0 q.1
          (no_feed_inside c e) q.2)) (
            IsUtf8-append (encode_utf8 c) q.0 (one_char c both.0)
                more.0,
            more.1,
          )
    ] refl

-- ---- physical lines

stripped_utf8 : (part : List ℕ) → IsUtf8 part → IsUtf8 (strip_carriage_return part)
stripped_utf8 part u = elim (get_or part (length part - 1) 0 == 13) as
    (λ t. (get_or part (length part - 1) 0 == 13) ≡ t
    → IsUtf8 (cond t (take (length part - 1) part) part)) [
      | true ↦ λ e. without_last part u (eqb-true _ 13 e)
      | false ↦ λ e. u
    ] refl
  where
    without_last : (l : List ℕ) → IsUtf8 l → get_or l (length l - 1) 0 ≡ 13
        → IsUtf8 (take (length l - 1) l)
    without_last [] u e = absurd (cc)
    without_last (b ∷ l) u e = IsUtf8-take (b ∷ l) (length (b ∷ l) - 1) u
        (IsCharBoundary-before_ascii (b ∷ l) (length (b ∷ l) - 1) (omega arith) (omega arith))

lines_of_utf8 : (parts : List (List ℕ)) → AllUtf8 parts → AllUtf8 (lines_of_parts parts)
lines_of_utf8 [] a = tt
lines_of_utf8 (x ∷ []) a = elim (length x == 0) as (λ t. AllUtf8 (cond t [] (x ∷ []))) [
  | true ↦ tt
  | false ↦ (a.0, tt)
]
lines_of_utf8 (x ∷ y ∷ more) a = (stripped_utf8 x a.0, lines_of_utf8 (y ∷ more) a.1)

lines_utf8 : (text : List ℕ) → IsUtf8 text → AllUtf8 (lines text)
lines_utf8 text u = lines_of_utf8 (slice_split is_feed text)
    (subst (λ t. AllUtf8 (slice_split is_feed t)) u.1.1 (parts_utf8 u.0 u.1.0))

-- ---- logical lines

before_utf8 : (line : List ℕ) (others : List (List ℕ)) → IsUtf8 line → AllUtf8 others
    → AllUtf8 (cons_nonempty line others)
before_utf8 [] others u a = a
before_utf8 (x ∷ line) others u a = (u, a)

unfolded_from_utf8 : (pieces : List (List ℕ)) (line : List ℕ) → AllUtf8 pieces → IsUtf8 line
    → AllUtf8 (unfold_from line pieces)
unfolded_from_utf8 [] line p u = subst AllUtf8 (sym (at_last line)) (before_utf8 line [] u tt)
unfolded_from_utf8 (x ∷ pieces) line p u =
    elim (continues x) as (λ t. continues x ≡ t → AllUtf8 (unfold_from line (x ∷ pieces))) [
      | true ↦ λ e. subst AllUtf8 (sym (goes_on line x pieces e))
          (unfolded_from_utf8 pieces (line ++ drop 1 x) p.1 (IsUtf8-append line (drop 1 x) u
          (IsUtf8-drop x 1 p.0 (boundary_after_space x p.0 e))))
      | false ↦ λ e. subst AllUtf8 (sym (ends line x pieces e))
          (before_utf8 line _ u (unfolded_from_utf8 pieces x p.1 p.0))
    ] refl

pub logical_lines_utf8 : (text : List ℕ) → IsUtf8 text → AllUtf8 (logical_lines text)
unfolding unfold_lines
logical_lines_utf8 text u = all (lines text) (lines_utf8 text u)
  where
    all : (pieces : List (List ℕ)) → AllUtf8 pieces → AllUtf8 (unfold_lines pieces)
    all [] a = tt
    all (x ∷ pieces) a = unfolded_from_utf8 pieces x a.1 a.0
