-- A folded line is a block whose logical line is the line that was folded.
use Rattle.std.proofs.Common.{◌≡◌, ℕ, ◌-◌, ◌<◌, ◌&&◌, Bool, true, false, cond, ◌==◌, List, [], ◌∷◌}
use Rattle.std.proofs.Common.{◌++◌, length, get_or, take, drop, map, flat_map, filter, chars}
use Rattle.std.proofs.Common.{IsUtf8, refl, sym, ap, subst, ◌∙◌, append_assoc, arith}
use Rattle.std.specs.List.{AllByRecursion, slice_split, onto_first, concat}
use Rattle.std.specs.Str.{encode_utf8_all}
use Rattle.std.specs.Str.Lines.{lines, lines_of_parts, strip_carriage_return}
use Rattle.std.proofs.Math.Utf8.{scalar, scalars}
use Rattle.std.proofs.lemmas.Bool.{and_parts}
use Rattle.std.proofs.lemmas.Str.{encodes-chars, encodes-append, IsUtf8-nil, IsUtf8-append}
use Rattle.std.proofs.lemmas.Str.{scalars-chars}
use Rattle.std.proofs.lemmas.List.{length-append, take_at}
use Rattle.std.proofs.lemmas.List.Elements.{All-from_recursion}
use Rattle.std.proofs.lemmas.List.Splits.{slice_split_at}
use Rattle.vcard_lines.specs.LogicalLines.{continues, Block, block_pieces, block_text, is_nonempty}
use Rattle.vcard_lines.specs.LogicalLines.{AreLogicalLines}
use Rattle.vcard_lines.specs.Folding.{FitsPhysicalLine, IsPhysicalLine, continuation_line}
use Rattle.vcard_lines.specs.Folding.{encode_physical, physical_lines, crlf_line, folded_text}
use Rattle.vcard_lines.proofs.FrontLemmas.{ascii_utf8}
use Rattle.vcard_lines.proofs.FoldingLemmas.{is_folding}
use Rattle.vcard_lines.proofs.BlockLemmas.{AllContinue, AllGoOn, AllBegin, block_of}

abbrev pub is_feed : ℕ → Bool
is_feed octet = octet == 10

abbrev pub NoFeed : List ℕ → Type 0
NoFeed octets = AllByRecursion (λ octet. is_feed octet ≡ false) octets

no_feeds-append : (a b : List ℕ) → NoFeed a → NoFeed b → NoFeed (a ++ b)
no_feeds-append [] b p q = q
no_feeds-append (x ∷ a) b p q = (p.0, no_feeds-append a b p.1 q)

front_part : (a b : List ℕ) → NoFeed (a ++ b) → NoFeed a
front_part [] b p = tt
front_part (x ∷ a) b p = (p.0, front_part a b p.1)

back_part : (a b : List ℕ) → NoFeed (a ++ b) → NoFeed b
back_part [] b p = p
back_part (x ∷ a) b p = back_part a b p.1

-- ---- one physical line

at_last : (p : List ℕ) (x : ℕ) → get_or (p ++ x ∷ []) (length p) 0 ≡ x
at_last [] x = refl
at_last (y ∷ p) x = at_last p x

stripped : (p : List ℕ) → strip_carriage_return (p ++ 13 ∷ []) ≡ p
stripped p =
    let n : length (p ++ 13 ∷ []) - 1 ≡ length p = omega (arith, length-append p (13 ∷ [])) in
    ap (λ k. cond (get_or (p ++ 13 ∷ []) k 0 == 13) (take k (p ++ 13 ∷ [])) (p ++ 13 ∷ [])) n
    ∙ ap (λ x. cond (x == 13) (take (length p) (p ++ 13 ∷ [])) (p ++ 13 ∷ [])) (at_last p 13)
    ∙ take_at p (13 ∷ []) (length p) refl

-- a text has a first part
pub some_part : (text : List ℕ) → (part : List ℕ) × (parts : List (List ℕ))
    × (slice_split is_feed text ≡ part ∷ parts)
some_part [] = ([], [], refl)
some_part (b ∷ bs) = elim (is_feed b) as (λ t. (part : List ℕ) × (parts : List (List ℕ))
    × (cond t ([] ∷ slice_split is_feed bs) (onto_first b (slice_split is_feed bs)) ≡ part ∷ parts)) [
      | true ↦ ([], slice_split is_feed bs, refl)
      | false ↦ onto (slice_split is_feed bs)
    ]
  where
    onto : (all : List (List ℕ)) → (part : List ℕ) × (parts : List (List ℕ))
        × (onto_first b all ≡ part ∷ parts)
    onto [] = (b ∷ [], [], refl)
    onto (part ∷ parts) = (b ∷ part, parts, refl)

-- the text before a CRLF is the first physical line
lines-first : (p rest : List ℕ) → NoFeed p → lines (p ++ (13 ∷ 10 ∷ rest)) ≡ p ∷ lines rest
lines-first p rest n =
    let q = some_part rest in
    let return : List ℕ = 13 ∷ [] in
    ap lines (sym (append_assoc p return (10 ∷ rest)))
    ∙ ap lines_of_parts (slice_split_at is_feed (p ++ 13 ∷ []) 10 rest
    (All-from_recursion (λ octet. is_feed octet ≡ false) (p ++ 13 ∷ [])
    (no_feeds-append p (13 ∷ []) n (refl, tt))) refl)
    ∙ ap (λ parts. lines_of_parts ((p ++ 13 ∷ []) ∷ parts)) q.2
    ∙ ap (λ l. l ∷ lines_of_parts (q.0 ∷ q.1)) (stripped p)
    ∙ ap (λ parts. p ∷ lines_of_parts parts) (sym q.2)

-- lines that are ended by CRLF are the first physical lines
lines-ended : (ps : List (List ℕ)) (rest : List ℕ) → AllByRecursion NoFeed ps
    → lines (flat_map crlf_line ps ++ rest) ≡ ps ++ lines rest
lines-ended [] rest n = refl
lines-ended (p ∷ ps) rest n =
    ap lines (append_assoc (crlf_line p) (flat_map crlf_line ps) rest
    ∙ append_assoc p (13 ∷ 10 ∷ []) (flat_map crlf_line ps ++ rest))
    ∙ lines-first p (flat_map crlf_line ps ++ rest) n.0
    ∙ ap (λ ls. p ∷ ls) (lines-ended ps rest n.1)

-- ---- one logical line

-- the octets of a line's pieces are those of the line
pieces_octets : (first : List ℕ) (further : List (List ℕ))
    → encode_utf8_all (first ++ concat further) ≡ encode_utf8_all first ++ flat_map (drop 1)
    (map continuation_line further)
pieces_octets first further = encodes-append first (concat further)
    ∙ ap (λ t. encode_utf8_all first ++ t) (others further)
  where
    others : (ps : List (List ℕ)) → encode_utf8_all (concat ps) ≡ flat_map (drop 1)
        (map continuation_line ps)
    others [] = refl
    others (p ∷ ps) = encodes-append p (concat ps) ∙ ap (λ t. encode_utf8_all p ++ t) (others ps)

-- pieces have no line feed where they have none together
further_no_feed : (ps : List (List ℕ)) → NoFeed (flat_map (drop 1) (map continuation_line ps))
    → AllByRecursion NoFeed (map continuation_line ps)
further_no_feed [] n = tt
further_no_feed (p ∷ ps) n = (
  (refl, front_part (encode_utf8_all p) (flat_map (drop 1) (map continuation_line ps)) n),
  further_no_feed ps (back_part (encode_utf8_all p)
      (flat_map (drop 1) (map continuation_line ps)) n),
)

all_continue : (ps : List (List ℕ)) → AllContinue (map continuation_line ps)
all_continue [] = tt
all_continue (p ∷ ps) = (refl, all_continue ps)

-- What a logical line is: a text without a line feed that isn't empty and begins with no space or
-- tab.
pub record IsLogicalLine (line : List ℕ) : Type 0 where
  pub nonempty : 0 < length line
  pub utf8 : IsUtf8 line
  pub no_feed : NoFeed line
  pub begins : continues line ≡ false

front_begins : (front rest : List ℕ) → continues (front ++ rest) ≡ false → continues front ≡ false
front_begins [] rest b = refl
front_begins (x ∷ front) rest b = b

-- a folding's pieces are the line's
record ArePiecesOf (line : List ℕ) (first : List ℕ) (further : List (List ℕ)) : Type 0 where
  text : encode_utf8_all first ++ flat_map (drop 1) (map continuation_line further) ≡ line
  no_feed : AllByRecursion NoFeed (encode_physical first further)

are_pieces : (line : List ℕ) (first : List ℕ) (further : List (List ℕ)) → IsUtf8 line → NoFeed line
    → chars line ≡ first ++ concat further → ArePiecesOf line first further
are_pieces line first further u n whole =
    let text = sym (pieces_octets first further) ∙ ap encode_utf8_all (sym whole)
    ∙ encodes-chars line u in
    let all = subst NoFeed (sym text) n in
    record {
      text = text;
      no_feed = (
        front_part (encode_utf8_all first) (flat_map (drop 1) (map continuation_line further)) all,
        further_no_feed further (back_part (encode_utf8_all first)
            (flat_map (drop 1) (map continuation_line further)) all),
      );
    }

-- a folded line is a block
record IsBlockOf (line rest : List ℕ) : Type 0 where
  block : Block
  pieces : lines (folded_text line ++ rest) ≡ block_pieces block ++ lines rest
  text : block_text block ≡ line
  continue_reading : AllContinue block.further
  begins : continues block.first ≡ false

block_folded : (line rest : List ℕ) → IsLogicalLine line → IsBlockOf line rest
block_folded line rest is =
    let f = is_folding line in
    let p = are_pieces line f.first f.further is.utf8 is.no_feed f.whole in
    record {
      block = block_of (encode_utf8_all f.first) (map continuation_line f.further);
      pieces = ap (λ ps. lines (flat_map crlf_line ps ++ rest)) f.physical_are
          ∙ lines-ended (encode_physical f.first f.further) rest p.no_feed;
      text = p.text;
      continue_reading = all_continue f.further;
      begins = front_begins (encode_utf8_all f.first)
          (flat_map (drop 1) (map continuation_line f.further)) (ap continues p.text ∙ is.begins);
    }

-- ---- all logical lines

record AreBlocksOf (logical : List (List ℕ)) : Type 0 where
  blocks : List Block
  pieces : lines (flat_map folded_text logical) ≡ flat_map block_pieces blocks
  texts : map block_text blocks ≡ logical
  continue_reading : AllGoOn blocks
  begin : AllBegin blocks

blocks_folded : (logical : List (List ℕ)) → AllByRecursion IsLogicalLine logical
    → AreBlocksOf logical
blocks_folded [] a = record {
  blocks = [];
  pieces = refl;
  texts = refl;
  continue_reading = tt;
  begin = tt;
}
blocks_folded (l ∷ ls) a =
    let one = block_folded l (flat_map folded_text ls) a.0 in
    let others = blocks_folded ls a.1 in
    record {
      blocks = one.block ∷ others.blocks;
      pieces = one.pieces ∙ ap (λ ps. block_pieces one.block ++ ps) others.pieces;
      texts = ap (λ t. t ∷ map block_text others.blocks) one.text ∙ ap (λ ts. l ∷ ts) others.texts;
      continue_reading = (one.continue_reading, others.continue_reading);
      begin = (one.begins, others.begin);
    }

all_kept : (logical : List (List ℕ)) → AllByRecursion IsLogicalLine logical
    → filter is_nonempty logical ≡ logical
all_kept [] a = refl
all_kept ([] ∷ ls) a = absurd (let nonempty = a.0.nonempty in omega arith)
all_kept ((x ∷ l) ∷ ls) a = ap (λ ts. (x ∷ l) ∷ ts) (all_kept ls a.1)

but_first : (blocks : List Block) → AllBegin blocks → AllBegin (drop 1 blocks)
but_first [] b = tt
but_first (k ∷ ks) b = b.1

-- logical lines that were folded are read back
pub read_back : (logical : List (List ℕ)) → AllByRecursion IsLogicalLine logical
    → AreLogicalLines (flat_map folded_text logical) logical
read_back logical a =
    let b = blocks_folded logical a in
    record {
      blocks = b.blocks;
      cut = record {
        whole = b.pieces;
        further = b.continue_reading;
        first = but_first b.blocks b.begin;
      };
      logical_are = sym (ap (filter is_nonempty) b.texts ∙ all_kept logical a);
    }

-- ---- each physical line is UTF-8 and short enough, and so is folded text

front_scalars : (a b : List ℕ) → scalars (a ++ b) ≡ true → scalars a ≡ true
front_scalars [] b s = refl
front_scalars (c ∷ a) b s = let parts = and_parts (scalar c) (scalars (a ++ b)) s in
    ap (λ t. t && scalars a) parts.0 ∙ front_scalars a b parts.1

back_scalars : (a b : List ℕ) → scalars (a ++ b) ≡ true → scalars b ≡ true
back_scalars [] b s = s
back_scalars (c ∷ a) b s = back_scalars a b (and_parts (scalar c) (scalars (a ++ b)) s).1

encodes_utf8 : (cs : List ℕ) → scalars cs ≡ true → IsUtf8 (encode_utf8_all cs)
encodes_utf8 cs s = (cs, (s, refl))

further_utf8 : (ps : List (List ℕ)) → scalars (concat ps) ≡ true
    → AllByRecursion IsUtf8 (map continuation_line ps)
further_utf8 [] s = tt
further_utf8 (p ∷ ps) s = (
  IsUtf8-append (32 ∷ []) (encode_utf8_all p) (ascii_utf8 (32 ∷ []) refl)
      (encodes_utf8 p (front_scalars p (concat ps) s)),
  further_utf8 ps (back_scalars p (concat ps) s),
)

physical_utf8 : (line : List ℕ) → IsUtf8 line → AllByRecursion IsUtf8 (physical_lines line)
physical_utf8 line u =
    let f = is_folding line in
    let s : scalars (f.first ++ concat f.further) ≡ true = ap scalars (sym f.whole)
    ∙ scalars-chars line u in
    subst (AllByRecursion IsUtf8) (sym f.physical_are) (
      encodes_utf8 f.first (front_scalars f.first (concat f.further) s),
      further_utf8 f.further (back_scalars f.first (concat f.further) s),
    )

ended_utf8 : (ps : List (List ℕ)) → AllByRecursion IsUtf8 ps → IsUtf8 (flat_map crlf_line ps)
ended_utf8 [] a = IsUtf8-nil
ended_utf8 (p ∷ ps) a = IsUtf8-append (crlf_line p) (flat_map crlf_line ps)
    (IsUtf8-append p (13 ∷ 10 ∷ []) a.0 (ascii_utf8 (13 ∷ 10 ∷ []) refl)) (ended_utf8 ps a.1)

pub folded_utf8 : (line : List ℕ) → IsUtf8 line → IsUtf8 (folded_text line)
folded_utf8 line u = ended_utf8 (physical_lines line) (physical_utf8 line u)

are_short : (ps : List (List ℕ)) → AllByRecursion IsUtf8 ps → AllByRecursion FitsPhysicalLine ps
    → AllByRecursion IsPhysicalLine ps
are_short [] u f = tt
are_short (p ∷ ps) u f = (record { utf8 = u.0; fits = f.0 }, are_short ps u.1 f.1)

-- the physical lines of folded texts, one by one
pub physical_folded : (logical : List (List ℕ)) → AllByRecursion IsLogicalLine logical
    → AllByRecursion IsPhysicalLine (lines (flat_map folded_text logical))
physical_folded [] a = tt
physical_folded (l ∷ ls) a =
    let f = is_folding l in
    let p = are_pieces l f.first f.further a.0.utf8 a.0.no_feed f.whole in
    subst (AllByRecursion IsPhysicalLine)
    (sym (lines-ended (physical_lines l) (flat_map folded_text ls)
    (subst (AllByRecursion NoFeed) (sym f.physical_are) p.no_feed)))
    (both (physical_lines l) (lines (flat_map folded_text ls)) (are_short (physical_lines l)
    (physical_utf8 l a.0.utf8) f.fit) (physical_folded ls a.1))
  where
    both : (ps qs : List (List ℕ)) → AllByRecursion IsPhysicalLine ps
        → AllByRecursion IsPhysicalLine qs → AllByRecursion IsPhysicalLine (ps ++ qs)
    both [] qs a b = b
    both (p ∷ ps) qs a b = (a.0, both ps qs a.1 b)
