-- A text has exactly one list of logical lines: those that reading from left to right finds.
use Rattle.std.proofs.Common.{◌≡◌, ℕ, ◌↔◌, true, false, cond, List, [], ◌∷◌, ◌++◌, map, drop}
use Rattle.std.proofs.Common.{flat_map, filter, refl, sym, ap, subst, ◌∙◌, append_assoc}
use Rattle.std.specs.List.{AllByRecursion}
use Rattle.std.specs.Str.Lines.{lines}
use Rattle.std.proofs.lemmas.List.{append-nil}
use Rattle.vcard_lines.specs.LogicalLines.{continues, Block, block_pieces, block_text, is_nonempty}
use Rattle.vcard_lines.specs.LogicalLines.{IsBlockSplit, AreLogicalLines}
use Rattle.vcard_lines.specs.Unfolding.{cons_nonempty, unfold_from, unfold_lines, logical_lines}
use Rattle.vcard_lines.proofs.UnfoldingLemmas.{goes_on, ends, at_last}

abbrev pub AllContinue : List (List ℕ) → Type 0
AllContinue pieces = AllByRecursion (λ piece. continues piece ≡ true) pieces

abbrev pub AllGoOn : List Block → Type 0
AllGoOn blocks = AllByRecursion (λ block. AllContinue block.further) blocks

abbrev pub AllBegin : List Block → Type 0
AllBegin blocks = AllByRecursion (λ block. continues block.first ≡ false) blocks

abbrev pub block_of : List ℕ → List (List ℕ) → Block
block_of first further = record { first = first; further = further }

-- ---- the logical lines of blocks

onto_line : (further : List (List ℕ)) (line : List ℕ) (rest : List (List ℕ)) → AllContinue further
    → unfold_from line (further ++ rest) ≡ unfold_from (line ++ flat_map (drop 1) further) rest
onto_line [] line rest c = ap (λ l. unfold_from l rest) (sym (append-nil line))
onto_line (p ∷ ps) line rest c =
    goes_on line p (ps ++ rest) c.0
    ∙ onto_line ps (line ++ drop 1 p) rest c.1
    ∙ ap (λ l. unfold_from l rest) (append_assoc line (drop 1 p) (flat_map (drop 1) ps))

before-filter : (line : List ℕ) (others : List (List ℕ))
    → cons_nonempty line (filter is_nonempty others) ≡ filter is_nonempty (line ∷ others)
before-filter [] others = refl
before-filter (x ∷ line) others = refl

after_line : (blocks : List Block) (line : List ℕ) → AllGoOn blocks → AllBegin blocks
    → unfold_from line (flat_map block_pieces blocks) ≡ filter is_nonempty
    (line ∷ map block_text blocks)
after_line [] line c b = at_last line ∙ before-filter line []
after_line (k ∷ ks) line c b =
    ends line k.first (k.further ++ flat_map block_pieces ks) b.0
    ∙ ap (cons_nonempty line) (onto_line k.further k.first (flat_map block_pieces ks) c.0
    ∙ after_line ks (block_text k) c.1 b.1)
    ∙ before-filter line (block_text k ∷ map block_text ks)

of_blocks : (blocks : List Block) → AllGoOn blocks → AllBegin (drop 1 blocks)
    → unfold_lines (flat_map block_pieces blocks) ≡ filter is_nonempty (map block_text blocks)
unfolding unfold_lines
of_blocks [] c b = refl
of_blocks (k ∷ ks) c b = onto_line k.further k.first (flat_map block_pieces ks) c.0
    ∙ after_line ks (block_text k) c.1 b

determined : (text : List ℕ) (logical : List (List ℕ)) → AreLogicalLines text logical
    → logical ≡ logical_lines text
determined text logical a = a.logical_are ∙ sym (ap unfold_lines a.cut.whole
    ∙ of_blocks a.blocks a.cut.further a.cut.first)

-- ---- every list of physical lines is cut into blocks

-- a physical line before blocks: the first block continues it, or it is a block of its own
onto_blocks : List ℕ → List Block → List Block
onto_blocks p [] = block_of p [] ∷ []
onto_blocks p (k ∷ ks) = cond (continues k.first) (block_of p (k.first ∷ k.further) ∷ ks)
    (block_of p [] ∷ k ∷ ks)

cut_onto : (p : List ℕ) (ps : List (List ℕ)) (blocks : List Block) → IsBlockSplit ps blocks
    → IsBlockSplit (p ∷ ps) (onto_blocks p blocks)
unfolding onto_blocks
cut_onto p ps [] c = record { whole = ap (λ x. p ∷ x) c.whole; further = (tt, tt); first = tt }
cut_onto p ps (k ∷ ks) c = elim (continues k.first) as (λ t. continues k.first ≡ t
    → IsBlockSplit (p ∷ ps) (cond t (block_of p (k.first ∷ k.further) ∷ ks)
    (block_of p [] ∷ k ∷ ks))) [
      | true ↦ λ e. record {
        whole = ap (λ x. p ∷ x) c.whole;
        further = ((e, c.further.0), c.further.1);
        first = c.first;
      }
      | false ↦ λ e. record {
        whole = ap (λ x. p ∷ x) c.whole;
        further = (tt, c.further);
        first = (e, c.first);
      }
    ] refl

some_cut : (pieces : List (List ℕ)) → (blocks : List Block) × IsBlockSplit pieces blocks
some_cut [] = ([], record { whole = refl; further = tt; first = tt })
some_cut (p ∷ ps) = let c = some_cut ps in (onto_blocks p c.0, cut_onto p ps c.0 c.1)

pub are_logical_lines : (text : List ℕ) → AreLogicalLines text (logical_lines text)
are_logical_lines text =
    let c = some_cut (lines text) in
    record {
      blocks = c.0;
      cut = c.1;
      logical_are = ap unfold_lines c.1.whole
          ∙ of_blocks c.0 c.1.further c.1.first;
    }

pub one_reading : (text : List ℕ) (logical : List (List ℕ))
    → AreLogicalLines text logical ↔ (logical ≡ logical_lines text)
one_reading text logical = (
  determined text logical,
  λ e. subst (AreLogicalLines text) (sym e)
      (are_logical_lines text),
)
