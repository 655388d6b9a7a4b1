-- Pieces that are cut off one after another.
use Rattle.std.proofs.Common.{◌≡◌, ◌≤◌, ◌⊎◌, inl, inr, ◌∷◌, ◌++◌, ◌||◌, [], ℕ, List, Option, Some}
use Rattle.std.proofs.Common.{None, Bool, true, false, refl, sym, ap, subst, ◌∙◌, drop, length}
use Rattle.std.proofs.Common.{append-nil, IfSome}
use Rattle.std.specs.Prelude.{IsTrue, nat_le}
use Rattle.std.specs.Io.KnownBytes.{Consumes, IsAtEnd, prepend_known}
use Rattle.std.proofs.lemmas.Bool.{leb-true}
use Rattle.import_text.specs.Pieces.{first_text}
use Rattle.import_text.specs.PieceLaws.{PiecesStay, has_line_end}
use Rattle.card_conversion.specs.Cuts.{AreCutOff, IsCutOff}
use Rattle.card_conversion.specs.internal.PieceReaders.{AreCutFrom, IsCutFrom}

-- what comes after the front
behind : (front back : List ℕ) → drop (length front) (front ++ back) ≡ back
behind [] back = refl
behind (x ∷ front) back = behind front back

-- ---- a piece that was found

all_seen : (unread piece more : List ℕ) → piece ≡ first_text unread → more ≡ []
    → IsCutOff (unread ++ more) piece
all_seen unread piece more is e = record {
  seen = unread;
  unseen = more;
  split = refl;
  enough = inl e;
  first = is;
}

much_seen : (unread piece more : List ℕ) → piece ≡ first_text unread → 8388608 ≤ length unread
    → IsCutOff (unread ++ more) piece
much_seen unread piece more is l = record {
  seen = unread;
  unseen = more;
  split = refl;
  enough = inr l;
  first = is;
}

line_seen : (unread piece rest more : List ℕ) → PiecesStay → piece ≡ first_text unread
    → unread ≡ piece ++ rest → has_line_end rest ≡ true → IsCutOff (unread ++ more) piece
line_seen unread piece rest more stay is split e =
    let later : has_line_end (drop (length (first_text unread)) unread) ≡ true =
    ap (λ front. has_line_end (drop (length front) unread)) (sym is)
    ∙ ap (λ octets. has_line_end (drop (length piece) octets)) split
    ∙ ap has_line_end (behind piece rest) ∙ e in
    record {
      seen = unread ++ more;
      unseen = [];
      split = sym (append-nil (unread ++ more));
      enough = inl refl;
      first = is ∙ sym (stay unread more later);
    }

seen_by : (unread piece rest more : List ℕ) (at_end ended long : Bool) → PiecesStay
    → piece ≡ first_text unread → unread ≡ piece ++ rest
    → (IsTrue at_end → more ≡ []) → has_line_end rest ≡ ended
    → nat_le 8388608 (length unread) ≡ long → (at_end || ended || long) ≡ true
    → IsCutOff (unread ++ more) piece
seen_by unread piece rest more true ended long stay is split none e l h =
    all_seen unread piece more is (none refl)
seen_by unread piece rest more false true long stay is split none e l h =
    line_seen unread piece rest more stay is split e
seen_by unread piece rest more false false true stay is split none e l h =
    much_seen unread piece more is (leb-true _ _ l)
seen_by unread piece rest more false false false stay is split none e l h = cc

-- the first piece of the unread octets is that of what is left
pub found_piece : (unread piece rest : List ℕ) (reader : Option (List ℕ)) (at_end : Bool)
    → PiecesStay → piece ≡ first_text unread → unread ≡ piece ++ rest
    → (IsTrue at_end → IsAtEnd reader)
    → (at_end || has_line_end rest || nat_le 8388608 (length unread)) ≡ true
    → IsCutFrom (prepend_known unread reader) piece
found_piece unread piece rest None at_end stay is split none h = tt
found_piece unread piece rest (Some more) at_end stay is split none h =
    seen_by unread piece rest more at_end (has_line_end rest) (nat_le 8388608 (length unread)) stay
    is split none refl refl h

-- ---- one piece after another

one_more : (octets left piece rest : List ℕ) (pieces : List (List ℕ))
    → AreCutOff octets pieces left → IsCutOff left piece → left ≡ piece ++ rest
    → AreCutOff octets (pieces ++ piece ∷ []) rest
one_more octets left piece rest [] cut is e = (
  subst (λ from. IsCutOff from piece) (sym cut) is,
  ap (drop (length piece)) (cut ∙ e) ∙ behind piece rest,
)
one_more octets left piece rest (first ∷ pieces) cut is e =
    (cut.0, one_more (drop (length first) octets) left piece rest pieces cut.1 is e)

pub nothing_cut : (input left : Option (List ℕ)) → Consumes input left [] → AreCutFrom input [] left
nothing_cut None left p = tt
nothing_cut (Some octets) None p = absurd p
nothing_cut (Some octets) (Some left) p = p

pub one_more_cut : (input old found new : Option (List ℕ)) (pieces : List (List ℕ))
    (piece : List ℕ) → AreCutFrom input pieces old → Consumes old found []
    → IsCutFrom found piece → Consumes found new piece
    → AreCutFrom input (pieces ++ piece ∷ []) new
one_more_cut None old found new pieces piece cut nothing is passes = tt
one_more_cut (Some octets) None found new pieces piece cut nothing is passes = absurd cut
one_more_cut (Some octets) (Some a) None new pieces piece cut nothing is passes = absurd nothing
one_more_cut (Some octets) (Some a) (Some b) None pieces piece cut nothing is passes = absurd passes
one_more_cut (Some octets) (Some a) (Some b) (Some c) pieces piece cut nothing is passes =
    one_more octets a piece c pieces cut (subst (λ from. IsCutOff from piece) (sym nothing) is)
    (nothing ∙ passes)

pub all_cut : (input old found : Option (List ℕ)) (pieces : List (List ℕ))
    → AreCutFrom input pieces old → Consumes old found [] → IsAtEnd found
    → IfSome input (λ octets. AreCutOff octets pieces [])
all_cut None old found pieces cut nothing at_end = tt
all_cut (Some octets) None found pieces cut nothing at_end = absurd cut
all_cut (Some octets) (Some a) None pieces cut nothing at_end = absurd nothing
all_cut (Some octets) (Some a) (Some b) pieces cut nothing at_end =
    subst (AreCutOff octets pieces) (nothing ∙ at_end) cut
