use Rattle.std.proofs.Common.{◌≡◌, ◌||◌, ◌++◌, true, ap, sym, subst, ◌∙◌, length, take}
use Rattle.std.proofs.Math.Seq.{take-append_seam}
use Rattle.std.specs.Prelude.{nat_le}
use Rattle.import_text.specs.Pieces.{first_text}
use Rattle.import_text.specs.PieceLaws.{has_line_end}
use Rattle.card_conversion.specs.internal.PieceReaders.{IsCutFrom, left_of, unread_of}
use Rattle.card_conversion.proofs.CutLemmas.{found_piece}
use Rattle.card_conversion.proofs.piece_reader.PieceReader.find_piece.Goals as goal

pub returns-then-is_whole-clause-cut : goal.returns-then-is_whole-clause-cut
returns-then-is_whole-clause-cut g c =
    let unread : c.unread-in-loop-more.result.now ≡ unread_of c.loop-more.self =
    c.unread-in-loop-more.ensures in
    let first : c.split_text.result.0.now ≡ first_text (unread_of c.loop-more.self) =
    c.split_text.ensures.piece ∙ ap first_text unread in
    let split : unread_of c.loop-more.self ≡ c.split_text.result.0.now
    ++ c.split_text.result.1.now = sym unread ∙ c.split_text.ensures.whole in
    let front : take (length c.split_text.result.0.now) (unread_of c.loop-more.self)
    ≡ c.split_text.result.0.now = ap (take (length c.split_text.result.0.now)) split
    ∙ take-append_seam c.split_text.result.0.now c.split_text.result.1.now in
    let whole : (c.loop-more.self.is_at_end || has_line_end c.split_text.result.1.now
    || nat_le 8388608 (length (unread_of c.loop-more.self))) ≡ true =
    sym c.if-is_whole.ensures in
    subst (IsCutFrom (left_of g.R.Read.remaining c.loop-more.self)) (sym front)
    (found_piece (unread_of c.loop-more.self) c.split_text.result.0.now
    c.split_text.result.1.now (g.R.Read.remaining c.loop-more.self.reader)
    c.loop-more.self.is_at_end c.pieces_stay.ensures first split c.loop-more.invariant.1 whole)
