use Rattle.std.proofs.Common.{[]}
use Rattle.std.specs.Io.KnownBytes.{Consumes}
use Rattle.card_conversion.specs.internal.PieceReaders.{HasEnded, left_of}
use Rattle.card_conversion.proofs.piece_reader.PieceReader.find_piece.Given as goal

-- no octet is lost or passed
abbrev pub invariant-loop-more : goal.invariant-loop-more
invariant-loop-more g l =
    Consumes (left_of g.R.Read.remaining l.fn.self) (left_of g.R.Read.remaining l.self) []
    × HasEnded g.R.Read.remaining l.self
