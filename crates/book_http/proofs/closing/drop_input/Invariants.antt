use Rattle.std.proofs.Common.{◌≡◌, ◌≤◌, ◌*◌, length}
use Rattle.book_http.specs.Pieces.{piece_octets_max}
use Rattle.book_http.specs.Streams.{ReadsAtMost}
use Rattle.book_http.proofs.closing.drop_input.Given as goal

-- each read gave at most one piece
abbrev pub invariant-loop-read : goal.invariant-loop-read
invariant-loop-read g l =
    ReadsAtMost (l._read * piece_octets_max) (g.R.Read.remaining l.fn.reader)
    (g.R.Read.remaining l.reader)
    × (length l.room ≡ piece_octets_max) × (l.empty_reads ≤ 100)
