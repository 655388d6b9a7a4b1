use Rattle.std.proofs.Common.{◌≡◌, length}
use Rattle.std.specs.Io.KnownBytes.{Keeps}
use Rattle.book_http.specs.ConnectionCalls.{Waits}
use Rattle.book_http.proofs.CallLemmas.{LeavesIn}
use Rattle.book_http.proofs.pieces.read_piece.Given as goal

-- nothing was read
abbrev pub invariant-loop-try : goal.invariant-loop-try
invariant-loop-try g l =
    Keeps (g.C.Connection.model.remaining l.fn.connection) (g.C.Connection.model.remaining
    l.connection)
    × (g.C.Connection.model.contents l.connection ≡ g.C.Connection.model.contents l.fn.connection)
    × LeavesIn (g.C.Connection.model.calls l.fn.connection)
    (g.C.Connection.model.calls l.connection) l._try Waits
    × (g.C.Connection.borrowed l.connection ≡ g.C.Connection.borrowed l.fn.connection)
    × (length l.room ≡ length l.fn.room)
