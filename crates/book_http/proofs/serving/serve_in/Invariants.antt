use Rattle.std.proofs.Common.{◌≡◌, ◌<◌, ◌≤◌, length}
use Rattle.book_http.specs.ConnectionCalls.{LeadsOn, Waits}
use Rattle.book_http.specs.Pieces.{piece_octets_max}
use Rattle.book_http.proofs.ServingLemmas.{SoFar}
use Rattle.book_http.proofs.serving.serve_in.Given as goal

-- so many pieces were read and fed, and the replies are written and flushed
abbrev pub invariant-loop-piece : goal.invariant-loop-piece
invariant-loop-piece g l =
    SoFar g.H.Handler.does g.H.Handler.fault_reply l._piece (g.C.Connection.model.remaining
    l.fn.connection) (g.C.Connection.model.remaining l.connection)
    (g.C.Connection.model.contents l.fn.connection) (g.C.Connection.model.contents l.connection)
    l.fn.handler l.handler l.session
    × LeadsOn (g.C.Connection.model.calls l.fn.connection) (g.C.Connection.model.calls l.connection)
    (Waits 0) (Waits l._piece)
    × (g.C.Connection.borrowed l.connection ≡ g.C.Connection.borrowed l.fn.connection)
    × (0 < length l.room) × (length l.room ≤ piece_octets_max)
