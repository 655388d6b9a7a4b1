use Rattle.std.proofs.Common.{◌≡◌, ◌≤◌, length, take}
use Rattle.std.specs.Io.KnownBytes.{Appends}
use Rattle.book_http.specs.ConnectionCalls.{Replies}
use Rattle.book_http.proofs.CallLemmas.{LeavesIn}
use Rattle.book_http.proofs.pieces.write_replies.Given as goal

-- so many octets were written
abbrev pub invariant-loop-try : goal.invariant-loop-try
invariant-loop-try g l =
    Appends (g.C.Connection.model.contents l.fn.connection) (g.C.Connection.model.contents
    l.connection) (take l.count l.replies)
    × (l.count ≤ length l.replies)
    × (g.C.Connection.model.remaining l.connection ≡ g.C.Connection.model.remaining l.fn.connection)
    × LeavesIn (g.C.Connection.model.calls l.fn.connection)
    (g.C.Connection.model.calls l.connection) l._try Replies
    × (g.C.Connection.borrowed l.connection ≡ g.C.Connection.borrowed l.fn.connection)
