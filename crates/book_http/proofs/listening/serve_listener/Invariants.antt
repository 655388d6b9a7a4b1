use Rattle.book_http.proofs.ListeningLemmas.{SoFar}
use Rattle.book_http.proofs.listening.serve_listener.Given as goal

-- as many connections were served as it has counted
abbrev pub invariant-loop-connection : goal.invariant-loop-connection
invariant-loop-connection g l =
    SoFar g.H.Handler.does g.H.Handler.fault_reply g.L.Stream.Connection.model
    l._connection l.first (g.L.Listener.coming l.fn.listener) (g.L.Listener.coming l.listener)
    l.fn.handler l.handler
