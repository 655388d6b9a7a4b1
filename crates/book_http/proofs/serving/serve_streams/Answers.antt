use Rattle.book_http.proofs.ServingLemmas.{of_aborted, of_served}
use Rattle.book_http.proofs.serving.serve_streams.Goals as goal

pub returns-clause-served : goal.returns-clause-served
returns-clause-served g c =
    of_served g.H.Handler.does g.H.Handler.fault_reply c.serve_connection.result _ _ _ _ _ _
    c.serve_connection.ensures.served

pub returns-clause-fault : goal.returns-clause-fault
returns-clause-fault g c =
    of_aborted g.H.Handler.does g.H.Handler.fault_reply c.serve_connection.result _ _ _ _ _ _
    c.serve_connection.ensures.served
