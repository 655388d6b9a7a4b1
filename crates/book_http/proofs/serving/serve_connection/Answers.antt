use Rattle.std.proofs.Common.{inl, refl}
use Rattle.std.proofs.lemmas.Result.{err_from_is_err_and}
use Rattle.book_http.specs.ConnectionCalls.{Waits}
use Rattle.book_http.specs.declared.serve_fault.ServeFault.TheVariants.{Memory}
use Rattle.book_http.proofs.CallLemmas.{leads_none}
use Rattle.book_http.proofs.ServingLemmas.{broke_first}
use Rattle.book_http.proofs.serving.serve_connection.Goals as goal

pub returns-in_err-resize-clause-served : goal.returns-in_err-resize-clause-served
returns-in_err-resize-clause-served g c =
    let p = err_from_is_err_and c.from_residual.result c.from_residual.ensures.1 in
    rw (p.1, p.2) (broke_first g.H.Handler.does g.H.Handler.fault_reply
    (g.C.Connection.model.remaining c.args.connection.now) (g.C.Connection.model.contents
    c.args.connection.now) c.args.handler.now Memory refl)

pub returns-in_err-resize-clause-in_order :
    goal.returns-in_err-resize-clause-in_order
returns-in_err-resize-clause-in_order g c =
    let p = err_from_is_err_and c.from_residual.result c.from_residual.ensures.1 in
    rw (p.1, p.2) (0, inl (leads_none (g.C.Connection.model.calls c.args.connection.now) (Waits 0)))
