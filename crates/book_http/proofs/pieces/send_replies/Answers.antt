use Rattle.std.proofs.Common.{refl, inl}
use Rattle.std.proofs.lemmas.Result.{err_from_is_err_and}
use Rattle.book_http.specs.ConnectionCalls.{FailsToFlush, WriterFailed, Flushes, Replies, Waits}
use Rattle.book_http.proofs.CallLemmas.{leads_on, leads_one}
use Rattle.book_http.proofs.PieceLemmas.{all_were_written}
use Rattle.book_http.proofs.pieces.send_replies.Goals as goal

pub returns-in-Ok-clause-order : goal.returns-in-Ok-clause-order
returns-in-Ok-clause-order g c = λ pieces.
    leads_on (g.C.Connection.model.calls c.args.connection.now)
    (g.C.Connection.model.calls c.write_replies.new.connection) (g.C.Connection.model.calls
    c.flush.new.self) (Replies pieces) (Replies pieces) (Waits pieces)
    (c.in_ok-write_replies.ensures.order pieces)
    (leads_one (g.C.Connection.model.calls c.write_replies.new.connection)
    (g.C.Connection.model.calls c.flush.new.self) Flushes (Replies pieces) (Waits pieces)
    c.in-Ok.ensures.called refl)

pub returns-in-Err-clause-order : goal.returns-in-Err-clause-order
returns-in-Err-clause-order g c = λ pieces.
    inl (leads_on (g.C.Connection.model.calls c.args.connection.now)
    (g.C.Connection.model.calls c.write_replies.new.connection) (g.C.Connection.model.calls
    c.flush.new.self) (Replies pieces) (Replies pieces) WriterFailed
    (c.in_ok-write_replies.ensures.order pieces)
    (leads_one (g.C.Connection.model.calls c.write_replies.new.connection)
    (g.C.Connection.model.calls c.flush.new.self) FailsToFlush (Replies pieces) WriterFailed
    c.in-Err.ensures.called refl))

pub returns-in_err-write_replies-clause-written : goal.returns-in_err-write_replies-clause-written
returns-in_err-write_replies-clause-written g c =
    let p = err_from_is_err_and c.from_residual.result c.from_residual.ensures.1 in
    rw (p.1, p.2) c.in_err-write_replies.ensures.written

pub returns-in-Err-clause-written : goal.returns-in-Err-clause-written
returns-in-Err-clause-written g c = (
  all_were_written (g.C.Connection.model.contents c.args.connection.now)
      (g.C.Connection.model.contents c.write_replies.new.connection)
      (g.C.Connection.model.contents c.flush.new.self) c.args.replies.now
      c.in_ok-write_replies.ensures.written c.in-Err.ensures.written,
  refl,
)
