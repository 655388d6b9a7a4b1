-- The replies are written by as many calls as it takes; after an error, a front of them is written.
-- Given here: an induction over the tries so far. The invariant says that the first `count` octets
-- are written. By the answer of `send`, a try adds some (`wrote_more`), or it was interrupted and
-- adds none; each try is one call (`leaves_more`).
-- If another error is tried again, `loop-try-preserved` breaks first.
use Rattle.std.proofs.Common.{take, refl, arith, inl, inr, ◌∙◌}
use Rattle.std.proofs.KnownBytes.{Appends-kept, Appends-nil}
use Rattle.std.specs.IoError.{error_kind}
use Rattle.book_http.specs.ConnectionCalls.{FailsToSend, Replies, Sends}
use Rattle.book_http.specs.declared.serve_fault.ServeFault.TheVariants.{Write}
use Rattle.book_http.proofs.CallLemmas.{leaves_many, leaves_more, leaves_none, sends_end, sent_none}
use Rattle.book_http.proofs.CallLemmas.{sent_some}
use Rattle.book_http.proofs.PieceLemmas.{front_was_written, wrote_front, wrote_more}
use Rattle.book_http.proofs.pieces.write_replies.Goals.{in-Ok, in-Err+else-not-is_interrupted}
use Rattle.book_http.proofs.pieces.write_replies.Goals as goal

pub loop-try-init : goal.loop-try-init
loop-try-init g c = (
  Appends-nil (g.C.Connection.model.contents c.args.connection.now),
  omega arith,
  refl,
  leaves_none (g.C.Connection.model.calls c.args.connection.now) Replies,
  refl,
)

pub returns-in-Ok-eq0-clause-written : goal.returns-in-Ok-eq0-clause-written
returns-in-Ok-eq0-clause-written g c = (
  wrote_front (g.C.Connection.model.contents c.args.connection.now) (g.C.Connection.model.contents
      c.loop-try.connection) (g.C.Connection.model.contents c.send.new.self) c.loop-try.count
      c.in-Ok-eq0.field-0 c.args.replies.now
      c.loop-try.invariant.1 c.loop-try.invariant.0 c.in-Ok-eq0.ensures.bound
      c.in-Ok-eq0.ensures.written,
  refl,
)

pub returns-in-Ok-eq0-clause-order : goal.returns-in-Ok-eq0-clause-order
returns-in-Ok-eq0-clause-order g c = λ pieces.
    sends_end (g.C.Connection.model.calls c.args.connection.now)
    (g.C.Connection.model.calls c.loop-try.connection) (g.C.Connection.model.calls
    c.send.new.self) c.loop-try._try pieces (Sends c.in-Ok-eq0.field-0) (Replies pieces) Write
    c.loop-try.invariant.3 c.in-Ok-eq0.ensures.called (sent_none c.in-Ok-eq0.field-0 pieces
    c.in-Ok-eq0.field-0-test)

pub returns-then-not-is_interrupted-clause-written :
    goal.returns-then-not-is_interrupted-clause-written
returns-then-not-is_interrupted-clause-written g c = (
  front_was_written (g.C.Connection.model.contents c.args.connection.now)
      (g.C.Connection.model.contents c.loop-try.connection) (g.C.Connection.model.contents
      c.send.new.self) c.loop-try.count c.args.replies.now
      c.loop-try.invariant.0 c.in-Err.ensures.written,
  refl,
)

pub returns-then-not-is_interrupted-clause-order : goal.returns-then-not-is_interrupted-clause-order
returns-then-not-is_interrupted-clause-order g c = λ pieces.
    sends_end (g.C.Connection.model.calls c.args.connection.now)
    (g.C.Connection.model.calls c.loop-try.connection) (g.C.Connection.model.calls
    c.send.new.self) c.loop-try._try pieces (FailsToSend (error_kind c.in-Err.error))
    (Replies pieces) Write
    c.loop-try.invariant.3 c.in-Err.ensures.called
    (inr (λ e. absurd (cc (c.is_interrupted.ensures.1 e, c.if-not-is_interrupted.true)), refl))

pub loop-try-preserved : goal.loop-try-preserved
loop-try-preserved g c =
    elim c.match-send.branch [
      | in-Ok w ↦ rw w.count-is (
          let wrote = wrote_more (g.C.Connection.model.contents c.args.connection.now)
          (g.C.Connection.model.contents c.loop-try.connection) (g.C.Connection.model.contents
          c.send.new.self) c.loop-try.count w.in-Ok.more c.args.replies.now
          c.loop-try.invariant.1 c.loop-try.invariant.0 w.in-Ok.ensures.bound
          w.in-Ok.ensures.written in (
            wrote.0,
            wrote.1,
            w.in-Ok.ensures.kept ∙ c.loop-try.invariant.2,
            leaves_more (g.C.Connection.model.calls c.args.connection.now)
                (g.C.Connection.model.calls c.loop-try.connection) (g.C.Connection.model.calls
                c.send.new.self) c.loop-try._try Replies (Sends w.in-Ok.more)
                c.loop-try.invariant.3 w.in-Ok.ensures.called (λ pieces. sent_some w.in-Ok.more
                pieces w.in-Ok.more-test.1),
            w.in-Ok.ensures.borrows ∙ c.loop-try.invariant.4,
          ))
      | in-Err+else-not-is_interrupted w ↦ rw w.count-is (
        Appends-kept (g.C.Connection.model.contents c.args.connection.now)
            (g.C.Connection.model.contents c.loop-try.connection) (g.C.Connection.model.contents
            c.send.new.self) (take c.loop-try.count c.args.replies.now)
            c.loop-try.invariant.0 w.in-Err.ensures.written,
        c.loop-try.invariant.1,
        w.in-Err.ensures.kept ∙ c.loop-try.invariant.2,
        leaves_more (g.C.Connection.model.calls c.args.connection.now) (g.C.Connection.model.calls
            c.loop-try.connection) (g.C.Connection.model.calls c.send.new.self) c.loop-try._try
            Replies (FailsToSend (error_kind w.in-Err.error))
            c.loop-try.invariant.3 w.in-Err.ensures.called
            (λ pieces. inl (w.is_interrupted.ensures.0 w.if-not-is_interrupted.false, refl)),
        w.in-Err.ensures.borrows ∙ c.loop-try.invariant.4,
      )
    ]

pub returns-clause-written : goal.returns-clause-written
returns-clause-written g c = (
  record { count = c.loop-try.count; written = c.loop-try.invariant.0 },
  refl,
)

pub returns-clause-order : goal.returns-clause-order
returns-clause-order g c = λ pieces.
    inr (leaves_many (g.C.Connection.model.calls c.args.connection.now)
    (g.C.Connection.model.calls c.loop-try.connection) c.loop-try._try Replies pieces
    c.loop-try.invariant.3 (omega (arith, c.loop-try-test.false)))
