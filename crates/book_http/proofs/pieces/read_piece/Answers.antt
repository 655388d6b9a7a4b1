use Rattle.std.proofs.Common.{refl, arith, ◌∙◌, inl, inr}
use Rattle.std.proofs.KnownBytes.{Keeps-refl, Keeps-trans}
use Rattle.std.specs.IoError.{error_kind}
use Rattle.book_http.specs.ConnectionCalls.{FailsToReceive, Waits}
use Rattle.book_http.specs.declared.serve_fault.ServeFault.TheVariants.{Read}
use Rattle.book_http.proofs.CallLemmas.{leaves_many, leaves_more, leaves_none, reads_fault}
use Rattle.book_http.proofs.CallLemmas.{reads_piece}
use Rattle.book_http.proofs.pieces.read_piece.Goals as goal

pub loop-try-init : goal.loop-try-init
loop-try-init g c = (
  Keeps-refl (g.C.Connection.model.remaining c.args.connection.now),
  refl,
  leaves_none (g.C.Connection.model.calls c.args.connection.now) Waits,
  refl,
  refl,
)

pub returns-in-Ok-clause-order : goal.returns-in-Ok-clause-order
returns-in-Ok-clause-order g c = λ pieces.
    reads_piece (g.C.Connection.model.calls c.args.connection.now)
    (g.C.Connection.model.calls c.loop-try.connection) (g.C.Connection.model.calls
    c.receive.new.self) c.loop-try._try pieces c.in-Ok.count c.receive.new.room
    c.loop-try.invariant.2 c.in-Ok.ensures.called c.in-Ok.ensures.bound.0

pub returns-then-not-is_interrupted-clause-order : goal.returns-then-not-is_interrupted-clause-order
returns-then-not-is_interrupted-clause-order g c = λ pieces.
    reads_fault (g.C.Connection.model.calls c.args.connection.now)
    (g.C.Connection.model.calls c.loop-try.connection) (g.C.Connection.model.calls
    c.receive.new.self) c.loop-try._try pieces (error_kind c.in-Err.error) Read
    c.loop-try.invariant.2 c.in-Err.ensures.called (λ e. absurd (cc (
      c.is_interrupted.ensures.1 e,
      c.if-not-is_interrupted.true,
    )))

pub loop-try-preserved : goal.loop-try-preserved
loop-try-preserved g c = (
  Keeps-trans (g.C.Connection.model.remaining c.args.connection.now) (g.C.Connection.model.remaining
      c.loop-try.connection) (g.C.Connection.model.remaining c.receive.new.self)
      c.loop-try.invariant.0 c.in-Err.ensures.read,
  c.in-Err.ensures.kept ∙ c.loop-try.invariant.1,
  leaves_more (g.C.Connection.model.calls c.args.connection.now)
      (g.C.Connection.model.calls c.loop-try.connection)
      (g.C.Connection.model.calls c.receive.new.self) c.loop-try._try Waits
      (FailsToReceive (error_kind c.in-Err.error))
      c.loop-try.invariant.2 c.in-Err.ensures.called
      (λ pieces. inl (c.is_interrupted.ensures.0 c.if-not-is_interrupted.false, refl)),
  c.in-Err.ensures.borrows ∙ c.loop-try.invariant.3,
  omega (arith, c.receive.auto.room, c.loop-try.invariant.4),
)

pub returns-clause-order : goal.returns-clause-order
returns-clause-order g c = λ pieces.
    inr (leaves_many (g.C.Connection.model.calls c.args.connection.now)
    (g.C.Connection.model.calls c.loop-try.connection) c.loop-try._try Waits pieces
    c.loop-try.invariant.2 (omega (arith, c.loop-try-test.false)))

pub returns-in-Ok-clause-borrows : goal.returns-in-Ok-clause-borrows
returns-in-Ok-clause-borrows g c = c.in-Ok.ensures.borrows ∙ c.loop-try.invariant.3

pub returns-then-not-is_interrupted-clause-borrows :
    goal.returns-then-not-is_interrupted-clause-borrows
returns-then-not-is_interrupted-clause-borrows g c = c.in-Err.ensures.borrows
    ∙ c.loop-try.invariant.3

pub returns-clause-borrows : goal.returns-clause-borrows
returns-clause-borrows g c = c.loop-try.invariant.3
