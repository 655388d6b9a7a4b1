-- A connection is served in turns: a piece is read, its replies are written and flushed, and so on.
-- Given here: an induction over the pieces so far. The invariant has two parts: what was served and
-- what is still to be read (`SoFar`, by `ServingLemmas`), and the order of the calls (`LeadsOn`, by
-- `CallLemmas`). Each return ends both in its own way: at a fault of the reader or the writer, at
-- the end of the input, at a closed session, or after too many pieces.
use Rattle.std.proofs.Common.{◌≡◌, refl, arith, inr, ◌∙◌, ◌+◌, Bool, Ok, false, subst, sym, take}
use Rattle.std.proofs.Common.{true}
use Rattle.std.proofs.lemmas.Bool.{false≢true}
use Rattle.std.proofs.lemmas.Result.{err_from_is_err_and}
use Rattle.book_http.specs.ConnectionCalls.{AnswersInOrder, LeadsOn, Waits}
use Rattle.book_http.specs.Pieces.{pieces_max}
use Rattle.book_http.proofs.CallLemmas.{ends_answering, ends_at_end, ends_reading, leads_none}
use Rattle.book_http.proofs.CallLemmas.{read_and_replied, read_some}
use Rattle.book_http.proofs.ServingLemmas.{broke_turning, far_start, no_read_fault, no_turns_fault}
use Rattle.book_http.proofs.ServingLemmas.{step_closed, step_ended, step_failed, step_lost, step_on}
use Rattle.book_http.proofs.serving.serve_in.Given as given
use Rattle.book_http.proofs.serving.serve_in.Goals as goal
use Rattle.book_http.proofs.serving.serve_in.Goals.{After-answer_piece}

-- a piece was read and replied to
piece_answered : (g : given.Over) (c : After-answer_piece g) (closed : Bool)
    → AnswersInOrder (c.loop-piece._piece + 1)
    (g.C.Connection.model.calls c.read_piece.new.connection)
    (g.C.Connection.model.calls c.answer_piece.new.connection) (Ok closed)
    → LeadsOn (g.C.Connection.model.calls c.args.connection.now)
    (g.C.Connection.model.calls c.answer_piece.new.connection) (Waits 0)
    (Waits (c.loop-piece._piece + 1))
piece_answered g c closed answers =
    read_and_replied (g.C.Connection.model.calls c.args.connection.now)
    (g.C.Connection.model.calls c.loop-piece.connection)
    (g.C.Connection.model.calls c.read_piece.new.connection)
    (g.C.Connection.model.calls c.answer_piece.new.connection) c.loop-piece._piece
    c.in_ok-count.count closed c.if-count-eq0.false c.loop-piece.invariant.1
    (c.in_ok-count.ensures.order c.loop-piece._piece) answers

pub loop-piece-init : goal.loop-piece-init
loop-piece-init g c = (
  far_start g.H.Handler.does g.H.Handler.fault_reply (g.C.Connection.model.remaining
      c.args.connection.now) (g.C.Connection.model.contents c.args.connection.now)
      c.args.handler.now c.new-session.result c.new-session.ensures,
  leads_none (g.C.Connection.model.calls c.args.connection.now) (Waits 0),
  refl,
  c.requires.some,
  c.requires.at_most,
)

-- ---- the read

pub returns-in_err-count-clause-served : goal.returns-in_err-count-clause-served
returns-in_err-count-clause-served g c =
    let p = err_from_is_err_and c.from_residual.result c.from_residual.ensures.1 in
    rw (p.1, p.2) (step_failed g.H.Handler.does g.H.Handler.fault_reply c.loop-piece._piece
    (g.C.Connection.model.remaining c.args.connection.now) (g.C.Connection.model.remaining
    c.loop-piece.connection) (g.C.Connection.model.remaining c.read_piece.new.connection)
    (g.C.Connection.model.contents c.args.connection.now) (g.C.Connection.model.contents
    c.loop-piece.connection) (g.C.Connection.model.contents c.read_piece.new.connection)
    c.args.handler.now c.loop-piece.handler c.loop-piece.session c.in_err-count.field-0.0
    c.loop-piece.invariant.0 c.in_err-count.ensures.fault c.in_err-count.ensures.nothing
    c.in_err-count.ensures.kept)

pub returns-in_err-count-clause-in_order : goal.returns-in_err-count-clause-in_order
returns-in_err-count-clause-in_order g c =
    let p = err_from_is_err_and c.from_residual.result c.from_residual.ensures.1 in
    rw (p.1, p.2) (ends_reading
    (g.C.Connection.model.calls c.args.connection.now)
    (g.C.Connection.model.calls c.loop-piece.connection) (g.C.Connection.model.calls
    c.read_piece.new.connection) c.loop-piece._piece
    c.in_err-count.field-0.0 c.in_err-count.ensures.fault c.loop-piece.invariant.1
    (c.in_err-count.ensures.order c.loop-piece._piece))

pub returns-then-count-eq0-clause-served : goal.returns-then-count-eq0-clause-served
returns-then-count-eq0-clause-served g c =
    step_ended g.H.Handler.does g.H.Handler.fault_reply c.loop-piece._piece c.in_ok-count.count
    c.read_piece.new.room
    (g.C.Connection.model.remaining c.args.connection.now) (g.C.Connection.model.remaining
    c.loop-piece.connection) (g.C.Connection.model.remaining c.read_piece.new.connection)
    (g.C.Connection.model.contents c.args.connection.now) (g.C.Connection.model.contents
    c.loop-piece.connection) (g.C.Connection.model.contents c.read_piece.new.connection)
    c.args.handler.now c.loop-piece.handler c.loop-piece.session
    c.loop-piece.invariant.0 c.in_ok-count.ensures.read c.in_ok-count.ensures.kept
    c.if-count-eq0.true (c.in_ok-count.ensures.end c.if-count-eq0.true)

pub returns-then-count-eq0-clause-in_order : goal.returns-then-count-eq0-clause-in_order
returns-then-count-eq0-clause-in_order g c =
    ends_at_end
    (g.C.Connection.model.calls c.args.connection.now)
    (g.C.Connection.model.calls c.loop-piece.connection) (g.C.Connection.model.calls
    c.read_piece.new.connection) c.loop-piece._piece
    c.in_ok-count.count c.if-count-eq0.true c.loop-piece.invariant.1 (c.in_ok-count.ensures.order
    c.loop-piece._piece)

-- ---- the replies

pub returns-in_err-answer_piece-clause-served : goal.returns-in_err-answer_piece-clause-served
returns-in_err-answer_piece-clause-served g c =
    let p = err_from_is_err_and c.from_residual-in_err-answer_piece.result
    c.from_residual-in_err-answer_piece.ensures.1 in
    rw (p.1, p.2) (step_lost g.H.Handler.does g.H.Handler.fault_reply c.loop-piece._piece
    c.in_ok-count.count c.read_piece.new.room
    (g.C.Connection.model.remaining c.args.connection.now) (g.C.Connection.model.remaining
    c.loop-piece.connection) (g.C.Connection.model.remaining c.read_piece.new.connection)
    (g.C.Connection.model.remaining c.answer_piece.new.connection)
    (g.C.Connection.model.contents c.args.connection.now) (g.C.Connection.model.contents
    c.loop-piece.connection) (g.C.Connection.model.contents c.read_piece.new.connection)
    (g.C.Connection.model.contents c.answer_piece.new.connection)
    c.args.handler.now c.loop-piece.handler c.answer_piece.new.handler c.loop-piece.session
    c.answer_piece.new.session
    c.loop-piece.invariant.0 c.in_ok-count.ensures.read c.in_ok-count.ensures.kept
    c.in_err-answer_piece.ensures.kept c.if-count-eq0.false c.in_ok-count.ensures.bound
    (omega (arith, c.read_piece.auto.room, c.loop-piece.invariant.4))
    c.in_err-answer_piece.field-0.0 c.in_err-answer_piece.ensures.failed)

pub returns-in_err-answer_piece-clause-in_order :
    goal.returns-in_err-answer_piece-clause-in_order
returns-in_err-answer_piece-clause-in_order g c =
    let p = err_from_is_err_and c.from_residual-in_err-answer_piece.result
    c.from_residual-in_err-answer_piece.ensures.1 in
    rw (p.1, p.2) (ends_answering
    (g.C.Connection.model.calls c.args.connection.now)
    (g.C.Connection.model.calls c.read_piece.new.connection) (g.C.Connection.model.calls
    c.answer_piece.new.connection) c.loop-piece._piece
    c.in_err-answer_piece.field-0.0
    (read_some (g.C.Connection.model.calls c.args.connection.now)
    (g.C.Connection.model.calls c.loop-piece.connection) (g.C.Connection.model.calls
    c.read_piece.new.connection) c.loop-piece._piece
    c.in_ok-count.count c.if-count-eq0.false c.loop-piece.invariant.1 (c.in_ok-count.ensures.order
    c.loop-piece._piece))
    (c.in_err-answer_piece.ensures.order (c.loop-piece._piece + 1))
    (no_read_fault g.H.Handler.does g.H.Handler.fault_reply c.loop-piece.session
    c.answer_piece.new.session c.loop-piece.handler c.answer_piece.new.handler
    (take c.in_ok-count.count c.read_piece.new.room)
    (g.C.Connection.model.contents c.read_piece.new.connection) (g.C.Connection.model.contents
    c.answer_piece.new.connection) c.in_err-answer_piece.field-0.0
    c.in_err-answer_piece.ensures.failed)
    (no_turns_fault g.H.Handler.does g.H.Handler.fault_reply c.loop-piece.session
    c.answer_piece.new.session c.loop-piece.handler c.answer_piece.new.handler
    (take c.in_ok-count.count c.read_piece.new.room)
    (g.C.Connection.model.contents c.read_piece.new.connection) (g.C.Connection.model.contents
    c.answer_piece.new.connection) c.in_err-answer_piece.field-0.0
    c.in_err-answer_piece.ensures.failed))

pub returns-then-branch-clause-served : goal.returns-then-branch-clause-served
returns-then-branch-clause-served g c =
    step_closed g.H.Handler.does g.H.Handler.fault_reply c.loop-piece._piece c.in_ok-count.count
    c.read_piece.new.room
    (g.C.Connection.model.remaining c.args.connection.now) (g.C.Connection.model.remaining
    c.loop-piece.connection) (g.C.Connection.model.remaining c.read_piece.new.connection)
    (g.C.Connection.model.remaining c.answer_piece.new.connection)
    (g.C.Connection.model.contents c.args.connection.now) (g.C.Connection.model.contents
    c.loop-piece.connection) (g.C.Connection.model.contents c.read_piece.new.connection)
    (g.C.Connection.model.contents c.answer_piece.new.connection)
    c.args.handler.now c.loop-piece.handler c.answer_piece.new.handler c.loop-piece.session
    c.answer_piece.new.session
    c.loop-piece.invariant.0 c.in_ok-count.ensures.read c.in_ok-count.ensures.kept
    c.in_ok-answer_piece.ensures.kept c.if-count-eq0.false c.in_ok-count.ensures.bound
    (omega (arith, c.read_piece.auto.room, c.loop-piece.invariant.4))
    c.in_ok-answer_piece.ensures.answered (c.in_ok-answer_piece.ensures.closed.0 c.if-branch.true)

pub returns-then-branch-clause-in_order : goal.returns-then-branch-clause-in_order
returns-then-branch-clause-in_order g c =
    inr (
      c.loop-piece._piece + 1,
      piece_answered g (goal.at.returns-then-branch-clause-in_order g c).After-answer_piece
          c.in_ok-answer_piece.field-0
          (c.in_ok-answer_piece.ensures.order (c.loop-piece._piece + 1)),
    )

-- no truth value is both
not_both : (b : Bool) → b ≡ true → b ≡ false → ⊥
not_both b is_true is_false = false≢true (sym is_false ∙ is_true)

pub loop-piece-preserved : goal.loop-piece-preserved
loop-piece-preserved g c = (
  step_on g.H.Handler.does g.H.Handler.fault_reply c.loop-piece._piece c.in_ok-count.count
      c.read_piece.new.room
      (g.C.Connection.model.remaining c.args.connection.now) (g.C.Connection.model.remaining
      c.loop-piece.connection) (g.C.Connection.model.remaining c.read_piece.new.connection)
      (g.C.Connection.model.remaining c.answer_piece.new.connection)
      (g.C.Connection.model.contents c.args.connection.now) (g.C.Connection.model.contents
      c.loop-piece.connection) (g.C.Connection.model.contents c.read_piece.new.connection)
      (g.C.Connection.model.contents c.answer_piece.new.connection)
      c.args.handler.now c.loop-piece.handler c.answer_piece.new.handler c.loop-piece.session
      c.answer_piece.new.session
      c.loop-piece.invariant.0 c.in_ok-count.ensures.read c.in_ok-count.ensures.kept
      c.in_ok-answer_piece.ensures.kept c.if-count-eq0.false c.in_ok-count.ensures.bound
      (omega (arith, c.read_piece.auto.room, c.loop-piece.invariant.4))
      c.in_ok-answer_piece.ensures.answered (λ e. not_both c.in_ok-answer_piece.field-0
      (c.in_ok-answer_piece.ensures.closed.1 e) c.if-branch.false),
  piece_answered g (goal.at.loop-piece-preserved g c).After-answer_piece
      c.in_ok-answer_piece.field-0 (c.in_ok-answer_piece.ensures.order (c.loop-piece._piece + 1)),
  c.in_ok-answer_piece.ensures.borrows ∙ (c.in_ok-count.ensures.borrows ∙ c.loop-piece.invariant.2),
  omega (arith, c.read_piece.auto.room, c.loop-piece.invariant.3),
  omega (arith, c.read_piece.auto.room, c.loop-piece.invariant.4),
)

-- ---- too many pieces

pub returns-clause-served : goal.returns-clause-served
returns-clause-served g c =
    broke_turning g.H.Handler.does g.H.Handler.fault_reply c.loop-piece._piece
    (g.C.Connection.model.remaining c.args.connection.now) (g.C.Connection.model.remaining
    c.loop-piece.connection)
    (g.C.Connection.model.contents c.args.connection.now) (g.C.Connection.model.contents
    c.loop-piece.connection) c.args.handler.now c.loop-piece.handler c.loop-piece.session
    c.loop-piece.invariant.0 (omega (arith, c.loop-piece-test.false, c.loop-piece.auto))

pub returns-clause-in_order : goal.returns-clause-in_order
returns-clause-in_order g c =
    let all : c.loop-piece._piece ≡ pieces_max =
    omega (arith, c.loop-piece-test.false, c.loop-piece.auto) in
    subst (λ n. LeadsOn (g.C.Connection.model.calls c.args.connection.now)
    (g.C.Connection.model.calls c.loop-piece.connection) (Waits 0) (Waits n)) all
    c.loop-piece.invariant.1
