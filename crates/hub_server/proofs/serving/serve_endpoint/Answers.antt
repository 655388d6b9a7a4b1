use Rattle.std.proofs.Common.{◌≡◌, ◌∙◌, List, Bool, ap, arith, drop, false, length, ◌++◌}
use Rattle.std.proofs.lemmas.List.{length-append, length-drop, length-replicate, length-take}
use Rattle.std.proofs.lemmas.Result.{err_from_is_err_and}
use Rattle.hub_server.proofs.ServingLemmas.{rounds_failed, rounds_more, rounds_none, rounds_served}
use Rattle.hub_server.proofs.serving.serve_endpoint.Goals as goal

pub loop-wait-init : goal.loop-wait-init
loop-wait-init g c = (
  rounds_none g.H.Handler.does g.H.Handler.fault_reply g.E.Endpoint.calls c.args.limits
      c.args.handler.now c.args.endpoint.now c.in_ok-server.server c.in_ok-server.ensures,
  ap (λ (t : List Bool). length t) c.in_ok-ready.ensures
      ∙ length-replicate c.args.limits.together false,
)

pub returns-in_err-serve_round-clause-stopped : goal.returns-in_err-serve_round-clause-stopped
returns-in_err-serve_round-clause-stopped g c =
    let p = err_from_is_err_and c.from_residual-in_err-serve_round.result
    c.from_residual-in_err-serve_round.ensures.1 in
    rw (p.1, p.2) (rounds_failed g.H.Handler.does g.H.Handler.fault_reply g.E.Endpoint.calls
    c.args.limits c.in_err-serve_round.field-0.0 c.loop-wait._wait c.loop-wait.server
    c.serve_round.new.self
    c.args.handler.now c.loop-wait.handler c.serve_round.new.handler c.args.endpoint.now
    c.loop-wait.endpoint c.serve_round.new.endpoint c.loop-wait.invariant.0
    c.in_err-serve_round.ensures.failed)

pub loop-wait-preserved : goal.loop-wait-preserved
loop-wait-preserved g c =
    let ready = c.serve_round.new.ready in
    let old = c.loop-wait.ready.items in
    let same : length ready ≡ length c.as_mut_slice.result.now = c.serve_round.auto.ready in
    let before : length c.as_mut_slice.result.now ≡ length old =
    ap (λ (t : List Bool). length t) c.as_mut_slice.ensures.value in (
      rounds_more g.H.Handler.does g.H.Handler.fault_reply g.E.Endpoint.calls c.args.limits
          c.loop-wait._wait c.loop-wait.server c.serve_round.new.self
          c.args.handler.now c.loop-wait.handler c.serve_round.new.handler c.args.endpoint.now
          c.loop-wait.endpoint c.serve_round.new.endpoint c.loop-wait.invariant.0
          c.in_ok-serve_round.ensures.round,
      omega (
        arith,
        length-take c.loop-wait.ready.len (ready ++ drop (length ready) old),
        length-append ready (drop (length ready) old),
        length-drop (length ready) old,
        same,
        before,
        c.loop-wait.ready.ok.0,
        c.loop-wait.invariant.1,
      ),
    )

pub returns-then-is_done-clause-served : goal.returns-then-is_done-clause-served
returns-then-is_done-clause-served g c =
    rounds_served g.H.Handler.does g.H.Handler.fault_reply g.E.Endpoint.calls c.args.limits
    c.loop-wait._wait c.loop-wait.server c.args.handler.now c.loop-wait.handler
    c.args.endpoint.now c.loop-wait.endpoint c.loop-wait.invariant.0
    (c.is_done.ensures.0 c.if-is_done.true)
