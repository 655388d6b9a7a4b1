use Rattle.std.proofs.Common.{◌≡◌, ◌<◌, ℕ, List, length, sym, ap, refl, subst, [], ◌++◌, take}
use Rattle.std.proofs.Common.{arith}
use Rattle.std.proofs.lemmas.List.{append-nil}
use Rattle.http_requests.specs.internal.Progress.{HoldsBody, IsPartialBody}
use Rattle.http_requests.proofs.RunLemmas.{part_none}
use Rattle.std.proofs.lemmas.Result.{err_from_is_err_and}
use Rattle.http_requests.proofs.StepLemmas.{body_more, waiting_more, grown_part, run_none_at}
use Rattle.http_requests.proofs.progress.Progress.consume_body.Goals as goal

pub returns-in_err-extend_from_slice-clause-step : goal.returns-in_err-extend_from_slice-clause-step
returns-in_err-extend_from_slice-clause-step g c =
    let p = err_from_is_err_and c.from_residual.result c.from_residual.ensures.1 in
    rw p.1 (
      part_none g.H.Handler.does g.H.Handler.fault_reply (c.args.self.now.held.items
          ++ c.args.piece.now) c.args.handler.now c.args.handler.now refl,
      c.requires.closed,
    )

pub returns-in_err-stays_open-clause-step : goal.returns-in_err-stays_open-clause-step
returns-in_err-stays_open-clause-step g c =
    let p = err_from_is_err_and c.from_residual-in_err-stays_open.result
    c.from_residual-in_err-stays_open.ensures.1 in
    rw p.1 (
      grown_part g.H.Handler.does g.H.Handler.fault_reply c.args.self.now.held.items c.args.piece.now
          c.extend_from_slice.new.self.items c.min-used.result
          c.args.handler.now c.finish_body.new.handler c.in_ok-extend_from_slice.ensures.items
          c.in_err-stays_open.ensures.step.0,
      c.in_err-stays_open.ensures.step.1,
    )

pub returns-then-len-end-clause-step : goal.returns-then-len-end-clause-step
returns-then-len-end-clause-step g c =
    let grown : c.extend_from_slice.new.self.items ≡ c.args.self.now.held.items
    ++ take c.min-used.result c.args.piece.now = c.in_ok-extend_from_slice.ensures.items in
    let short : length (c.args.self.now.held.items ++ take c.min-used.result c.args.piece.now) <
    c.args.end = omega (
      arith,
      ap length grown,
      c.extend_from_slice.new.self.ok,
      c.if-len-end.true,
      c.len-2.ensures,
    ) in
    record {
      holds = subst (λ (t : List ℕ). IsPartialBody t c.args.start c.args.end) (sym grown)
          (waiting_more c.args.self.now.held.items (take c.min-used.result c.args.piece.now)
          c.args.start c.args.end c.requires.holds short);
      is_open = λ h. h;
      added = [];
      out_is = sym (append-nil c.args.out.now.items);
      runs = run_none_at g.H.Handler.does g.H.Handler.fault_reply (c.args.self.now.held.items
          ++ take c.min-used.result c.args.piece.now) c.extend_from_slice.new.self.items
          c.args.handler.now grown;
    }

pub finish_body-requires-clause-holds : goal.finish_body-requires-clause-holds
finish_body-requires-clause-holds g c =
    subst (λ (t : List ℕ). HoldsBody t c.args.start c.args.end)
    (sym c.in_ok-extend_from_slice.ensures.items)
    (body_more c.args.self.now.held.items (take c.min-used.result c.args.piece.now) c.args.start
    c.args.end c.requires.holds.holds)
