-- Octets of a head are consumed until it ends, the piece ends, or the bound is reached.
-- Given here: what `scan` says of the held octets in these cases: they end a head (`scan_ends`),
-- are a shorter part of one (`beginning_more`), or are exactly as long as the bound (`bound_stop`):
-- not less by the last test, and not more by the room that `scan` got.
-- The bound is written as 16384 here: a new `HEAD_OCTETS_MAX` breaks all three.
use Rattle.std.proofs.Common.{◌≡◌, ◌∙◌, ◌<◌, ◌-◌, ◌≢◌, ◌+◌, ℕ, List, length, sym, ap, refl, subst}
use Rattle.std.proofs.Common.{[], ◌++◌, take, arith, true}
use Rattle.std.proofs.lemmas.List.{append-nil, length-append, length-take}
use Rattle.http_requests.specs.declared.head_state.HeadState.TheVariants.{Ended}
use Rattle.http_requests.specs.HeadEnds.{EndsAtLastOctet}
use Rattle.http_requests.specs.ParsedHeads.{IsBoundFault}
use Rattle.http_requests.specs.internal.Progress.{IsPartialHead}
use Rattle.http_requests.proofs.RunLemmas.{part_none}
use Rattle.std.proofs.lemmas.Result.{err_from_is_err_and}
use Rattle.http_requests.proofs.StepLemmas.{scan_ends, still_going, beginning_more, bound_stop}
use Rattle.http_requests.proofs.StepLemmas.{grown_part, run_none_at}
use Rattle.http_requests.proofs.progress.Progress.consume_head.Goals as goal

pub returns-in_err-extend_from_slice-clause-step : goal.returns-in_err-extend_from_slice-clause-step
returns-in_err-extend_from_slice-clause-step g c =
    let p = err_from_is_err_and c.from_residual.result c.from_residual.ensures.1 in
    rw p.1 (
      part_none g.H.Handler.does g.H.Handler.fault_reply (c.args.self.now.held.items
          ++ c.args.piece.now) c.args.handler.now c.args.handler.now refl,
      c.requires.closed,
    )

pub finish_head-requires-clause-ends : goal.finish_head-requires-clause-ends
finish_head-requires-clause-ends g c =
    let ended : c.scan-used.result.1 ≡ Ended = c.has_ended.ensures.0 c.if-has_ended.true in
    subst EndsAtLastOctet (sym c.in_ok-extend_from_slice.ensures.items)
    (scan_ends c.args.self.now.held.items c.args.piece.now c.args.state c.scan-used.result.1
    (16384 - c.len.result) c.scan-used.result.0 c.requires.holds c.scan-used.ensures ended)

pub returns-in_err-stays_open-clause-step : goal.returns-in_err-stays_open-clause-step
returns-in_err-stays_open-clause-step g c =
    let p = err_from_is_err_and c.from_residual-in_err-stays_open.result
    c.from_residual-in_err-stays_open.ensures.1 in
    rw p.1 (
      grown_part g.H.Handler.does g.H.Handler.fault_reply c.args.self.now.held.items c.args.piece.now
          c.extend_from_slice.new.self.items c.scan-used.result.0
          c.args.handler.now c.finish_head.new.handler c.in_ok-extend_from_slice.ensures.items
          c.in_err-stays_open.ensures.step.0,
      c.in_err-stays_open.ensures.step.1,
    )

pub returns-in_err-refuse-clause-step : goal.returns-in_err-refuse-clause-step
returns-in_err-refuse-clause-step g c =
    let p = err_from_is_err_and c.from_residual-in_err-refuse.result
    c.from_residual-in_err-refuse.ensures.1 in
    rw p.1 (
      part_none g.H.Handler.does g.H.Handler.fault_reply (c.args.self.now.held.items
          ++ c.args.piece.now) c.args.handler.now c.args.handler.now refl,
      c.requires.closed,
    )

pub returns-then-len-lt-HEAD_OCTETS_MAX-clause-step :
    goal.returns-then-len-lt-HEAD_OCTETS_MAX-clause-step
returns-then-len-lt-HEAD_OCTETS_MAX-clause-step g c =
    let s : List ℕ = c.args.self.now.held.items ++ take c.scan-used.result.0 c.args.piece.now in
    let grown : c.extend_from_slice.new.self.items ≡ s = c.in_ok-extend_from_slice.ensures.items in
    let going : c.scan-used.result.1 ≢ Ended = λ e. let t : c.has_ended.result ≡ true =
    c.has_ended.ensures.1 e in cc (t, c.if-has_ended.false) in
    let short : length s < 16384 = omega (
      arith,
      ap length grown,
      c.extend_from_slice.new.self.ok,
      c.if-len-lt-HEAD_OCTETS_MAX.true,
      c.len-else-has_ended.ensures,
    ) in
    record {
      holds = subst (λ (t : List ℕ). IsPartialHead t c.scan-used.result.1) (sym grown)
          (beginning_more c.args.self.now.held.items c.args.piece.now c.args.state
          c.scan-used.result.1 (16384 - c.len.result) c.scan-used.result.0 c.requires.holds
          c.scan-used.ensures going short);
      is_open = λ h. h;
      added = [];
      out_is = sym (append-nil c.args.out.now.items);
      runs = run_none_at g.H.Handler.does g.H.Handler.fault_reply s
          c.extend_from_slice.new.self.items c.args.handler.now grown;
    }

pub returns-in_ok-refuse-clause-step : goal.returns-in_ok-refuse-clause-step
returns-in_ok-refuse-clause-step g c =
    let held : List ℕ = c.args.self.now.held.items in
    let taken : List ℕ = take c.scan-used.result.0 c.args.piece.now in
    let s : List ℕ = held ++ taken in
    let grown : c.extend_from_slice.new.self.items ≡ s = c.in_ok-extend_from_slice.ensures.items in
    let going : c.scan-used.result.1 ≢ Ended = λ e. let t : c.has_ended.result ≡ true =
    c.has_ended.ensures.1 e in cc (t, c.if-has_ended.false) in
    let sum : length s ≡ length held + length taken = length-append held taken in
    let few = length-take c.scan-used.result.0 c.args.piece.now in
    let long : length s ≡ 16384 =
    omega (
      arith,
      sum,
      few,
      c.scan-used.ensures.fits,
      c.len.ensures,
      c.args.self.now.held.ok,
      c.requires.holds.short,
      ap length grown,
      c.extend_from_slice.new.self.ok,
      c.if-len-lt-HEAD_OCTETS_MAX.false,
      c.len-else-has_ended.ensures,
    ) in
    record {
      is_closed = c.requires.closed;
      added = g.H.Handler.fault_reply c.bound_fault-fault.result;
      out_is = c.in_ok-refuse.ensures;
      stopped = bound_stop g.H.Handler.does g.H.Handler.fault_reply s c.args.handler.now
          c.bound_fault-fault.result
          (still_going held c.args.piece.now c.args.state c.scan-used.result.1
          (16384 - c.len.result) c.scan-used.result.0 c.requires.holds c.scan-used.ensures
          going)
          long (subst (λ (t : List ℕ). IsBoundFault t c.bound_fault-fault.result)
          (c.deref.ensures.value ∙ grown) c.bound_fault-fault.ensures);
    }
