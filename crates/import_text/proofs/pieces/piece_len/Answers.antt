use Rattle.std.proofs.Common.{◌≡◌, ◌-◌, rules, ap, take, length, refl, sym, ◌∙◌, arith}
use Rattle.std.proofs.lemmas.List.{length-drop}
use Rattle.import_text.specs.declared.pieces.Step.TheVariants.{Ends, GoesOn}
use Rattle.import_text.specs.Pieces.{step_in}
use Rattle.import_text.specs.internal.LineLens.{line_len}
use Rattle.import_text.proofs.PieceLemmas.{ends_at, goes_on_at, all_passed}
use Rattle.import_text.proofs.pieces.piece_len.Goals as goal

pub returns-in-Ends-clause-len : goal.returns-in-Ends-clause-len
returns-in-Ends-clause-len c = ends_at c.args.inside c.loop-end.nesting c.args.octets.now
    c.split_at.result.1.now _ c.loop-end.end (line_len c.split_at.result.1.now)
    (Ends c.in-Ends.count) c.in-Ends.count c.loop-end-test.true (search rules) refl
    (sym c.in-Ends.is ∙ c.step_in-step.ensures.step) refl c.loop-end.invariant.len

pub loop-end-preserved : goal.loop-end-preserved
loop-end-preserved c =
    let left : length c.split_at.result.1.now ≡ length c.args.octets.now - c.loop-end.end =
    search (arith, rules, length-drop) in
    let len = c.step_in-step.ensures.len c.in-GoesOn.next c.in-GoesOn.is in
    let deeper = c.step_in-step.ensures.depth c.in-GoesOn.next c.in-GoesOn.is in
    let depth = c.loop-end.invariant.depth in
    record {
      within = grind (arith, left, len);
      depth = grind (arith, deeper, depth, left, len);
      begun = λ e. absurd (grind (arith, e, left, len));
      len = goes_on_at c.args.inside c.loop-end.nesting c.args.octets.now c.split_at.result.1.now _
          c.loop-end.end c.step_in-step.result.1 (GoesOn c.in-GoesOn.next) c.in-GoesOn.next
          c.loop-end-test.true (search rules) len
          (sym c.in-GoesOn.is ∙ c.step_in-step.ensures.step
          ∙ ap (λ n. step_in c.args.inside c.loop-end.nesting (take n c.split_at.result.1.now))
          (sym len)) refl c.loop-end.invariant.len;
    }

pub returns-clause-len : goal.returns-clause-len
returns-clause-len c = all_passed c.args.inside c.loop-end.nesting c.args.octets.now _
    c.loop-end.end c.loop-end-test.false c.loop-end.invariant.len
