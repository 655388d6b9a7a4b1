use Rattle.std.proofs.Common.{◌≡◌, ◌&&◌, false, ap, sym, ◌∙◌, arith, length}
use Rattle.std.proofs.lemmas.List.{nil_from_length}
use Rattle.import_text.specs.Pieces.{begin_inside, may_end_line}
use Rattle.import_text.specs.RawLines.{begins_with_word}
use Rattle.import_text.proofs.InsideLemmas.{after, after_none, begin, both_true, first_false}
use Rattle.import_text.proofs.InsideLemmas.{inside_ends, inside_here, inside_later, is_end}
use Rattle.import_text.proofs.InsideLemmas.{is_no_end, line_of, nothing_inside, second_false}
use Rattle.import_text.proofs.pieces.begin_inside.Goals.{else-may_end_line-via-then-may_end_line+else-begins_with_word, else-may_end_line-via-else-may_end_line}
use Rattle.import_text.proofs.pieces.begin_inside.Goals as goal

pub returns-then-octet-eq10 : goal.returns-then-octet-eq10
returns-then-octet-eq10 c = sym (c.loop-octet.invariant.found
    ∙ ap (λ rest. after c.loop-octet.count (begin_inside (line_of rest))) c.in-Some.ensures.cases.0
    ∙ inside_ends c.loop-octet.count c.in-Some.octet.now c.in-Some.tail.now
    (is_end c.in-Some.octet.now c.if-octet-eq10.true))

pub returns-then-begins_with_word : goal.returns-then-begins_with_word
returns-then-begins_with_word c = sym (c.loop-octet.invariant.found
    ∙ ap (λ rest. after c.loop-octet.count (begin_inside (line_of rest))) c.in-Some.ensures.cases.0
    ∙ inside_here c.loop-octet.count c.in-Some.octet.now c.in-Some.tail.now
    (is_no_end c.in-Some.octet.now c.if-octet-eq10.false)
    (both_true _ _ (sym c.if-may_end_line.ensures) (sym c.if-begins_with_word.ensures)))

pub loop-octet-preserved : goal.loop-octet-preserved
loop-octet-preserved c =
    let not_here : (may_end_line c.in-Some.octet.now
    && begins_with_word begin c.in-Some.tail.now) ≡ false =
    elim c.else-may_end_line.branch [
      | else-may_end_line-via-then-may_end_line+else-begins_with_word w ↦
          second_false _ _ (sym w.if-begins_with_word.ensures)
      | else-may_end_line-via-else-may_end_line w ↦
          first_false _ _ (sym w.if-may_end_line.ensures)
    ] in
    let one = ap length c.in-Some.ensures.cases.0 in
    record {
      found = c.loop-octet.invariant.found
          ∙ ap (λ rest. after c.loop-octet.count (begin_inside (line_of rest)))
          c.in-Some.ensures.cases.0
          ∙ inside_later c.loop-octet.count c.in-Some.octet.now c.in-Some.tail.now
          (is_no_end c.in-Some.octet.now c.if-octet-eq10.false) not_here;
      passed = omega (arith, c.loop-octet.invariant.passed, one);
    }

pub returns : goal.returns
returns c = sym (c.loop-octet.invariant.found
    ∙ ap (λ rest. after c.loop-octet.count (begin_inside (line_of rest)))
    (nil_from_length c.loop-octet.rest.now c.in_default.ensures.cases)
    ∙ after_none c.loop-octet.count _ nothing_inside)
