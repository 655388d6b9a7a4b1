use Rattle.std.proofs.Common.{rules, ◌∷◌, ap, sym, ◌∙◌}
use Rattle.std.proofs.lemmas.List.{nil_from_length}
use Rattle.std.proofs.lemmas.Result.{err_from_is_err_and}
use Rattle.vcard_text.specs.Scanning.{card_rules_fault}
use Rattle.vcard_text.specs.Making.{upper_lines}
use Rattle.vcard_text.specs.MakingSteps.{check_lines_after}
use Rattle.vcard_text.proofs.MakingLemmas.{made_continues, made_fails, made_ends, utf8_after}
use Rattle.vcard_text.proofs.making.check_lines.Goals as goal

pub loop-line-preserved : goal.loop-line-preserved
loop-line-preserved c = record {
  so_far =
      sym (ap (λ line. check_lines_after c.loop-line.made
      (line ∷ upper_lines c.next.new.self.rest.items)) (sym c.with_upper_name.ensures)
      ∙ made_continues c.loop-line.made c.with_upper_name.result
      (upper_lines c.next.new.self.rest.items) c.push_line.new.lines
      c.in_ok-push_line.ensures.appended)
      ∙ sym (ap (λ lines. check_lines_after c.loop-line.made (upper_lines lines))
      c.in-Some.ensures.steps.0)
      ∙ c.loop-line.invariant.so_far;
  utf8 = utf8_after c.loop-line.made c.with_upper_name.result c.push_line.new.lines
      c.in_ok-push_line.ensures.appended c.loop-line.invariant.utf8 c.in_ok-push_line.ensures.utf8;
}

pub returns-in_err-push_line-clause-lines : goal.returns-in_err-push_line-clause-lines
returns-in_err-push_line-clause-lines c =
    let p = err_from_is_err_and c.from_residual.result c.from_residual.ensures.1 in
    rw (p.1, p.2) (λ n.
    sym c.loop-line.invariant.so_far
    ∙ ap (λ lines. check_lines_after c.loop-line.made (upper_lines lines)) c.in-Some.ensures.steps.0
    ∙ ap (λ line. check_lines_after c.loop-line.made
    (line ∷ upper_lines c.next.new.self.rest.items)) (sym c.with_upper_name.ensures)
    ∙ made_fails c.loop-line.made c.with_upper_name.result (upper_lines c.next.new.self.rest.items)
    c.in_err-push_line.field-0.0 (c.in_err-push_line.ensures.appended n))

pub returns-in-None-card_rules_fault-clause-lines :
    goal.returns-in-None-card_rules_fault-clause-lines
returns-in-None-card_rules_fault-clause-lines c =
    sym c.loop-line.invariant.so_far
    ∙ ap (λ lines. check_lines_after c.loop-line.made (upper_lines lines))
    (nil_from_length c.loop-line.line-iterator.rest.items (search rules
    ∙ c.in-None.ensures.steps.0))
    ∙ made_ends c.loop-line.made _ (sym (c.card_rules_fault.ensures
    ∙ ap card_rules_fault c.as_slice.ensures) ∙ c.in-None-card_rules_fault.is)

pub returns-in-Some-card_rules_fault-clause-lines :
    goal.returns-in-Some-card_rules_fault-clause-lines
returns-in-Some-card_rules_fault-clause-lines c = λ n.
    sym c.loop-line.invariant.so_far
    ∙ ap (λ lines. check_lines_after c.loop-line.made (upper_lines lines))
    (nil_from_length c.loop-line.line-iterator.rest.items (search rules
    ∙ c.in-None.ensures.steps.0))
    ∙ made_ends c.loop-line.made _ (sym (c.card_rules_fault.ensures
    ∙ ap card_rules_fault c.as_slice.ensures) ∙ c.in-Some-card_rules_fault.is)
