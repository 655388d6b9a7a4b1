use Rattle.std.proofs.Common.{rules, ◌≡◌, ◌∙◌, Ok}
use Rattle.book_model.specs.declared.answers.PutAnswer.TheVariants.{Edited}
use Rattle.book_model.specs.Putting.{as_found_member, next_number}
use Rattle.book_model.proofs.PutLemmas.{edited, over_same, over_other}
use Rattle.book_model.proofs.decisions.putting.answer_over_live.Goals as goal

pub returns-then-is_same-clause-answer : goal.returns-then-is_same-clause-answer
returns-then-is_same-clause-answer c =
    over_same c.args.card.now c.in-Some.version c.in-Some.stored c.args.found.live c.in-Some.is
    c.args.limits (as_found_member c.args.found) (search rules)

pub returns-in_err-version-2-clause-answer : goal.returns-in_err-version-2-clause-answer
returns-in_err-version-2-clause-answer c =
    let said : c.from_residual-in_err-version-2.result
    ≡ edited (next_number c.args.limits c.args.found.number) = search rules in
    said ∙ over_other c.args.card.now c.in-Some.version c.in-Some.stored c.args.found.live
    c.in-Some.is c.args.limits (as_found_member c.args.found) (search rules)

pub returns-clause-answer : goal.returns-clause-answer
returns-clause-answer c =
    let said : Ok (Edited c.in_ok-version-2.version)
    ≡ edited (next_number c.args.limits c.args.found.number) = search rules in
    said ∙ over_other c.args.card.now c.in-Some.version c.in-Some.stored c.args.found.live
    c.in-Some.is c.args.limits (as_found_member c.args.found) (search rules)
