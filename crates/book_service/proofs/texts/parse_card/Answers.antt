use Rattle.std.proofs.lemmas.Result.{err_from_is_err_and}
use Rattle.book_service.proofs.TextLemmas.{denied_for}
use Rattle.book_service.proofs.texts.parse_card.Goals as goal

pub returns-in_err-card : goal.returns-in_err-card
returns-in_err-card c =
    let p = err_from_is_err_and c.from_residual.result c.from_residual.ensures.1 in
    rw (p.1, p.2) (denied_for c.first_fault_without_card.ensures.either c.args.uid.now
    c.args.text.now c.in_err-card.field-0.0 c.in_err-card.ensures.fault)
