use Rattle.std.proofs.Common.{sym, subst, inl}
use Rattle.std.proofs.lemmas.Result.{err_from_is_err_and}
use Rattle.vcard_text.specs.Spelling.{Spells}
use Rattle.csv_cards.proofs.CauseLemmas.{reported_fault}
use Rattle.csv_cards.proofs.row.card_of_text_row.Goals as goal

pub returns-in_err-card-clause-cause : goal.returns-in_err-card-clause-cause
returns-in_err-card-clause-cause c =
    let p = err_from_is_err_and c.from_residual.result c.from_residual.ensures.1 in
    let fault = c.in_err-card.field-0.0 in
    rw p.1 (λ n.
    let reported = reported_fault fault _ p.2 n in
    inl (
      fault,
      reported.0,
      record {
        none = λ card spells. cc (c.in_err-card.ensures.every card (subst (λ text. Spells text card)
            (sym c.row_field.ensures) spells) (λ e. reported.1 (cc e)));
        first = rw c.row_field.ensures at (c.in_err-card.ensures.fault reported.1);
      },
    ))
