use Rattle.std.proofs.Common.{sym, ap, subst, ◌∙◌, inr}
use Rattle.std.proofs.lemmas.Result.{err_from_is_err_and}
use Rattle.csv.specs.Records.{fields_of}
use Rattle.vcard_text.specs.Cards.{IsCard}
use Rattle.vcard_text.specs.Making.{upper_lines}
use Rattle.csv_cards.proofs.CauseLemmas.{reported_fault}
use Rattle.csv_cards.proofs.ColumnLemmas.{upper_columns}
use Rattle.csv_cards.proofs.row.card_of_column_row.Goals as goal

pub returns-in_err-card_of_lines-clause-cause : goal.returns-in_err-card_of_lines-clause-cause
returns-in_err-card_of_lines-clause-cause c =
    let p = err_from_is_err_and c.from_residual-in_err-card_of_lines.result
    c.from_residual-in_err-card_of_lines.ensures.1 in
    let fault = c.in_err-card_of_lines.field-0.0 in
    let upper = ap upper_lines c.in_ok-lines.ensures ∙ upper_columns (fields_of c.args.row.now) in
    rw p.1 (λ n.
    let reported = reported_fault fault _ p.2 n in
    inr (
      fault,
      reported.0,
      c.in_ok-has_name.ensures.yes c.if-not-branch.false,
      record {
        none = λ card. cc (c.in_err-card_of_lines.ensures.every (subst IsCard (sym upper) card)
            (λ e. reported.1 (cc e)));
        first = rw c.in_ok-lines.ensures at (c.in_err-card_of_lines.ensures.fault reported.1);
      },
    ))
