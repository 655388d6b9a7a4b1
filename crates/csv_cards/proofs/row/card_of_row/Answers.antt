use Rattle.std.proofs.Common.{sym, ◌∙◌}
use Rattle.std.proofs.lemmas.Result.{IfErr-weaker}
use Rattle.csv.specs.Records.{fields_of}
use Rattle.csv_cards.proofs.CauseLemmas.{FaultsAreOne, text_least, columns_cause_least}
use Rattle.csv_cards.proofs.row.card_of_row.Goals as goal

pub returns-in-Cards-clause-cause : goal.returns-in-Cards-clause-cause
returns-in-Cards-clause-cause c =
    let many = rw c.in-Cards.is at (sym c.len.ensures ∙ c.if-len-field_count.false
    ∙ c.field_count.ensures) in
    let text = c.is_utf8_row.ensures.0 c.if-not-is_utf8_row.false in
    let one : FaultsAreOne = record {
      text = c.first_fault_without_card.ensures.one;
      made = c.first_fault_of_lines_is_computed.ensures;
    } in
    rw c.in-Cards.is (IfErr-weaker c.card_of_text_row.result _ _ (λ why is n earlier. text_least
    earlier (fields_of c.args.row.now) many text one why (is n))
    c.card_of_text_row.ensures.cause)

pub returns-in-Columns-clause-cause : goal.returns-in-Columns-clause-cause
returns-in-Columns-clause-cause c =
    let many = rw c.in-Columns.is at (sym c.len.ensures ∙ c.if-len-field_count.false
    ∙ c.field_count.ensures) in
    let text = c.is_utf8_row.ensures.0 c.if-not-is_utf8_row.false in
    let one : FaultsAreOne = record {
      text = c.first_fault_without_card.ensures.one;
      made = c.first_fault_of_lines_is_computed.ensures;
    } in
    rw c.in-Columns.is (IfErr-weaker c.card_of_column_row.result _ _
    (λ why is n earlier. columns_cause_least earlier (fields_of c.args.row.now) many text one
    why (is n)) c.card_of_column_row.ensures.cause)
