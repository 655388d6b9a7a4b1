use Rattle.std.proofs.Common.{List, ap, ◌∙◌}
use Rattle.sync_core.specs.declared.plain_book.importing.SavedRow.{SavedRow}
use Rattle.sync_core.specs.ImportedRows.{row_restored, rows_restored}
use Rattle.sync_core.proofs.ImportLemmas.{back_from_last, written_back}
use Rattle.sync_core.proofs.RowLemmas.{Rows}
use Rattle.sync_core.proofs.plain_book.importing.write_row.Goals as goal

pub returns-in-Ok-clause-restorable : goal.returns-in-Ok-clause-restorable
returns-in-Ok-clause-restorable c =
    ap (λ (ws : List SavedRow). rows_restored ws c.replace_row.new.rows) c.in-Ok.ensures.items
    ∙ back_from_last c.args.written.now.items _ c.replace_row.new.rows
    ∙ ap (rows_restored c.args.written.now.items)
    (ap (λ (r : Rows). row_restored r c.args.uid.now c.in_ok-before.before)
    c.in_ok-before.ensures.ok
    ∙ written_back c.args.rows.now c.args.uid.now c.args.row c.in_ok-before.before
    c.in_ok-before.ensures.before)

pub returns-in-Err-clause-err : goal.returns-in-Err-clause-err
returns-in-Err-clause-err c =
    c.restore_row.ensures
    ∙ ap (λ (b : SavedRow). row_restored c.replace_row.new.rows b.uid.now b.row)
    c.in-Err.ensures.value_returned
    ∙ ap (λ (r : Rows). row_restored r c.args.uid.now c.in_ok-before.before)
    c.in_ok-before.ensures.ok
    ∙ written_back c.args.rows.now c.args.uid.now c.args.row c.in_ok-before.before
    c.in_ok-before.ensures.before

pub returns-in-Err-clause-restorable : goal.returns-in-Err-clause-restorable
returns-in-Err-clause-restorable c =
    ap (λ (ws : List SavedRow). rows_restored ws c.restore_row.new.rows) c.in-Err.ensures.items
    ∙ ap (rows_restored c.args.written.now.items) (c.restore_row.ensures
    ∙ ap (λ (b : SavedRow). row_restored c.replace_row.new.rows b.uid.now b.row)
    c.in-Err.ensures.value_returned
    ∙ ap (λ (r : Rows). row_restored r c.args.uid.now c.in_ok-before.before)
    c.in_ok-before.ensures.ok
    ∙ written_back c.args.rows.now c.args.uid.now c.args.row c.in_ok-before.before
    c.in_ok-before.ensures.before)
