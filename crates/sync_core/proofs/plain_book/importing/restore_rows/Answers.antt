use Rattle.std.proofs.Common.{List, sym, ap, ◌∙◌}
use Rattle.sync_core.specs.declared.plain_book.importing.SavedRow.{SavedRow}
use Rattle.sync_core.specs.ImportedRows.{rows_restored}
use Rattle.sync_core.proofs.ImportLemmas.{back_from_last}
use Rattle.sync_core.proofs.plain_book.importing.restore_rows.Goals as goal

pub loop-before-preserved : goal.loop-before-preserved
loop-before-preserved c =
    ap (rows_restored c.pop.new.self.items) c.restore_row.ensures
    ∙ sym (back_from_last c.pop.new.self.items c.in-Some.before c.loop-before.rows)
    ∙ sym (ap (λ (ws : List SavedRow). rows_restored ws c.loop-before.rows) c.in-Some.ensures.items)
    ∙ c.loop-before.invariant
