use Rattle.std.proofs.Common.{◌≡◌}
use Rattle.sync_core.specs.ImportedRows.{rows_restored}
use Rattle.sync_core.proofs.plain_book.importing.restore_rows.Given as goal

-- restoring the remaining rows gives the same result
abbrev pub invariant-loop-before : goal.invariant-loop-before
invariant-loop-before l = rows_restored l.written.items l.rows ≡ rows_restored l.fn.written.items
    l.fn.rows

abbrev pub decreases-loop-before : goal.decreases-loop-before
decreases-loop-before l = goal.left-loop-before l
