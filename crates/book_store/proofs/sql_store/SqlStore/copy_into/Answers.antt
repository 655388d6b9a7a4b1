use Rattle.std.proofs.Common.{◌∙◌}
use Rattle.sqlite.specs.Held.{state}
use Rattle.book_store.proofs.CopyLemmas.{both, copied_books}
use Rattle.book_store.proofs.sql_store.SqlStore.copy_into.Goals as goal

pub returns-clause-limits : goal.returns-clause-limits
returns-clause-limits g c =
    both c.copy_rows.result _ _ _ (λ copy is again. is ∙ c.list_rows.ensures.terms.limits)
    c.copy_rows.ensures.limits c.copy_rows.ensures.limits

pub returns-clause-books : goal.returns-clause-books
returns-clause-books g c =
    both c.copy_rows.result _ _ _ (λ copy rest again honest order. copied_books
    (state g.S.Store c.args.self.now.conn) (state g.T.Store copy.conn) c.in_ok-rows.rows
    (c.in_ok-rows.ensures.lists honest) (rest order)) c.copy_rows.ensures.rest
    c.copy_rows.ensures.rest
