use Rattle.std.proofs.Common.{subst}
use Rattle.sqlite.specs.Files.{file_state}
use Rattle.sqlite.specs.Held.{state}
use Rattle.book_store.specs.ClosedFiles.{AreBooksAlone}
use Rattle.book_store.proofs.CopyLemmas.{both, copied_books}
use Rattle.book_store.proofs.sql_store.SqlStore.copy_to.Goals as goal

pub returns-clause-alone : goal.returns-clause-alone
returns-clause-alone g c =
    both c.close.result _ _ _ (λ files alone was_open honest clean. subst
    (AreBooksAlone g.D.Disk files) (copied_books (state g.S.Store c.args.self.now.conn)
    (file_state c.in_ok-copy.copy.conn) c.in-Ok.rows (c.in-Ok.ensures.lists honest)
    (c.in_ok-copy.ensures.rest (was_open clean))) (alone clean)) c.close.ensures.alone
    c.close.ensures.was_open
