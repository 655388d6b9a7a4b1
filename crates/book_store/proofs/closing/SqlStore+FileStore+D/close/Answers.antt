use Rattle.std.proofs.Common.{subst}
use Rattle.sqlite.specs.Files.{file_state}
use Rattle.book_store.specs.ClosedFiles.{AreBooksAlone, AreTreesAlone}
use Rattle.store_lookups.specs.StoredBooks.{stored_books}
use Rattle.book_store.proofs.CopyLemmas.{closed_alone, closed_trees}
use Rattle.book_store.proofs.closing.SqlStore+FileStore+D.close.Goals as goal

pub returns-in-Ok-clause-whole : goal.returns-in-Ok-clause-whole
returns-in-Ok-clause-whole g c clean =
    subst (λ k. AreTreesAlone g.D.Disk c.in-Ok.files (file_state k).now.trees)
    c.into_connection.ensures.same_connection
    (closed_trees c.into_connection.result c.in-Ok.files c.args.self.limits
    c.into_connection.ensures.is_store (c.in-Ok.ensures.copied clean))

pub returns-in-Ok-clause-alone : goal.returns-in-Ok-clause-alone
returns-in-Ok-clause-alone g c clean =
    subst (λ k. AreBooksAlone g.D.Disk c.in-Ok.files (stored_books (file_state k)))
    c.into_connection.ensures.same_connection
    (closed_alone c.into_connection.result c.in-Ok.files c.args.self.limits
    c.into_connection.ensures.is_store (c.in-Ok.ensures.copied clean))
