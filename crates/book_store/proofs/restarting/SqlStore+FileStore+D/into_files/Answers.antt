use Rattle.std.proofs.Common.{subst}
use Rattle.sqlite.specs.Files.{file_state}
use Rattle.named_files.specs.Restarts.{LeaveSealedOneOf}
use Rattle.store_lookups.specs.StoredBooks.{IsOpenOnHonestDisk, stored_books}
use Rattle.book_store.specs.StoreViews.{LeftTrees}
use Rattle.store_writes.specs.TableChanges.{TreesHold}
use Rattle.book_store.proofs.RestartLemmas.{left_books, left_stores}
use Rattle.book_store.proofs.restarting.SqlStore+FileStore+D.into_files.Goals as goal

pub returns-clause-books : goal.returns-clause-books
returns-clause-books g c =
    subst (λ k. IsOpenOnHonestDisk (file_state k)
    → LeaveSealedOneOf g.D.Disk c.into_files.result (TreesHold (stored_books (file_state k))))
    c.into_connection.ensures.same_connection
    (left_books c.into_connection.result c.args.self.limits c.into_files.result
    c.into_connection.ensures.survives c.into_connection.ensures.is_store
    c.into_files.ensures.sealed)

pub returns-clause-leaves : goal.returns-clause-leaves
returns-clause-leaves g c =
    subst (λ k. LeaveSealedOneOf g.D.Disk c.into_files.result (LeftTrees (file_state k)))
    c.into_connection.ensures.same_connection
    (left_stores c.into_connection.result c.args.self.limits c.into_files.result
    c.into_connection.ensures.is_store c.into_files.ensures.clean c.into_files.ensures.sealed)
