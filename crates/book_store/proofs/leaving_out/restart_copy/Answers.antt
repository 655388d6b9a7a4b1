use Rattle.sqlite.specs.Files.{file_state}
use Rattle.store_lookups.specs.StoredBooks.{stored_books}
use Rattle.book_store.proofs.CopyLemmas.{is_resync}
use Rattle.book_store.proofs.leaving_out.restart_copy.Goals as goal

pub returns-in_ok-files-in-Ok-clause-restarted : goal.returns-in_ok-files-in-Ok-clause-restarted
returns-in_ok-files-in-Ok-clause-restarted g c clean =
    let was = c.args.copy in
    let now = c.resync.new.store in record {
      after = stored_books (file_state now.conn);
      alone = c.in_ok-files-in-Ok.ensures.alone clean;
      resynced = is_resync was.limits c.args.pairs c.in-Ok.books
          (stored_books (file_state was.conn)) (stored_books (file_state now.conn)) c.requires.some
          (c.in-Ok.ensures.changes.matches_step (c.in_ok-files-in-Ok.ensures.was_open clean));
    }
