use Rattle.sqlite.specs.Files.{file_state, image_of}
use Rattle.book_store.proofs.RestartLemmas.{crashed_again, crashed_store}
use Rattle.book_store.proofs.restarting.SqlStore+FileStore+D.crash.Goals as goal

pub returns-clause-leaves : goal.returns-clause-leaves
returns-clause-leaves g c clean =
    crashed_store c.args.self.conn c.into_files.result c.into_files.ensures.leaves
    c.into_files.ensures.clean (c.crash_files.ensures.clean clean)
    (image_of g.D.Disk c.crash_files.result) c.crash_files.ensures.crash

pub returns-clause-again : goal.returns-clause-again
returns-clause-again g c =
    crashed_again g.D.Disk (file_state c.args.self.conn) c.into_files.result c.crash_files.result
    (crashed_store c.args.self.conn c.into_files.result c.into_files.ensures.leaves
    c.into_files.ensures.clean) c.crash_files.ensures.clean c.crash_files.ensures.again
