use Rattle.book_store.proofs.RefusalLemmas.{no_database_left}
use Rattle.book_store.proofs.files.creation_fault_after.Goals as goal

pub returns-in-SqliteFailure-NotADatabase-clause-fault :
    goal.returns-in-SqliteFailure-NotADatabase-clause-fault
returns-in-SqliteFailure-NotADatabase-clause-fault g c files is =
    c.creation_fault.ensures.fault files (no_database_left files c.args.error _ c.args.left.now
    c.in-SqliteFailure-NotADatabase.is (rw c.in-SqliteFailure-NotADatabase.is at
    c.in-SqliteFailure-NotADatabase.field-0-is) is)
