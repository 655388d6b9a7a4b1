use Rattle.sqlite.specs.Files.{file_state}
use Rattle.book_store.proofs.FileLemmas.{created_start}
use Rattle.book_store.specs.PageSums.{has_page_sums}
use Rattle.book_store.proofs.RefusalLemmas.{created_fault, refused_kind}
use Rattle.book_store.proofs.named_stores.SqlStore+FileStore+FileFrom+S.create_in.Goals as goal

pub returns-in-Ok-try_adopt_new-clause-found : goal.returns-in-Ok-try_adopt_new-clause-found
returns-in-Ok-try_adopt_new-clause-found g c =
    let e = c.in-Ok-try_adopt_new.ensures in
    created_start file_state has_page_sums _ c.in-Ok.connection c.in-Ok-try_adopt_new.store.conn
    c.in-Ok.ensures.found c.in-Ok.ensures.sums e.premise e.was_empty e.crash

pub returns-in-Err-try_adopt_new-clause-fault : goal.returns-in-Err-try_adopt_new-clause-fault
returns-in-Err-try_adopt_new-clause-fault g c =
    refused_kind c.in-Ok.connection c.in-Err-try_adopt_new.conn c.in-Err-try_adopt_new.fault
    c.in-Err-try_adopt_new.ensures.refused

pub returns-in-Err-try_adopt_new-clause-refused : goal.returns-in-Err-try_adopt_new-clause-refused
returns-in-Err-try_adopt_new-clause-refused g c =
    created_fault _ c.in-Ok.connection c.in-Err-try_adopt_new.conn
    c.into_store.result c.in-Ok.ensures.opened c.in-Ok.ensures.found c.into_store.ensures.quiet
    c.in-Err-try_adopt_new.fault c.in-Err-try_adopt_new.ensures.refused

pub returns-in-Err-clause-refused : goal.returns-in-Err-clause-refused
returns-in-Err-clause-refused g c =
    c.creation_refusal.ensures.refused _ c.in-Err.ensures.cause
