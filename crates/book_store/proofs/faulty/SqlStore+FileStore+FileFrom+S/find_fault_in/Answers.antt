use Rattle.std.proofs.Common.{◌≡◌, None, subst}
use Rattle.sqlite.specs.Files.{file_state}
use Rattle.store_check.specs.OpenResults.{OpensWellFormed, max_limits}
use Rattle.book_store.proofs.SearchLemmas.{opened_search, searched_files}
use Rattle.book_store.proofs.faulty.SqlStore+FileStore+FileFrom+S.find_fault_in.Goals as goal

pub returns-in-Ok-clause-right : goal.returns-in-Ok-clause-right
returns-in-Ok-clause-right g c =
    let same : c.standard.result ≡ max_limits = c.standard.ensures in
    searched_files _ c.in-Ok.connection c.find_faulty_row-found.new.conn c.into_store.result
    c.in-Ok.ensures.opened c.in-Ok.ensures.found c.into_store.ensures.quiet
    c.find_faulty_row-found.result (rw same at c.find_faulty_row-found.ensures.answers)
    (subst (λ limits. OpensWellFormed limits (file_state c.in-Ok.connection)
    (file_state c.find_faulty_row-found.new.conn) c.find_faulty_row-found.result) same
    c.find_faulty_row-found.ensures.opens) c.find_faulty_row-found.ensures.changes_nothing

pub returns-in-Err-clause-right : goal.returns-in-Err-clause-right
returns-in-Err-clause-right g c = c.open_refusal-fault.ensures.right _ c.in-Err.ensures.cause

pub returns-in-Ok-clause-calls : goal.returns-in-Ok-clause-calls
returns-in-Ok-clause-calls g c =
    (None, c.in-Ok.ensures.calls, opened_search c.find_faulty_row-found.result _)
