use Rattle.std.proofs.Common.{rules}
use Rattle.sqlite.specs.Held.{state}
use Rattle.store_lookups.proofs.StoreFaultLemmas.{passed_cause}
use Rattle.store_writes.proofs.CommitLemmas.{Block, begun_inside, clean_end, clean_mid}
use Rattle.store_writes.proofs.CommitLemmas.{commit_cause, writes_cause}
use Rattle.store_writes.proofs.TransactionFaults.{error_faults}
use Rattle.store_inserts.specs.internal.Importing.{AcceptsImportOf}
use Rattle.store_inserts.proofs.importing.commit_import.Goals as goal

-- the writes failed
pub returns-in_err-import_rows-clause-store_fault :
    goal.returns-in_err-import_rows-clause-store_fault
returns-in_err-import_rows-clause-store_fault g c fits few rows name clean accepts =
    let t : Block g.S.Store = record {
      conn = c.args.conn.now;
      begun = c.transaction-tx.result.conn.now;
      mid = c.import_rows.new.tx.conn.now;
      end = c.drop-tx.new.self.0;
      last = c.conn-1.given.0;
      begun_is = c.transaction-tx.ensures.begun;
      same = search rules;
    } in
    let first = clean_mid g.S.Store t _ c.drop-tx.ensures.survives clean in
    let there : AcceptsImportOf (state g.S.Store c.transaction-tx.result.conn.now).now rows name
    c.args.header c.args.key.now = rw c.transaction-tx.ensures.begun accepts in
    passed_cause c.from_residual.result c.in_err-import_rows.field-0.0 _ c.from_residual.ensures.1
    (λ store. writes_cause g.S.Store t _ c.drop-tx.ensures.survives c.schema-tables.ensures.live
    accepts.book.line.holds.schema
    (λ named obeys. c.in_err-import_rows.ensures.store_fault fits few rows name there first
    (begun_inside g.S.Store t) obeys store))

-- the commit failed
pub returns-in-Err-clause-store_fault : goal.returns-in-Err-clause-store_fault
returns-in-Err-clause-store_fault g c fits few rows name clean accepts =
    let t : Block g.S.Store = record {
      conn = c.args.conn.now;
      begun = c.transaction-tx.result.conn.now;
      mid = c.import_rows.new.tx.conn.now;
      end = c.commit.new.self.0;
      last = c.conn-2-1.given.0;
      begun_is = c.transaction-tx.ensures.begun;
      same = search rules;
    } in
    let first = clean_mid g.S.Store t _ c.commit.ensures.survives clean in
    let there : AcceptsImportOf (state g.S.Store c.transaction-tx.result.conn.now).now rows name
    c.args.header c.args.key.now = rw c.transaction-tx.ensures.begun accepts in
    let left = c.in_ok-import_rows.ensures.books_after rows name first (begun_inside g.S.Store t)
    there.book.line accepts.unused in
    error_faults c.in-Err.error c.fault_of.result _ c.fault_of.ensures.value
    (λ room. commit_cause g.S.Store t c.in-Err.error _ c.import_rows.ensures.survives
    c.commit.ensures.survives first left.inside
    (c.in-Err.ensures.err (clean_end g.S.Store t clean)) room)
