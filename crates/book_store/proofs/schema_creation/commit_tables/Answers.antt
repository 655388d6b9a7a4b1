-- The tables are created in one transaction over an empty schema: all of them, or nothing.
-- Given here: the creation commits nothing (`kept`), so if it fails (`rollback_restores`), or the
-- commit does (`failed_commit`), the database is as before. A connection that is open afterwards
-- was open before (`rolled_open`, `committed_open`).
-- A statement between `create_tables` and `commit` breaks `first`.
use Rattle.std.proofs.Common.{rules, ◌≡◌, IsTrue, true, sym, subst}
use Rattle.std.specs.Prelude.{OnErr, OnOk}
use Rattle.std.proofs.lemmas.Result.{on_ok_weaker}
use Rattle.sqlite.specs.Held.{state}
use Rattle.sqlite.specs.State.{HasCleanDisk, KeepsCommit, Survives}
use Rattle.sqlite.proofs.StateLemmas.{survives_then}
use Rattle.sqlite.proofs.Callers.{survives_begin}
use Rattle.base_types.proofs.TextMapLemmas.{on_err_from}
use Rattle.store_tables.specs.SchemaCreation.{empty_schema}
use Rattle.store_tables.proofs.SchemaCreationLemmas.{clean_before}
use Rattle.store_tables.proofs.ReturningLemmas.{failed_commit}
use Rattle.store_tables.proofs.TransactionLemmas.{rollback_restores}
use Rattle.book_store.specs.OpenOutcomes.{AreNewStoreTrees, IsNewStoreCommitted}
use Rattle.book_store.proofs.SchemaLemmas.{new_store_trees, new_store_committed, rolled_open}
use Rattle.book_store.proofs.SchemaLemmas.{committed_open}
use Rattle.book_store.proofs.schema_creation.commit_tables.Goals as goal

pub returns-in_err-create_tables-clause-unchanged_on_error :
    goal.returns-in_err-create_tables-clause-unchanged_on_error
returns-in_err-create_tables-clause-unchanged_on_error g c clean up bare =
    let old = c.args.conn.now in
    let end = c.drop-tx.new.self.0 in
    let same : end ≡ c.conn-1.given.0 = search rules in
    let late : HasCleanDisk (state g.S.Store end) =
    subst (λ k. HasCleanDisk (state g.S.Store k)) (sym same) clean in
    let top : IsTrue (state g.S.Store end).is_open =
    subst (λ k. IsTrue (state g.S.Store k).is_open) (sym same) up in
    let mid = state g.S.Store c.create_tables.new.tx.conn.now in
    let first : HasCleanDisk mid = clean_before _ mid (state g.S.Store end)
    c.drop-tx.ensures.survives late in
    let begun = c.transaction-tx.ensures.begun in
    let inside : IsTrue (state g.S.Store c.transaction-tx.result.conn.now).in_transaction =
    rw begun in
    let kept : KeepsCommit (state g.S.Store (record old { in_transaction = true })) mid =
    rw begun at (c.create_tables.ensures.no_commit.kept first inside) in
    on_err_from c.from_residual.result
    (subst (λ k. (state g.S.Store k).now ≡ (state g.S.Store old).now) same
    (rollback_restores (state g.S.Store (record old { in_transaction = true })) mid
    (state g.S.Store end) kept (c.drop-tx.ensures.undone late)
    c.assert_no_pending_writes.ensures top).0)

pub returns-in_err-create_tables-clause-was_open : goal.returns-in_err-create_tables-clause-was_open
returns-in_err-create_tables-clause-was_open g c clean up =
    let old = c.args.conn.now in
    let end = c.drop-tx.new.self.0 in
    let same : end ≡ c.conn-1.given.0 = search rules in
    let late : HasCleanDisk (state g.S.Store end) =
    subst (λ k. HasCleanDisk (state g.S.Store k)) (sym same) clean in
    let top : IsTrue (state g.S.Store end).is_open =
    subst (λ k. IsTrue (state g.S.Store k).is_open) (sym same) up in
    let mid = state g.S.Store c.create_tables.new.tx.conn.now in
    let first : HasCleanDisk mid = clean_before _ mid (state g.S.Store end)
    c.drop-tx.ensures.survives late in
    let begun = c.transaction-tx.ensures.begun in
    let inside : IsTrue (state g.S.Store c.transaction-tx.result.conn.now).in_transaction =
    rw begun in
    let kept : KeepsCommit (state g.S.Store (record old { in_transaction = true })) mid =
    rw begun at (c.create_tables.ensures.no_commit.kept first inside) in
    rolled_open (state g.S.Store (record old { in_transaction = true })) mid (state g.S.Store end)
    kept (c.drop-tx.ensures.undone late) top

pub returns-in_err-create_tables-clause-crash : goal.returns-in_err-create_tables-clause-crash
returns-in_err-create_tables-clause-crash g c bare =
    let old = c.args.conn.now in
    let end = c.drop-tx.new.self.0 in
    let same : end ≡ c.conn-1.given.0 = search rules in
    let all = survives_then (state g.S.Store c.transaction-tx.result.conn.now)
    (state g.S.Store c.create_tables.new.tx.conn.now) (state g.S.Store end) _ _ AreNewStoreTrees
    (λ _ db none. absurd none) (λ _ db none. absurd none)
    c.create_tables.ensures.no_commit.survives c.drop-tx.ensures.survives in
    let whole = survives_begin g.S.Store old (state g.S.Store end) AreNewStoreTrees
    (rw c.transaction-tx.ensures.begun at all) in
    subst (λ k. Survives (state g.S.Store old) (state g.S.Store k) AreNewStoreTrees) same whole

pub returns-clause-creates_tables : goal.returns-clause-creates_tables
returns-clause-creates_tables g c clean bare =
    let end = c.commit.new.self.0 in
    let same : end ≡ c.conn-2-1.given.0 = search rules in
    let late : HasCleanDisk (state g.S.Store end) =
    subst (λ k. HasCleanDisk (state g.S.Store k)) (sym same) clean in
    let mid = state g.S.Store c.create_tables.new.tx.conn.now in
    let first : HasCleanDisk mid = clean_before _ mid (state g.S.Store end)
    c.commit.ensures.survives late in
    let begun = c.transaction-tx.ensures.begun in
    let inside : IsTrue (state g.S.Store c.transaction-tx.result.conn.now).in_transaction =
    rw begun in
    let schema : (state g.S.Store c.transaction-tx.result.conn.now).now.schema ≡ empty_schema =
    rw begun bare in
    let created = c.in_ok-create_tables.ensures.creates first inside schema in
    subst (λ k. OnOk c.commit.result (IsNewStoreCommitted (state g.S.Store k))) same
    (on_ok_weaker c.commit.result (λ shows. new_store_committed mid (state g.S.Store end)
    created.holds shows.1) (c.commit.ensures.ok late))

pub returns-clause-unchanged_on_error : goal.returns-clause-unchanged_on_error
returns-clause-unchanged_on_error g c clean up bare =
    let old = c.args.conn.now in
    let end = c.commit.new.self.0 in
    let same : end ≡ c.conn-2-1.given.0 = search rules in
    let late : HasCleanDisk (state g.S.Store end) =
    subst (λ k. HasCleanDisk (state g.S.Store k)) (sym same) clean in
    let top : IsTrue (state g.S.Store end).is_open =
    subst (λ k. IsTrue (state g.S.Store k).is_open) (sym same) up in
    let mid = state g.S.Store c.create_tables.new.tx.conn.now in
    let first : HasCleanDisk mid = clean_before _ mid (state g.S.Store end)
    c.commit.ensures.survives late in
    let begun = c.transaction-tx.ensures.begun in
    let inside : IsTrue (state g.S.Store c.transaction-tx.result.conn.now).in_transaction =
    rw begun in
    let kept : KeepsCommit (state g.S.Store (record old { in_transaction = true })) mid =
    rw begun at (c.create_tables.ensures.no_commit.kept first inside) in
    let schema : (state g.S.Store c.transaction-tx.result.conn.now).now.schema ≡ empty_schema =
    rw begun bare in
    let created = c.in_ok-create_tables.ensures.creates first inside schema in
    subst (λ k. OnErr c.commit.result ((state g.S.Store k).now ≡ (state g.S.Store old).now)) same
    (failed_commit (state g.S.Store (record old { in_transaction = true })) mid
    (state g.S.Store end) c.commit.result kept created.inside c.assert_no_pending_writes.ensures
    (c.commit.ensures.err late) top)

pub returns-clause-was_open : goal.returns-clause-was_open
returns-clause-was_open g c clean up =
    let old = c.args.conn.now in
    let end = c.commit.new.self.0 in
    let same : end ≡ c.conn-2-1.given.0 = search rules in
    let late : HasCleanDisk (state g.S.Store end) =
    subst (λ k. HasCleanDisk (state g.S.Store k)) (sym same) clean in
    let top : IsTrue (state g.S.Store end).is_open =
    subst (λ k. IsTrue (state g.S.Store k).is_open) (sym same) up in
    let mid = state g.S.Store c.create_tables.new.tx.conn.now in
    let first : HasCleanDisk mid = clean_before _ mid (state g.S.Store end)
    c.commit.ensures.survives late in
    let begun = c.transaction-tx.ensures.begun in
    let inside : IsTrue (state g.S.Store c.transaction-tx.result.conn.now).in_transaction =
    rw begun in
    let kept : KeepsCommit (state g.S.Store (record old { in_transaction = true })) mid =
    rw begun at (c.create_tables.ensures.no_commit.kept first inside) in
    committed_open (state g.S.Store (record old { in_transaction = true })) mid
    (state g.S.Store end) c.commit.result kept (c.commit.ensures.ok late)
    (c.commit.ensures.err late) top

pub returns-clause-crash : goal.returns-clause-crash
returns-clause-crash g c bare =
    let old = c.args.conn.now in
    let end = c.commit.new.self.0 in
    let same : end ≡ c.conn-2-1.given.0 = search rules in
    let mid = state g.S.Store c.create_tables.new.tx.conn.now in
    let begun = c.transaction-tx.ensures.begun in
    let inside : IsTrue (state g.S.Store c.transaction-tx.result.conn.now).in_transaction =
    rw begun in
    let schema : (state g.S.Store c.transaction-tx.result.conn.now).now.schema ≡ empty_schema =
    rw begun bare in
    let created = λ (first : HasCleanDisk mid). (c.in_ok-create_tables.ensures.creates first inside
    schema).holds in
    let all = survives_then (state g.S.Store c.transaction-tx.result.conn.now) mid
    (state g.S.Store end) _ _ AreNewStoreTrees (λ _ db none. absurd none)
    (λ clean db made. subst AreNewStoreTrees (sym made)
    (new_store_trees mid.now (created (clean_before _ mid (state g.S.Store end)
    c.commit.ensures.survives clean)))) c.create_tables.ensures.no_commit.survives
    c.commit.ensures.survives in
    let whole = survives_begin g.S.Store old (state g.S.Store end) AreNewStoreTrees
    (rw begun at all) in
    subst (λ k. Survives (state g.S.Store old) (state g.S.Store k) AreNewStoreTrees) same whole
