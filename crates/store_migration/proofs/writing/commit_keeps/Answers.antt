use Rattle.std.proofs.Common.{rules, ◌≡◌, Err, IsTrue, true, sym, subst}
use Rattle.sqlite.specs.Held.{state}
use Rattle.sqlite.specs.State.{HasCleanDisk, KeepsCommit}
use Rattle.store_tables.specs.Books.{HoldBooks}
use Rattle.store_tables.specs.Failures.{HasOutsideCause, HasOutsideCauseOfError}
use Rattle.store_tables.proofs.SchemaCreationLemmas.{clean_before}
use Rattle.store_tables.proofs.TransactionCauses.{commit_error, outside_sooner}
use Rattle.store_migration.specs.Migration.{AddsKeeps}
use Rattle.store_migration.specs.internal.MigrationWrites.{CommitsKeeps, IsFirstWithId}
use Rattle.store_migration.proofs.WriteLemmas.{commits}
use Rattle.store_migration.proofs.writing.commit_keeps.Goals as goal

pub returns-clause-atomic : goal.returns-clause-atomic
returns-clause-atomic g c id keep_rows clean first returned =
    let old = c.args.conn.now in
    let end = c.commit.new.self.0 in
    let same : end ≡ c.conn-2-1.given.0 = search rules in
    let late : HasCleanDisk (state g.S.Store end) =
    subst (λ k. HasCleanDisk (state g.S.Store k)) (sym same) clean in
    let mid = state g.S.Store c.write_keeps.new.tx.conn.now in
    let early : HasCleanDisk mid = clean_before _ mid (state g.S.Store end)
    c.commit.ensures.survives late in
    let begun = c.transaction-tx.ensures.begun in
    let inside : IsTrue (state g.S.Store c.transaction-tx.result.conn.now).in_transaction =
    rw begun in
    let there : IsFirstWithId id (state g.S.Store c.transaction-tx.result.conn.now).now =
    rw begun first in
    let left = rw begun at (c.in_ok-write_keeps.ensures.writes id keep_rows early inside there
    returned) in
    let kept : KeepsCommit (state g.S.Store (record old { in_transaction = true })) mid =
    rw begun at (c.write_keeps.ensures.keeps_commit id keep_rows early inside there returned) in
    subst (λ k. CommitsKeeps (state g.S.Store old) (state g.S.Store k) c.commit.result
    (AddsKeeps keep_rows (state g.S.Store old).now)) same
    (commits (state g.S.Store (record old { in_transaction = true })) mid (state g.S.Store end)
    c.commit.result (AddsKeeps keep_rows (state g.S.Store old).now) kept left
    c.assert_no_pending_writes.ensures (c.commit.ensures.ok late) (c.commit.ensures.err late))

-- ---- errors

pub returns-in_err-write_keeps-clause-fails_from_outside :
    goal.returns-in_err-write_keeps-clause-fails_from_outside
returns-in_err-write_keeps-clause-fails_from_outside g c id keep_rows bs clean first returned books
    accept =
    let old = c.args.conn.now in
    let end = c.drop-tx.new.self.0 in
    let same : end ≡ c.conn-1.given.0 = search rules in
    let late : HasCleanDisk (state g.S.Store end) =
    subst (λ k. HasCleanDisk (state g.S.Store k)) (sym same) clean in
    let mid = state g.S.Store c.write_keeps.new.tx.conn.now in
    let early : HasCleanDisk mid = clean_before _ mid (state g.S.Store end)
    c.drop-tx.ensures.survives late in
    let begun = c.transaction-tx.ensures.begun in
    let inside : IsTrue (state g.S.Store c.transaction-tx.result.conn.now).in_transaction =
    rw begun in
    let there : IsFirstWithId id (state g.S.Store c.transaction-tx.result.conn.now).now =
    rw begun first in
    let held : HoldBooks ((state g.S.Store c.transaction-tx.result.conn.now).now.trees 2) bs =
    rw begun books in
    let said : c.from_residual.result ≡ Err c.in_err-write_keeps.field-0.0 = search rules in
    subst (λ r. HasOutsideCauseOfError (state g.S.Store old) (state g.S.Store c.conn-1.given.0) r)
    (sym said) (λ room. subst (λ k. HasOutsideCause (state g.S.Store old) (state g.S.Store k)) same
    (outside_sooner (state g.S.Store old) mid (state g.S.Store end) _ c.drop-tx.ensures.survives
    (subst (λ k. HasOutsideCause (state g.S.Store k) mid) begun
    (c.in_err-write_keeps.ensures.fails_from_outside id keep_rows bs early inside there returned
    held accept room))))

pub returns-clause-fails_from_outside : goal.returns-clause-fails_from_outside
returns-clause-fails_from_outside g c id keep_rows bs clean first returned books accept =
    let old = c.args.conn.now in
    let end = c.commit.new.self.0 in
    let same : end ≡ c.conn-2-1.given.0 = search rules in
    let late : HasCleanDisk (state g.S.Store end) =
    subst (λ k. HasCleanDisk (state g.S.Store k)) (sym same) clean in
    let mid = state g.S.Store c.write_keeps.new.tx.conn.now in
    let early : HasCleanDisk mid = clean_before _ mid (state g.S.Store end)
    c.commit.ensures.survives late in
    let begun = c.transaction-tx.ensures.begun in
    let inside : IsTrue (state g.S.Store c.transaction-tx.result.conn.now).in_transaction =
    rw begun in
    let there : IsFirstWithId id (state g.S.Store c.transaction-tx.result.conn.now).now =
    rw begun first in
    let left = c.in_ok-write_keeps.ensures.writes id keep_rows early inside there returned in
    subst (λ k. HasOutsideCauseOfError (state g.S.Store old) (state g.S.Store k) c.commit.result)
    same
    (subst (λ k. HasOutsideCauseOfError (state g.S.Store k) (state g.S.Store end) c.commit.result)
    begun (commit_error (state g.S.Store c.transaction-tx.result.conn.now) mid
    (state g.S.Store end) c.commit.result _ _ c.write_keeps.ensures.survives early
    c.commit.ensures.survives left.inside (c.commit.ensures.err late)))
