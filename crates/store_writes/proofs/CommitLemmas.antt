-- One transaction over a connection, for any writes: its commit or its end without one.
use Rattle.std.proofs.Common.{◌≡◌, ◌≢◌, refl, IsTrue, true, false, Result, Err, sym, subst}
use Rattle.sqlite.specs.declared.error.Error.{Error}
use Rattle.sqlite.specs.declared.error.Error.TheVariants.{SqliteFailure}
use Rattle.sqlite.specs.declared.error.ErrorCode.TheVariants.{OutOfMemory}
use Rattle.sqlite.specs.Effect.{Database}
use Rattle.sqlite.specs.Held.{Held, state}
use Rattle.sqlite.specs.State.{HasCleanDisk, IsLive, KeepsCommit, Shows, State, Survives}
use Rattle.sqlite.specs.Steps.{FailsToCommit}
use Rattle.sqlite.specs.Tree.{Trees}
use Rattle.sqlite.proofs.Callers.{survives_begin}
use Rattle.sqlite.proofs.StateLemmas.{survives_then}
use Rattle.store_tables.specs.OnConnections.{Ghosts}
use Rattle.store_tables.specs.Failures.{HasOutsideCause, HasOutsideCauseOfError}
use Rattle.store_tables.specs.SchemaCreation.{HoldsInTx}
use Rattle.store_tables.specs.Tables.{ObeyTables, book_schema}
use Rattle.store_tables.proofs.FailureLemmas.{outside_later}
use Rattle.store_tables.proofs.SchemaCreationLemmas.{clean_before}
use Rattle.store_writes.specs.TableChanges.{IsAtomic}
use Rattle.store_writes.proofs.ChangeLemmas.{committed_done, failed_done}
use Rattle.store_writes.proofs.TransactionFaults.{commit_fails, if_open, live_obeys, outside_sooner}

-- the states of a transaction
pub record Block {S : Type 0} (store : Ghosts S) : Type 0 where
  -- before it
  pub conn : Held S
  -- at its start
  pub begun : Held S
  -- after its writes
  pub mid : Held S
  -- after its commit or its rollback
  pub end : Held S
  -- the same, as the caller has it
  pub last : Held S
  pub begun_is : begun ≡ record conn { in_transaction = true }
  pub same : end ≡ last

module _ {S : Type 0} (store : Ghosts S) (t : Block store) where
  abbrev a : State
  a = state store t.conn

  abbrev b : State
  b = state store t.begun

  abbrev m : State
  m = state store t.mid

  abbrev e : State
  e = state store t.end

  abbrev z : State
  z = state store t.last

  pub clean_end : HasCleanDisk z → HasCleanDisk e
  clean_end clean = subst (λ k. HasCleanDisk (state store k)) (sym t.same) clean

  pub clean_mid : (P : Trees → Type 0) → Survives m e P → HasCleanDisk z → HasCleanDisk m
  clean_mid P survives clean = clean_before P m e survives (clean_end clean)

  pub begun_inside : IsTrue b.in_transaction
  begun_inside = subst (λ k. IsTrue (state store k).in_transaction) (sym t.begun_is) refl

  -- what holds of the tables before the transaction holds at its start
  pub begun_holds : (P : Database → Type 0) → P a.now → P b.now
  begun_holds P h = subst (λ k. P (state store k).now) (sym t.begun_is) h

  -- the commit failed: the tables are as they were before
  pub undone : {A : Type 0} (r : Result A Error) (error : Error) (Then : A → Database → Type 0)
      → r ≡ Err error → (IsTrue a.is_open → a.now ≡ a.committed) → KeepsCommit b m
      → IsTrue m.in_transaction → FailsToCommit m e error → IsAtomic a z r Then
  undone r error Then said settled kept inside failed =
      subst (λ r. IsAtomic a z r Then) (sym said)
      (subst (λ k. IsTrue (state store k).is_open → ((state store k).now ≡ a.now)
      × ((state store k).now ≡ (state store k).committed)) t.same
      (failed_done (state store (record t.conn { in_transaction = true })) m e error
      (subst (λ k. KeepsCommit (state store k) m) t.begun_is kept) inside failed settled))

  -- the writes were committed
  pub done : (Then : Database → Type 0) → HoldsInTx m Then → Shows m e m.now m.now false
      → Then z.now × (z.now ≡ z.committed) × IsTrue z.is_open
  done Then left shows = subst (λ k. Then (state store k).now
      × ((state store k).now ≡ (state store k).committed) × IsTrue (state store k).is_open) t.same
      (committed_done m e Then left shows)

  -- a crash leaves what it could leave before, or what the writes left
  pub survives_both : (Holds : Trees → Type 0) → (HasCleanDisk m → Holds m.now.trees)
      → Survives b m (λ _. ⊥) → Survives m e (λ db. db ≡ m.now.trees) → Survives a z Holds
  survives_both Holds holds one two = subst (λ k. Survives a (state store k) Holds) t.same
      (survives_begin store t.conn e Holds (subst (λ k. Survives (state store k) e Holds) t.begun_is
      (survives_then b m e _ _ Holds (λ _ db none. absurd none)
      (λ clean db trees. subst Holds (sym trees) (holds (clean_before _ m e two clean))) one two)))

  -- the cause of a failed commit
  pub commit_cause : (error : Error) (P : Trees → Type 0) → Survives b m (λ _. ⊥) → Survives m e P
      → HasCleanDisk m → IsTrue m.in_transaction → FailsToCommit m e error
      → error ≢ SqliteFailure OutOfMemory → HasOutsideCause a z
  commit_cause error P one two first inside failed room =
      subst (λ k. HasOutsideCause a (state store k)) t.same
      (subst (λ k. HasOutsideCause (state store k) e) t.begun_is
      (outside_later b m e _ _ one first two (commit_fails m e error inside failed room)))

  -- the cause of failed writes, after which the transaction was rolled back
  pub writes_cause : (P : Trees → Type 0) → Survives m e P → IsLive a → a.now.schema ≡ book_schema
      → (b.now.schema ≡ book_schema → ObeyTables b.now.trees → HasOutsideCause b m)
      → HasOutsideCause a z
  writes_cause P survives live schema cause =
      subst (λ k. HasOutsideCause a (state store k)) t.same
      (if_open a e (λ up. outside_sooner a m e P survives
      (subst (λ k. HasOutsideCause (state store k) m) t.begun_is
      (cause (begun_holds (λ db. db.schema ≡ book_schema) schema)
      (begun_holds (λ db. ObeyTables db.trees) (live_obeys a live schema up))))))

  -- an error of the writes has an outside cause
  pub writes_fail : {A : Type 0} (r : Result A Error) (error : Error) → r ≡ Err error
      → (P : Trees → Type 0) → Survives m e P → IsLive a → a.now.schema ≡ book_schema
      → (b.now.schema ≡ book_schema → ObeyTables b.now.trees → error ≢ SqliteFailure OutOfMemory
      → HasOutsideCause b m) → HasOutsideCauseOfError a z r
  writes_fail r error said P survives live schema cause =
      subst (λ r. HasOutsideCauseOfError a z r) (sym said)
      (λ room. writes_cause P survives live schema (λ named obeys. cause named obeys room))

  -- an error of the commit has an outside cause
  pub commit_fail : {A : Type 0} (r : Result A Error) (error : Error) → r ≡ Err error
      → (P : Trees → Type 0) → Survives b m (λ _. ⊥) → Survives m e P → HasCleanDisk m
      → IsTrue m.in_transaction → FailsToCommit m e error → HasOutsideCauseOfError a z r
  commit_fail r error said P one two first inside failed =
      subst (λ r. HasOutsideCauseOfError a z r) (sym said)
      (commit_cause error P one two first inside failed)
