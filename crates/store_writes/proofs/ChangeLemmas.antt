-- The state after a transaction, for any writes.
use Rattle.std.proofs.Common.{◌≡◌, ◌⊎◌, inl, inr, false, IsTrue, true≢false, [], List, ℕ, Result}
use Rattle.std.proofs.Common.{Ok, Err, IfErr, IfOk, sym, subst, ◌∙◌}
use Rattle.std.specs.Prelude.{IsErrAnd, MatchResult}
use Rattle.sqlite.specs.declared.error.Error.{Error}
use Rattle.sqlite.specs.Effect.{Database}
use Rattle.sqlite.specs.State.{State, HasCleanDisk, IsNotRun, IsRolledBack, IsUnchanged}
use Rattle.sqlite.specs.State.{KeepsCommit, Shows, Survives}
use Rattle.sqlite.specs.Steps.{FailsToCommit}
use Rattle.sqlite.proofs.StateLemmas.{survives_weaker}
use Rattle.store_tables.specs.SchemaCreation.{HoldsInTx}
use Rattle.store_tables.specs.StatementEffects.{OnlyReads}
use Rattle.store_tables.proofs.Lookups.{leaves_as, left_open}
use Rattle.store_tables.proofs.TransactionLemmas.{rollback_restores}
use Rattle.store_writes.specs.TableChanges.{IsAtomic}

-- ---- a statement that was prepared

prepared : {X : Type 0} (Q : X → Type 0) (sql : List ℕ) (old new : State) (r : Result X Error)
    → IfOk r (λ s. Q s × IsUnchanged old new) → IfErr r (λ e. (params : _)
    → IsNotRun old new sql params e) → IsUnchanged old new ⊎ IsRolledBack old new
unfolding IsNotRun
prepared Q sql old new (Ok s) ok err = inl ok.1
prepared Q sql old new (Err e) ok err = elim (err []) [ inl h ↦ inl h.1 | inr h ↦ inr h.3 ]

pub prepare_reads : {X : Type 0} (Q : X → Type 0) (sql : List ℕ) (old new : State) (r :
    Result X Error) → (HasCleanDisk new → IfOk r (λ s. Q s × IsUnchanged old new))
    → (HasCleanDisk new → IfErr r (λ e. (params : _) → IsNotRun old new sql params e))
    → (old.in_transaction ≡ false → new.in_transaction ≡ false) → Survives old new (λ _. ⊥)
    → OnlyReads old new
prepare_reads Q sql old new r ok err mode survives = record {
  mode = mode;
  was_open = λ clean up. left_open old new (prepared Q sql old new r (ok clean) (err clean)) up;
  survives = survives_weaker old new _ _ (λ _ db none. absurd none) survives;
  same = λ clean has up settled. leaves_as old new settled (prepared Q sql old new r (ok clean)
      (err clean)) up;
}

-- ---- a transaction

-- it was committed
pub committed_done : (mid end : State) (P : Database → Type 0) → HoldsInTx mid P
    → Shows mid end mid.now mid.now false → P end.now × (end.now ≡ end.committed)
    × IsTrue end.is_open
committed_done mid end P left shows = (
  subst P (sym shows.now_is) left.holds,
  shows.now_is
      ∙ sym shows.committed_is,
  shows.is_open,
)

-- its commit failed
pub failed_done : (begun mid end : State) (e : Error) → KeepsCommit begun mid
    → IsTrue mid.in_transaction → FailsToCommit mid end e
    → (IsTrue begun.is_open → begun.now ≡ begun.committed) → IsTrue end.is_open
    → (end.now ≡ begun.now) × (end.now ≡ end.committed)
failed_done begun mid end e kept inside (inl h) settled up =
    rollback_restores begun mid end kept h.3 settled up
failed_done begun mid end e kept inside (inr h) settled up = absurd (true≢false (sym inside ∙ h.1))

-- an error that is converted leaves the same outcome
pub mapped_atomic : {A E D : Type 0} (old new : State) (r : Result A E) (s : Result A D) (P : E → D
    → Type 0) (Then : A → Database → Type 0)
    → MatchResult r (λ x. s ≡ Ok x) (λ e. IsErrAnd s (P e)) → IsAtomic old new r Then
    → IsAtomic old new s Then
mapped_atomic old new (Ok x) s P Then is done = subst (λ t. IsAtomic old new t Then) (sym is) done
mapped_atomic old new (Err e) (Ok y) P Then is done = absurd is
mapped_atomic old new (Err e) (Err d) P Then is done = done
