-- The state after a transaction that ended.
use Rattle.std.proofs.Common.{◌≡◌, IsTrue, sym, ◌∙◌}
use Rattle.sqlite.specs.State.{State, IsRolledBack, KeepsCommit}

-- a rollback restores the state before the transaction, which was committed
pub rollback_restores : (begun mid end : State) → KeepsCommit begun mid → IsRolledBack mid end
    → (IsTrue begun.is_open → begun.now ≡ begun.committed) → IsTrue end.is_open
    → (end.now ≡ begun.now) × (end.now ≡ end.committed)
rollback_restores begun mid end kept undone settled up =
    let open_mid = undone.was_open up in (
      (undone.undone up).0 ∙ kept.committed open_mid ∙ sym (settled (kept.was_open open_mid)),
      (undone.undone up).0 ∙ sym (undone.undone up).1,
    )
