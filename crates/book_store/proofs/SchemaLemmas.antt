-- The state after creating the tables.
use Rattle.std.proofs.Common.{◌≡◌, inl, inr, [], IsTrue, false, Ok, Err, Result, OnOk, IfErr, refl}
use Rattle.std.proofs.Common.{sym, subst, ◌∙◌}
use Rattle.sqlite.specs.declared.error.Error.{Error}
use Rattle.sqlite.specs.Effect.{Database}
use Rattle.sqlite.specs.State.{State, IsRolledBack, KeepsCommit, KeepsCounts, Shows}
use Rattle.sqlite.specs.Steps.{FailsToCommit}
use Rattle.store_tables.specs.Meta.{IsEmptyStore, schema_number}
use Rattle.book_store.specs.OpenOutcomes.{AreNewStoreTrees, IsNewStoreCommitted}

-- the trees alone determine that the tables were created
pub new_store_trees : (db : Database) → IsEmptyStore schema_number db → AreNewStoreTrees db.trees
new_store_trees db h = record {
  schema = refl;
  obeys = h.obeys;
  meta = h.meta;
  books = h.books;
  members = h.members;
  imports = h.imports;
  keeps = h.keeps;
}

-- after the commit, the created tables are committed
pub new_store_committed : (mid end : State) → IsEmptyStore schema_number mid.now
    → Shows mid end mid.now mid.now false → IsNewStoreCommitted end
new_store_committed mid end h shows = record {
  is_open = shows.is_open;
  created = subst (IsEmptyStore schema_number) (sym shows.now_is) h;
  committed = shows.now_is
      ∙ sym shows.committed_is;
}

-- if the connection is open after a rollback, it was open when the transaction began
pub rolled_open : (begun mid end : State) → KeepsCommit begun mid → IsRolledBack mid end
    → IsTrue end.is_open → IsTrue begun.is_open
rolled_open begun mid end kept undone up = kept.was_open (undone.was_open up)

-- the same after a commit, whether it succeeded or not
pub committed_open : (begun mid end : State) (r : Result (Unit {0}) Error) → KeepsCommit begun mid
    → OnOk r (IsTrue mid.in_transaction × Shows mid end mid.now mid.now false × KeepsCounts mid end
    × (end.marks ≡ [])) → IfErr r (FailsToCommit mid end) → IsTrue end.is_open
    → IsTrue begun.is_open
committed_open begun mid end (Ok done) kept ok err up = kept.was_open ok.1.was_open
committed_open begun mid end (Err e) kept ok (inl h) up = kept.was_open (h.3.was_open up)
committed_open begun mid end (Err e) kept ok (inr h) up = kept.was_open h.2.0.was_open
