use Rattle.std.proofs.Common.{subst}
use Rattle.sqlite.specs.Held.{state}
use Rattle.sqlite.specs.Tree.{Trees}
use Rattle.sync_core.specs.StoreCrashes.{IsSettled}
use Rattle.book_store.specs.StoreViews.{table_model}
use Rattle.book_store.proofs.StoreLemmas.{settled_books}
use Rattle.book_store.proofs.sql_store.SqlStore.assert_settled.Goals as goal

pub returns : goal.returns
returns g c =
    subst (IsSettled (table_model g.S.Store)) c.self.view_is
    (settled_books (state g.S.Store c.self.inside.conn)
    (λ (trees : Trees) up may. g.met.S.Store.settled c.self.inside.conn.store trees up may)
    c.self.invariant.0.stays_sound)
