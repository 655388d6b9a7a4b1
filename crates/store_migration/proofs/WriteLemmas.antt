-- The tables after each statement that writes the second schema.
use Rattle.std.proofs.Common.{◌≡◌, inl, inr, ℤ, false, true≢false, List, [], ◌∷◌, map, IsTrue}
use Rattle.std.proofs.Common.{Result, Ok, Err, OnOk, IfErr, int_eq, refl, sym, subst, ◌∙◌}
use Rattle.sqlite.specs.declared.error.Error.{Error}
use Rattle.sqlite.specs.Effect.{Database}
use Rattle.sqlite.specs.Order.{Row}
use Rattle.sqlite.specs.State.{State, KeepsCommit, KeepsCounts, Shows}
use Rattle.sqlite.specs.Steps.{FailsToCommit}
use Rattle.sqlite.specs.Tree.{Trees}
use Rattle.sqlite_trees.proofs.ListLemmas.{all_weaker}
use Rattle.store_tables.specs.Acceptance.{AcceptsKeep}
use Rattle.store_tables.specs.Books.{BookRow}
use Rattle.store_tables.specs.Keeps.{AddsKeep, KeepRow}
use Rattle.store_tables.specs.SchemaCreation.{HoldsInTx}
use Rattle.store_tables.specs.StatementEffects.{KeepsOtherTables, WritesOnly}
use Rattle.store_tables.proofs.KeyedRows.{turned}
use Rattle.store_tables.proofs.TransactionLemmas.{rollback_restores}
use Rattle.store_migration.specs.internal.MigrationWrites.{AcceptKeeps, CommitsKeeps, WroteKeeps}
use Rattle.store_migration.specs.InitialKeeps.{cells_of_keep}

-- ---- the keeps

-- the first keep of some, and the others
pub record IsFirstKeepOf (row : Row) (rest : List Row) (keep_rows : List KeepRow) : Type 0 where
  pub first : KeepRow
  pub others : List KeepRow
  pub is : keep_rows ≡ first ∷ others
  pub row_is : row ≡ cells_of_keep first
  pub rest_is : rest ≡ map cells_of_keep others

pub first_keep_of : (keeps : List Row) (row : Row) (rest : List Row) (keep_rows : List KeepRow)
    → keeps ≡ row ∷ rest → keeps ≡ map cells_of_keep keep_rows → IsFirstKeepOf row rest keep_rows
first_keep_of keeps row rest [] whole returned = absurd (let e : row ∷ rest ≡ [] = sym whole
    ∙ returned in cc)
first_keep_of keeps row rest (k ∷ ks) whole returned =
    let e : row ∷ rest ≡ cells_of_keep k ∷ map cells_of_keep ks = sym whole ∙ returned in
    record { first = k; others = ks; is = refl; row_is = cc; rest_is = cc }

spares_then : (a b c : Trees) → KeepsOtherTables 9 a b → KeepsOtherTables 9 b c
    → KeepsOtherTables 9 a c
spares_then a b c one two = (
  λ n. two.0 n ∙ one.0 n,
  (
    λ n. two.1.0 n ∙ one.1.0 n,
    (
      λ n. two.1.1.0 n ∙ one.1.1.0 n,
      (λ n. two.1.1.1.0 n ∙ one.1.1.1.0 n, (λ n. two.1.1.1.1.0 n ∙ one.1.1.1.1.0 n, tt)),
    ),
  ),
)

pub one_kept : (a b c : State) (k : KeepRow) (ks : List KeepRow) (book keep : ℤ) → book ≡ k.book
    → keep ≡ k.keep → WroteKeeps ks a b → AddsKeep c book keep ks → WritesOnly 9 b c
    → WroteKeeps (k ∷ ks) a c
one_kept a b c k ks book keep book_is keep_is before added wrote =
    let it = subst (λ z. AddsKeep c k.book z ks) keep_is (subst (λ z. AddsKeep c z keep ks) book_is
    added) in
    record {
      wrote = record {
        schema = wrote.schema;
        other_tables = spares_then a.now.trees b.now.trees c.now.trees before.wrote.other_tables
            wrote.other_tables;
        inside = wrote.inside;
      };
      hold = it.hold;
      apart = (
        all_weaker _ (λ (x : KeepRow). int_eq k.book x.book ≡ false)
            (λ x h. turned x.book k.book h) ks it.free,
        before.apart,
      );
    }

-- the table accepts the first keep after the others
pub accepts_first : (bs : List BookRow) (k : KeepRow) (ks : List KeepRow) → AcceptKeeps bs (k ∷ ks)
    → AcceptsKeep bs ks k.book
accepts_first bs k ks h = record {
  listed = h.listed.0;
  unused = all_weaker (λ (x : KeepRow). int_eq k.book x.book ≡ false) _
      (λ x apart. turned k.book x.book apart) ks h.apart.0;
}

-- ---- the transaction

-- its commit succeeded, or failed
pub commits : (begun mid end : State) (r : Result (Unit {0}) Error) (P : Database → Type 0)
    → KeepsCommit begun mid → HoldsInTx mid P → (IsTrue begun.is_open → begun.now ≡ begun.committed)
    → OnOk r (IsTrue mid.in_transaction × Shows mid end mid.now mid.now false × KeepsCounts mid end
    × (end.marks ≡ [])) → IfErr r (FailsToCommit mid end) → CommitsKeeps begun end r P
commits begun mid end (Ok done) P kept left settled ok err =
    (subst P (sym ok.1.now_is) left.holds, ok.1.now_is ∙ sym ok.1.committed_is)
commits begun mid end (Err e) P kept left settled ok (inl h) =
    λ up. rollback_restores begun mid end kept h.3 settled up
commits begun mid end (Err e) P kept left settled ok (inr h) =
    absurd (true≢false (sym left.inside ∙ h.1))
