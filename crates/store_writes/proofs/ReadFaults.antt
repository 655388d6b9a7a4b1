-- Why a look-up after another one fails.
use Rattle.std.proofs.Common.{Result, sym, subst}
use Rattle.sqlite.specs.Effect.{Database}
use Rattle.sqlite.specs.State.{State, IsUnchanged, Survives}
use Rattle.sqlite.specs.Tree.{Trees}
use Rattle.book_model.specs.declared.denied.Denied.{Denied}
use Rattle.store_tables.specs.StatementEffects.{GivenTables}
use Rattle.store_tables.proofs.SchemaCreationLemmas.{clean_before}
use Rattle.store_rows.specs.TableRows.{HoldsRows}
use Rattle.store_lookups.specs.StoreFaults.{FaultsFromOutside}
use Rattle.store_lookups.proofs.StoreFaultLemmas.{later_cause}

-- the tables are unchanged since the first look-up
pub then_reads : {A : Type 0} (old mid new : State) (P Q : Trees → Type 0) (r : Result A Denied)
    → Survives old mid P → GivenTables old mid (IsUnchanged old mid) → Survives mid new Q
    → FaultsFromOutside mid new r → FaultsFromOutside old new r
then_reads old mid new P Q r before same after fails rows clean holds faultless =
    let early = clean_before Q mid new after clean in
    let kept = same early holds.schema in
    later_cause old mid new P Q r before early after
    (fails rows clean (subst (λ (d : Database). HoldsRows d rows) (sym kept.0.now_is) holds)
    faultless)
