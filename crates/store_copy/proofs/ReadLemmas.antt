-- The members, read after the other three tables.
use Rattle.std.proofs.Common.{List, map, IsPermutation}
use Rattle.sqlite.specs.Effect.{Database}
use Rattle.sqlite.specs.Order.{Row}
use Rattle.sqlite.specs.State.{State, IsUnchanged}
use Rattle.store_tables.specs.Members.{member_cells}
use Rattle.store_tables.specs.StatementEffects.{OnlyReads, GivenTables}
use Rattle.store_tables.proofs.SchemaCreationLemmas.{clean_before}
use Rattle.store_check.specs.ListedRows.{AreBookRows, AreListedRows}
use Rattle.store_check.proofs.OpenLemmas.{over_then}

-- all rows were read
pub lists_all : (a b c : State) (books members imports keeps : List Row)
    → GivenTables a b (IsUnchanged a b) → OnlyReads b c
    → GivenTables a b (AreBookRows a.now books imports keeps)
    → GivenTables b c (IsPermutation (map member_cells (b.now.trees 4)) members)
    → GivenTables a c (AreListedRows a.now books members imports keeps)
lists_all a b c books members imports keeps same left first second clean has =
    let others = first (clean_before _ b c left.survives clean) has in
    record {
      all_books = others.all_books;
      all_members = over_then a b c (λ (db : Database). IsPermutation
          (map member_cells (db.trees 4)) members) same left second clean has;
      all_imports = others.all_imports;
      all_keeps = others.all_keeps;
    }
