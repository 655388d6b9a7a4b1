-- The effect of the statements that create the tables, one after another.
use Rattle.std.proofs.Common.{IsTrue, ◌∷◌, map, IsPermutation, subst, ◌∙◌, arith}
use Rattle.sqlite.specs.State.{State, HasCleanDisk, Survives}
use Rattle.sqlite.specs.Tree.{Trees}
use Rattle.sqlite.proofs.Callers.{one_permutation}
use Rattle.sqlite.proofs.InsideLemmas.{keeps_then}
use Rattle.sqlite.proofs.StateLemmas.{survives_then}
use Rattle.store_tables.specs.SchemaCreation.{HasFirstTables, IsTableCreated, StaysUncommitted}
use Rattle.store_tables.specs.SchemaCreation.{with_members}
use Rattle.store_tables.specs.SchemaCreation.{first_schema}
use Rattle.store_tables.specs.Meta.{AddsSchema, IsEmptyStore, meta_listed, schema_number}
use Rattle.store_tables.specs.Meta.{schema_row}
use Rattle.store_tables.specs.StatementEffects.{WritesOnly}
use Rattle.store_tables.specs.Tables.{book_schema}

pub clean_before : (P : Trees → Type 0) (a b : State) → Survives a b P → HasCleanDisk b
    → HasCleanDisk a
clean_before P a b s clean = omega (arith, s.clean)

-- two statements inside a transaction, where the first leaves it open
pub stays_then : (a b c : State) → (HasCleanDisk b → IsTrue a.in_transaction
    → IsTrue b.in_transaction) → StaysUncommitted a b → StaysUncommitted b c → StaysUncommitted a c
stays_then a b c on one two = record {
  kept = λ clean inside.
      let early = clean_before _ b c two.survives clean in
      keeps_then a b c (one.kept early inside) (two.kept clean (on early inside));
  survives = survives_then a b c _ _ (λ _. ⊥) (λ _ db none. none) (λ _ db none. none) one.survives
      two.survives;
}

pub schema_created : (a b c d : State) → HasFirstTables a.now
    → IsTableCreated with_members first_schema 7 a.now b.now
    → IsTableCreated first_schema book_schema 9 b.now c.now
    → AddsSchema schema_number (c.now.trees 0) d → WritesOnly 0 c d
    → IsEmptyStore schema_number d.now
schema_created a b c d was one two added wrote = record {
  schema = wrote.schema;
  obeys = wrote.obeys;
  meta = one_permutation (schema_row schema_number) (map meta_listed (d.now.trees 0))
      (subst (λ rows. IsPermutation (schema_row schema_number ∷ map meta_listed rows)
      (map meta_listed (d.now.trees 0))) (two.others.0 ∙ one.others.0 ∙ was.meta_rows) added);
  books = wrote.other_tables.1.0 (λ e. cc) ∙ two.others.1.0 ∙ one.others.1.0 ∙ was.books;
  members = wrote.other_tables.1.1.0 (λ e. cc) ∙ two.others.1.1.0 ∙ one.others.1.1.0 ∙ was.members;
  imports = wrote.other_tables.1.1.1.0 (λ e. cc) ∙ two.others.1.1.1.0 ∙ one.empty;
  keeps = wrote.other_tables.1.1.1.1.0 (λ e. cc) ∙ two.empty;
}
