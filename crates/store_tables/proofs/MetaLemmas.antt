-- The effect of the INSERT into the table `meta`.
use Rattle.std.proofs.Common.{◌≡◌, ℕ, ℤ, [], ◌∷◌, map, Option, None, Ok, Err, Result, IsPermutation}
use Rattle.std.proofs.Common.{OnOk, refl, sym, ap, subst, ◌∙◌}
use Rattle.std.proofs.lemmas.List.Sorted.{IsPermutation-map}
use Rattle.sqlite.specs.declared.error.Error.{Error}
use Rattle.sqlite.specs.declared.types.Value.TheVariants.{Null, Int}
use Rattle.sqlite.specs.Does.{Tally, Does}
use Rattle.sqlite.specs.Edit.{edit_of}
use Rattle.sqlite.specs.Effect.{Database}
use Rattle.sqlite.specs.Listing.{understood}
use Rattle.sqlite.specs.Rowids.TheVariants.{Chosen}
use Rattle.sqlite.specs.Rows.{Task, Edited, Written, Inserts}
use Rattle.sqlite.specs.Source.TheVariants.{Values}
use Rattle.sqlite.specs.State.{State, ExecutesInside, Writes, mode_of}
use Rattle.sqlite.specs.Tree.{Trees}
use Rattle.sqlite.proofs.Callers.{one_step, statement_of, runs_as}
use Rattle.sqlite_rules.specs.Cast.{cast_row}
use Rattle.sqlite_rules.specs.Edit.{next_rowid, with_rowid}
use Rattle.sqlite_schema.specs.declared.schema.Keys.TheVariants.{Enforced}
use Rattle.store_tables.specs.Meta.{meta_listed, schema_row, AddsSchema}
use Rattle.store_tables.specs.StatementEffects.{KeepsOtherTables}
use Rattle.store_tables.specs.Tables.{book_schema, meta}
use Rattle.store_tables.proofs.KeyedRows.{free_one, put_free}
use Rattle.store_tables.proofs.PutLemmas.{cast_int, cast_null, went_on, same_value}
use Rattle.store_tables.proofs.Queries.{add_schema_text, add_schema_terms, add_schema_command}
use Rattle.store_tables.proofs.Texts.{add_schema_is}

pub cast_schema : (number : ℤ) → cast_row meta (Null ∷ schema_row number) ≡ Null ∷ schema_row number
cast_schema number = rw (cast_null, cast_int number)

module _ (limit : Option ℕ) (number : ℤ) (db : Trees) where
  abbrev task : Task
  task = record {
    limit = limit;
    keys = Enforced;
    schema = book_schema;
    table = meta;
    params = Int number ∷ [];
  }

  pub adds_schema : (w : Written) → Inserts task (Values add_schema_terms 3) db (Ok w)
      → IsPermutation (schema_row number ∷ map meta_listed (db 0)) (map meta_listed (w.trees 0))
      × KeepsOtherTables 0 db w.trees
  adds_schema w h =
      let given = went_on h in
      let counter = went_on given.2 in
      let wrote = went_on counter.2 in
      let counted = went_on wrote.2 in
      let trees : w.trees ≡ wrote.0 = ap (λ (it : Written). it.trees) (same_value counted.2)
      ∙ same_value counted.1 in
      let row = cast_row meta (Null ∷ schema_row number) in
      let step = one_step book_schema Enforced db wrote.0 (edit_of db meta [] Chosen 0
      ((Null ∷ schema_row number) ∷ [])) refl
      (subst (λ rows. Edited book_schema Enforced db (edit_of db meta [] Chosen 0 rows)
      (Ok wrote.0)) given.1.1 wrote.1) in
      let it = with_rowid Chosen (db 0) row in
      let numbered : it ≡ Int (next_rowid (db 0)) ∷ schema_row number =
      ap (with_rowid Chosen (db 0)) (cast_schema number) in
      let put = subst (λ first. IsPermutation (first ∷ map meta_listed (db 0))
      (map meta_listed (Rattle.sqlite_trees.specs.Tree.put_row it (db 0))))
      (ap meta_listed numbered)
      (IsPermutation-map meta_listed _ _ (put_free it (db 0) (free_one (db 0) it step.fresh))) in (
        subst (λ rows. IsPermutation (schema_row number ∷ map meta_listed (db 0))
            (map meta_listed rows)) (sym (ap (λ (t : Trees). t 0) trees ∙ step.rows)) put,
        subst (KeepsOtherTables 0 db) (sym trees) step.tables,
      )

pub adds_schema_inside : (old new : State) (number : ℤ) (r : Result ℕ Error)
    → old.now.schema ≡ book_schema → ExecutesInside 0 add_schema_text (Int number ∷ []) old new r
    → OnOk r ((new.now.schema ≡ book_schema) × AddsSchema number (old.now.trees 0) new
    × KeepsOtherTables 0 old.now.trees new.now.trees)
adds_schema_inside old new number (Err e) schema h = tt
adds_schema_inside old new number (Ok count) schema h =
    let params = Int number ∷ [] in
    let w : Writes old new None add_schema_command (statement_of add_schema_text
    (understood book_schema add_schema_text)) params count =
    runs_as add_schema_text params old new book_schema schema _ add_schema_is.0 add_schema_is.1
    count h.0 in
    let text = statement_of add_schema_text (understood book_schema add_schema_text) in
    let done =
    went_on (subst (λ s. Does old.step_limit (mode_of old) params
    (record old.now { schema = s }) text None add_schema_command (Ok (w.tally, new.now))) schema
    w.changed) in
    let tested = went_on done.2 in
    let returned = went_on tested.2 in
    let now = ap (λ (p : Tally × Database). p.1) (same_value returned.2) in
    let ends = adds_schema old.step_limit number old.now.trees done.0 done.1 in (
      ap (λ (d : Database). d.schema) now,
      subst (λ rows. IsPermutation (schema_row number ∷ map meta_listed (old.now.trees 0))
          (map meta_listed rows)) (ap (λ (d : Database). d.trees 0) (sym now)) ends.0,
      subst (KeepsOtherTables 0 old.now.trees) (ap (λ (d : Database). d.trees) (sym now)) ends.1,
    )
