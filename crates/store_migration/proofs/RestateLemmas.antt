-- The table `meta` after the update.
use Rattle.std.proofs.Common.{◌≡◌, ℕ, ℤ, Bool, true, not, List, [], ◌∷◌, map, filter, cond, codes}
use Rattle.std.proofs.Common.{is_eq, Option, None, Ok, Err, Result, OnOk, refl, sym, ap, subst, ◌∙◌}
use Rattle.std.specs.List.Sorted.{IsPermutation}
use Rattle.sqlite.specs.declared.error.Error.{Error}
use Rattle.sqlite.specs.declared.types.Value.TheVariants.{Int}
use Rattle.sqlite.specs.Command.{Command}
use Rattle.sqlite.specs.Command.TheVariants.{Update}
use Rattle.sqlite.specs.Does.{Tally, Does}
use Rattle.sqlite.specs.Edit.{Edit, edit_of}
use Rattle.sqlite.specs.Effect.{Database}
use Rattle.sqlite.specs.Listing.{understood}
use Rattle.sqlite.specs.Order.{Row, column, value_cmp}
use Rattle.sqlite.specs.Program.{overlay}
use Rattle.sqlite.specs.Query.{Query}
use Rattle.sqlite.specs.Rowids.TheVariants.{Given}
use Rattle.sqlite.specs.Rows.{Task, Then, Edited, Gives, Written, Updates}
use Rattle.sqlite.specs.State.{State, ExecutesInside, Writes, mode_of}
use Rattle.sqlite.specs.Term.{col}
use Rattle.sqlite.specs.Tree.{Trees}
use Rattle.sqlite.proofs.Callers.{IsPlain, command_of, one_permutation, one_step, runs_as}
use Rattle.sqlite.proofs.Callers.{statement_of}
use Rattle.sqlite_rules.specs.Calls.{ids_of}
use Rattle.sqlite_rules.specs.Cast.{cast_row}
use Rattle.sqlite_schema.specs.declared.schema.Keys.TheVariants.{Enforced}
use Rattle.sqlite_tied.specs.Compute.{everything}
use Rattle.sqlite_trees.specs.Tree.{has_rowid, put_row, without_rowid}
use Rattle.sqlite_value.proofs.OrderLemmas.{value_cmp-Int}
use Rattle.store_tables.specs.Meta.{meta_listed, schema_row}
use Rattle.store_tables.specs.StatementEffects.{KeepsOtherTables}
use Rattle.store_tables.specs.Tables.{book_schema, meta}
use Rattle.store_tables.proofs.Picks.{passes, picked, shows}
use Rattle.store_tables.proofs.PutLemmas.{cast_int, went_on, same_value}
use Rattle.store_tables.proofs.Queries.{picks}
use Rattle.store_tables.proofs.KeyedRows.{int_itself}
use Rattle.store_schema.specs.StoredSchema.{HasSchemaNumber}
use Rattle.store_migration.specs.internal.FirstRows.{HasOneSchemaNumber, meta_cells}

-- ---- the text

abbrev pub update_text : List ℕ
update_text = codes "UPDATE meta SET val = ?1"

-- the row's id, and the row as it is to be
abbrev pub update_query : Query
update_query = picks 0 [] (col 1 0 ∷ col 1 0 ∷ col 1 1 ∷ col 0 0 ∷ [])

abbrev pub update_command : Command
update_command = Update 0 (record { lets = []; body = update_query })

pub update_is : (command_of (understood book_schema update_text) ≡ update_command)
    × IsPlain (understood book_schema update_text)
unfolding understood everything
update_is = (refl, (refl, refl))

-- ---- the one row

single : (rows : List Row) (cells : Row) → map meta_cells rows ≡ cells ∷ [] → (r : Row)
    × (rows ≡ r ∷ []) × (meta_cells r ≡ cells)
single [] cells e = absurd cc
single (r ∷ []) cells e = (r, refl, cc)
single (r ∷ q ∷ qs) cells e = absurd cc

pub cast_meta : (id number : ℤ) → cast_row meta (Int id ∷ schema_row number) ≡ Int id ∷ schema_row
    number
cast_meta id number = rw (cast_int id, cast_int number)

module _ (limit : Option ℕ) (id before number : ℤ) (db : Trees) (is : map meta_cells (db 0)
    ≡ (Int id ∷ schema_row before) ∷ []) where
  abbrev params : Row
  params = Int number ∷ []

  abbrev task : Task
  task = record {
    limit = limit;
    keys = Enforced;
    schema = book_schema;
    table = meta;
    params = params;
  }

  abbrev p : Row → Bool
  p = passes 0 [] update_query.project (overlay db []) params

  abbrev f : Row → Row
  f = shows 0 [] update_query.project (overlay db []) params

  -- the row's id, and the row as it is to be
  abbrev target : Row
  target = Int id ∷ Int id ∷ schema_row number

  abbrev it : (r : Row) × (db 0 ≡ r ∷ []) × (meta_cells r ≡ Int id ∷ schema_row before)
  it = single (db 0) (Int id ∷ schema_row before) is

  pub only_it : map f (filter p (db 0)) ≡ target ∷ []
  only_it = ap (λ rows. map f (filter p rows)) it.1 ∙ ap (λ cells. f cells ∷ []) it.2

  found : has_rowid id it.0 ≡ true
  found = ap (λ cells. is_eq (value_cmp (column cells 0) (Int id))) it.2
      ∙ ap is_eq (value_cmp-Int id id) ∙ int_itself id

  pub gone : without_rowid id (db 0) ≡ []
  gone = ap (without_rowid id) it.1 ∙ ap (λ b. cond (not b) (it.0 ∷ []) []) found

  pub restates : (w : Written) → Updates task (record { lets = []; body = update_query }) params db
      (Ok w)
      → (map meta_listed (w.trees 0) ≡ schema_row number ∷ []) × KeepsOtherTables 0 db w.trees
  restates w h =
      let went = went_on h in
      let shown_rows : went.0 ≡ target ∷ [] =
      one_permutation target went.0 (subst (λ l. IsPermutation l went.0) only_it
      (picked 0 [] update_query.project (overlay db []) params went.0 went.1.answer)) in
      let edit_by : List Row → Edit = λ rows. edit_of db meta (ids_of rows) Given 1 rows in
      let wrote = subst (λ rows. Then (Edited book_schema Enforced db (edit_by rows))
      (λ next. Gives (record { trees = next; rows = (edit_by rows).news; last = None })) (Ok w))
      shown_rows went.2 in
      let step = went_on wrote in
      let one = one_step book_schema Enforced db step.0 (edit_by (target ∷ [])) refl step.1 in
      let trees = ap (λ (it : Written). it.trees) (same_value step.2) in
      let row = cast_row meta (Int id ∷ schema_row number) in
      let rows : step.0 0 ≡ row ∷ [] = one.rows ∙ ap (put_row row) gone in (
        ap (λ (t : Trees). map meta_listed (t 0)) trees ∙ ap (map meta_listed) rows
            ∙ ap (λ cells. map meta_listed (cells ∷ [])) (cast_meta id number),
        subst (KeepsOtherTables 0 db) (sym trees) one.tables,
      )

pub updates_inside : (old new : State) (id before number : ℤ) (r : Result ℕ Error)
    → old.now.schema ≡ book_schema → HasOneSchemaNumber id before old.now
    → ExecutesInside 0 update_text (Int number ∷ []) old new r
    → OnOk r ((new.now.schema ≡ book_schema) × HasSchemaNumber number new.now
    × KeepsOtherTables 0 old.now.trees new.now.trees)
updates_inside old new id before number (Err e) schema one h = tt
updates_inside old new id before number (Ok count) schema one h =
    let params = Int number ∷ [] in
    let text = statement_of update_text (understood book_schema update_text) in
    let w : Writes old new None update_command text params count =
    runs_as update_text params old new book_schema schema _ update_is.0 update_is.1 count h.0 in
    let done =
    went_on (subst (λ s. Does old.step_limit (mode_of old) params
    (record old.now { schema = s }) text None update_command (Ok (w.tally, new.now))) schema
    w.changed) in
    let tested = went_on done.2 in
    let returned = went_on tested.2 in
    let now = ap (λ (p : Tally × Database). p.1) (same_value returned.2) in
    let commits = restates old.step_limit id before number old.now.trees one done.0 done.1 in (
      ap (λ (d : Database). d.schema) now,
      ap (λ (d : Database). map meta_listed (d.trees 0)) now ∙ commits.0,
      subst (KeepsOtherTables 0 old.now.trees) (ap (λ (d : Database). d.trees) (sym now)) commits.1,
    )
