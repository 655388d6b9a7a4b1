-- The cause of an error of the INSERT into the table `meta`, where the table has no row.
use Rattle.std.proofs.Common.{◌≡◌, ◌≢◌, inl, inr, ℕ, ℤ, pos, true, false, not, ◌&&◌, ◌||◌, []}
use Rattle.std.proofs.Common.{◌∷◌, Option, None, Ok, Err, Result, IfErr, IsSome, codes, refl, sym}
use Rattle.std.proofs.Common.{ap, subst, ◌∙◌, arith}
use Rattle.sqlite.specs.Does.{OnRows}
use Rattle.sqlite.specs.Edit.{Edit, edit_of}
use Rattle.sqlite.specs.Listing.{understood}
use Rattle.sqlite.specs.Order.{Row}
use Rattle.sqlite.specs.Rowids.TheVariants.{Chosen}
use Rattle.sqlite.specs.Rows.{Edited, Written, Inserts}
use Rattle.sqlite.specs.Source.TheVariants.{Values}
use Rattle.sqlite.specs.State.{State, ExecutesInside}
use Rattle.sqlite.specs.Tree.{Trees}
use Rattle.sqlite.specs.declared.error.Error.{Error}
use Rattle.sqlite.specs.declared.error.Error.TheVariants.{SqliteFailure}
use Rattle.sqlite.specs.declared.error.ErrorCode.TheVariants.{OutOfMemory}
use Rattle.sqlite.specs.declared.types.Value.TheVariants.{Null, Int, Text}
use Rattle.sqlite.proofs.Callers.{one_step}
use Rattle.sqlite_rules.specs.Edit.{IsOversized, is_referred, is_taken, with_rowid}
use Rattle.sqlite_rules.specs.Lists.{Has}
use Rattle.sqlite_rules.proofs.ListLemmas.{all_has}
use Rattle.sqlite_schema.specs.declared.schema.Among.TheVariants.{All}
use Rattle.sqlite_schema.specs.declared.schema.Index.{Index}
use Rattle.sqlite_schema.specs.declared.schema.Keys.TheVariants.{Enforced}
use Rattle.sqlite_schema.specs.Rules.{Obeys, Refers}
use Rattle.sqlite_sql.specs.Catalog.{entry_of}
use Rattle.sqlite_tied.specs.Compute.{everything}
use Rattle.sqlite_trees.specs.View.{IsStorable}
use Rattle.sqlite_value.specs.Keys.{plain}
use Rattle.store_tables.specs.Failures.{HasOutsideCause}
use Rattle.store_tables.specs.Meta.{schema_row}
use Rattle.store_tables.specs.Tables.{book_schema, meta}
use Rattle.store_tables.proofs.EditLemmas.{IsAdmitted, edit_never_stops, never_stops, stops}
use Rattle.store_tables.proofs.FreshLemmas.{fresh_one, no_clash}
use Rattle.store_tables.proofs.MetaLemmas.{cast_schema}
use Rattle.store_tables.proofs.PutLemmas.{went_on, same_value}
use Rattle.store_tables.proofs.Queries.{add_schema_command, add_schema_terms, add_schema_text}
use Rattle.store_tables.proofs.ReferenceLemmas.{refers_after, same_books}
use Rattle.store_tables.proofs.StopLemmas.{concludes_quietly, outside, task, values_stop}
use Rattle.store_tables.proofs.StorableLemmas.{fits_in, int_is_number, is_storable, text_is_number}
use Rattle.store_tables.proofs.Texts.{add_schema_is}
use Rattle.store_tables.proofs.WriteFailures.{execute_fails}

module _ (limit : Option ℕ) (number : ℤ) (db : Trees) (none : db 0 ≡ [])
    (obeys : Obeys book_schema db) where
  abbrev params : Row
  params = Int number ∷ []

  abbrev added : Row
  added = Int (pos 1) ∷ schema_row number

  abbrev edit : Row → Edit
  edit row = record { table = meta; gone = []; news = row ∷ [] }

  free : is_taken (db 0) added ≡ false
  free = ap (λ rows. is_taken rows added) none

  referred : is_referred book_schema Enforced (edit added) ≡ true
  unfolding everything
  referred = refl

  row_fits : IsStorable 0 added
  row_fits = is_storable added (omega arith) (omega arith) (
    int_is_number (pos 1),
    (text_is_number (codes "schema"), (int_is_number number, tt)),
  ) (omega (arith))

  fits : (row : Row) → Has (added ∷ []) row → ¬ IsOversized book_schema meta row
  fits row (inl e) = subst (λ r. ¬ IsOversized book_schema meta r) (sym e)
      (fits_in book_schema meta added refl row_fits (omega arith)
      (λ i known. all_has (λ (i : Index). i.table ≡ 0 → IsStorable 0 (entry_of i.columns added))
      book_schema.indexes i (
        (λ _. is_storable (Text (codes "schema") ∷ Int (pos 1) ∷ []) (omega arith) (omega arith)
            (text_is_number (codes "schema"), (int_is_number (pos 1), tt)) (omega (arith))),
        (
          (λ e. absurd (omega (arith, e))),
          (
            (λ e. absurd (omega (arith, e))),
            ((λ e. absurd (omega (arith, e))), ((λ e. absurd (omega (arith, e))), tt)),
          ),
        ),
      ) known))
  fits row (inr h) = absurd h

  admitted : IsAdmitted db (edit added)
  admitted = record {
    keyed = refl;
    numbered = refl;
    typed = refl;
    present = refl;
    checked = refl;
    fresh = fresh_one (db 0) added free;
    unique = ap (λ t. not (t || false) && true) (no_clash plain (1 ∷ []) (db 0) added (pos 1) refl
        (λ r there. absurd (subst (λ rows. Has rows r) none there)));
    referred = referred;
    storable = fits;
    listed = inl refl;
  }

  edit_is : edit_of db meta [] Chosen 0 ((Null ∷ schema_row number) ∷ []) ≡ edit added
  edit_is = ap edit (ap (with_rowid Chosen (db 0)) (cast_schema number)
      ∙ ap (λ rows. with_rowid Chosen rows (Null ∷ schema_row number)) none)

  inserts : (stop : Option Error)
      → Inserts (task limit meta params) (Values add_schema_terms 3) db (Err stop) → IsSome limit
  inserts stop h =
      stops h (λ s k. values_stop limit (record { schema = book_schema; trees = db }) params
      add_schema_terms 3 refl s k)
      (λ given. stops given.2 (λ s k. never_stops _ s k)
      (λ counter. stops counter.2
      (λ s k. edit_never_stops db (edit added) admitted obeys refl s
      (subst (λ e. Edited book_schema Enforced db e (Err s)) edit_is
      (subst (λ rows. Edited book_schema Enforced db (edit_of db meta [] Chosen 0 rows) (Err s))
      given.1.1 k)))
      (λ mid. stops mid.2 (λ s k. never_stops _ s k) (λ next. never_stops _ stop next.2))))

  after : (w : Written) → Inserts (task limit meta params) (Values add_schema_terms 3) db (Ok w)
      → Refers All book_schema w.trees
  after w h =
      let given = went_on h in
      let counter = went_on given.2 in
      let wrote = went_on counter.2 in
      let counted = went_on wrote.2 in
      let trees : w.trees ≡ wrote.0 = ap (λ (it : Written). it.trees) (same_value counted.2)
      ∙ same_value counted.1 in
      let step = one_step book_schema Enforced db wrote.0 (edit added) refl
      (subst (λ e. Edited book_schema Enforced db e (Ok wrote.0)) edit_is
      (subst (λ rows. Edited book_schema Enforced db (edit_of db meta [] Chosen 0 rows)
      (Ok wrote.0)) given.1.1 wrote.1)) in
      let books = step.tables.1.0 (λ e. omega (arith, e)) in
      subst (Refers All book_schema) (sym trees)
      (refers_after db wrote.0 (same_books db wrote.0 books) meta (inl refl) step.tables obeys
      (λ r _. inr (λ ref known. absurd known)))

  schema_stops : (stop : Option Error)
      → OnRows (task limit meta params) outside None add_schema_command db (Err stop)
      → IsSome limit
  schema_stops stop h = stops h (λ s k. inserts s k) (λ it. concludes_quietly limit meta params it.0
      (after it.0 it.1) stop it.2)

pub schema_fails : (old new : State) (number : ℤ) (r : Result ℕ Error)
    → old.now.schema ≡ book_schema → old.now.trees 0 ≡ [] → Obeys book_schema old.now.trees
    → ExecutesInside 0 add_schema_text (Int number ∷ []) old new r
    → IfErr r (λ e. e ≢ SqliteFailure OutOfMemory → HasOutsideCause old new)
unfolding understood everything
schema_fails old new number (Ok count) has none obeys h = tt
schema_fails old new number (Err e) has none obeys h =
    execute_fails add_schema_text (Int number ∷ []) old new has add_schema_command None
    add_schema_is.0 tt refl refl (refl, refl)
    (λ stop did. schema_stops old.step_limit number old.now.trees none obeys stop did) refl e h
