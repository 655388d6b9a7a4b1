-- The result and the state after reading a whole table of the first schema, for any text.
use Rattle.std.proofs.Common.{◌≡◌, inl, ℕ, List, [], ◌∷◌, map, codes, false, Ok, Err, Result, IfOk}
use Rattle.std.proofs.Common.{IfErr, OnOk, IsPermutation, refl, sym, ap, subst, ◌∙◌}
use Rattle.std.specs.Prelude.{Vec}
use Rattle.std.specs.declared.alloc.Global.{Global}
use Rattle.sqlite.specs.declared.error.Error.{Error}
use Rattle.sqlite.specs.Command.TheVariants.{Select}
use Rattle.sqlite.specs.Effect.{Database}
use Rattle.sqlite.specs.Listing.{understood, reads_listing}
use Rattle.sqlite.specs.Order.{Row}
use Rattle.sqlite.specs.Program.{overlay}
use Rattle.sqlite.specs.State.{State, HasCleanDisk, IsUnchanged, Shown, FailsToQuery, Survives}
use Rattle.sqlite.specs.State.{CommitsShowing}
use Rattle.sqlite.specs.Term.{Term, col, eval_all}
use Rattle.sqlite.specs.Tree.{Trees}
use Rattle.sqlite.proofs.Callers.{IsPlain, command_of, reads_as, never_commits}
use Rattle.sqlite.proofs.StateLemmas.{survives_weaker, survives_then}
use Rattle.sqlite_tied.specs.Compute.{everything}
use Rattle.store_tables.specs.SchemaCreation.{first_schema}
use Rattle.store_tables.proofs.CountLemmas.{every}
use Rattle.store_tables.proofs.SchemaCreationLemmas.{clean_before}
use Rattle.store_tables.proofs.Lookups.{leaves_as, left_open, plain_shown, plain_under}
use Rattle.store_tables.proofs.Picks.{picked}
use Rattle.store_tables.proofs.Queries.{picks, number_names, books_terms, all_members_text}
use Rattle.store_tables.proofs.Queries.{all_members_terms, all_imports_text, all_imports_terms}
use Rattle.store_tables.proofs.ReturningLemmas.{fails_as, shown_open}
use Rattle.store_schema.specs.FirstSchema.{IsFirstSchema}
use Rattle.store_schema.specs.StoredSchema.{ChangesNothing}
use Rattle.store_migration.specs.internal.FirstRows.{GivenFirstSchema, OnlyReadsFirstSchema}

-- ---- the texts

-- the text is a query over the table and nothing else
abbrev pub IsListing : List ℕ → ℕ → List Term → List (List ℕ) → Type 0
IsListing sql tree project names =
    (command_of (understood first_schema sql) ≡ Select (record {
      lets = [];
      body = picks tree [] project;
    }) names)
    × (reads_listing first_schema sql ≡ false) × IsPlain (understood first_schema sql)

abbrev pub ids_text : List ℕ
ids_text = codes "SELECT rowid FROM meta"

abbrev pub ids_terms : List Term
ids_terms = col 1 0 ∷ []

pub ids_is : IsListing ids_text 0 ids_terms (codes "rowid" ∷ [])
unfolding understood everything
ids_is = (refl, refl, (refl, refl))

abbrev pub books_text : List ℕ
books_text =
    codes
    "SELECT id, name, number, horizon, created, edited, imported, import_edited, moved_in, deleted, moved_out FROM book"

pub books_is : IsListing books_text 2 books_terms (codes "id" ∷ codes "name" ∷ number_names)
unfolding understood everything
books_is = (refl, refl, (refl, refl))

pub members_is : IsListing all_members_text 4 all_members_terms (codes "rowid" ∷ codes "book" ∷
    codes "uid" ∷ codes "changed" ∷ codes "card" ∷ [])
unfolding understood everything
members_is = (refl, refl, (refl, refl))

pub imports_is : IsListing all_imports_text 7 all_imports_terms (codes "rowid" ∷ codes "book" ∷
    codes "ikey" ∷ codes "added" ∷ codes "edited" ∷ codes "same" ∷ codes "number" ∷ [])
unfolding understood everything
imports_is = (refl, refl, (refl, refl))

-- ---- a whole table

module _ (sql : List ℕ) (tree : ℕ) (project : List Term) (names : List (List ℕ)) (is :
    IsListing sql tree project names) (old new : State) where
  -- each row of the table, in any order
  pub lists_first : ((db : Trees) → overlay db [] tree ≡ db tree)
      → (r : Result (Vec Row Global) Error) → old.now.schema ≡ first_schema
      → IfOk r (λ rows. Shown sql [] old new rows.items)
      → IfOk r (λ rows. IsPermutation (map (λ row. eval_all project ([] ∷ row ∷ []))
      (old.now.trees tree)) rows.items)
  lists_first over (Ok rows) schema h =
      let answer = (reads_as sql [] old new first_schema schema _ is.0 is.2 is.1 rows.items
      h).answer in
      subst (λ l. IsPermutation (map (λ row. eval_all project ([] ∷ row ∷ [])) l) rows.items)
      (every (overlay old.now.trees [] tree) ∙ over old.now.trees)
      (picked tree [] project (overlay old.now.trees []) [] rows.items answer)
  lists_first over (Err e) schema h = tt

  pub first_unchanged : (r : Result (Vec Row Global) Error) → old.now.schema ≡ first_schema
      → IfOk r (λ rows. Shown sql [] old new rows.items) → OnOk r (IsUnchanged old new)
  first_unchanged (Ok rows) schema ok =
      plain_shown sql [] old new rows.items (plain_under sql old first_schema schema is.2) ok
  first_unchanged (Err e) schema ok = tt

  commits_nothing : Survives old new (CommitsShowing sql [] old)
      → Survives old new (λ _. ¬ (old.now.schema ≡ first_schema))
  commits_nothing = survives_weaker old new _ _ (λ _ db commits schema. never_commits sql [] old db
      (plain_under sql old first_schema schema is.2) commits)

  pub reads_first : (r : Result (Vec Row Global) Error)
      → (HasCleanDisk new → IfOk r (λ rows. Shown sql [] old new rows.items))
      → (HasCleanDisk new → IfErr r (FailsToQuery sql [] old new))
      → (old.in_transaction ≡ false → new.in_transaction ≡ false)
      → Survives old new (CommitsShowing sql [] old) → OnlyReadsFirstSchema old new
  reads_first (Ok rows) ok err mode survives = record {
    mode = mode;
    was_open = λ clean up. shown_open sql [] old new rows.items (ok clean);
    survives = commits_nothing survives;
    same = λ clean schema up settled. leaves_as old new settled
        (inl (first_unchanged (Ok rows) schema (ok clean))) up;
  }
  reads_first (Err e) ok err mode survives = record {
    mode = mode;
    was_open = λ clean up. left_open old new (fails_as sql [] old new e (err clean)) up;
    survives = commits_nothing survives;
    same = λ clean schema up settled. leaves_as old new settled
        (fails_as sql [] old new e (err clean)) up;
  }

-- ---- one read after another

module _ (a b c : State) where
  -- the first changed nothing
  pub unchanged_then : GivenFirstSchema a b (IsUnchanged a b)
      → GivenFirstSchema b c (IsUnchanged b c) → OnlyReadsFirstSchema b c
      → GivenFirstSchema a c (IsUnchanged a c)
  unchanged_then first next left clean has =
      let before = first (clean_before _ b c left.survives clean) has in
      Rattle.sqlite.proofs.Callers.unchanged_then a b c before
      (next clean (ap (λ (d : Database). d.schema) before.0.now_is ∙ has))

  pub reads_then : GivenFirstSchema a b (IsUnchanged a b) → OnlyReadsFirstSchema a b
      → OnlyReadsFirstSchema b c → OnlyReadsFirstSchema a c
  reads_then kept before after =
      let early : HasCleanDisk c → HasCleanDisk b = clean_before _ b c after.survives in
      record {
        mode = λ h. after.mode (before.mode h);
        was_open = λ clean up. before.was_open (early clean) (after.was_open clean up);
        survives = survives_then a b c _ _ _ (λ _ db h. h)
            (λ clean db h. λ has. h (ap (λ (d : Database). d.schema)
            (kept (early clean) has).0.now_is ∙ has)) before.survives after.survives;
        same = λ clean has up settled.
            let was = kept (early clean) has in
            let later = after.same clean (ap (λ (d : Database). d.schema) was.0.now_is
            ∙ has) up (λ _. was.0.now_is ∙ settled was.0.was_open ∙ sym was.0.committed_is) in
            record {
              was_open = was.0.was_open;
              now_is = later.now_is ∙ was.0.now_is;
              committed_is = later.committed_is ∙ was.0.committed_is;
            };
      }

  -- a property of the database after such a read holds of it before
  pub over_then : (P : Database → Type 0) → GivenFirstSchema a b (IsUnchanged a b)
      → OnlyReadsFirstSchema b c → GivenFirstSchema b c (P b.now) → GivenFirstSchema a c (P a.now)
  over_then P first left returned clean has =
      let before = first (clean_before _ b c left.survives clean) has in
      subst P before.0.now_is (returned clean (ap (λ (d : Database). d.schema) before.0.now_is
      ∙ has))

  -- the schema was tested first
  module _ (first : HasCleanDisk b → IsFirstSchema a.now) (kept : HasCleanDisk b
      → IsUnchanged a b) (after : OnlyReadsFirstSchema b c) where
    pub early_clean : HasCleanDisk c → HasCleanDisk b
    early_clean = clean_before _ b c after.survives

    pub still_first : HasCleanDisk c → b.now.schema ≡ first_schema
    still_first clean = ap (λ (d : Database). d.schema) (kept (early_clean clean)).0.now_is
        ∙ (first (early_clean clean)).schema

    pub nothing_then : ChangesNothing a b → ChangesNothing a c
    nothing_then before = record {
      mode = λ h. after.mode (before.mode h);
      was_open = λ clean up. before.was_open (early_clean clean) (after.was_open clean up);
      survives = survives_then a b c _ _ _ (λ _ db none. none) (λ clean db h. h (still_first clean))
          before.survives after.survives;
      same = λ clean up settled.
          let was = kept (early_clean clean) in
          let later = after.same clean (still_first clean) up (λ _. was.0.now_is
          ∙ settled was.0.was_open ∙ sym was.0.committed_is) in
          record {
            was_open = was.0.was_open;
            now_is = later.now_is ∙ was.0.now_is;
            committed_is = later.committed_is ∙ was.0.committed_is;
          };
    }
