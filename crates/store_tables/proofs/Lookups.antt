-- The result of a look-up by a query over one table, for any SQL text.
use Rattle.std.proofs.Common.{◌≡◌, ◌⊎◌, inl, inr, ℕ, Bool, false, List, [], ◌∷◌, map, filter}
use Rattle.std.proofs.Common.{Option, Ok, Err, Result, IsTrue, refl, sym, ap, subst, ◌∙◌}
use Rattle.std.specs.List.{AllByRecursion}
use Rattle.std.proofs.lemmas.List.{nil_from_length}
use Rattle.std.proofs.lemmas.List.Sorted.{length_permutation, IsPermutation-map}
use Rattle.std.proofs.lemmas.List.Sorted.{IsPermutation-trans}
use Rattle.std.specs.List.Sorted.{IsPermutation}
use Rattle.std.proofs.lemmas.List.{length-map}
use Rattle.sqlite.specs.Order.{Row}
use Rattle.sqlite.specs.Tree.{Trees}
use Rattle.sqlite.specs.Term.{Term}
use Rattle.sqlite.specs.Command.TheVariants.{Select}
use Rattle.sqlite.specs.Program.{overlay}
use Rattle.sqlite.specs.Query.{IsSureAnswer}
use Rattle.sqlite_trees.proofs.ListLemmas.{map-map, filter-map, all-permutation}
use Rattle.sqlite_trees.proofs.ListLemmas.{IsPermutation-filter}
use Rattle.sqlite_rules.specs.Lists.{Has}
use Rattle.sqlite.specs.declared.error.Error.{Error}
use Rattle.sqlite.specs.declared.error.Error.TheVariants.{QueryReturnedNoRows}
use Rattle.sqlite.specs.State.{HasCleanDisk, State, QueriesRow, FailsToQuery, FailsToShow, IsNotRun}
use Rattle.sqlite.specs.State.{IsNoStatement, IsUnchanged, IsRolledBack, Shown, ShowsRows}
use Rattle.sqlite.specs.State.{store_error}
use Rattle.sqlite.specs.Effect.{Database, RefusesQuery, RefusesToRead}
use Rattle.sqlite.specs.Listing.{understood, reads_listing}
use Rattle.sqlite.specs.Clock.{timed}
use Rattle.sqlite.specs.Schema.{Schema}
use Rattle.sqlite_schema.specs.declared.program.Program.{Program}
use Rattle.sqlite_trees.specs.declared.error.StoreError.{StoreError}
use Rattle.sqlite_trees.specs.declared.error.StoreError.TheVariants as broken
use Rattle.sqlite.proofs.Callers.{IsPlain, command_of, first_as, reads_as}
use Rattle.sqlite.proofs.StateLemmas.{survives_weaker, survives_then}
use Rattle.std.proofs.Common.{arith, IfErr}
use Rattle.sqlite.specs.State.{Fails}
use Rattle.sqlite.specs.State.{Survives, CommitsShowing}
use Rattle.store_tables.proofs.Queries.{picks}
use Rattle.store_tables.specs.QueryResults.{FindsRow, IfAnswered}
use Rattle.std.specs.Prelude.{OnOk, IfOk, Vec, ⊤}
use Rattle.std.specs.declared.alloc.Global.{Global}
use Rattle.store_tables.specs.Tables.{book_schema}
use Rattle.store_tables.specs.Failures.{FailsFromOutside, MissesOrFailsFromOutside}
use Rattle.store_tables.specs.Reads.{LooksUpRow, ReadsTables}
use Rattle.store_tables.specs.StatementEffects.{KeepsState, HasNoPendingWrites, OnlyReads}
use Rattle.store_tables.proofs.Picks.{passes, shows, picked}
use Rattle.store_tables.proofs.Cells.{shaped}
use Rattle.store_tables.proofs.ReturningLemmas.{fails_as, shown_open}
use Rattle.store_tables.proofs.SelectLemmas.{IsSelectText, select_never_commits}

store_fault : (cause : StoreError) → QueryReturnedNoRows ≡ store_error cause → ⊥
store_fault broken.OutOfMemory h = absurd cc
store_fault broken.Io h = absurd cc
store_fault broken.Corrupt h = absurd cc
store_fault broken.Full h = absurd cc
store_fault broken.Broken h = absurd cc
store_fault broken.Unstorable h = absurd cc

no_statement : (s : State) (sql : List ℕ) (params : Row)
    → IsNoStatement s sql params QueryReturnedNoRows → ⊥
no_statement s sql params (inl h) = absurd (let e = h.2 in cc)
no_statement s sql params (inr h) = elim h.2 [
  | inl long ↦ absurd (let e = long.1 in cc)
  | inr (inl few) ↦ absurd (let e = few.1 in cc)
  | inr (inr clock) ↦ absurd (let e = clock.1 in cc)
]

no_refusal : (limit : Option ℕ) (q : Program) (db : Database) (params : Row)
    → RefusesQuery limit db q params QueryReturnedNoRows → ⊥
no_refusal limit q db params (inl h) = absurd (let e = h.0 in cc)
no_refusal limit q db params (inr (inl h)) = absurd (let e = h.0 in cc)
no_refusal limit q db params (inr (inr h)) = absurd (let e = h.0 in cc)

-- a query that fails does not report that there is no row
pub never_none : (sql : List ℕ) (params : Row) (old new : State) (schema : Schema)
    → old.now.schema ≡ schema → (q : Program) (names : List (List ℕ))
    → command_of (understood schema sql) ≡ Select q names → IsPlain (understood schema sql)
    → FailsToQuery sql params old new QueryReturnedNoRows → ⊥
unfolding FailsToQuery IsNotRun
never_none sql params old new schema has q names is plain (inl (inl h)) =
    no_statement old sql params h.0
never_none sql params old new schema has q names is plain (inl (inr h)) = store_fault h.0 h.1
never_none sql params old new schema has q names is plain (inr h) =
    let known = sym h.1.is ∙ ap (λ s. understood s sql) has in
    let none = (subst IsPlain (sym known) plain).0 in
    let it = subst (FailsToShow old new sql h.0 (timed params h.0.formats h.1.now)
    QueryReturnedNoRows) none h.2 in
    no_refusal old.step_limit q it.0 _
    (subst (λ k. RefusesToRead old.step_limit k it.0 (timed params h.0.formats h.1.now)
    QueryReturnedNoRows) (ap command_of known ∙ is) it.2)

shown_back : {X : Type 0} (show : X → Row) (xs all : List X) → ((x : X) → Has xs x → Has all x)
    → AllByRecursion (λ row. (x : X) × Has all x × (row ≡ show x)) (map show xs)
shown_back show [] all sub = tt
shown_back show (x ∷ xs) all sub =
    ((x, sub x (inl refl), refl), shown_back show xs all (λ y h. sub y (inr h)))

module _ {X : Type 0} (sql : List ℕ) (params : Row) (schema : Schema) (tree : ℕ) (tests project :
    List Term) (names : List (List ℕ))
    (is : (command_of (understood schema sql) ≡ Select (record {
      lets = [];
      body = picks tree tests project;
    }) names) × (reads_listing schema sql ≡ false)
    × IsPlain (understood schema sql))
    (over : (db : Trees) → overlay db [] tree ≡ db tree) (cells : Row → Row) (stored show : X
    → Row) (test : X → Bool)
    (tested : (r : Row) → passes tree tests project (λ _. []) params (cells r) ≡ passes tree tests
    project (λ _. []) params r)
    (projected : (r : Row) → shows tree tests project (λ _. []) params (cells r)
    ≡ shows tree tests project (λ _. []) params r)
    (passing : (x : X) → passes tree tests project (λ _. []) params (stored x) ≡ test x)
    (showing : (x : X) → shows tree tests project (λ _. []) params (stored x) ≡ show x) where
  abbrev p : Row → Bool
  p = passes tree tests project (λ _. []) params

  abbrev f : Row → Row
  f = shows tree tests project (λ _. []) params

  kept : (xs : List X) → map f (filter p (map stored xs)) ≡ map show (filter test xs)
  kept xs =
      ap (map f) (filter-map p stored xs ∙ (λ i. map stored (filter (λ x. passing x i) xs)))
      ∙ map-map f stored (filter test xs) ∙ (λ i. map (λ x. showing x i) (filter test xs))

  pub answers : (db : Trees) (xs : List X) (rows : List Row)
      → IsPermutation (map stored xs) (map cells (db tree))
      → IsSureAnswer (picks tree tests project) (overlay db []) params rows
      → IsPermutation (map show (filter test xs)) rows
  answers db xs rows has h =
      let answer = subst (λ front. IsPermutation front rows) (ap (λ all. map f (filter p all))
      (over db) ∙ shaped cells p f tested projected (db tree)) (picked tree tests project
      (overlay db []) params rows h) in
      let same = IsPermutation-map f _ _ (IsPermutation-filter p _ _ has) in
      IsPermutation-trans _ _ _ (subst (λ front. IsPermutation front
      (map f (filter p (map cells (db tree))))) (kept xs) same) answer

  pub finds : (old new : State) (xs : List X) (r : Result Row Error) → old.now.schema ≡ schema
      → IsPermutation (map stored xs) (map cells (old.now.trees tree))
      → QueriesRow sql params old new r → FindsRow test show xs r
  unfolding QueriesRow
  finds old new xs (Ok row) has rows h =
      let got = (first_as sql _ old new schema has _ is.0 is.2 is.1 row h).1 in
      (all-permutation _ _ (row ∷ got.0) (answers old.now.trees xs (row ∷ got.0) rows got.1)
      (shown_back show (filter test xs) (filter test xs) (λ x h. h))).0
  finds old new xs (Err e) has rows (inl h) =
      λ none. absurd (never_none sql _ old new schema has _ _ is.0 is.2
      (subst (FailsToQuery sql _ old new) none h))
  finds old new xs (Err e) has rows (inr h) = λ none.
      let got = (reads_as sql _ old new schema has _ is.0 is.2 is.1 [] h.1).answer in
      nil_from_length _ (sym (length-map (filter test xs) show)
      ∙ sym (length_permutation _ [] (answers old.now.trees xs [] rows got)))

-- ---- the effect of a query

-- outside a transaction, an unchanged or rolled back state is the state before
pub leaves_as : (old new : State) → HasNoPendingWrites old → IsUnchanged old new
    ⊎ IsRolledBack old new → IsTrue new.is_open → KeepsState old new
leaves_as old new settled (inl same) up = record {
  was_open = same.0.was_open;
  now_is = same.0.now_is;
  committed_is = same.0.committed_is;
}
leaves_as old new settled (inr undone) up =
    record {
      was_open = undone.was_open up;
      now_is = (undone.undone up).0
          ∙ sym (settled (undone.was_open up));
      committed_is = (undone.undone up).1;
    }

pub plain_shown : (sql : List ℕ) (params : Row) (old new : State) (rows : List Row)
    → IsPlain (understood old.now.schema sql) → Shown sql params old new rows → IsUnchanged old new
unfolding Shown
plain_shown sql params old new rows plain h =
    let none = (subst IsPlain h.1.is plain).0 in
    let full = timed params h.0.formats h.1.now in
    (subst (ShowsRows old new sql h.0 full rows) none h.2).3

pub row_leaves : (sql : List ℕ) (params : Row) (old new : State) (r : Result Row Error)
    → IsPlain (understood old.now.schema sql) → QueriesRow sql params old new r
    → IsUnchanged old new ⊎ IsRolledBack old new
unfolding QueriesRow
row_leaves sql params old new (Ok row) plain (inl h) = inl h.1
row_leaves sql params old new (Ok row) plain (inr h) =
    inl (plain_shown sql params old new h.0 plain h.1)
row_leaves sql params old new (Err e) plain (inl h) = fails_as sql params old new e h
row_leaves sql params old new (Err e) plain (inr h) =
    inl (plain_shown sql params old new [] plain h.1)

pub left_open : (old new : State) → IsUnchanged old new ⊎ IsRolledBack old new → IsTrue new.is_open
    → IsTrue old.is_open
left_open old new (inl same) up = same.0.was_open
left_open old new (inr undone) up = undone.was_open up

row_open : (sql : List ℕ) (params : Row) (old new : State) (r : Result Row Error)
    → QueriesRow sql params old new r → IsTrue new.is_open → IsTrue old.is_open
unfolding QueriesRow
row_open sql params old new (Ok row) (inl h) up = h.1.0.was_open
row_open sql params old new (Ok row) (inr h) up = shown_open sql params old new h.0 h.1
row_open sql params old new (Err e) (inl h) up =
    left_open old new (fails_as sql params old new e h) up
row_open sql params old new (Err e) (inr h) up = shown_open sql params old new [] h.1

pub plain_under : (sql : List ℕ) (s : State) (schema : Schema) → s.now.schema ≡ schema
    → IsPlain (understood schema sql) → IsPlain (understood s.now.schema sql)
plain_under sql s schema has plain = subst (λ k. IsPlain (understood k sql)) (sym has) plain

pub commits_nothing : (sql : List ℕ) (params : Row) (old new : State) → IsSelectText sql
    → Survives old new (CommitsShowing sql params old) → Survives old new (λ _. ⊥)
commits_nothing sql params old new select =
    survives_weaker old new _ _ (λ _ db commits. select_never_commits sql params old db select
    commits)

pub only_reads : (sql : List ℕ) (params : Row) (old new : State) (r : Result Row Error)
    → IsSelectText sql → IsPlain (understood book_schema sql)
    → (HasCleanDisk new → QueriesRow sql params old new r)
    → (old.in_transaction ≡ false → new.in_transaction ≡ false)
    → Survives old new (CommitsShowing sql params old) → OnlyReads old new
only_reads sql params old new r select plain row mode survives = record {
  mode = mode;
  was_open = λ clean up. row_open sql params old new r (row clean) up;
  survives = commits_nothing sql params old new select survives;
  same = λ clean has up settled. leaves_as old new settled (row_leaves sql params old new r
      (plain_under sql old book_schema has plain) (row clean)) up;
}

pub ok_unchanged : (sql : List ℕ) (params : Row) (old new : State) (r : Result Row Error) (q :
    Program) (names : List (List ℕ)) → command_of (understood book_schema sql) ≡ Select q names
    → IsPlain (understood book_schema sql)
    → old.now.schema ≡ book_schema → QueriesRow sql params old new r
    → IfAnswered r (IsUnchanged old new)
unfolding QueriesRow
ok_unchanged sql params old new (Ok row) q names is plain has (inl h) = h.1
ok_unchanged sql params old new (Ok row) q names is plain has (inr h) =
    plain_shown sql params old new h.0 (plain_under sql old book_schema has plain) h.1
ok_unchanged sql params old new (Err e) q names is plain has (inl h) =
    λ none. absurd (never_none sql params old new book_schema has q names is plain
    (subst (FailsToQuery sql params old new) none h))
ok_unchanged sql params old new (Err e) q names is plain has (inr h) =
    λ none. plain_shown sql params old new [] (plain_under sql old book_schema has plain) h.1

-- one more step of a query
pub reads_on : (old mid new : State) → OnlyReads old mid → (HasCleanDisk new → IsUnchanged mid new
    ⊎ IsRolledBack mid new) → (mid.in_transaction ≡ false → new.in_transaction ≡ false)
    → Survives mid new (λ _. ⊥) → OnlyReads old new
reads_on old mid new before step mode survives = record {
  mode = λ h. mode (before.mode h);
  was_open = λ clean up. before.was_open (omega (arith, survives.clean))
      (left_open mid new (step clean) up);
  survives = survives_then old mid new _ _ _ (λ _ db h. h) (λ _ db none. absurd none)
      before.survives survives;
  same = λ clean has up settled.
      let was = step clean in
      let early : HasCleanDisk mid = omega (arith, survives.clean) in
      let up_before : IsTrue mid.is_open = elim was [
        | inl same ↦ same.0.was_open
        | inr undone ↦
            undone.was_open up
      ] in
      let first = before.same early has up_before settled in
      let second = leaves_as mid new (λ _. first.now_is ∙ settled first.was_open
      ∙ sym first.committed_is) was up in
      record {
        was_open = first.was_open;
        now_is = second.now_is ∙ first.now_is;
        committed_is = second.committed_is ∙ first.committed_is;
      };
}

pub moved_leaves : {X : Type 0} (mid new : State) (r : Result X Error)
    → OnOk r (IsUnchanged mid new) → IfErr r (λ e. Fails mid new ⊥ e ⊎ IsUnchanged mid new)
    → IsUnchanged mid new ⊎ IsRolledBack mid new
moved_leaves mid new (Ok x) ok err = inl ok
moved_leaves mid new (Err e) ok (inl fails) = inr fails.3
moved_leaves mid new (Err e) ok (inr same) = inl same

pub refused_reads : (sql : List ℕ) (params : Row) (old new : State) (e : Error) → IsSelectText sql
    → IsPlain (understood book_schema sql)
    → (HasCleanDisk new → FailsToQuery sql params old new e) → (old.in_transaction ≡ false
    → new.in_transaction ≡ false) → Survives old new (CommitsShowing sql params old)
    → OnlyReads old new
refused_reads sql params old new e select plain err mode survives = record {
  mode = mode;
  was_open = λ clean up. left_open old new (fails_as sql params old new e (err clean)) up;
  survives = commits_nothing sql params old new select survives;
  same = λ clean has up settled. leaves_as old new settled (fails_as sql params old new e
      (err clean)) up;
}

pub begun_reads : (sql : List ℕ) (params : Row) (old new : State) → IsSelectText sql
    → IsPlain (understood book_schema sql) → (HasCleanDisk new → IsTrue old.is_open)
    → (HasCleanDisk new → old.now.schema ≡ book_schema → IsUnchanged old new)
    → (old.in_transaction ≡ false → new.in_transaction ≡ false)
    → Survives old new (CommitsShowing sql params old) → OnlyReads old new
begun_reads sql params old new select plain opened same mode survives = record {
  mode = mode;
  was_open = λ clean up. opened clean;
  survives = commits_nothing sql params old new select survives;
  same = λ clean has up settled. leaves_as old new settled (inl (same clean has)) up;
}

-- one query after another that succeeded
pub reads_then : (a b c : State) → OnlyReads a b → (HasCleanDisk b → a.now.schema ≡ book_schema
    → IsUnchanged a b) → OnlyReads b c → OnlyReads a c
reads_then a b c before same after = record {
  mode = λ h. after.mode (before.mode h);
  was_open = λ clean up. before.was_open (omega (arith, after.survives.clean))
      (after.was_open clean up);
  survives = survives_then a b c _ _ _ (λ _ db none. none) (λ _ db none. none) before.survives
      after.survives;
  same = λ clean has up settled.
      let kept = same (omega (arith, after.survives.clean)) has in
      let later = after.same clean (ap (λ (d : Database). d.schema) kept.0.now_is
      ∙ has) up (λ _. kept.0.now_is ∙ settled kept.0.was_open ∙ sym kept.0.committed_is) in
      record {
        was_open = kept.0.was_open;
        now_is = later.now_is ∙ kept.0.now_is;
        committed_is = later.committed_is ∙ kept.0.committed_is;
      };
}

-- all rows at once
pub all_reads : (sql : List ℕ) (params : Row) (old new : State) (r : Result (Vec Row Global) Error)
    → IsSelectText sql → IsPlain (understood book_schema sql)
    → (HasCleanDisk new → IfOk r (λ rows. Shown sql params old new rows.items))
    → (HasCleanDisk new → IfErr r (FailsToQuery sql params old new))
    → (old.in_transaction ≡ false → new.in_transaction ≡ false)
    → Survives old new (CommitsShowing sql params old) → OnlyReads old new
all_reads sql params old new (Ok rows) select plain ok err mode survives = record {
  mode = mode;
  was_open = λ clean up. shown_open sql params old new rows.items (ok clean);
  survives = commits_nothing sql params old new select survives;
  same = λ clean has up settled. leaves_as old new settled
      (inl (plain_shown sql params old new rows.items (plain_under sql old book_schema has plain)
      (ok clean))) up;
}
all_reads sql params old new (Err e) select plain ok err mode survives =
    refused_reads sql params old new e select plain err mode survives

pub all_unchanged : (sql : List ℕ) (params : Row) (old new : State) (r :
    Result (Vec Row Global) Error) (q : Program) (names : List (List ℕ))
    → command_of (understood book_schema sql) ≡ Select q names
    → IsPlain (understood book_schema sql) → old.now.schema ≡ book_schema
    → IfOk r (λ rows. Shown sql params old new rows.items)
    → IfErr r (FailsToQuery sql params old new) → IfAnswered r (IsUnchanged old new)
all_unchanged sql params old new (Ok rows) q names is plain has ok err =
    plain_shown sql params old new rows.items (plain_under sql old book_schema has plain) ok
all_unchanged sql params old new (Err e) q names is plain has ok err =
    λ none. absurd (never_none sql params old new book_schema has q names is plain
    (subst (FailsToQuery sql params old new) none err))

-- ---- a statement that reads, but for what it returns

-- the text is a query of the declared tables
abbrev pub IsQueryText : List ℕ → Program → List (List ℕ) → Type 0
IsQueryText sql q names = (command_of (understood book_schema sql) ≡ Select q names)
    × (reads_listing book_schema sql ≡ false) × IsPlain (understood book_schema sql)

module _ {q : Program} {names : List (List ℕ)} (sql : List ℕ) (params : Row) (old new : State)
    (select : IsSelectText sql) (is : IsQueryText sql q names)
    (mode : old.in_transaction ≡ false → new.in_transaction ≡ false)
    (survives : Survives old new (CommitsShowing sql params old)) where
  -- a look-up
  pub looks_up : (r : Result Row Error) → (HasCleanDisk new → QueriesRow sql params old new r)
      → MissesOrFailsFromOutside old new r → LooksUpRow old new r ⊤
  looks_up r row fails = record {
    returns = tt;
    unchanged = λ clean has. ok_unchanged sql params old new r q names is.0 is.2 has (row clean);
    fails_from_outside = fails;
    reads_only = only_reads sql params old new r select is.2 row mode survives;
  }

  -- a query that always finds one row
  pub reads_row : (r : Result Row Error) → (HasCleanDisk new → QueriesRow sql params old new r)
      → FailsFromOutside old new r → ReadsTables old new r ⊤
  reads_row r row fails = record {
    returns = tt;
    unchanged = λ clean has. ok_unchanged sql params old new r q names is.0 is.2 has (row clean);
    fails_from_outside = fails;
    reads_only = only_reads sql params old new r select is.2 row mode survives;
  }

  -- a query of all rows
  pub reads_rows : (r : Result (Vec Row Global) Error)
      → (HasCleanDisk new → IfOk r (λ rows. Shown sql params old new rows.items))
      → (HasCleanDisk new → IfErr r (FailsToQuery sql params old new))
      → FailsFromOutside old new r → ReadsTables old new r ⊤
  reads_rows r ok err fails = record {
    returns = tt;
    unchanged = λ clean has. all_unchanged sql params old new r q names is.0 is.2 has (ok clean)
        (err clean);
    fails_from_outside = fails;
    reads_only = all_reads sql params old new r select is.2 ok err mode survives;
  }
