-- The cause of an error of a query.
use Rattle.std.proofs.Common.{◌≡◌, ◌≢◌, ◌<◌, inl, inr, ℕ, zero, suc, slice_index_or, true, false}
use Rattle.std.proofs.Common.{List, [], ◌∷◌, length, None, Ok, Err, Result, IfErr, IsSome, refl}
use Rattle.std.proofs.Common.{sym, ap, subst, ◌∙◌, append-nil, true≢false, arith}
use Rattle.std.proofs.Math.Dec.{leb}
use Rattle.std.proofs.lemmas.Bool.{leb-true}
use Rattle.std.proofs.lemmas.Bool.{cases_Bool}
use Rattle.std.proofs.lemmas.List.Sorted.{IsPermutation-refl}
use Rattle.std.specs.Prelude.{Vec}
use Rattle.std.specs.declared.alloc.Global.{Global}
use Rattle.sqlite.specs.Command.TheVariants.{Select}
use Rattle.sqlite.specs.Effect.{Database, RefusesToRead}
use Rattle.sqlite.specs.Listing.{understood, reads_listing, IsSourceOf}
use Rattle.sqlite.specs.Order.{Row}
use Rattle.sqlite.specs.Program.{overlay}
use Rattle.sqlite.specs.Query.{Query}
use Rattle.sqlite.specs.Schema.{Schema}
use Rattle.sqlite.specs.State.{State, HasCleanDisk, QueriesRow, Shown, FailsToQuery, FailsToShow}
use Rattle.sqlite.specs.State.{IsNotRun, IsNoStatement, HasCause, Survives, store_error}
use Rattle.sqlite.specs.Term.{Term, col, lit}
use Rattle.sqlite.specs.Collation.TheVariants.{Binary}
use Rattle.sqlite.specs.declared.types.Value.TheVariants.{Null}
use Rattle.sqlite_sql.specs.declared.aggregate.AggregateOp.TheVariants.{CountRows}
use Rattle.sqlite.specs.Tree.{Trees}
use Rattle.sqlite.specs.declared.error.Error.{Error}
use Rattle.sqlite.specs.declared.error.Error.TheVariants.{QueryReturnedNoRows, SqliteFailure}
use Rattle.sqlite.specs.declared.error.ErrorCode.TheVariants.{OutOfMemory}
use Rattle.sqlite.proofs.Callers.{IsPlain, command_of, reads_as}
use Rattle.sqlite_resolve.specs.declared.compiled.Compiled.{Compiled}
use Rattle.sqlite_resolve.specs.declared.error.CompileError.{CompileError}
use Rattle.sqlite_sql.specs.Group.{Aggregate, Overflows, value_over}
use Rattle.sqlite_sql.specs.Query.{matches, has_no_fold}
use Rattle.sqlite_sql.proofs.QueryLemmas.{no_fold_overflows}
use Rattle.sqlite_trees.specs.declared.error.StoreError.{StoreError}
use Rattle.sqlite_trees.specs.declared.error.StoreError.TheVariants as broken
use Rattle.sqlite_typing.specs.Types.{accepts_program}
use Rattle.store_tables.specs.Failures.{HasOutsideCause}
use Rattle.store_tables.specs.Tables.{book_schema}
use Rattle.store_tables.proofs.CountLemmas.{counts}
use Rattle.store_tables.proofs.Picks.{passes}
use Rattle.store_tables.proofs.Queries.{counting}

-- ---- one call after another

-- the cause of a later call is one of both
pub outside_later : (old mid new : State) (P Q : Trees → Type 0) → Survives old mid P
    → HasCleanDisk mid → Survives mid new Q → HasOutsideCause mid new → HasOutsideCause old new
outside_later old mid new P Q before clean after (inl shut) = elim (cases_Bool old.is_open) [
  | inl up ↦ elim (before.closes clean up) [
    | inl still ↦ absurd (true≢false (sym still ∙ shut))
    | inr failed ↦ inr (inl (omega (arith, failed, after.counts)))
  ]
  | inr closed ↦ inl closed
]
outside_later old mid new P Q before clean after (inr (inl failed)) =
    inr (inl (omega (arith, failed, before.counts)))
outside_later old mid new P Q before clean after (inr (inr limit)) =
    inr (inr (subst (λ l. IsSome l) before.limit limit))

-- ---- a statement that isn't run

-- the text is one statement with this number of parameters
abbrev pub IsWhole : List ℕ → ℕ → Result Compiled CompileError → Type 0
IsWhole sql count (Ok c) = (leb (length sql) c.tail ≡ true) × (length c.names ≡ count)
IsWhole sql count (Err e) = ⊥

is_statement : (s : State) (sql : List ℕ) (params : Row) (e : Error)
    → IsPlain (understood s.now.schema sql)
    → IsWhole sql (length params) (understood s.now.schema sql) → IsNoStatement s sql params e → ⊥
is_statement s sql params e plain whole (inl h) = subst IsPlain h.1 plain
is_statement s sql params e plain whole (inr h) =
    let bare = subst IsPlain h.1 plain in
    let full = subst (IsWhole sql (length params)) h.1 whole in
    elim h.2 [
      | inl long ↦ absurd (long.0 (leb-true (length sql) h.0.tail full.0))
      | inr (inl few) ↦ absurd (few.0 (sym full.1))
      | inr (inr clock) ↦ absurd (clock.0 bare.1)
    ]

-- the error of a store that failed
pub outside_of : (old new : State) (cause : StoreError) (e : Error) → e ≡ store_error cause
    → HasCause old new ⊥ cause → e ≢ SqliteFailure OutOfMemory → HasOutsideCause old new
outside_of old new broken.OutOfMemory e is h room = absurd (room is)
outside_of old new broken.Io e is h room = inr (inl h)
outside_of old new broken.Corrupt e is h room = inr (inl h)
outside_of old new broken.Full e is h room = inr (inl h)
outside_of old new broken.Broken e is h room = inl h
outside_of old new broken.Unstorable e is h room = absurd h

-- ---- a query of declared tables, whatever these are

module _ {schema : Schema} (sql : List ℕ) (params : Row) (old new : State) (has : old.now.schema
    ≡ schema) (q : Query) (names : List (List ℕ))
    (is : (command_of (understood schema sql) ≡ Select (record { lets = []; body = q }) names)
    × (reads_listing schema sql ≡ false) × IsPlain (understood schema sql))
    (whole : IsWhole sql (length params) (understood schema sql)) (typed :
    accepts_program schema [] q params ≡ true)
    (calm : (db : Trees) → Overflows q.group (matches db q.filter q.from (params ∷ []))
    → ⊥) (unfolded : has_no_fold q.from ≡ true) where
  refused : (e : Error) (db : Database) → db ≡ old.now
      → RefusesToRead old.step_limit (Select (record { lets = []; body = q }) names) db params e
      → HasOutsideCause old new
  refused e db same (inl h) = absurd (true≢false (sym typed
      ∙ subst (λ s. accepts_program s [] q params ≡ false) (ap (λ (d : Database). d.schema) same
      ∙ has) h.1))
  refused e db same (inr (inl h)) = elim h.1 [
    | inl over ↦ absurd (calm _ over)
    | inr fold ↦ absurd (no_fold_overflows _ q.from (params ∷ []) unfolded fold)
  ]
  refused e db same (inr (inr h)) = inr (inr h.1)

  pub from_outside : (e : Error) → FailsToQuery sql params old new e → e ≢ SqliteFailure OutOfMemory
      → HasOutsideCause old new
  unfolding FailsToQuery IsNotRun
  from_outside e (inl (inl h)) room =
      absurd (is_statement old sql params e (subst (λ s. IsPlain (understood s sql)) (sym has) is.2)
      (subst (λ s. IsWhole sql (length params) (understood s sql)) (sym has) whole) h.0)
  from_outside e (inl (inr h)) room = outside_of old new h.0 e h.1 h.2 room
  from_outside e (inr h) room =
      let known = sym h.1.is ∙ ap (λ s. understood s sql) has in
      let bare = subst IsPlain (sym known) is.2 in
      let it : FailsToShow old new sql h.0 params e None =
      rw (bare.0, bare.1, append-nil params) at h.2 in
      let db : it.0 ≡ old.now = subst (λ b. IsSourceOf b old.now it.0)
      (ap (λ s. reads_listing s sql) has ∙ is.1) it.1 in
      refused e it.0 db (subst (λ k. RefusesToRead old.step_limit k it.0 params e)
      (ap command_of known ∙ is.0) it.2)

  pub row_fails : (r : Result Row Error) → QueriesRow sql params old new r
      → IfErr r (λ e. e ≢ QueryReturnedNoRows → e ≢ SqliteFailure OutOfMemory
      → HasOutsideCause old new)
  unfolding QueriesRow
  row_fails (Ok row) h = tt
  row_fails (Err e) (inl h) = λ found room. from_outside e h room
  row_fails (Err e) (inr h) = λ found room. absurd (found h.0)

  pub rows_fail : (r : Result (Vec Row Global) Error) → IfErr r (FailsToQuery sql params old new)
      → IfErr r (λ e. e ≢ SqliteFailure OutOfMemory → HasOutsideCause old new)
  rows_fail (Ok rows) h = tt
  rows_fail (Err e) h = from_outside e h

-- ---- a count of the declared tables, which always finds a row

abbrev counter : Aggregate
counter = record { op = CountRows; distinct = false; collation = Binary; argument = lit Null }

only_counter : (k : ℕ) (a : Aggregate) → k < 1 → slice_index_or (counter ∷ []) k a ≡ a → a ≡ counter
only_counter zero a low at = sym at
only_counter (suc k) a low at = absurd (omega (arith, low))

module _ (sql : List ℕ) (params : Row) (old new : State) (has : old.now.schema ≡ book_schema)
    (tree : ℕ) (tests : List Term) (names : List (List ℕ))
    (is : (command_of (understood book_schema sql) ≡ Select (record {
      lets = [];
      body = counting tree tests;
    }) names) × (reads_listing book_schema sql ≡ false)
    × IsPlain (understood book_schema sql))
    (whole : IsWhole sql (length params) (understood book_schema sql)) (typed :
    accepts_program book_schema [] (counting tree tests) params ≡ true) where
  counts_calmly : (db : Trees) → Overflows (counting tree tests).group
      (matches db (counting tree tests).filter (counting tree tests).from (params ∷ [])) → ⊥
  counts_calmly db h =
      let found = h.2.4 in
      absurd (let e = subst (λ a. value_over h.2.1 a ≡ None) (only_counter found.0 found.1 found.2
      found.3) found.4 in cc)

  counts_some : Shown sql params old new [] → ⊥
  counts_some h =
      let answer = (reads_as sql params old new book_schema has _ is.0 is.2 is.1 [] h).answer in
      absurd (let e = counts {X = Row} tree tests params (λ r. r) (λ r. r)
      (passes tree tests (col 1 0 ∷ []) (λ _. []) params) (λ _. refl) (λ _. refl)
      (overlay old.now.trees [] tree) (overlay old.now.trees []) (IsPermutation-refl _) [] answer in
      cc)

  pub count_fails : (r : Result Row Error) → QueriesRow sql params old new r
      → IfErr r (λ e. e ≢ SqliteFailure OutOfMemory → HasOutsideCause old new)
  unfolding QueriesRow
  count_fails (Ok row) h = tt
  count_fails (Err e) (inl h) = from_outside sql params old new has (counting tree tests) names is
      whole typed counts_calmly refl e h
  count_fails (Err e) (inr h) = absurd (counts_some h.1)
