-- The cause of an error of a statement that writes rows or creates a table.
use Rattle.std.proofs.Common.{◌≡◌, ◌≢◌, ◌⊎◌, inl, inr, ℕ, false, Bool, List, [], length, Option}
use Rattle.std.proofs.Common.{Some, None, Ok, Err, Result, IsSome, sym, ap, subst, subst₂, ◌∙◌}
use Rattle.std.proofs.Common.{append-nil}
use Rattle.std.proofs.lemmas.Bool.{leb-true}
use Rattle.sqlite.specs.Clock.{timed}
use Rattle.sqlite.specs.Command.{Command}
use Rattle.sqlite.specs.Command.TheVariants.{CreateTable, Insert, InsertOr, Update, Delete}
use Rattle.sqlite.specs.Does.{Does}
use Rattle.sqlite.specs.Listing.{understood}
use Rattle.sqlite.specs.Order.{Row}
use Rattle.sqlite.specs.Schema.{Schema}
use Rattle.sqlite.specs.State.{State, ExecutesInside, ExecutesIn, IsMisplaced, IsNoStatement}
use Rattle.sqlite.specs.State.{IsNotRun, IsStatement, EndsScope, Escapes, RunsCommand, HasCause}
use Rattle.sqlite.specs.State.{shows_rows, text_of, mode_of, store_error}
use Rattle.sqlite.specs.declared.error.Error.{Error}
use Rattle.sqlite.specs.declared.error.Error.TheVariants.{SqliteFailure}
use Rattle.sqlite.specs.declared.error.ErrorCode.TheVariants.{OutOfMemory}
use Rattle.sqlite.proofs.Callers.{command_of, statement_of}
use Rattle.sqlite_resolve.specs.declared.compiled.Compiled.{Compiled}
use Rattle.sqlite_resolve.specs.declared.error.CompileError.{CompileError}
use Rattle.sqlite_schema.specs.declared.command.Returning.{Returning}
use Rattle.sqlite_trees.specs.declared.error.StoreError.{StoreError}
use Rattle.sqlite_trees.specs.declared.error.StoreError.TheVariants as broken
use Rattle.store_tables.specs.Failures.{HasOutsideCause}
use Rattle.store_tables.proofs.FailureLemmas.{IsWhole}
use Rattle.store_tables.proofs.Texts.{returning_of, formats_of}

-- the command writes rows, or creates a table
abbrev pub IsChange : Command → Type 0
IsChange (Insert at from) = Unit {0}
IsChange (InsertOr at way from clauses) = Unit {0}
IsChange (Update at q) = Unit {0}
IsChange (Delete at q) = Unit {0}
IsChange CreateTable = Unit {0}
IsChange _ = ⊥

-- whether `execute` refuses the statement because it shows rows
abbrev pub shows_in : Result Compiled CompileError → Bool
shows_in (Ok c) = shows_rows false c
shows_in (Err e) = false

placed : (s : State) (c : Command) (e : Error) → IsChange c → IsMisplaced s c e → ⊥
placed s c e rows (inl h) = elim h.1 [
  | inl b ↦ subst IsChange b.0 rows
  | inr k ↦
      elim k.0 [ inl d ↦ subst IsChange d rows | inr r ↦ subst IsChange r rows ]
]
placed s c e rows (inr h) = elim h.2 [
  | inl r ↦ subst IsChange r rows
  | inr b ↦
      subst IsChange b rows
]

stays : (s : State) (c : Command) → IsChange c → Escapes 0 s c → ⊥
stays s c rows (inl h) = elim h [
  | inl d ↦ subst IsChange d rows
  | inr r ↦
      subst IsChange r rows
]
stays s c rows (inr h) = elim h.1 [
  | inl r ↦ subst IsChange r rows
  | inr b ↦
      subst IsChange b rows
]

-- the text is a statement
pub states : (s : State) (sql : List ℕ) (params : Row) (e : Error)
    → formats_of (understood s.now.schema sql) ≡ []
    → IsWhole sql (length params) (understood s.now.schema sql) → IsNoStatement s sql params e → ⊥
states s sql params e still whole (inl h) = subst (IsWhole sql (length params)) h.1 whole
states s sql params e still whole (inr h) =
    let full = subst (IsWhole sql (length params)) h.1 whole in
    let none = subst (λ c. formats_of c ≡ []) h.1 still in
    elim h.2 [
      | inl long ↦ absurd (long.0 (leb-true (length sql) h.0.tail full.0))
      | inr (inl few) ↦ absurd (few.0 (sym full.1))
      | inr (inr clock) ↦ absurd (clock.0 none)
    ]

module _ (old new : State) where
  -- the error of a store that failed
  outside_of : (TooBig : Type 0) → (TooBig → HasOutsideCause old new)
      → (cause : StoreError) (e : Error) → e ≡ store_error cause → HasCause old new TooBig cause
      → e ≢ SqliteFailure OutOfMemory → HasOutsideCause old new
  outside_of TooBig big broken.OutOfMemory e is h room = absurd (room is)
  outside_of TooBig big broken.Io e is h room = inr (inl h)
  outside_of TooBig big broken.Corrupt e is h room = inr (inl h)
  outside_of TooBig big broken.Full e is h room = inr (inl h)
  outside_of TooBig big broken.Broken e is h room = inl h
  outside_of TooBig big broken.Unstorable e is h room = big h

-- the error of a statement that stopped is one of these
abbrev pub IsExcused : (Error → Type 0) → Option Error → Type 0
IsExcused Excuses (Some e) = Excuses e
IsExcused Excuses None = ⊥

module _ {schema : Schema} (sql : List ℕ) (params : Row) (old new : State) (has : old.now.schema
    ≡ schema)
    (command : Command) (what : Option Returning)
    (is : command_of (understood schema sql) ≡ command) (rows : IsChange command)
    (returns : returning_of (understood schema sql) ≡ what) (still :
    formats_of (understood schema sql) ≡ [])
    (whole : IsWhole sql (length params) (understood schema sql))
    (Excuses : Error → Type 0)
    (stops : (stop : Option Error) → Does old.step_limit (mode_of old) params
    (record old.now { schema = schema }) (statement_of sql (understood schema sql))
    what command (Err stop) → IsSome old.step_limit ⊎ IsExcused Excuses stop) where
  abbrev known : (c : Compiled) → IsStatement old sql params c → understood schema sql ≡ Ok c
  known c it = ap (λ s. understood s sql) (sym has) ∙ it.is

  does : (c : Compiled) → IsStatement old sql params c → (stop : Option Error)
      → Does old.step_limit (mode_of old) params old.now (text_of sql c) c.returning c.command
      (Err stop) → IsSome old.step_limit ⊎ IsExcused Excuses stop
  does c it stop h =
      let at = known c it in
      let told = subst₂ (λ k t. Does old.step_limit (mode_of old) params old.now t c.returning k
      (Err stop)) (sym (ap command_of at) ∙ is) (sym (ap (statement_of sql) at)) h in
      let shown = subst (λ r. Does old.step_limit (mode_of old) params old.now
      (statement_of sql (understood schema sql)) r command (Err stop))
      (sym (ap returning_of at) ∙ returns) told in
      stops stop (subst (λ s. Does old.step_limit (mode_of old) params
      (record old.now { schema = s }) (statement_of sql (understood schema sql)) what
      command (Err stop)) has shown)

  ran : (c : Compiled) → IsStatement old sql params c → (e : Error)
      → RunsCommand old new sql c params (Err e) → (Excuses e → ⊥) → e ≢ SqliteFailure OutOfMemory
      → HasOutsideCause old new
  ran c it e (inl h) plain room = elim h.0 [
    | inl misplaced ↦ absurd (placed old c.command e (subst IsChange (sym is
        ∙ ap command_of (known c it)) rows) misplaced)
    | inr refused ↦ elim (does c it (Some e) refused.1) [
      | inl limit ↦ inr (inr limit)
      | inr bad ↦
          absurd (plain bad)
    ]
  ]
  ran c it e (inr h) plain room = outside_of old new _ (λ big. elim (does c it None big)
      [ inl limit ↦ inr (inr limit) | inr bad ↦ absurd bad ]) h.0 e h.1 h.2 room

  not_run : (e : Error) → IsNotRun old new sql params e → e ≢ SqliteFailure OutOfMemory
      → HasOutsideCause old new
  unfolding IsNotRun
  not_run e (inl h) room =
      absurd (states old sql params e (subst (λ s. formats_of (understood s sql) ≡ []) (sym has)
      still) (subst (λ s. IsWhole sql (length params) (understood s sql)) (sym has) whole) h.0)
  not_run e (inr h) room = outside_of old new ⊥ (λ none. absurd none) h.0 e h.1 h.2 room

  plainly : (c : Compiled) (it : IsStatement old sql params c) (e : Error)
      → RunsCommand old new sql c (timed params c.formats it.now) (Err e)
      → RunsCommand old new sql c params (Err e)
  plainly c it e h = let bare : c.formats ≡ [] = sym (ap formats_of (known c it)) ∙ still in
      rw (bare, append-nil params) at h

  pub execute_fails_unless : shows_in (understood schema sql) ≡ false → (e : Error)
      → ExecutesInside 0 sql params old new (Err e) → (Excuses e → ⊥)
      → e ≢ SqliteFailure OutOfMemory → HasOutsideCause old new
  unfolding ExecutesIn EndsScope
  execute_fails_unless quiet e (inl h) plain room = elim h.0 [
    | inl none ↦ not_run e none room
    | inr k ↦
        let off : shows_rows false k.0 ≡ false = sym (ap shows_in (known k.0 k.1)) ∙ quiet in
        ran k.0 k.1 e (plainly k.0 k.1 e (rw off at k.2)) plain room
  ]
  execute_fails_unless quiet e (inr h) plain room =
      absurd (stays old h.0.0.command (subst IsChange (sym is ∙ ap command_of (known h.0.0 h.0.1))
      rows) h.0.2)

module _ {schema : Schema} (sql : List ℕ) (params : Row) (old new : State) (has : old.now.schema
    ≡ schema)
    (command : Command) (what : Option Returning)
    (is : command_of (understood schema sql) ≡ command) (rows : IsChange command)
    (returns : returning_of (understood schema sql) ≡ what) (still :
    formats_of (understood schema sql) ≡ [])
    (whole : IsWhole sql (length params) (understood schema sql))
    (stops : (stop : Option Error) → Does old.step_limit (mode_of old) params
    (record old.now { schema = schema }) (statement_of sql (understood schema sql))
    what command (Err stop) → IsSome old.step_limit) where
  pub execute_fails : shows_in (understood schema sql) ≡ false → (e : Error)
      → ExecutesInside 0 sql params old new (Err e) → e ≢ SqliteFailure OutOfMemory
      → HasOutsideCause old new
  execute_fails quiet e h = execute_fails_unless sql params old new has command what is rows returns
      still whole (λ _. ⊥) (λ stop did. inl (stops stop did)) quiet e h (λ none. none)
