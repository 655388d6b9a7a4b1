-- What a statement leaves of the state of a connection, for any SQL text.
use Rattle.std.specs.Prelude.{IfOk, IfErr, IsTrue, OnOk, OnErr}
use Rattle.sqlite.specs.Steps.{FailsToCommit}
use Rattle.std.proofs.Common.{true≢false, false, ◌≡◌, ◌⊎◌, inl, inr, ℕ, List, Option, Some, None}
use Rattle.std.proofs.Common.{Ok, Err, Result, sym, ◌∙◌, subst}
use Rattle.sqlite.specs.Effect.{Database}
use Rattle.sqlite.specs.Order.{Row}
use Rattle.sqlite.specs.Clock.{timed}
use Rattle.sqlite.specs.State.{HasCleanDisk, Survives, ExecutesInside, State, Shown, ShowsRows}
use Rattle.sqlite.specs.State.{IsUnchanged, IsRolledBack, KeepsCommit, IsNotRun, FailsToQuery}
use Rattle.sqlite.specs.State.{FailsToShow, ExecutesIn, RunsCommand, shows_rows, store_error}
use Rattle.sqlite.specs.declared.error.Error.{Error}
use Rattle.sqlite.specs.declared.error.Error.TheVariants.{SqliteFailure}
use Rattle.sqlite.specs.declared.error.ErrorCode.TheVariants.{ConstraintViolation}
use Rattle.sqlite_resolve.specs.declared.compiled.Compiled.{Compiled}
use Rattle.sqlite_schema.specs.declared.schema.Constraint.{Constraint}
use Rattle.sqlite_trees.specs.declared.error.StoreError.{StoreError}
use Rattle.sqlite_trees.specs.declared.error.StoreError.TheVariants as broken
use Rattle.std.proofs.lemmas.Bool.{cases_Bool}
use Rattle.sqlite_schema.specs.declared.command.Returning.{Returning}
use Rattle.store_tables.specs.Acceptance.{IsViolation}
use Rattle.store_tables.specs.Tables.{ObeyTables, book_schema}
use Rattle.store_tables.specs.StatementEffects.{KeepsOtherTables, WritesOnly, NoCommit, IsUndone}

module _ (sql : List ℕ) (params : Row) (old new : State) where
  -- a failed write changes nothing, or rolls back
  pub fails_as : (e : Error) → FailsToQuery sql params old new e → IsUnchanged old new
      ⊎ IsRolledBack old new
  unfolding FailsToQuery IsNotRun
  fails_as e (inl (inl h)) = inl h.1
  fails_as e (inl (inr h)) = inr h.3
  fails_as e (inr h) = go h.0.returning h.2
    where
      go : (what : Option Returning) → FailsToShow old new sql h.0
          (timed params h.0.formats h.1.now) e what → IsUnchanged old new ⊎ IsRolledBack old new
      go None k = inl k.3
      go (Some it) (inl k) = inl k.1
      go (Some it) (inr k) = inr k.3

  pub keeps_failed : (e : Error) → IsUnchanged old new ⊎ IsRolledBack old new → KeepsCommit old new
  keeps_failed e (inl same) = record {
    was_open = λ _. same.0.was_open;
    committed = λ _. same.0.committed_is;
  }
  keeps_failed e (inr undone) = record {
    was_open = undone.was_open;
    committed = λ up. (undone.undone up).1;
  }

pub shown_open : (sql : List ℕ) (params : Row) (old new : State) (rows : List Row)
    → Shown sql params old new rows → IsTrue old.is_open
unfolding Shown
shown_open sql params old new rows h = go h.0.returning h.2
  where
    go : (what : Option Returning) → ShowsRows old new sql h.0 (timed params h.0.formats h.1.now)
        rows what → IsTrue old.is_open
    go None k = k.3.0.was_open
    go (Some it) k = k.1.shown.was_open

-- a failed commit restores the last committed state
pub failed_commit : {X : Type 0} (first mid last : State) (r : Result X Error)
    → KeepsCommit first mid → IsTrue mid.in_transaction
    → (IsTrue first.is_open → first.now ≡ first.committed) → IfErr r (FailsToCommit mid last)
    → IsTrue last.is_open → OnErr r (last.now ≡ first.now)
failed_commit first mid last (Ok x) kept inside settled err up = tt
failed_commit first mid last (Err e) kept inside settled (inl h) up = (h.3.undone up).0
    ∙ kept.committed (h.3.was_open up) ∙ sym (settled (kept.was_open (h.3.was_open up)))
failed_commit first mid last (Err e) kept inside settled (inr h) up =
    absurd (true≢false (sym inside ∙ h.1))

pub on_ok_both : {X E : Type 0} {P Q R : Type 0} (r : Result X E) → (P → Q → R) → OnOk r P
    → OnOk r Q → OnOk r R
on_ok_both (Ok x) f h k = f h k
on_ok_both (Err e) f h k = tt

pub written_by : {X E : Type 0} (tree : ℕ) (old new : State) (r : Result X E)
    → OnOk r ((new.now.schema ≡ book_schema) × KeepsOtherTables tree old.now.trees new.now.trees)
    → OnOk r (ObeyTables new.now.trees) → OnOk r (IsTrue new.in_transaction)
    → OnOk r (WritesOnly tree old new)
written_by tree old new (Ok x) h obeys inside = record {
  schema = h.0;
  obeys = obeys;
  other_tables = h.1;
  inside = inside;
}
written_by tree old new (Err e) h obeys inside = tt

-- ---- a write within a transaction

pub executed_inside : (sql : List ℕ) (params : Row) (old new : State) (r : Result ℕ Error)
    → ExecutesInside 0 sql params old new r → OnOk r (IsTrue new.in_transaction)
executed_inside sql params old new (Ok count) h = h.1.mode
executed_inside sql params old new (Err e) h = tt

pub keeps_executed : (sql : List ℕ) (params : Row) (old new : State) (r : Result ℕ Error)
    → ExecutesInside 0 sql params old new r → KeepsCommit old new
keeps_executed sql params old new (Ok count) h = record {
  was_open = λ _. h.1.was_open;
  committed = λ _. h.1.committed_is;
}
keeps_executed sql params old new (Err e) (inl h) = keeps_failed sql params old new e h.1
keeps_executed sql params old new (Err e) (inr h) = keeps_failed sql params old new e (inl h.2)

-- ---- the effect of a write, on success and on error

pub stays_executed : (sql : List ℕ) (params : Row) (old new : State) (r : Result ℕ Error)
    → (HasCleanDisk new → IsTrue old.in_transaction → ExecutesInside 0 sql params old new r)
    → Survives old new (λ _. ⊥) → NoCommit old new
stays_executed sql params old new r runs survives = record {
  kept = λ clean inside has. keeps_executed sql params old new r (runs clean inside);
  was_open = λ clean inside. (keeps_executed sql params old new r (runs clean inside)).was_open;
  survives = survives;
}

pub undone_executed : (sql : List ℕ) (params : Row) (old new : State) (r : Result ℕ Error)
    → ExecutesInside 0 sql params old new r → OnErr r (IsUndone old new)
undone_executed sql params old new (Ok count) h = tt
undone_executed sql params old new (Err e) (inl h) = h.1
undone_executed sql params old new (Err e) (inr h) = inl h.2

-- ---- a write that breaks a constraint

no_violation : (rule : Constraint) (cause : StoreError) → SqliteFailure (ConstraintViolation rule)
    ≡ store_error cause → ⊥
no_violation rule broken.OutOfMemory e = absurd (let it = e in cc)
no_violation rule broken.Io e = absurd (let it = e in cc)
no_violation rule broken.Corrupt e = absurd (let it = e in cc)
no_violation rule broken.Full e = absurd (let it = e in cc)
no_violation rule broken.Broken e = absurd (let it = e in cc)
no_violation rule broken.Unstorable e = absurd (let it = e in cc)

violation_unchanged : (sql : List ℕ) (params : Row) (old new : State) (e : Error)
    → ExecutesInside 0 sql params old new (Err e) → (rule : Constraint)
    → e ≡ SqliteFailure (ConstraintViolation rule) → IsUnchanged old new
unfolding ExecutesIn IsNotRun
violation_unchanged sql params old new e (inl h) rule is = go h.0
  where
    ran : (c : Compiled) (given : Row) → RunsCommand old new sql c given (Err e)
        → IsUnchanged old new
    ran c given (inl k) = k.1
    ran c given (inr k) = absurd (no_violation rule k.0 (sym is ∙ k.1))

    go : ExecutesIn false sql params old new (Err e) → IsUnchanged old new
    go (inl (inl none)) = none.1
    go (inl (inr failed)) = absurd (no_violation rule failed.0 (sym is ∙ failed.1))
    go (inr k) = elim (cases_Bool (shows_rows false k.0)) [
      | inl shows ↦ (rw shows at k.2).1
      | inr runs ↦ ran k.0 _ (rw runs at k.2)
    ]
violation_unchanged sql params old new e (inr h) rule is = h.2

pub refused_unchanged : (sql : List ℕ) (params : Row) (old new : State) (r : Result ℕ Error)
    → ExecutesInside 0 sql params old new r → IfErr r (λ e. IsViolation e → IsUnchanged old new)
refused_unchanged sql params old new (Ok count) h = tt
refused_unchanged sql params old new (Err e) h =
    λ broken. violation_unchanged sql params old new e h broken.0 broken.1

-- what holds of a connection still holds after a statement that changed nothing
module _ (old mid : State) (same : IsUnchanged old mid) where
  pub still : (P : Database → Type 0) → P old.now → P mid.now
  still P h = subst P (sym same.0.now_is) h

  pub still_inside : IsTrue old.in_transaction → IsTrue mid.in_transaction
  still_inside inside = same.0.mode ∙ inside

pub if_err_weaker : {X E : Type 0} {P Q : E → Type 0} (r : Result X E) → ((e : E) → P e → Q e)
    → IfErr r P → IfErr r Q
if_err_weaker (Ok x) on h = tt
if_err_weaker (Err e) on h = on e h

pub if_ok_weaker : {X E : Type 0} {P Q : X → Type 0} (r : Result X E) → ((x : X) → P x → Q x)
    → IfOk r P → IfOk r Q
if_ok_weaker (Ok x) on h = on x h
if_ok_weaker (Err e) on h = tt

pub on_ok_of : {X E : Type 0} {P : X → Type 0} {Q : Type 0} (r : Result X E) → ((x : X) → P x → Q)
    → IfOk r P → OnOk r Q
on_ok_of (Ok x) on h = on x h
on_ok_of (Err e) on h = tt
