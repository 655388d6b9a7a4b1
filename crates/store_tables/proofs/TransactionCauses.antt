-- The cause of an error of a transaction.
use Rattle.std.proofs.Common.{◌≡◌, ◌≢◌, inl, inr, IsTrue, Result, Ok, Err, IfErr, sym, subst}
use Rattle.std.proofs.Common.{◌∙◌, true≢false, arith}
use Rattle.std.proofs.lemmas.Bool.{cases_Bool}
use Rattle.sqlite.specs.Effect.{IsDatabase}
use Rattle.sqlite.specs.State.{State, HasCleanDisk, IsLive, Survives}
use Rattle.sqlite.specs.Steps.{FailsToCommit}
use Rattle.sqlite.specs.Tree.{Trees}
use Rattle.sqlite.specs.declared.error.Error.{Error}
use Rattle.sqlite.specs.declared.error.Error.TheVariants.{SqliteFailure}
use Rattle.sqlite.specs.declared.error.ErrorCode.TheVariants.{OutOfMemory}
use Rattle.store_tables.specs.Failures.{HasOutsideCause, HasOutsideCauseOfError}
use Rattle.store_tables.specs.Tables.{ObeyTables, book_schema}
use Rattle.store_tables.proofs.FailureLemmas.{outside_later, outside_of}

-- a cause until a state is one until a later state
pub outside_sooner : (old mid new : State) (P : Trees → Type 0) → Survives mid new P
    → HasOutsideCause old mid → HasOutsideCause old new
outside_sooner old mid new P after (inl shut) = inl shut
outside_sooner old mid new P after (inr (inl failed)) =
    inr (inl (omega (arith, failed, after.counts)))
outside_sooner old mid new P after (inr (inr limit)) = inr (inr limit)

-- it is enough to look at an open connection
pub if_open : (old new : State) → (IsTrue old.is_open → HasOutsideCause old new)
    → HasOutsideCause old new
if_open old new h = elim (cases_Bool old.is_open) [ inl up ↦ h up | inr shut ↦ inl shut ]

-- an open connection lists its tables, which obey their constraints
pub live_obeys : (s : State) → IsLive s → s.now.schema ≡ book_schema → IsTrue s.is_open
    → ObeyTables s.now.trees
live_obeys s live schema up = subst (λ k. IsDatabase (record { schema = k; trees = s.now.trees }))
    schema (live up).0

-- the commit failed
pub commit_fails : (mid end : State) (e : Error) → IsTrue mid.in_transaction
    → FailsToCommit mid end e → e ≢ SqliteFailure OutOfMemory → HasOutsideCause mid end
commit_fails mid end e inside (inl h) room = outside_of mid end h.0 e h.1 h.2 room
commit_fails mid end e inside (inr h) room = absurd (true≢false (sym inside ∙ h.1))

if_err : {T : Type 0} (r : Result T Error) (P Q : Error → Type 0) → ((e : Error) → P e → Q e)
    → IfErr r P → IfErr r Q
if_err (Ok x) P Q f h = tt
if_err (Err e) P Q f h = f e h

module _ {T : Type 0} (old mid new : State) (r : Result T Error) (P Q : Trees → Type 0)
    (before : Survives old mid P) (clean : HasCleanDisk mid) (after : Survives mid new Q) where
  -- the error of the second of two calls, where the first succeeded
  pub later_error : HasOutsideCauseOfError mid new r → HasOutsideCauseOfError old new r
  later_error h = if_err r (λ e. e ≢ SqliteFailure OutOfMemory → HasOutsideCause mid new)
      (λ e. e ≢ SqliteFailure OutOfMemory → HasOutsideCause old new)
      (λ e cause room. outside_later old mid new P Q before clean after (cause room)) h

  -- the error of a commit after the writes
  pub commit_error : IsTrue mid.in_transaction → IfErr r (FailsToCommit mid new)
      → HasOutsideCauseOfError old new r
  commit_error inside h = if_err r (FailsToCommit mid new)
      (λ e. e ≢ SqliteFailure OutOfMemory → HasOutsideCause old new)
      (λ e failed room. outside_later old mid new P Q before clean after
      (commit_fails mid new e inside failed room)) h
