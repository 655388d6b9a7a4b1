-- Why a transaction fails.
use Rattle.std.proofs.Common.{◌≡◌, ◌≢◌, inl, inr, ◌≤◌, ℕ, List, Result, Ok, Err, IfErr, IsTrue, sym}
use Rattle.std.proofs.Common.{subst, ◌∙◌, true≢false, arith}
use Rattle.std.specs.Prelude.{IsErrAnd, MatchResult}
use Rattle.std.proofs.lemmas.Bool.{cases_Bool}
use Rattle.std.proofs.lemmas.Int.{ints}
use Rattle.sqlite.specs.Effect.{IsDatabase}
use Rattle.sqlite.specs.Order.{Row}
use Rattle.sqlite.specs.State.{State, IsLive, Survives}
use Rattle.sqlite.specs.Steps.{FailsToCommit}
use Rattle.sqlite.specs.Tree.{Trees}
use Rattle.sqlite.specs.declared.error.Error.{Error}
use Rattle.sqlite.specs.declared.error.Error.TheVariants.{SqliteFailure}
use Rattle.sqlite.specs.declared.error.ErrorCode.TheVariants.{OutOfMemory}
use Rattle.book_model.specs.declared.denied.Denied.{Denied}
use Rattle.book_model.specs.declared.denied.Denied.TheVariants.{Refused}
use Rattle.book_model.specs.declared.refusal.Refusal.{Refusal}
use Rattle.book_model.specs.declared.denied.Fault.TheVariants.{Memory, Store}
use Rattle.store_tables.specs.Acceptance.{HasFreeIds}
use Rattle.store_tables.specs.Failures.{HasOutsideCause}
use Rattle.store_tables.specs.Tables.{ObeyTables, book_schema}
use Rattle.store_tables.proofs.FailureLemmas.{outside_of}
use Rattle.store_lookups.specs.Faults.{denied_by_fault, error_fault}
use Rattle.store_lookups.proofs.StoreFaultLemmas.{never_store, not_memory, passed_cause}

-- a cause until a state is one until a later state
pub outside_sooner : (old mid new : State) (P : Trees → Type 0) → Survives mid new P
    → HasOutsideCause old mid → HasOutsideCause old new
outside_sooner old mid new P after (inl shut) = inl shut
outside_sooner old mid new P after (inr (inl failed)) =
    inr (inl (omega (arith, failed, after.counts)))
outside_sooner old mid new P after (inr (inr limit)) = inr (inr limit)

-- it is enough to look at an open connection
pub if_open : (old new : State) → (IsTrue old.is_open → HasOutsideCause old new)
    → HasOutsideCause old new
if_open old new h = elim (cases_Bool old.is_open) [ inl up ↦ h up | inr shut ↦ inl shut ]

-- an open connection lists its tables, which obey their constraints
pub live_obeys : (s : State) → IsLive s → s.now.schema ≡ book_schema → IsTrue s.is_open
    → ObeyTables s.now.trees
live_obeys s live schema up = subst (λ k. IsDatabase (record { schema = k; trees = s.now.trees }))
    schema (live up).0

-- the commit failed
pub commit_fails : (mid end : State) (e : Error) → IsTrue mid.in_transaction
    → FailsToCommit mid end e → e ≢ SqliteFailure OutOfMemory → HasOutsideCause mid end
commit_fails mid end e inside (inl h) room = outside_of mid end h.0 e h.1 h.2 room
commit_fails mid end e inside (inr h) room = absurd (true≢false (sym inside ∙ h.1))

-- an error of the database as a fault
pub error_faults : (e : Error) (d : Denied) (C : Type 0) → d ≡ denied_by_fault (error_fault e)
    → (e ≢ SqliteFailure OutOfMemory → C) → d ≡ denied_by_fault Store → C
error_faults e d C is cause store = cause (not_memory e d is store)

-- fewer free ids
pub fewer_ids : (m n : ℕ) (rows : List Row) → m ≤ n → HasFreeIds n rows → HasFreeIds m rows
fewer_ids m n rows low ids = record {
  columns = ids.columns;
  last_greatest = ids.last_greatest;
  room = let room = ids.room in omega (arith, ints, low, room);
}

-- an error of the database as a fault, where a closure converts it
pub mapped_faults : {A : Type 0} (r : Result A Error) (s : Result A Denied) (P : Error → Denied
    → Type 0) (C : Type 0) → ((e : Error) (d : Denied) → P e d
    → d ≡ denied_by_fault (error_fault e))
    → MatchResult r (λ x. s ≡ Ok x) (λ e. IsErrAnd s (P e))
    → IfErr r (λ e. e ≢ SqliteFailure OutOfMemory → C) → IfErr s (λ d. d ≡ denied_by_fault Store
    → C)
mapped_faults (Ok x) s P C is shown h =
    subst (λ t. IfErr t (λ d. d ≡ denied_by_fault Store → C)) (sym shown) tt
mapped_faults (Err e) (Ok y) P C is shown h = absurd shown
mapped_faults (Err e) (Err d) P C is shown h = error_faults e d C (is e d shown) h

-- a refusal is no fault of the store
pub refused_cause : {A : Type 0} (r : Result A Denied) (refusal : Refusal) (C : Type 0)
    → r ≡ Err (Refused refusal) → IfErr r (λ d. d ≡ denied_by_fault Store → C)
refused_cause r refusal C is = subst (λ t. IfErr t (λ d. d ≡ denied_by_fault Store → C)) (sym is)
    (λ store. absurd (let e = store in cc))

-- a fault that can't be of the store
pub memory_cause : {A : Type 0} (r : Result A Denied) (d : Denied) (C : Type 0)
    → IsErrAnd r (λ k. k ≡ d) → d ≡ denied_by_fault Memory → IfErr r (λ k. k ≡ denied_by_fault Store
    → C)
memory_cause r d C passed memory = passed_cause r d C passed (never_store d C memory)
