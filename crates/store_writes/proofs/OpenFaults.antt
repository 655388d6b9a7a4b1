-- Why the statement that tests a connection fails.
use Rattle.std.proofs.Common.{◌≡◌, ◌≢◌, inl, inr, ℕ, List, [], codes, length, refl, sym, subst}
use Rattle.std.proofs.lemmas.Bool.{leb-true}
use Rattle.sqlite_tied.specs.Compute.{everything}
use Rattle.sqlite.specs.Listing.{understood}
use Rattle.sqlite.specs.Order.{Row}
use Rattle.sqlite.specs.State.{State, IsNotRun, IsNoStatement}
use Rattle.sqlite.specs.declared.error.Error.{Error}
use Rattle.sqlite.specs.declared.error.Error.TheVariants.{SqliteFailure}
use Rattle.sqlite.specs.declared.error.ErrorCode.TheVariants.{OutOfMemory}
use Rattle.store_tables.specs.Failures.{HasOutsideCause}
use Rattle.store_tables.specs.Tables.{book_schema}
use Rattle.store_tables.proofs.FailureLemmas.{IsWhole, outside_of}
use Rattle.store_tables.proofs.Texts.{formats_of}

commit_is : (formats_of (understood book_schema (codes "COMMIT")) ≡ [])
    × IsWhole (codes "COMMIT") 0 (understood book_schema (codes "COMMIT"))
unfolding understood everything
commit_is = (refl, (refl, refl))

-- the text is a statement
states : (s : State) (sql : List ℕ) (params : Row) (e : Error)
    → formats_of (understood s.now.schema sql) ≡ []
    → IsWhole sql (length params) (understood s.now.schema sql) → IsNoStatement s sql params e → ⊥
states s sql params e still whole (inl h) = subst (IsWhole sql (length params)) h.1 whole
states s sql params e still whole (inr h) =
    let full = subst (IsWhole sql (length params)) h.1 whole in
    let none = subst (λ c. formats_of c ≡ []) h.1 still in
    elim h.2 [
      | inl long ↦ absurd (long.0 (leb-true (length sql) h.0.tail full.0))
      | inr (inl few) ↦ absurd (few.0 (sym full.1))
      | inr (inr clock) ↦ absurd (clock.0 none)
    ]

pub prepare_fails : (old new : State) (e : Error) → old.now.schema ≡ book_schema
    → IsNotRun old new (codes "COMMIT") [] e → e ≢ SqliteFailure OutOfMemory
    → HasOutsideCause old new
unfolding IsNotRun
prepare_fails old new e has (inl h) room =
    absurd (states old (codes "COMMIT") [] e (subst (λ s. formats_of (understood s (codes "COMMIT"))
    ≡ []) (sym has) commit_is.0)
    (subst (λ s. IsWhole (codes "COMMIT") 0 (understood s (codes "COMMIT"))) (sym has) commit_is.1)
    h.0)
prepare_fails old new e has (inr h) room = outside_of old new h.0 e h.1 h.2 room
