-- The cause of an error of each statement that reads tables of the first schema.
use Rattle.std.proofs.Common.{◌≡◌, ◌≢◌, [], Result, IfErr, refl}
use Rattle.std.specs.Prelude.{Vec}
use Rattle.std.specs.declared.alloc.Global.{Global}
use Rattle.sqlite.specs.Listing.{understood}
use Rattle.sqlite.specs.Order.{Row}
use Rattle.sqlite.specs.State.{State, FailsToQuery}
use Rattle.sqlite.specs.declared.error.Error.{Error}
use Rattle.sqlite.specs.declared.error.Error.TheVariants.{SqliteFailure}
use Rattle.sqlite.specs.declared.error.ErrorCode.TheVariants.{OutOfMemory}
use Rattle.sqlite_tied.specs.Compute.{everything}
use Rattle.store_tables.specs.Failures.{HasOutsideCause}
use Rattle.store_tables.specs.SchemaCreation.{first_schema}
use Rattle.store_tables.proofs.FailureLemmas.{rows_fail}
use Rattle.store_tables.proofs.Queries.{picks, books_terms, all_members_text, all_members_terms}
use Rattle.store_tables.proofs.Queries.{all_imports_text, all_imports_terms}
use Rattle.store_migration.proofs.FirstLemmas.{books_is, books_text, ids_is, ids_terms, ids_text}
use Rattle.store_migration.proofs.FirstLemmas.{imports_is, members_is}

module _ (old new : State) (r : Result (Vec Row Global) Error) (has : old.now.schema ≡ first_schema)
  where
    pub ids_fail : IfErr r (FailsToQuery ids_text [] old new)
        → IfErr r (λ e. e ≢ SqliteFailure OutOfMemory → HasOutsideCause old new)
    unfolding understood everything
    ids_fail = rows_fail ids_text [] old new has (picks 0 [] ids_terms) _ ids_is (refl, refl) refl
        (λ db h. h) refl r

    pub books_fail : IfErr r (FailsToQuery books_text [] old new)
        → IfErr r (λ e. e ≢ SqliteFailure OutOfMemory → HasOutsideCause old new)
    unfolding understood everything
    books_fail = rows_fail books_text [] old new has (picks 2 [] books_terms) _ books_is (refl, refl)
        refl (λ db h. h) refl r

    pub members_fail : IfErr r (FailsToQuery all_members_text [] old new)
        → IfErr r (λ e. e ≢ SqliteFailure OutOfMemory → HasOutsideCause old new)
    unfolding understood everything
    members_fail = rows_fail all_members_text [] old new has (picks 4 [] all_members_terms) _
        members_is (refl, refl) refl (λ db h. h) refl r

    pub imports_fail : IfErr r (FailsToQuery all_imports_text [] old new)
        → IfErr r (λ e. e ≢ SqliteFailure OutOfMemory → HasOutsideCause old new)
    unfolding understood everything
    imports_fail = rows_fail all_imports_text [] old new has (picks 7 [] all_imports_terms) _
        imports_is (refl, refl) refl (λ db h. h) refl r
