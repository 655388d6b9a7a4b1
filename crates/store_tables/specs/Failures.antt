-- The cause of an error.
use Rattle.std.specs.Prelude.{◌≡◌, ◌≢◌, ◌⊎◌, false, Result, IfErr, IsSome}
use Rattle.sqlite.specs.declared.error.Error.{Error}
use Rattle.sqlite.specs.declared.error.Error.TheVariants.{QueryReturnedNoRows, SqliteFailure}
use Rattle.sqlite.specs.declared.error.ErrorCode.TheVariants.{OutOfMemory}
use Rattle.sqlite.specs.State.{State}
use Rattle.sqlite.specs.Disk.{MoreFaults}
use Rattle.store_tables.specs.StatementEffects.{GivenTables}

-- The cause of an error lies outside the tables: the connection was closed before the call, the
-- disk failed during it, or the connection limits the steps of a statement.
abbrev pub HasOutsideCause : State → State → Type 0
HasOutsideCause old new =
    (old.is_open ≡ false) ⊎ (MoreFaults old.faults new.faults ⊎ IsSome old.step_limit)

-- if the result is an error but for lack of memory, it has an outside cause
abbrev pub HasOutsideCauseOfError : {T : Type 0} → State → State → Result T Error → Type 0
HasOutsideCauseOfError old new result =
    IfErr result (λ e. e ≢ SqliteFailure OutOfMemory → HasOutsideCause old new)

-- Over the declared tables, a query fails only for lack of memory or for an outside cause.
abbrev pub FailsFromOutside : {T : Type 0} → State → State → Result T Error → Type 0
FailsFromOutside old new result = GivenTables old new (HasOutsideCauseOfError old new result)

-- the same for a look-up, which may also find no row
abbrev pub MissesOrFailsFromOutside : {T : Type 0} → State → State → Result T Error → Type 0
MissesOrFailsFromOutside old new result = GivenTables old new (IfErr result
    (λ e. e ≢ QueryReturnedNoRows → e ≢ SqliteFailure OutOfMemory → HasOutsideCause old new))
