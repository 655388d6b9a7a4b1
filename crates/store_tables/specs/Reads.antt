-- What a statement that reads the declared tables does, on success and on error.
use Rattle.std.specs.Prelude.{Result}
use Rattle.sqlite.specs.State.{State, IsUnchanged}
use Rattle.sqlite.specs.declared.error.Error.{Error}
use Rattle.store_tables.specs.Failures.{FailsFromOutside, MissesOrFailsFromOutside}
use Rattle.store_tables.specs.QueryResults.{IfAnswered}
use Rattle.store_tables.specs.StatementEffects.{GivenTables, OnlyReads}

-- a read of the declared tables
pub record ReadsTables {T : Type 0} (old new : State) (result : Result T Error) (Returns : Type 0)
    : Type 0 where
  -- what the result says of the rows
  pub returns : Returns
  -- after a result the connection is as it was
  pub unchanged : GivenTables old new (IfAnswered result (IsUnchanged old new))
  -- an error but for lack of memory has an outside cause
  pub fails_from_outside : FailsFromOutside old new result
  -- no transaction began, nothing was committed, and a crash leaves what it could leave before
  pub reads_only : OnlyReads old new

-- the same for a look-up, which may also find no row: it then fails with `QueryReturnedNoRows`
pub record LooksUpRow {T : Type 0} (old new : State) (result : Result T Error) (Returns : Type 0)
    : Type 0 where
  pub returns : Returns
  pub unchanged : GivenTables old new (IfAnswered result (IsUnchanged old new))
  pub fails_from_outside : MissesOrFailsFromOutside old new result
  pub reads_only : OnlyReads old new
