use Rattle.std.proofs.Common.{ap, refl, ◌∙◌}
use Rattle.sqlite.specs.declared.error.Error.TheVariants.{SqliteFailure}
use Rattle.store_rows.specs.SoundTables.{HoldsWellFormed}
use Rattle.store_schema.specs.StoredSchema.{ClassifiesSchema}
use Rattle.store_schema.proofs.LeftoverLemmas.{leftover_fault}
use Rattle.store_check.specs.OpenResults.{max_limits}
use Rattle.book_store.proofs.RefusalLemmas.{no_database_left}
use Rattle.book_store.proofs.files.open_fault_after.Goals as goal

pub returns-in-SqliteFailure-NotADatabase-clause-right :
    goal.returns-in-SqliteFailure-NotADatabase-clause-right
returns-in-SqliteFailure-NotADatabase-clause-right g c files is =
    leftover_fault _ files c.args.left.now c.fault_of_leftover.new.left refl
    (no_database_left files c.args.error _ c.args.left.now c.in-SqliteFailure-NotADatabase.is
    (rw c.in-SqliteFailure-NotADatabase.is at c.in-SqliteFailure-NotADatabase.field-0-is) is)
    ClassifiesSchema (HoldsWellFormed max_limits) c.fault_of_leftover.result
    c.fault_of_leftover.ensures.fault

pub returns-in-SqliteFailure-NotADatabase-clause-other :
    goal.returns-in-SqliteFailure-NotADatabase-clause-other
returns-in-SqliteFailure-NotADatabase-clause-other g c other =
    let code = rw c.in-SqliteFailure-NotADatabase.is at c.in-SqliteFailure-NotADatabase.field-0-is
    in absurd (other (c.in-SqliteFailure-NotADatabase.is ∙ ap (λ it. SqliteFailure it) code))
