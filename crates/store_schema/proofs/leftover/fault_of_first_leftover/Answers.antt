use Rattle.std.proofs.Common.{inl, inr, subst, sym}
use Rattle.sqlite.specs.Files.{IsCleanLeft}
use Rattle.sqlite.specs.declared.error.Error.TheVariants.{SqliteFailure}
use Rattle.sqlite.specs.declared.error.ErrorCode.TheVariants.{NotADatabase}
use Rattle.store_schema.specs.FileFaults.{HasNoStore, IsLeftOf}
use Rattle.store_schema.specs.FirstSchema.{ClassifiesFirstSchema}
use Rattle.store_schema.proofs.LeftoverLemmas.{damaged_fault, store_fault, store_still_clean}
use Rattle.store_schema.proofs.LeftoverLemmas.{unopened_fault}
use Rattle.store_schema.proofs.leftover.fault_of_first_leftover.Goals as goal

pub returns-in-Files-clause-fault : goal.returns-in-Files-clause-fault
returns-in-Files-clause-fault g c files is =
    unopened_fault ClassifiesFirstSchema files c.args.left.now (elim c.in-Files.is [
      | inl e ↦
          subst HasNoStore (sym e.1) tt
      | inr e ↦ subst HasNoStore (sym e.1) tt
    ]) is

pub returns-in-Files-2-clause-fault : goal.returns-in-Files-2-clause-fault
returns-in-Files-2-clause-fault g c files is =
    unopened_fault ClassifiesFirstSchema files c.args.left.now (elim c.in-Files.is [
      | inl e ↦
          subst HasNoStore (sym e.1) tt
      | inr e ↦ subst HasNoStore (sym e.1) tt
    ]) is

pub returns-in-Ok-clause-fault : goal.returns-in-Ok-clause-fault
returns-in-Ok-clause-fault g c files is =
    damaged_fault files c.in-Store.store c.check_found_first_schema.new.store
    c.check_found_first_schema.ensures.quiet
    (subst (IsLeftOf files (SqliteFailure NotADatabase)) c.in-Store.is is) ClassifiesFirstSchema
    c.in-Ok.ensures.answers

pub returns-in-Err-clause-fault : goal.returns-in-Err-clause-fault
returns-in-Err-clause-fault g c files is =
    store_fault files c.in-Store.store c.check_found_first_schema.new.store
    c.check_found_first_schema.ensures.quiet
    (subst (IsLeftOf files (SqliteFailure NotADatabase)) c.in-Store.is is) ClassifiesFirstSchema
    c.in-Err.fault c.in-Err.ensures.answers

pub returns-in-Ok-clause-clean : goal.returns-in-Ok-clause-clean
returns-in-Ok-clause-clean g c is_clean =
    subst IsCleanLeft (sym c.in-Store.is) (store_still_clean c.in-Store.store
    c.check_found_first_schema.new.store c.check_found_first_schema.ensures.quiet is_clean)

pub returns-in-Err-clause-clean : goal.returns-in-Err-clause-clean
returns-in-Err-clause-clean g c is_clean =
    subst IsCleanLeft (sym c.in-Store.is) (store_still_clean c.in-Store.store
    c.check_found_first_schema.new.store c.check_found_first_schema.ensures.quiet is_clean)
