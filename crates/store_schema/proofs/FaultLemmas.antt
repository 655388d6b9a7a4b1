-- The cause of a fault.
use Rattle.std.proofs.Common.{◌≡◌, ◌≢◌, inl, inr, sym, ap, ◌∙◌}
use Rattle.sqlite.specs.State.{State}
use Rattle.sqlite.specs.declared.error.Error.{Error}
use Rattle.sqlite.specs.declared.error.Error.TheVariants.{SqliteFailure}
use Rattle.sqlite.specs.declared.error.ErrorCode.TheVariants.{OutOfMemory}
use Rattle.store_tables.specs.Failures.{HasOutsideCause}
use Rattle.store_schema.specs.OpenFaults.{ComesFromOutside, IsErrorFault, open_fault_of_error}
use Rattle.store_schema.specs.declared.open_fault.OpenFault.{OpenFault}

-- the fault of an error that has an outside cause
pub error_from_outside : (old new : State) (e : Error) (fault : OpenFault) → IsErrorFault fault
    → fault ≡ open_fault_of_error e → (e ≢ SqliteFailure OutOfMemory → HasOutsideCause old new)
    → ComesFromOutside old new fault
error_from_outside old new e fault (inr memory) is cause = inl memory
error_from_outside old new e fault (inl store) is cause =
    inr (store, cause (λ room. let x = sym store ∙ is ∙ ap open_fault_of_error room in cc))
