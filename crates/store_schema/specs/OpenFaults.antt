-- The reasons why a store cannot be opened or created.
use Rattle.std.specs.Prelude.{◌≡◌, ◌⊎◌, ⊤, ℕ}
use Rattle.sqlite.specs.State.{State}
use Rattle.sqlite.specs.declared.error.Error.{Error}
use Rattle.sqlite.specs.declared.error.Error.TheVariants.{SqliteFailure}
use Rattle.sqlite.specs.declared.error.ErrorCode.TheVariants.{OutOfMemory}
use Rattle.store_tables.specs.Failures.{HasOutsideCause}
use Rattle.store_schema.specs.declared.open_fault.OpenFault.{OpenFault}
use Rattle.store_schema.specs.declared.open_fault.OpenFault.TheVariants.{Store, NotOurs}
use Rattle.store_schema.specs.declared.open_fault.OpenFault.TheVariants.{OtherSchema, Damaged}
use Rattle.store_schema.specs.declared.open_fault.OpenFault.TheVariants.{NotEmpty, Memory}

-- the number of the fault
abbrev pub open_fault_number : OpenFault → ℕ
open_fault_number Store = 1
open_fault_number NotOurs = 2
open_fault_number (OtherSchema has) = 3
open_fault_number Damaged = 4
open_fault_number NotEmpty = 5
open_fault_number Memory = 6

-- the fault of an error of the database: `Memory` if it is out of memory, otherwise `Store`
abbrev pub open_fault_of_error : Error → OpenFault
open_fault_of_error (SqliteFailure OutOfMemory) = Memory
open_fault_of_error error = Store

-- the fault is `Store` or `Memory`
abbrev pub IsErrorFault : OpenFault → Type 0
IsErrorFault fault = (fault ≡ Store) ⊎ (fault ≡ Memory)

-- Why a store that is there doesn't open: memory ran out, or the fault is `Store`, and its cause
-- lies outside the tables.
abbrev pub ComesFromOutside : State → State → OpenFault → Type 0
ComesFromOutside old new fault =
    (fault ≡ Memory) ⊎ ((fault ≡ Store) × HasOutsideCause old new)

-- the faults of creating a store
abbrev pub IsCreationFault : OpenFault → Type 0
IsCreationFault Store = ⊤
IsCreationFault NotOurs = ⊤
IsCreationFault (OtherSchema has) = ⊥
IsCreationFault Damaged = ⊥
IsCreationFault NotEmpty = ⊤
IsCreationFault Memory = ⊤
