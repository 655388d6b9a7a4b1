-- The conversion of errors to faults.
use Rattle.std.specs.Prelude.{◌≡◌}
use Rattle.sqlite.specs.declared.error.Error.{Error}
use Rattle.sqlite.specs.declared.error.Error.TheVariants.{SqliteFailure}
use Rattle.sqlite.specs.declared.error.ErrorCode.TheVariants.{OutOfMemory}
use Rattle.vcard_lines.specs.declared.fault.CardFault.{CardFault}
use Rattle.vcard_lines.specs.declared.fault.CardFault.TheVariants.{Memory as NoRoom}
use Rattle.book_model.specs.declared.denied.Denied.{Denied}
use Rattle.book_model.specs.declared.denied.Denied.TheVariants as denied
use Rattle.book_model.specs.declared.denied.Fault.{Fault}
use Rattle.book_model.specs.declared.denied.Fault.TheVariants.{Memory, Store}

-- the fault of an error of the database: `Memory` if it is out of memory, otherwise `Store`
abbrev pub error_fault : Error → Fault
error_fault (SqliteFailure OutOfMemory) = Memory
error_fault error = Store

-- the fault of reading a stored card: `Memory` if reading ran out of memory, otherwise `Store`
abbrev pub card_fault : CardFault → Fault
card_fault NoRoom = Memory
card_fault fault = Store

-- the call is denied by the fault
abbrev pub denied_by_fault : Fault → Denied
denied_by_fault fault = denied.Fault fault

-- the call is denied by a fault, not by a refusal
abbrev pub IsDeniedFault : Denied → Type 0
IsDeniedFault answer = (fault : Fault) × (answer ≡ denied.Fault fault)
