-- The faults that a reply may have, given those that the store may return.
use Rattle.std.specs.Prelude.{◌⊎◌, List, All}
use Rattle.std.specs.List.{zip}
use Rattle.book_model.specs.declared.denied.Fault.{Fault as FaultKind}
use Rattle.book_model.specs.CallOutcomes.{IsOutOfMemory}
use Rattle.book_commands.specs.declared.command.Command.{Command}
use Rattle.book_commands.specs.declared.command.Command.TheVariants.{Get, Put, Import, Export}
use Rattle.book_commands.specs.declared.command.Command.TheVariants.{People}
use Rattle.book_service.specs.declared.event.Event.{Event}
use Rattle.book_service.specs.declared.event.Event.TheVariants.{Do, Ask}
use Rattle.book_commands.specs.declared.reply.Reply.{Reply}
use Rattle.book_commands.specs.declared.reply.Reply.TheVariants as reply

-- out of memory, or a fault of the store
abbrev pub IsOutOfMemoryOr : (FaultKind → Type 0) → FaultKind → Type 0
IsOutOfMemoryOr may fault = IsOutOfMemory fault ⊎ may fault

-- A command may have the faults of the store. Memory can also run out while a UID is copied, a
-- card's text or rows are parsed, or rows or people are listed.
abbrev pub CommandFault : (FaultKind → Type 0) → Command → FaultKind → Type 0
CommandFault may (Get book uid) fault = IsOutOfMemoryOr may fault
CommandFault may (Put book uid expect text) fault = IsOutOfMemoryOr may fault
CommandFault may (Import book key body) fault = IsOutOfMemoryOr may fault
CommandFault may (Export book form) fault = IsOutOfMemoryOr may fault
CommandFault may (People book uid) fault = IsOutOfMemoryOr may fault
CommandFault may command fault = may fault

-- an event may have the faults of its command; memory can also run out while a page is applied
abbrev pub EventFault : (FaultKind → Type 0) → Event → FaultKind → Type 0
EventFault may (Do command) fault = CommandFault may command fault
EventFault may (Ask i limit) fault = IsOutOfMemoryOr may fault

-- if the reply is a fault, this holds of the fault
abbrev pub IfFaultReply : Reply → (FaultKind → Type 0) → Type 0
IfFaultReply (reply.Fault fault) may = may fault
IfFaultReply r may = Unit {0}

-- the reply is a fault
abbrev pub IsFault : Reply → Type 0
IsFault (reply.Fault fault) = Unit {0}
IsFault r = ⊥

-- every reply that is a fault is one that its event may have
abbrev pub AllowedFaults : (FaultKind → Type 0) → List Event → List Reply → Type 0
AllowedFaults may events replies =
    All (λ (pair : Event × Reply). IfFaultReply pair.1 (EventFault may pair.0)) (zip events replies)
