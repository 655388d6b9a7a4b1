-- Reading the program's arguments.
use Rattle.std.specs.Prelude.{ℕ, ◌≡◌, ⊤, List}
use Rattle.std.specs.declared.io.ErrorKind.{ErrorKind}
use Rattle.std.specs.declared.io.ErrorKind.TheVariants.{OutOfMemory}
use Rattle.cli_args.specs.declared.fault.LineFault.{LineFault}
use Rattle.cli_args.specs.declared.fault.LineFault.TheVariants.{Bad, Memory}

-- the arguments are invalid, and this text says why; or memory ran out
abbrev pub IsBadWith : List ℕ → LineFault → Type 0
IsBadWith reason (Bad text) = text ≡ reason
IsBadWith reason Memory = ⊤

-- why the arguments couldn't be read: for lack of memory, or for this reason
abbrev pub IsUnreadFault : ErrorKind → List ℕ → LineFault → Type 0
IsUnreadFault OutOfMemory reason fault = fault ≡ Memory
IsUnreadFault kind reason fault = IsBadWith reason fault
