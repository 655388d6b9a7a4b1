-- The numbers of the faults of serving a connection.
use Rattle.std.specs.Prelude.{ℕ}
use Rattle.book_http.specs.declared.serve_fault.ServeFault.{ServeFault}
use Rattle.book_http.specs.declared.serve_fault.ServeFault.TheVariants.{Read, Write, TooManyTurns}
use Rattle.book_http.specs.declared.serve_fault.ServeFault.TheVariants.{Memory}

abbrev pub serve_fault_number : ServeFault → ℕ
serve_fault_number Read = 1
serve_fault_number Write = 2
serve_fault_number TooManyTurns = 3
serve_fault_number Memory = 4
