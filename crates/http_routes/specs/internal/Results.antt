-- The result of a function of this crate, compared with its specification.
use Rattle.std.specs.Prelude.{◌≡◌, ⊤, Result, Ok, Err}
use Rattle.http_routes.specs.declared.fault.RouteFault.{RouteFault}
use Rattle.http_routes.specs.declared.no_command.NoCommand.{NoCommand}
use Rattle.http_routes.specs.declared.no_command.NoCommand.TheVariants.{Fault, Memory}

-- the result is the expected one, unless an allocation failed
abbrev pub MatchesExpected : {A : Type 0} → Result A RouteFault → Result A NoCommand → Type 0
MatchesExpected expected (Ok value) = expected ≡ Ok value
MatchesExpected expected (Err (Fault fault)) = expected ≡ Err fault
MatchesExpected expected (Err Memory) = ⊤
