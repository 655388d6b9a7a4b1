-- What a reading answers, step by step.
use Rattle.std.proofs.Common.{◌≡◌, ◌∙◌, IfOk, Result, Ok, Err, ap, subst, sym}
use Rattle.http_routes.specs.Commands.{◌>>=◌}
use Rattle.http_routes.specs.internal.Results.{MatchesExpected}
use Rattle.http_routes.specs.declared.fault.RouteFault.{RouteFault}
use Rattle.http_routes.specs.declared.no_command.NoCommand.{NoCommand}
use Rattle.http_routes.specs.declared.no_command.NoCommand.TheVariants.{Fault, Memory}

module _ {A B : Type 0} where
  -- a fault of the first step is the fault of all
  pub failed : (expected : Result A RouteFault) (next : A → Result B RouteFault) (e : NoCommand)
      (result : Result B NoCommand) → MatchesExpected expected (Err e) → result ≡ Err e
      → MatchesExpected (expected >>= next) result
  failed expected next (Fault fault) result is same =
      subst (MatchesExpected (expected >>= next)) (sym same) (ap (λ r. r >>= next) is)
  failed expected next Memory result is same =
      subst (MatchesExpected (expected >>= next)) (sym same) tt

  -- the value of the first step is used by the second
  pub went_on : (expected : Result A RouteFault) (next : A → Result B RouteFault) (x : A) (result :
      Result B NoCommand) → expected ≡ Ok x → MatchesExpected (next x) result
      → MatchesExpected (expected >>= next) result
  went_on expected next x result is given =
      subst (λ r. MatchesExpected (r >>= next) result) (sym is) given

pub no_memory : {A : Type 0} (expected : Result A RouteFault) (result : Result A NoCommand)
    → result ≡ Err Memory → MatchesExpected expected result
no_memory expected result same = subst (MatchesExpected expected) (sym same) tt

module _ {A : Type 0} where
  -- a value that is answered is the one that was expected
  pub given-value : (expected : Result A RouteFault) (result : Result A NoCommand)
      → MatchesExpected expected result → IfOk result (λ value. expected ≡ Ok value)
  given-value expected (Ok value) given = given
  given-value expected (Err e) given = tt

  -- and so is a fault
  pub given-fault : (expected : Result A RouteFault) (result : Result A NoCommand)
      → MatchesExpected expected result → (fault : RouteFault) → result ≡ Err (Fault fault)
      → expected ≡ Err fault
  given-fault expected (Ok value) given fault same = cc
  given-fault expected (Err (Fault found)) given fault same = let one : found ≡ fault = cc in
      given ∙ ap (λ f. Err f) one
  given-fault expected (Err Memory) given fault same = cc
