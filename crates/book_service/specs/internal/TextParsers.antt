-- The results of the service's private parsers; no public clause cites them.
use Rattle.std.specs.Prelude.{ℕ, List, Result, Ok, Err}
use Rattle.book_model.specs.declared.denied.Denied.{Denied}
use Rattle.book_model.specs.declared.denied.Denied.TheVariants.{Refused, Fault}
use Rattle.book_model.specs.declared.refusal.Refusal.{Refusal}
use Rattle.book_model.specs.CallOutcomes.{IsOutOfMemory}
use Rattle.book_service.specs.Texts.{HasBadRow}

-- the parser returned the correct result, or memory ran out (a correct result exists even then)
abbrev pub ParserReturns : {A : Type 0} → (Result A Refusal → Type 0) → Result A Denied → Type 0
ParserReturns reads (Ok read) = reads (Ok read)
ParserReturns {A = A} reads (Err (Refused refusal)) = reads (Err refusal)
ParserReturns {A = A} reads (Err (Fault fault)) =
    IsOutOfMemory fault × ((read : Result A Refusal) × reads read)

-- the body is refused for its first bad row, or memory ran out
abbrev pub DeniesBody : List ℕ → Denied → Type 0
DeniesBody body (Refused refusal) = HasBadRow body refusal
DeniesBody body (Fault fault) = IsOutOfMemory fault
