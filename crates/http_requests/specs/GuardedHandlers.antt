-- A handler behind a guard.
use Rattle.std.specs.Prelude.{◌≡◌, ℕ, List, Option, Some, None}
use Rattle.http_requests.specs.Guards.{guard}
use Rattle.http_requests.specs.HandlerRuns.{HandlerRelation}
use Rattle.http_requests.specs.declared.head_fault.HeadFault.{HeadFault}

-- the fault of the guard, or else that of the handler behind it
abbrev pub first_fault : Option HeadFault → Option HeadFault → Option HeadFault
first_fault None other = other
first_fault (Some fault) other = Some fault

-- The names of a server, and a handler. The guard refuses heads first, and then the handler. Each
-- step is one of the handler, and keeps the names.
abbrev pub guarded :
    {State : Type 0} → HandlerRelation State → HandlerRelation (List (List ℕ) × State)
guarded does = record {
  step = λ old head body reply new.
      (new.0 ≡ old.0) × does.step old.1 head body reply new.1;
  screens = λ now method fields.
      first_fault (guard now.0 method fields) (does.screens now.1 method fields);
}
