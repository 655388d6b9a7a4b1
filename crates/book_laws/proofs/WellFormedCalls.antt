-- Calls one after another keep the books well formed.
use Rattle.std.proofs.Common.{[], ◌∷◌, Result, Ok, Err, arith}
use Rattle.std.specs.Result.{IfOk, result_unwrap_or}
use Rattle.book_model.specs.declared.refusal.Refusal.{Refusal}
use Rattle.book_model.specs.Bounds.{Bounds, IsInRange}
use Rattle.book_model.specs.Books.{Books}
use Rattle.book_model.specs.WellFormed.{IsWellFormed}
use Rattle.book_laws.specs.Calls.{Call, CreateBookCall, PutCall, RemoveCall, MoveCall, ImportCall}
use Rattle.book_laws.specs.Calls.{ForgetCall}
use Rattle.book_laws.specs.RowsAfterCalls.{rows_of_step, rows_after_accepted_call, rows_after_call}
use Rattle.book_laws.specs.WellFormedLaws.{AreWithin, LeavesWellFormed, CallsKeepWellFormed}
use Rattle.book_laws.proofs.WellFormedSteps.{creating_keeps_form, putting_keeps_form}
use Rattle.book_laws.proofs.WellFormedSteps.{removing_keeps_form, moving_keeps_form}
use Rattle.book_laws.proofs.WellFormedSteps.{importing_keeps_form, forgetting_keeps_form}

left_well : {A : Type 0} (limits : Bounds) (step : Result (A × Books) Refusal)
    → LeavesWellFormed limits step → IfOk (rows_of_step step) (IsWellFormed limits)
left_well limits (Ok done) is = is
left_well limits (Err refusal) is = tt

-- limits are within themselves
itself : (limits : Bounds) → AreWithin limits limits
itself limits = record { changes = omega arith; books = omega arith }

call_leaves_well : (limits : Bounds) (books : Books) (call : Call) → IsInRange limits
    → IsWellFormed limits books → IfOk (rows_after_accepted_call limits books call)
    (IsWellFormed limits)
call_leaves_well limits books (CreateBookCall name) range is =
    left_well limits _ (creating_keeps_form limits limits books name range (itself limits) is)
call_leaves_well limits books (PutCall name card expect) range is =
    left_well limits _ (putting_keeps_form limits limits books name card expect (itself limits) is)
call_leaves_well limits books (RemoveCall name uid expect) range is =
    left_well limits _ (removing_keeps_form limits limits books name uid expect (itself limits) is)
call_leaves_well limits books (MoveCall from to uid expect) range is =
    left_well limits _ (moving_keeps_form limits limits books from to uid expect (itself limits) is)
call_leaves_well limits books (ImportCall name key cards) range is =
    left_well limits _ (importing_keeps_form limits limits books name key cards (itself limits) is)
call_leaves_well limits books (ForgetCall name upto) range is =
    left_well limits _ (forgetting_keeps_form limits books name upto is)
call_leaves_well limits books reading range is = is

either_way : (limits : Bounds) (books : Books) (r : Result Books Refusal)
    → IfOk r (IsWellFormed limits) → IsWellFormed limits books
    → IsWellFormed limits (result_unwrap_or r books)
either_way limits books (Ok after) left is = left
either_way limits books (Err refusal) left is = is

pub calls_keep_form : CallsKeepWellFormed
calls_keep_form limits books [] range is = is
calls_keep_form limits books (call ∷ calls) range is =
    calls_keep_form limits (rows_after_call limits books call) calls range
    (either_way limits books (rows_after_accepted_call limits books call)
    (call_leaves_well limits books call range is) is)
