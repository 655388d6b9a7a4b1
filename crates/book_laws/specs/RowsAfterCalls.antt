-- The rows of a store after a list of calls.
use Rattle.std.specs.Prelude.{List, fold, Result, Ok}
use Rattle.std.specs.Result.{result_unwrap_or}
use Rattle.book_model.specs.declared.refusal.Refusal.{Refusal}
use Rattle.book_model.specs.Bounds.{Bounds}
use Rattle.book_model.specs.Books.{Books}
use Rattle.book_model.specs.Creating.{create_step}
use Rattle.book_model.specs.Forgetting.{forget_step}
use Rattle.book_model.specs.Importing.{import_step}
use Rattle.book_model.specs.Moving.{move_step}
use Rattle.book_model.specs.CallOutcomes.{◌>>=◌}
use Rattle.book_model.specs.Putting.{put_step}
use Rattle.book_model.specs.Removing.{remove_step}
use Rattle.book_laws.specs.Calls.{Call, CreateBookCall, PutCall, RemoveCall, MoveCall, ImportCall}
use Rattle.book_laws.specs.Calls.{ForgetCall}

-- the rows after a step, without its answer
abbrev pub rows_of_step : {A : Type 0} → Result (A × Books) Refusal → Result Books Refusal
rows_of_step step = step >>= λ done. Ok done.1

-- the rows after a call, where it isn't refused; the calls not listed only read
abbrev pub rows_after_accepted_call : Bounds → Books → Call → Result Books Refusal
rows_after_accepted_call limits books (CreateBookCall name) =
    rows_of_step (create_step limits books name)
rows_after_accepted_call limits books (PutCall name card expect) =
    rows_of_step (put_step limits books name card expect)
rows_after_accepted_call limits books (RemoveCall name uid expect) =
    rows_of_step (remove_step limits books name uid expect)
rows_after_accepted_call limits books (MoveCall from to uid expect) =
    rows_of_step (move_step limits books from to uid expect)
rows_after_accepted_call limits books (ImportCall name key cards) =
    rows_of_step (import_step limits books name key cards)
rows_after_accepted_call limits books (ForgetCall name upto) =
    rows_of_step (forget_step books name upto)
rows_after_accepted_call limits books reading = Ok books

-- a refused call leaves the rows unchanged
abbrev pub rows_after_call : Bounds → Books → Call → Books
rows_after_call limits books call =
    result_unwrap_or (rows_after_accepted_call limits books call) books

-- the rows after all calls, in order
abbrev pub rows_after_calls : Bounds → Books → List Call → Books
rows_after_calls limits books calls = fold (rows_after_call limits) books calls
