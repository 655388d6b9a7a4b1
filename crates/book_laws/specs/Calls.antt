-- The calls of a store, defined on histories, and lists of calls.
use Rattle.std.specs.Prelude.{ℕ, List, [], ◌∷◌, Option, Result, Ok, Err}
use Rattle.vcard_lines.specs.declared.line.Line.{Line}
use Rattle.book_model.specs.declared.answers.BookLine.{BookLine}
use Rattle.book_model.specs.declared.answers.ImportTally.{ImportTally}
use Rattle.book_model.specs.declared.answers.Moved.{Moved}
use Rattle.book_model.specs.declared.answers.PutAnswer.{PutAnswer}
use Rattle.book_model.specs.declared.answers.Stored.{Stored}
use Rattle.book_model.specs.declared.answers.Tally.{Tally}
use Rattle.book_model.specs.declared.page.Page.{Page}
use Rattle.book_model.specs.declared.refusal.Refusal.{Refusal}
use Rattle.book_model.specs.declared.token.Token.{Token}
use Rattle.book_model.specs.Bounds.{Bounds}
use Rattle.book_model.specs.Books.{LiveCards}
use Rattle.book_model.specs.CallOutcomes.{◌>>=◌}
use Rattle.book_laws.specs.StoreHistories.{BookHistories}
use Rattle.book_laws.specs.HistorySteps.{create_on_histories, put_on_histories, report_on_histories}
use Rattle.book_laws.specs.HistoryChanges.{remove_on_histories, move_on_histories}
use Rattle.book_laws.specs.HistoryChanges.{import_on_histories, forget_on_histories}
use Rattle.book_laws.specs.HistoryQueries.{books_on_histories, book_line_on_histories}
use Rattle.book_laws.specs.HistoryQueries.{get_on_histories, cards_on_histories}
use Rattle.book_laws.specs.HistoryQueries.{kept_import_on_histories, tally_on_histories}

pub data Call : Type 0 where
  -- create a book of this name
  CreateBookCall : List ℕ → Call
  -- store a card in the book, with the expected version, if any
  PutCall : List ℕ → List Line → Option ℕ → Call
  -- remove the book's card of this UID, with the expected version, if any
  RemoveCall : List ℕ → List ℕ → Option ℕ → Call
  -- move the card of this UID from the first book to the second, with the expected version, if any
  MoveCall : List ℕ → List ℕ → List ℕ → Option ℕ → Call
  -- import these cards into the book under a key
  ImportCall : List ℕ → List ℕ → List (List Line) → Call
  -- forget the removals of the book up to the number
  ForgetCall : List ℕ → ℕ → Call
  -- report the book from the token, with at most the limit of entries
  ReportCall : List ℕ → Option Token → Option ℕ → Call
  -- look up the book's import under this key
  KeptImportCall : List ℕ → List ℕ → Call
  -- list all books
  BooksCall : Call
  -- look up the book's line: its name, id, number and horizon
  BookLineCall : List ℕ → Call
  -- get the book's card of this UID
  GetCall : List ℕ → List ℕ → Call
  -- get all live cards of the book
  CardsCall : List ℕ → Call
  -- get the book's tally
  TallyCall : List ℕ → Call

-- the answer of a call
pub data CallAnswer : Type 0 where
  ReturnedId : ℕ → CallAnswer
  ReturnedPut : PutAnswer → CallAnswer
  ReturnedRemoval : ℕ → CallAnswer
  ReturnedMove : Moved → CallAnswer
  ReturnedImport : ImportTally → CallAnswer
  ReturnedDropped : ℕ → CallAnswer
  ReturnedPage : Page → CallAnswer
  ReturnedKeptImport : Option ImportTally → CallAnswer
  ReturnedBooks : List BookLine → CallAnswer
  ReturnedBookLine : BookLine → CallAnswer
  ReturnedCard : Stored → CallAnswer
  ReturnedCards : LiveCards → CallAnswer
  ReturnedTally : Tally → CallAnswer

-- wraps the answer of a call that changes the state
abbrev pub map_answer
    : {A B S : Type 0} → (A → B) → Result (A × S) Refusal → Result (B × S) Refusal
map_answer f step = step >>= λ done. Ok (f done.0, done.1)

-- wraps the answer of a call that only reads: the state is the same
abbrev pub answer_in_state : {A B S : Type 0} → (A → B) → S → Result A Refusal
    → Result (B × S) Refusal
answer_in_state f state reading = reading >>= λ answer. Ok (f answer, state)

-- The definition of every call: its answer and the histories after it, or its refusal.
abbrev pub call_on_histories : Bounds → BookHistories → Call
    → Result (CallAnswer × BookHistories) Refusal
call_on_histories limits histories (CreateBookCall name) =
    map_answer ReturnedId (create_on_histories limits histories name)
call_on_histories limits histories (PutCall name card expect) =
    map_answer ReturnedPut (put_on_histories limits histories name card expect)
call_on_histories limits histories (RemoveCall name uid expect) =
    map_answer ReturnedRemoval (remove_on_histories limits histories name uid expect)
call_on_histories limits histories (MoveCall from to uid expect) =
    map_answer ReturnedMove (move_on_histories limits histories from to uid expect)
call_on_histories limits histories (ImportCall name key cards) =
    map_answer ReturnedImport (import_on_histories limits histories name key cards)
call_on_histories limits histories (ForgetCall name upto) =
    map_answer ReturnedDropped (forget_on_histories histories name upto)
call_on_histories limits histories (ReportCall name token limit) =
    answer_in_state ReturnedPage histories (report_on_histories limits histories name token limit)
call_on_histories limits histories (KeptImportCall name key) =
    answer_in_state ReturnedKeptImport histories (kept_import_on_histories histories name key)
call_on_histories limits histories BooksCall =
    Ok (ReturnedBooks (books_on_histories histories), histories)
call_on_histories limits histories (BookLineCall name) =
    answer_in_state ReturnedBookLine histories (book_line_on_histories histories name)
call_on_histories limits histories (GetCall name uid) =
    answer_in_state ReturnedCard histories (get_on_histories histories name uid)
call_on_histories limits histories (CardsCall name) =
    answer_in_state ReturnedCards histories (cards_on_histories histories name)
call_on_histories limits histories (TallyCall name) =
    answer_in_state ReturnedTally histories (tally_on_histories histories name)

-- ---- one call after another

-- the answer without the state
abbrev pub answer_only : {S : Type 0} → Result (CallAnswer × S) Refusal → Result CallAnswer Refusal
answer_only (Ok done) = Ok done.0
answer_only (Err refusal) = Err refusal

-- the state afterwards: a refusal leaves it unchanged
abbrev pub state_after_call : {A S : Type 0} → S → Result (A × S) Refusal → S
state_after_call old (Ok done) = done.1
state_after_call old (Err refusal) = old

-- the histories after a call
abbrev pub histories_after_call : Bounds → BookHistories → Call → BookHistories
histories_after_call limits histories call =
    state_after_call histories (call_on_histories limits histories call)

-- the answers of calls in order, and the histories after all of them
abbrev pub answers_to_calls : Bounds → BookHistories → List Call → List (Result CallAnswer Refusal)
answers_to_calls limits histories [] = []
answers_to_calls limits histories (call ∷ calls) =
    answer_only (call_on_histories limits histories call)
    ∷ answers_to_calls limits (histories_after_call limits histories call) calls

abbrev pub histories_after_calls : Bounds → BookHistories → List Call → BookHistories
histories_after_calls limits histories [] = histories
histories_after_calls limits histories (call ∷ calls) =
    histories_after_calls limits (histories_after_call limits histories call) calls
