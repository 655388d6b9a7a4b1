-- The effect and reply of each command, on books with their full histories.
use Rattle.std.specs.Prelude.{ℕ, ◌≡◌, ◌⊎◌, List, Option, Some, None, Result, Ok, Err}
use Rattle.vcard_lines.specs.declared.line.Line.{Line}
use Rattle.vcard_text.specs.Cards.{kind_of}
use Rattle.vcard_text.specs.FirstFaults.{is_group}
use Rattle.book_model.specs.declared.answers.ImportTally.{ImportTally}
use Rattle.book_model.specs.declared.denied.Fault.{Fault}
use Rattle.book_model.specs.declared.refusal.Refusal.{Refusal}
use Rattle.book_model.specs.declared.refusal.Refusal.TheVariants.{NotGroup}
use Rattle.book_model.specs.CallOutcomes.{◌>>=◌, refuse_unless}
use Rattle.book_laws.specs.Calls.{Call, CreateBookCall, PutCall, RemoveCall, MoveCall, ImportCall}
use Rattle.book_laws.specs.Calls.{ForgetCall, ReportCall, BooksCall, GetCall, CardsCall, TallyCall}
use Rattle.book_laws.specs.Calls.{ReturnedImport, CallAnswer, call_on_histories}
use Rattle.book_laws.specs.HistoryQueries.{get_on_histories, kept_import_on_histories}
use Rattle.book_laws.specs.StoreHistories.{BookHistories, StoreHistory}
use Rattle.book_laws.specs.HistorySteps.{history_named}
use Rattle.book_commands.specs.declared.command.Command.{Command}
use Rattle.book_commands.specs.declared.command.Command.TheVariants.{CreateBook, Books as ListBooks}
use Rattle.book_commands.specs.declared.command.Command.TheVariants.{Get, Put, Remove, MoveCard}
use Rattle.book_commands.specs.declared.command.Command.TheVariants.{Report, Import, Forget}
use Rattle.book_commands.specs.declared.command.Command.TheVariants.{TallyOf, Export, People}
use Rattle.book_commands.specs.declared.reply.Reply.{Reply}
use Rattle.book_commands.specs.declared.reply.Reply.TheVariants as reply
use Rattle.book_service.specs.Replies.{RepliesReturned}
use Rattle.book_service.specs.Texts.{ReadsCard, ReadsCards, ReadsToken}

-- ---- the store call of a command

-- the value that a call returns and the histories after it, or its refusal
abbrev pub Outcome : Type 0
Outcome = Result (CallAnswer × BookHistories) Refusal

-- the command is this store call
abbrev pub IsCall : StoreHistory → Call → Outcome → Type 0
IsCall model call outcome = outcome ≡ call_on_histories model.limits model.books call

-- the call with the value parsed from a text; refused first if there is no such book, then if the
-- text is invalid
abbrev pub outcome_with : {A : Type 0} → StoreHistory → List ℕ → (A → Call) → Result A Refusal
    → Outcome
outcome_with model book call (Ok read) = call_on_histories model.limits model.books (call read)
outcome_with model book call (Err refusal) =
    history_named model.books book >>= λ history. Err refusal

-- the command is this store call with a value parsed from its text
pub record IsCallWithText {A : Type 0} (model : StoreHistory) (book : List ℕ)
    (reads : Result A Refusal → Type 0) (call : A → Call) (outcome : Outcome) : Type 0 where
  pub read : Result A Refusal
  pub read_is : reads read
  pub outcome_is : outcome ≡ outcome_with model book call read

-- the parsed cards of a body are imported, or the body is refused
abbrev pub import_outcome : StoreHistory → List ℕ → List ℕ → Result (List (List Line)) Refusal
    → Outcome
import_outcome model book key (Ok cards) =
    call_on_histories model.limits model.books (ImportCall book key cards)
import_outcome model book key (Err refusal) = Err refusal

-- the import is of the parsed cards of this body
pub record ImportsBody (model : StoreHistory) (book key body : List ℕ)
    (outcome : Outcome) : Type 0 where
  pub read : Result (List (List Line)) Refusal
  pub read_is : ReadsCards body read
  pub outcome_is : outcome ≡ import_outcome model book key read

-- If the book has a result under the key, that is returned and nothing changes, whatever the body
-- is. Otherwise the body is imported.
abbrev pub ImportsTo : StoreHistory → List ℕ → List ℕ → List ℕ → Result (Option ImportTally) Refusal
    → Outcome → Type 0
ImportsTo model book key body (Err refusal) outcome = outcome ≡ Err refusal
ImportsTo model book key body (Ok (Some kept)) outcome =
    outcome ≡ Ok (ReturnedImport kept, model.books)
ImportsTo model book key body (Ok None) outcome = ImportsBody model book key body outcome

-- all cards are listed, if the book exists and the UID's card is live and a group
abbrev pub people_outcome : StoreHistory → List ℕ → List ℕ → Outcome
people_outcome model book uid = do
  stored ← get_on_histories model.books book uid
  group ← refuse_unless (is_group (kind_of stored.card)) NotGroup
  call_on_histories model.limits model.books (CardsCall book)

-- the outcome of each command
abbrev pub HasOutcome : StoreHistory → Command → Outcome → Type 0
HasOutcome model (CreateBook book) outcome = IsCall model (CreateBookCall book) outcome
HasOutcome model ListBooks outcome = IsCall model BooksCall outcome
HasOutcome model (Get book uid) outcome = IsCall model (GetCall book uid) outcome
HasOutcome model (Put book uid expect text) outcome =
    IsCallWithText model book (ReadsCard uid text) (λ card. PutCall book card expect) outcome
HasOutcome model (Remove book uid expect) outcome =
    IsCall model (RemoveCall book uid expect) outcome
HasOutcome model (MoveCard book uid to expect) outcome =
    IsCall model (MoveCall book to uid expect) outcome
HasOutcome model (Report book token limit) outcome =
    IsCallWithText model book (ReadsToken token) (λ from. ReportCall book from limit) outcome
HasOutcome model (Import book key body) outcome =
    ImportsTo model book key body (kept_import_on_histories model.books book key) outcome
HasOutcome model (Forget book upto) outcome = IsCall model (ForgetCall book upto) outcome
HasOutcome model (TallyOf book) outcome = IsCall model (TallyCall book) outcome
HasOutcome model (Export book form) outcome = IsCall model (CardsCall book) outcome
HasOutcome model (People book uid) outcome = outcome ≡ people_outcome model book uid

-- ---- the reply

-- the reply and the new histories are those of the outcome: the returned value, or a refusal, which
-- leaves the histories unchanged
abbrev pub DeliversOutcome : Command → BookHistories → Outcome → Reply → BookHistories → Type 0
DeliversOutcome command old (Ok done) r new = RepliesReturned command done.0 r × (new ≡ done.1)
DeliversOutcome command old (Err refusal) r new = (r ≡ reply.Refused refusal) × (new ≡ old)

-- the reply and the new histories are those of the command's outcome
pub record IsCommandDone (model : StoreHistory) (command : Command) (r : Reply)
    (next : BookHistories) : Type 0 where
  pub outcome : Outcome
  pub has_outcome : HasOutcome model command outcome
  pub delivers : DeliversOutcome command model.books outcome r next

-- the command was done, or there was a fault, which leaves the histories unchanged
abbrev pub PerformsCommand : StoreHistory → Command → Reply → BookHistories → Type 0
PerformsCommand model command r next = IsCommandDone model command r next
    ⊎ ((fault : Fault) × (r ≡ reply.Fault fault) × (next ≡ model.books))
