-- What the service's private functions do to the rows of a store; no public clause cites it.
use Rattle.std.specs.Prelude.{ℕ, ◌≡◌, ◌⊎◌, List, Result, Ok, Err}
use Rattle.book_model.specs.declared.answers.BookLine.{BookLine}
use Rattle.book_model.specs.declared.denied.Denied.{Denied}
use Rattle.book_model.specs.declared.denied.Denied.TheVariants.{Refused}
use Rattle.book_model.specs.declared.denied.Fault.{Fault}
use Rattle.book_model.specs.declared.refusal.Refusal.{Refusal}
use Rattle.book_model.specs.Bounds.{Bounds}
use Rattle.book_model.specs.Books.{Books}
use Rattle.book_model.specs.BookQueries.{book_line_step}
use Rattle.book_laws.specs.Refinement.{AreHistoriesOf}
use Rattle.book_laws.specs.StoreHistories.{BookHistories, StoreHistory}
use Rattle.book_commands.specs.declared.command.Command.{Command}
use Rattle.book_commands.specs.declared.reply.Reply.{Reply}
use Rattle.book_commands.specs.declared.reply.Reply.TheVariants as reply
use Rattle.sync_core.specs.StoreModels.{StoreModel}
use Rattle.sync_core.specs.StoreCrashes.{LeavesOr}
use Rattle.book_service.specs.Commands.{PerformsCommand}
use Rattle.book_service.specs.Replies.{UnchangedIfReadOnly, denied_reply}

-- the command was performed, and the rows are those of the histories after it
pub record IsPerformed (model : StoreHistory) (command : Command) (r : Reply) (books : Books)
    : Type 0 where
  pub next : BookHistories
  pub performs : PerformsCommand model command r next
  pub histories : AreHistoriesOf books next

-- the effect of a command on the rows of a store
pub record CommandOnRows (limits : Bounds) (old : Books) (command : Command) (r : Reply)
    (new : Books) : Type 0 where
  -- a refusal, a fault and a read leave the rows unchanged, whatever they are
  pub kept : UnchangedIfReadOnly r old new
  -- if the rows are those of a store history, the command is performed on that history
  pub performed : (model : StoreHistory) → model.limits ≡ limits → AreHistoriesOf old model.books →
      IsPerformed model command r new

-- these are the rows after the whole command, with some reply
abbrev pub IsAfterCommand : Bounds → Books → Command → Books → Type 0
IsAfterCommand limits old command books = (r : Reply) × CommandOnRows limits old command r books

-- What a crash leaves after a call for a command: what it could leave before, or the rows after the
-- whole command.
abbrev pub CommandLeaves : {S A : Type 0} → StoreModel S → S → S → Result A Denied → Command
    → Type 0
CommandLeaves model old new returned command = LeavesOr model old new returned (λ books.
    model.premise old × IsAfterCommand (model.limits old) (model.books old) command books)

-- if the premise holds, this is the effect of a command on the rows of the store
abbrev pub CommandOnStore : {S : Type 0} → StoreModel S → S → Command → Reply → S → Type 0
CommandOnStore model old command r new =
    model.premise new →
    CommandOnRows (model.limits old) (model.books old) command r (model.books new)

-- the reply to a command whose text was denied: that there is no such book, if there is none, else
-- that denial
abbrev pub first_denial : Result BookLine Refusal → Denied → Reply
first_denial (Ok line) denied = denied_reply denied
first_denial (Err refusal) denied = denied_reply (Refused refusal)

-- the reply is a fault
pub record IsFaultReply (r : Reply) : Type 0 where
  pub fault : Fault
  pub reply_is : r ≡ reply.Fault fault

-- the reply is that first denial, or a fault
abbrev pub IsFirstDenial : Books → List ℕ → Denied → Reply → Type 0
IsFirstDenial books name denied r =
    (r ≡ first_denial (book_line_step books name) denied) ⊎ IsFaultReply r
