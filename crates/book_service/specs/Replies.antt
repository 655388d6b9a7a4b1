-- What a reply contains, and which replies leave the books unchanged.
use Rattle.std.specs.Prelude.{◌≡◌, Result, Ok, Err}
use Rattle.book_model.specs.declared.denied.Denied.{Denied}
use Rattle.book_model.specs.declared.denied.Denied.TheVariants.{Refused, Fault}
use Rattle.book_laws.specs.Calls.{CallAnswer, ReturnedId, ReturnedPut, ReturnedRemoval}
use Rattle.book_laws.specs.Calls.{ReturnedMove, ReturnedImport, ReturnedDropped, ReturnedPage}
use Rattle.book_laws.specs.Calls.{ReturnedBooks, ReturnedCard, ReturnedCards, ReturnedTally}
use Rattle.book_commands.specs.declared.command.Command.{Command}
use Rattle.book_commands.specs.declared.command.Command.TheVariants.{Get, Forget, Export, People}
use Rattle.book_commands.specs.declared.reply.Reply.{Reply}
use Rattle.book_commands.specs.declared.reply.Reply.TheVariants as reply
use Rattle.book_service.specs.WholeBooks.{export_text, ReplyHasPeople}

-- ---- the value that a call returned

-- the reply contains what the command's store call returned
abbrev pub RepliesReturned : Command → CallAnswer → Reply → Type 0
RepliesReturned command (ReturnedId id) r = r ≡ reply.Created id
RepliesReturned command (ReturnedBooks lines) r = r ≡ reply.Books lines
RepliesReturned (Get book uid) (ReturnedCard stored) r =
    r ≡ reply.Card uid stored.version stored.card
RepliesReturned command (ReturnedPut answer) r = r ≡ reply.Put answer
RepliesReturned command (ReturnedRemoval number) r = r ≡ reply.Gone number
RepliesReturned command (ReturnedMove numbers) r = r ≡ reply.Moved numbers
RepliesReturned command (ReturnedImport tally) r = r ≡ reply.Imported tally
RepliesReturned (Forget book upto) (ReturnedDropped dropped) r = r ≡ reply.Forgot dropped upto
RepliesReturned command (ReturnedPage page) r = r ≡ reply.Page page
RepliesReturned command (ReturnedTally tally) r = r ≡ reply.Tally tally
RepliesReturned (Export book form) (ReturnedCards live) r = r ≡ reply.Csv (export_text form live)
RepliesReturned (People book uid) (ReturnedCards live) r = ReplyHasPeople live uid r
RepliesReturned command returned r = ⊥

-- ---- denied calls

-- the reply to a denied call
abbrev pub denied_reply : Denied → Reply
denied_reply (Refused refusal) = reply.Refused refusal
denied_reply (Fault fault) = reply.Fault fault

-- the reply to the result of a call: `f` of its value, or the reply to its denial
abbrev pub reply_to : {A : Type 0} → (A → Reply) → Result A Denied → Reply
reply_to f (Ok answer) = f answer
reply_to f (Err denied) = denied_reply denied

-- ---- replies that change nothing

-- a refusal, a fault and the reply to a read leave the state unchanged
abbrev pub UnchangedIfReadOnly : {S : Type 0} → Reply → S → S → Type 0
UnchangedIfReadOnly (reply.Refused refusal) old new = new ≡ old
UnchangedIfReadOnly (reply.Fault fault) old new = new ≡ old
UnchangedIfReadOnly (reply.Books lines) old new = new ≡ old
UnchangedIfReadOnly (reply.Card uid version card) old new = new ≡ old
UnchangedIfReadOnly (reply.Page page) old new = new ≡ old
UnchangedIfReadOnly (reply.Tally tally) old new = new ≡ old
UnchangedIfReadOnly (reply.Csv text) old new = new ≡ old
UnchangedIfReadOnly (reply.People expansion) old new = new ≡ old
UnchangedIfReadOnly (reply.Created id) old new = Unit {0}
UnchangedIfReadOnly (reply.Put answer) old new = Unit {0}
UnchangedIfReadOnly (reply.Gone number) old new = Unit {0}
UnchangedIfReadOnly (reply.Moved numbers) old new = Unit {0}
UnchangedIfReadOnly (reply.Imported tally) old new = Unit {0}
UnchangedIfReadOnly (reply.Forgot dropped horizon) old new = Unit {0}
