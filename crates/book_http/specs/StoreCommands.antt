-- What one command of the service does to a store, whatever the store keeps its books in.
use Rattle.sync_core.specs.StoreModels.{KeepsTerms, StoreModel}
use Rattle.book_service.specs.Faults.{IfFaultReply, CommandFault}
use Rattle.book_service.specs.Replies.{UnchangedIfReadOnly}
use Rattle.book_service.specs.Runs.{FromEachState, StepsTo}
use Rattle.book_commands.specs.declared.command.Command.{Command}
use Rattle.book_service.specs.declared.event.Event.TheVariants.{Do}
use Rattle.book_commands.specs.declared.reply.Reply.{Reply}

module _ {S : Type 0} (model : StoreModel S) where
  -- the command changed the store to the new one, with this reply
  pub record PerformsOnStore (old : S) (command : Command) (r : Reply) (new : S) : Type 0 where
    pub terms : KeepsTerms model old new
    -- a fault is one that the store may return, or out of memory
    pub fault : IfFaultReply r (CommandFault model.may_fault command)
    -- a refusal, a fault and the reply to a query leave the rows unchanged
    pub kept : model.premise new → UnchangedIfReadOnly r (model.books old) (model.books new)
    -- from each state with the old rows of the store, it is one step to a state with the new rows
    pub step : FromEachState model old new (λ now.
        StepsTo now (Do command) r (model.books new) now.devices)
