-- The replies to the commands of orders.
use Rattle.std.specs.Prelude.{⊤}
use Rattle.book_commands.specs.declared.command.Command.{Command}
use Rattle.book_commands.specs.declared.command.Command.TheVariants.{CreateBook, Import, Forget}
use Rattle.book_commands.specs.declared.command.Command.TheVariants.{TallyOf, Export, People}
use Rattle.book_service.specs.declared.event.Event.TheVariants.{Do}
use Rattle.book_commands.specs.declared.reply.Reply.{Reply}
use Rattle.book_commands.specs.declared.reply.Reply.TheVariants as reply
use Rattle.book_service.specs.Runs.{SystemState, Step}

-- the command is that of some order
abbrev pub IsCommandOfOrder : Command → Type 0
IsCommandOfOrder (CreateBook book) = ⊤
IsCommandOfOrder (Import book key body) = ⊤
IsCommandOfOrder (Forget book upto) = ⊤
IsCommandOfOrder (TallyOf book) = ⊤
IsCommandOfOrder (Export book form) = ⊤
IsCommandOfOrder (People book uid) = ⊤
IsCommandOfOrder command = ⊥

-- the reply has a text, or it is a refusal or a fault
abbrev pub IsReplyToOrder : Reply → Type 0
IsReplyToOrder (reply.Created id) = ⊤
IsReplyToOrder (reply.Imported tally) = ⊤
IsReplyToOrder (reply.Forgot dropped horizon) = ⊤
IsReplyToOrder (reply.Tally tally) = ⊤
IsReplyToOrder (reply.Csv rows) = ⊤
IsReplyToOrder (reply.People expansion) = ⊤
IsReplyToOrder (reply.Refused refusal) = ⊤
IsReplyToOrder (reply.Fault fault) = ⊤
IsReplyToOrder r = ⊥

-- in each state an order's command gets such a reply
abbrev pub OrdersAreReplied : Type 0
OrdersAreReplied = (now : SystemState) (command : Command) (r : Reply) (next : SystemState) →
    IsCommandOfOrder command → Step now (Do command) r next → IsReplyToOrder r
