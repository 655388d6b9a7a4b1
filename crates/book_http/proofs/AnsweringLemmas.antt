-- The reply to a request, by its command.
use Rattle.std.proofs.Common.{◌≡◌, ℕ, List, OnErr, Result, Ok, Err, subst, sym}
use Rattle.book_commands.specs.declared.command.Command.{Command}
use Rattle.book_commands.specs.declared.reply.Reply.{Reply}
use Rattle.http_replies.specs.Replies.{reply_octets}
use Rattle.http_requests.specs.declared.head.Head.{Head}
use Rattle.http_routes.specs.Commands.{requested_command}
use Rattle.book_http.specs.RequestAnswers.{AnswersRequest, AnswersCommand}
use Rattle.book_http.specs.StoreCommands.{PerformsOnStore}
use Rattle.book_service.specs.Faults.{IfFaultReply, CommandFault}
use Rattle.book_service.specs.Replies.{UnchangedIfReadOnly}
use Rattle.book_service.specs.Runs.{FromEachState, StepsTo}
use Rattle.book_service.specs.declared.event.Event.TheVariants.{Do}
use Rattle.sync_core.specs.StoreModels.{KeepsTerms, StoreModel}

module _ {S : Type 0} (model : StoreModel S) where
  -- a command was performed, and this is its reply
  pub performed : (old new : S) (head : Head) (body octets : List ℕ) (command : Command) (r : Reply)
      → requested_command head.method head.target body ≡ Ok command
      → KeepsTerms model old new → IfFaultReply r (CommandFault model.may_fault command)
      → (model.premise new → UnchangedIfReadOnly r (model.books old) (model.books new))
      → FromEachState model old new (λ now.
      StepsTo now (Do command) r (model.books new) now.devices)
      → octets ≡ reply_octets r head.close → AnswersRequest model old head body octets new
  performed old new head body octets command r is terms fault kept step run_replies =
      let did : PerformsOnStore model old command r new =
      record { terms = terms; fault = fault; kept = kept; step = step } in
      subst (λ wanted. AnswersCommand model old wanted head.close octets new) (sym is) (
        r,
        did,
        run_replies,
      )

-- what holds holds where memory ran out
pub on_err : {A E : Type 0} {P : Type 0} (result : Result A E) → P → OnErr result P
on_err (Ok value) holds = tt
on_err (Err e) holds = holds
