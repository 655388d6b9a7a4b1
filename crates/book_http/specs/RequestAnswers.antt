-- What a complete request does, and the octets of its reply.
use Rattle.std.specs.Prelude.{◌≡◌, ℕ, Bool, List, Result, Ok, Err}
use Rattle.book_commands.specs.declared.command.Command.{Command}
use Rattle.book_commands.specs.declared.reply.Reply.{Reply}
use Rattle.http_replies.specs.Replies.{reply_octets, route_fault_octets}
use Rattle.http_requests.specs.declared.head.Head.{Head}
use Rattle.http_routes.specs.Commands.{requested_command}
use Rattle.http_routes.specs.declared.fault.RouteFault.{RouteFault}
use Rattle.book_http.specs.StoreCommands.{PerformsOnStore}
use Rattle.sync_core.specs.StoreModels.{StoreModel}

module _ {S : Type 0} (model : StoreModel S) where
  -- the command was performed and this is its reply; or this is the fault, and nothing changed
  abbrev pub AnswersCommand : S → Result Command RouteFault → Bool → List ℕ → S → Type 0
  AnswersCommand old (Ok command) close octets new =
      (r : Reply) × PerformsOnStore model old command r new
      × (octets ≡ reply_octets r close)
  AnswersCommand old (Err fault) close octets new =
      (octets ≡ route_fault_octets fault close) × (old ≡ new)

  -- the complete request was performed, and these octets are the reply
  abbrev pub AnswersRequest : S → Head → List ℕ → List ℕ → S → Type 0
  AnswersRequest old head body octets new =
      AnswersCommand old (requested_command head.method head.target body) head.close octets new
