-- The replies to the commands of orders.
use Rattle.std.proofs.Common.{ℕ, List, Option, Some, None, Result, Ok, Err, inl, inr, subst, sym}
use Rattle.std.specs.Prelude.{Bool, true, false}
use Rattle.vcard_lines.specs.declared.line.Line.{Line}
use Rattle.vcard_text.specs.Cards.{kind_of}
use Rattle.vcard_text.specs.FirstFaults.{is_group}
use Rattle.book_model.specs.declared.answers.ImportTally.{ImportTally}
use Rattle.book_model.specs.declared.answers.Stored.{Stored}
use Rattle.book_model.specs.declared.refusal.Refusal.{Refusal}
use Rattle.book_model.specs.declared.refusal.Refusal.TheVariants.{NotGroup}
use Rattle.book_model.specs.Books.{LiveCards}
use Rattle.book_model.specs.CallOutcomes.{◌>>=◌, refuse_unless}
use Rattle.book_laws.specs.Calls.{CallAnswer, CardsCall, ReturnedId, ReturnedImport}
use Rattle.book_laws.specs.Calls.{ReturnedDropped, ReturnedCards, ReturnedTally, call_on_histories}
use Rattle.book_laws.specs.Calls.{map_answer, answer_in_state}
use Rattle.book_laws.specs.HistoryQueries.{cards_on_histories, get_on_histories}
use Rattle.book_laws.specs.HistoryQueries.{kept_import_on_histories, tally_on_histories}
use Rattle.book_laws.specs.StoreHistories.{BookHistories, StoreHistory}
use Rattle.book_laws.specs.HistorySteps.{create_on_histories}
use Rattle.book_service.specs.Commands.{DeliversOutcome, Outcome, PerformsCommand, HasOutcome}
use Rattle.book_service.specs.Commands.{ImportsTo, import_outcome}
use Rattle.book_service.specs.Replies.{RepliesReturned}
use Rattle.book_commands.specs.declared.command.Command.{Command}
use Rattle.book_commands.specs.declared.command.Command.TheVariants.{CreateBook, Books, Get, Put}
use Rattle.book_commands.specs.declared.command.Command.TheVariants.{Remove, MoveCard, Report}
use Rattle.book_commands.specs.declared.command.Command.TheVariants.{Import, Forget, TallyOf}
use Rattle.book_commands.specs.declared.command.Command.TheVariants.{Export, People}
use Rattle.book_commands.specs.declared.reply.Reply.{Reply}
use Rattle.cli_orders.specs.OrderReplies.{IsCommandOfOrder, IsReplyToOrder, OrdersAreReplied}

-- the value that this command returns has such a reply
abbrev RepliesToOrder : Command → CallAnswer → Type 0
RepliesToOrder command returned = (r : Reply) → RepliesReturned command returned r
    → IsReplyToOrder r

refused : (command : Command) (old new : BookHistories) (refusal : Refusal) (r : Reply)
    → DeliversOutcome command old (Err refusal) r new → IsReplyToOrder r
refused command old new refusal r c = subst IsReplyToOrder (sym c.0) tt

of_answer : {A : Type 0} (command : Command) (f : A → CallAnswer) (step :
    Result (A × BookHistories) Refusal) (old new : BookHistories) (r : Reply)
    → ((a : A) → RepliesToOrder command (f a)) → DeliversOutcome command old (map_answer f step) r
    new → IsReplyToOrder r
of_answer command f (Ok done) old new r replied c = replied done.0 r c.0
of_answer command f (Err refusal) old new r replied c = refused command old new refusal r c

of_reading : {A : Type 0} (command : Command) (f : A → CallAnswer) (reading : Result A Refusal)
    (old new : BookHistories) (r : Reply) → ((a : A) → RepliesToOrder command (f a))
    → DeliversOutcome command old (answer_in_state f old reading) r new → IsReplyToOrder r
of_reading command f (Ok answer) old new r replied c = replied answer r c.0
of_reading command f (Err refusal) old new r replied c = refused command old new refusal r c

import_replied : (book key body : List ℕ) (tally : ImportTally)
    → RepliesToOrder (Import book key body) (ReturnedImport tally)
import_replied book key body tally r is = subst IsReplyToOrder (sym is) tt

of_body : (model : StoreHistory) (book key body : List ℕ) (read : Result (List (List Line)) Refusal)
    (new : BookHistories) (r : Reply) → DeliversOutcome (Import book key body) model.books
    (import_outcome model book key read) r new → IsReplyToOrder r
of_body model book key body (Ok cards) new r c =
    of_answer (Import book key body) ReturnedImport _ model.books new r
    (import_replied book key body) c
of_body model book key body (Err refusal) new r c =
    refused (Import book key body) model.books new refusal r c

of_import : (model : StoreHistory) (book key body : List ℕ) (kept :
    Result (Option ImportTally) Refusal) (outcome : Outcome) (new : BookHistories) (r : Reply)
    → ImportsTo model book key body kept outcome
    → DeliversOutcome (Import book key body) model.books outcome r new → IsReplyToOrder r
of_import model book key body (Err refusal) outcome new r has_outcome c =
    refused (Import book key body) model.books new refusal r
    (subst (λ (m : Outcome). DeliversOutcome (Import book key body) model.books m r new) has_outcome
    c)
of_import model book key body (Ok (Some tally)) outcome new r has_outcome c =
    import_replied book key body tally r
    (subst (λ (m : Outcome). DeliversOutcome (Import book key body) model.books m r new) has_outcome
    c).0
of_import model book key body (Ok None) outcome new r has_outcome c =
    of_body model book key body has_outcome.read new r
    (subst (λ (m : Outcome). DeliversOutcome (Import book key body) model.books m r new)
    has_outcome.outcome_is c)

people_replied : (book uid : List ℕ) (live : LiveCards)
    → RepliesToOrder (People book uid) (ReturnedCards live)
people_replied book uid live r replied = subst IsReplyToOrder (sym replied.reply_is) tt

of_people : (model : StoreHistory) (book uid : List ℕ) (found : Result Stored Refusal) (new :
    BookHistories) (r : Reply)
    → DeliversOutcome (People book uid) model.books (found >>= λ stored. refuse_unless
    (is_group (kind_of stored.card)) NotGroup >>= λ group. call_on_histories model.limits
    model.books (CardsCall book)) r new → IsReplyToOrder r
of_people model book uid (Err refusal) new r c =
    refused (People book uid) model.books new refusal r c
of_people model book uid (Ok stored) new r c = of_group (is_group (kind_of stored.card)) c
  where
    of_group : (group : Bool) → DeliversOutcome (People book uid) model.books
        (refuse_unless group NotGroup >>= λ group. call_on_histories model.limits model.books
        (CardsCall book)) r new → IsReplyToOrder r
    of_group true c = of_reading (People book uid) ReturnedCards (cards_on_histories model.books
        book) model.books new r (people_replied book uid) c
    of_group false c = refused (People book uid) model.books new NotGroup r c

-- by the command
of_command : (model : StoreHistory) (command : Command) (outcome : Outcome) (new : BookHistories)
    (r : Reply) → IsCommandOfOrder command → HasOutcome model command outcome
    → DeliversOutcome command model.books outcome r new → IsReplyToOrder r
of_command model (CreateBook book) outcome new r h has_outcome c =
    of_answer (CreateBook book) ReturnedId (create_on_histories model.limits model.books book)
    model.books new r (λ id s is. subst IsReplyToOrder (sym is) tt)
    (subst (λ (m : Outcome). DeliversOutcome (CreateBook book) model.books m r new) has_outcome
    c)
of_command model (Import book key body) outcome new r h has_outcome c =
    of_import model book key body (kept_import_on_histories model.books book key) outcome new r
    has_outcome c
of_command model (Forget book upto) outcome new r h has_outcome c =
    of_answer (Forget book upto) ReturnedDropped _ model.books new r
    (λ dropped s is. subst IsReplyToOrder (sym is) tt)
    (subst (λ (m : Outcome). DeliversOutcome (Forget book upto) model.books m r new) has_outcome
    c)
of_command model (TallyOf book) outcome new r h has_outcome c =
    of_reading (TallyOf book) ReturnedTally (tally_on_histories model.books book) model.books new r
    (λ tally s is. subst IsReplyToOrder (sym is) tt)
    (subst (λ (m : Outcome). DeliversOutcome (TallyOf book) model.books m r new) has_outcome c)
of_command model (Export book form) outcome new r h has_outcome c =
    of_reading (Export book form) ReturnedCards (cards_on_histories model.books book) model.books
    new r (λ live s is. subst IsReplyToOrder (sym is) tt)
    (subst (λ (m : Outcome). DeliversOutcome (Export book form) model.books m r new) has_outcome
    c)
of_command model (People book uid) outcome new r h has_outcome c =
    of_people model book uid (get_on_histories model.books book uid) new r
    (subst (λ (m : Outcome). DeliversOutcome (People book uid) model.books m r new) has_outcome c)
of_command model Books outcome new r h has_outcome c = absurd h
of_command model (Get book uid) outcome new r h has_outcome c = absurd h
of_command model (Put book uid expect text) outcome new r h has_outcome c = absurd h
of_command model (Remove book uid expect) outcome new r h has_outcome c = absurd h
of_command model (MoveCard book uid to expect) outcome new r h has_outcome c = absurd h
of_command model (Report book token limit) outcome new r h has_outcome c = absurd h

pub orders_replied : OrdersAreReplied
orders_replied now command r next h step = by_outcome step.1
  where
    by_outcome : PerformsCommand now.model command r step.0 → IsReplyToOrder r
    by_outcome (inl done) = of_command now.model command done.outcome step.0 r h done.has_outcome
        done.delivers
    by_outcome (inr fault) = subst IsReplyToOrder (sym fault.1) tt
