use Rattle.std.proofs.Common.{Ok, Err, refl, sym, subst}
use Rattle.book_service.specs.declared.event.Event.TheVariants.{Do}
use Rattle.book_commands.specs.declared.reply.Reply.{Reply}
use Rattle.book_commands.specs.declared.reply.Reply.TheVariants as reply
use Rattle.book_service.specs.Faults.{IfFaultReply, CommandFault}
use Rattle.book_service.specs.Replies.{denied_reply}
use Rattle.book_service.specs.Runs.{StepsTo}
use Rattle.book_model.specs.declared.denied.Fault.{Fault as FaultKind}
use Rattle.book_service.proofs.CrashLemmas.{command_leaves}
use Rattle.book_service.proofs.EventLemmas.{command_happens}
use Rattle.book_service.proofs.command.perform.Goals as goal

-- nothing to prove if the reply isn't a fault
no_fault : (may : FaultKind → Type 0) (r : Reply) → IfFaultReply r (λ fault. ⊥) → IfFaultReply r may
no_fault may (reply.Fault fault) none = absurd none
no_fault may (reply.Refused refusal) none = tt
no_fault may (reply.Created id) none = tt
no_fault may (reply.Books lines) none = tt
no_fault may (reply.Card uid version card) none = tt
no_fault may (reply.Put answer) none = tt
no_fault may (reply.Gone number) none = tt
no_fault may (reply.Moved numbers) none = tt
no_fault may (reply.Imported tally) none = tt
no_fault may (reply.Forgot dropped horizon) none = tt
no_fault may (reply.Page page) none = tt
no_fault may (reply.Tally tally) none = tt
no_fault may (reply.Csv text) none = tt
no_fault may (reply.People expansion) none = tt

pub returns-in-Ok-clause-fault : goal.returns-in-Ok-clause-fault
returns-in-Ok-clause-fault g c = no_fault (CommandFault g.S.BookStore.model.may_fault
    c.args.command.now) c.in-Ok.reply c.in-Ok.ensures.no_fault

pub returns-in-Ok-clause-step : goal.returns-in-Ok-clause-step
returns-in-Ok-clause-step g c = λ premise now at.
    command_happens (g.S.BookStore.model.limits c.args.store.now)
    (g.S.BookStore.model.books c.args.store.now)
    (g.S.BookStore.model.books c.perform_call.new.store) c.in-Ok.reply now at c.args.command.now
    (c.in-Ok.ensures.step premise)

pub returns-in-Err-clause-step : goal.returns-in-Err-clause-step
returns-in-Err-clause-step g c = λ premise now at.
    let new = g.S.BookStore.model.books c.perform_call.new.store in
    subst (λ (r : Reply). StepsTo now (Do c.args.command.now) r new now.devices)
    (sym c.denied_reply.ensures)
    (command_happens (g.S.BookStore.model.limits c.args.store.now)
    (g.S.BookStore.model.books c.args.store.now) new (denied_reply c.in-Err.error) now at
    c.args.command.now (c.in-Err.ensures.step premise))

pub returns-in-Ok-clause-crash : goal.returns-in-Ok-clause-crash
returns-in-Ok-clause-crash g c = command_leaves g.S.BookStore.model c.args.store.now
    c.perform_call.new.store c.args.command.now (Ok c.in-Ok.reply) c.in-Ok.reply refl
    c.in-Ok.ensures.crash

pub returns-in-Err-clause-crash : goal.returns-in-Err-clause-crash
returns-in-Err-clause-crash g c = command_leaves g.S.BookStore.model c.args.store.now
    c.perform_call.new.store c.args.command.now (Err c.in-Err.error) c.denied_reply.result
    c.denied_reply.ensures c.in-Err.ensures.crash
