use Rattle.std.proofs.Common.{OnOk, subst}
use Rattle.std.proofs.lemmas.Result.{err_from_is_err_and}
use Rattle.std.specs.Io.KnownBytes.{Appends}
use Rattle.book_http.specs.StoreCommands.{PerformsOnStore}
use Rattle.book_http.specs.Streams.{WritesPrefix}
use Rattle.cli_orders.proofs.CommandLemmas.{command_without_text, command_printed, command_cut_off}
use Rattle.cli_orders.proofs.commands.run_command.Given as given
use Rattle.cli_orders.proofs.commands.run_command.Goals as goal
use Rattle.cli_orders.proofs.commands.run_command.Goals.{After-perform-reply}

-- what the clauses share: the command was performed
did : (g : given.Over) (c : After-perform-reply g)
    → PerformsOnStore g.S.BookStore.model c.args.store.now c.args.command.now
    c.perform-reply.result c.perform-reply.new.store
did g c = record {
  terms = c.perform-reply.ensures.terms;
  fault = c.perform-reply.ensures.fault;
  kept = c.perform-reply.ensures.unchanged;
  step = c.perform-reply.ensures.step;
}

pub returns-in_err-text-clause-stopped : goal.returns-in_err-text-clause-stopped
returns-in_err-text-clause-stopped g c =
    let p = err_from_is_err_and c.from_residual.result c.from_residual.ensures.1 in
    rw (p.1, p.2)
    (command_without_text g.S.BookStore.model c.args.store.now c.perform-reply.new.store
    c.args.command.now c.perform-reply.result c.in_err-text.field-0.0
    (g.W.Write.contents c.args.writer.now)
    (did g (goal.at.returns-in_err-text-clause-stopped g c).After-perform-reply)
    c.in_err-text.ensures.stop)

pub returns-clause-printed : goal.returns-clause-printed
returns-clause-printed g c =
    command_printed g.S.BookStore.model c.write_out.result c.args.store.now
    c.perform-reply.new.store c.args.command.now c.perform-reply.result
    (g.W.Write.contents c.args.writer.now) (g.W.Write.contents c.write_out.new.writer)
    c.in_ok-text.text.items (did g (goal.at.returns-clause-printed g c).After-perform-reply)
    c.in_ok-text.ensures.text
    (subst (λ octets. OnOk c.write_out.result (Appends (g.W.Write.contents c.args.writer.now)
    (g.W.Write.contents c.write_out.new.writer) octets)) c.as_slice.ensures.value
    c.write_out.ensures.written)

pub returns-clause-stopped : goal.returns-clause-stopped
returns-clause-stopped g c =
    command_cut_off g.S.BookStore.model c.write_out.result c.args.store.now
    c.perform-reply.new.store c.args.command.now c.perform-reply.result
    (g.W.Write.contents c.args.writer.now) (g.W.Write.contents c.write_out.new.writer)
    c.in_ok-text.text.items (did g (goal.at.returns-clause-stopped g c).After-perform-reply)
    c.in_ok-text.ensures.text
    (subst (λ octets. WritesPrefix octets (g.W.Write.contents c.args.writer.now)
    (g.W.Write.contents c.write_out.new.writer)) c.as_slice.ensures.value
    c.write_out.ensures.prefix)
    c.write_out.ensures.stop
