use Rattle.std.proofs.Common.{◌≡◌, Ok, inr, refl}
use Rattle.http_replies.specs.Replies.{reply_octets}
use Rattle.http_routes.specs.Commands.{requested_command}
use Rattle.book_http.proofs.AnsweringLemmas.{on_err, performed}
use Rattle.book_http.proofs.answering.answer_with.Goals as goal

pub returns-in-Ok-clause-no_memory : goal.returns-in-Ok-clause-no_memory
returns-in-Ok-clause-no_memory g c =
    let is : requested_command c.args.head.now.method c.args.head.now.target c.args.body.now
    ≡ Ok c.in-Ok.command = cc (c.in-Ok.ensures.command, c.as_str.ensures, c.as_str-2.ensures) in
    let octets = reply_octets c.perform-reply.result c.args.head.now.close in
    on_err c.reply_bytes.result
    (inr (
      octets,
      performed g.S.BookStore.model c.args.store.now c.perform-reply.new.store
          c.args.head.now c.args.body.now octets c.in-Ok.command c.perform-reply.result is
          c.perform-reply.ensures.terms c.perform-reply.ensures.fault
          c.perform-reply.ensures.unchanged c.perform-reply.ensures.step refl,
    ))
