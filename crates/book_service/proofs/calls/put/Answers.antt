use Rattle.std.proofs.Common.{List, ℕ, Ok, Err, subst}
use Rattle.vcard_lines.specs.declared.line.Line.{Line}
use Rattle.book_model.specs.declared.answers.PutAnswer.{PutAnswer}
use Rattle.book_model.specs.CallOutcomes.{MatchesStep}
use Rattle.book_model.specs.Putting.{put_step}
use Rattle.book_commands.specs.declared.command.Command.TheVariants.{Put}
use Rattle.book_commands.specs.declared.reply.Reply.TheVariants as reply
use Rattle.book_service.specs.internal.RowSteps.{IsFirstDenial}
use Rattle.book_service.specs.Replies.{denied_reply}
use Rattle.book_service.specs.Texts.{ReadsCard}
use Rattle.book_service.specs.internal.TextParsers.{ParserReturns}
use Rattle.book_service.proofs.CallLemmas.{puts, puts_not}
use Rattle.book_service.proofs.CrashLemmas.{leaves_on, matched, read_leaves, unless_error}
use Rattle.book_service.proofs.calls.put.Goals as goal

pub returns-in-Ok-clause-step : goal.returns-in-Ok-clause-step
returns-in-Ok-clause-step g c = λ premise.
    let limits = g.S.BookStore.model.limits c.args.store.now in
    let old = g.S.BookStore.model.books c.args.store.now in
    let new = g.S.BookStore.model.books c.put.new.self in
    puts limits old new c.calls_follow_histories.ensures.putting c.args.book.now c.args.uid.now
    c.in-Ok.card c.args.expect c.args.text.now c.put.result
    (subst (λ (uid : List ℕ). ReadsCard uid c.args.text.now (Ok c.in-Ok.card)) c.as_str.ensures
    (subst (λ (text : List ℕ). ReadsCard c.as_str.result.now text (Ok c.in-Ok.card))
    c.as_slice.ensures c.in-Ok.ensures))
    (subst (λ (book : List ℕ). MatchesStep c.put.result (put_step limits old book c.in-Ok.card
    c.args.expect) old new) c.as_str-in-Ok.ensures (c.put.ensures.step premise))

pub returns-in-Err-clause-step : goal.returns-in-Err-clause-step
returns-in-Err-clause-step g c = λ premise.
    let limits = g.S.BookStore.model.limits c.args.store.now in
    let old = g.S.BookStore.model.books c.args.store.now in
    let new = g.S.BookStore.model.books c.first_denial.new.store in
    puts_not limits old new c.calls_follow_histories.ensures.lines c.args.book.now c.args.uid.now
    c.args.expect c.args.text.now c.in-Err.error (denied_reply c.first_denial.result)
    (subst (λ (uid : List ℕ). ParserReturns {A = List Line} (ReadsCard uid c.args.text.now)
    (Err c.in-Err.error)) c.as_str.ensures
    (subst (λ (text : List ℕ). ParserReturns {A = List Line} (ReadsCard c.as_str.result.now text)
    (Err c.in-Err.error)) c.as_slice.ensures c.in-Err.ensures))
    (subst (λ (book : List ℕ). IsFirstDenial old book c.in-Err.error
    (denied_reply c.first_denial.result)) c.as_str-in-Err.ensures (c.first_denial.ensures.denies
    premise))
    (c.first_denial.ensures.reads_only premise)

pub returns-in-Ok-clause-crash : goal.returns-in-Ok-clause-crash
returns-in-Ok-clause-crash g c =
    let limits = g.S.BookStore.model.limits c.args.store.now in
    let old = g.S.BookStore.model.books c.args.store.now in
    let reads = subst (λ (uid : List ℕ). ReadsCard uid c.args.text.now (Ok c.in-Ok.card))
    c.as_str.ensures (subst (λ (text : List ℕ). ReadsCard c.as_str.result.now text
    (Ok c.in-Ok.card)) c.as_slice.ensures c.in-Ok.ensures) in
    leaves_on g.S.BookStore.model c.args.store.now c.put.new.self
    (λ l b. put_step l b c.as_str-in-Ok.result.now c.in-Ok.card c.args.expect) c.put.result
    c.put.result (Put c.args.book.now c.args.uid.now c.args.expect c.args.text.now)
    (λ done e. (
      reply.Put done.0,
      puts limits old done.1 c.calls_follow_histories.ensures.putting c.args.book.now c.args.uid.now
          c.in-Ok.card c.args.expect c.args.text.now (Ok done.0) reads
          (subst (λ (book : List ℕ). MatchesStep (Ok done.0) (put_step limits old book c.in-Ok.card
          c.args.expect) old done.1) c.as_str-in-Ok.ensures (matched _ old done e)),
    ))
    (λ holds. holds) c.put.ensures.crash

pub returns-in-Err-clause-crash : goal.returns-in-Err-clause-crash
returns-in-Err-clause-crash g c =
    read_leaves g.S.BookStore.model c.args.store.now c.first_denial.new.store
    (Err c.first_denial.result) (Err c.first_denial.result) (Put c.args.book.now c.args.uid.now
    c.args.expect c.args.text.now)
    (unless_error (Unit {0}) PutAnswer c.first_denial.result (g.S.BookStore.model.premise
    c.first_denial.new.store)) c.first_denial.ensures.crash
