-- Each command makes its store call, and the reply is what the step of that call gives on the rows.
-- Given here: for each command a lemma of `CallLemmas` with the law that its call refines
-- histories, for an error and for an answer. `subst` puts the command's fields in place of the
-- borrowed texts, `done` and `denied` the command of the match arm in place of the argument. Where
-- a function of this crate has the clause `step` itself, as `put`, at most its answer is needed.
use Rattle.std.proofs.Common.{◌≡◌, ℕ, List, Result, Ok, Err, Vec, Global, sym, ap, ◌∙◌, subst}
use Rattle.std.proofs.lemmas.Result.{err_from_is_err_and}
use Rattle.card_core.specs.declared.expansion.Expansion.{Expansion}
use Rattle.book_model.specs.declared.answers.BookLine.{BookLine}
use Rattle.book_model.specs.declared.answers.ImportTally.{ImportTally}
use Rattle.book_model.specs.declared.answers.Moved.{Moved}
use Rattle.book_model.specs.declared.answers.PutAnswer.{PutAnswer}
use Rattle.book_model.specs.declared.answers.Stored.{Stored}
use Rattle.book_model.specs.declared.answers.Tally.{Tally}
use Rattle.book_model.specs.declared.denied.Denied.{Denied}
use Rattle.book_model.specs.declared.denied.Denied.TheVariants.{Fault}
use Rattle.book_model.specs.declared.denied.Fault.TheVariants.{Memory}
use Rattle.book_model.specs.declared.page.Page.{Page}
use Rattle.book_model.specs.Bounds.{Bounds, IsInRange}
use Rattle.book_model.specs.Books.{Books}
use Rattle.book_model.specs.Creating.{create_step}
use Rattle.book_model.specs.Forgetting.{forget_step}
use Rattle.book_model.specs.Moving.{move_step}
use Rattle.book_model.specs.CallOutcomes.{MatchesStep, ReturnsExactly}
use Rattle.book_model.specs.BookQueries.{get_step, tally_step}
use Rattle.book_model.specs.Removing.{remove_step}
use Rattle.book_commands.specs.declared.command.Command.{Command}
use Rattle.book_commands.specs.declared.command.Command.TheVariants.{CreateBook, Books as ListBooks}
use Rattle.book_commands.specs.declared.command.Command.TheVariants.{Get, Put, Remove, MoveCard}
use Rattle.book_commands.specs.declared.command.Command.TheVariants.{Import, Forget, TallyOf}
use Rattle.book_commands.specs.declared.command.Command.TheVariants.{Export, People}
use Rattle.book_commands.specs.declared.reply.Reply.{Reply}
use Rattle.book_commands.specs.declared.reply.Reply.TheVariants as reply
use Rattle.book_service.specs.internal.RowSteps.{CommandOnRows}
use Rattle.book_service.specs.Replies.{denied_reply, reply_to}
use Rattle.book_service.proofs.CallLemmas.{creates, removes, moves, forgets, gets, gets_not}
use Rattle.book_service.proofs.CallLemmas.{tallies, lists, lists_not}
use Rattle.book_service.proofs.CrashLemmas.{create_leaves, denial_answers, forget_leaves}
use Rattle.book_service.proofs.CrashLemmas.{move_leaves, passes_on, read_leaves, remove_leaves}
use Rattle.book_service.proofs.PerformLemmas.{read_keeps}
use Rattle.book_service.proofs.calls.perform_call.Goals as goal

-- the command is the one of this match arm
done : (limits : Bounds) (old new : Books) (command own : Command) (r : Reply) → command ≡ own
    → CommandOnRows limits old own r new → CommandOnRows limits old command r new
done limits old new command own r is does =
    subst (λ (c : Command). CommandOnRows limits old c r new) (sym is) does

denied : (limits : Bounds) (old new : Books) (command own : Command) (call_result :
    Result Reply Denied) (error : Denied) → command ≡ own → call_result ≡ Err error
    → CommandOnRows limits old own (denied_reply error) new
    → CommandOnRows limits old command (reply_to (λ (r : Reply). r) call_result) new
denied limits old new command own call_result error is same does =
    done limits old new command own (reply_to (λ (r : Reply). r) call_result) is
    (subst (λ (o : Result Reply Denied). CommandOnRows limits old own
    (reply_to (λ (r : Reply). r) o) new) (sym same) does)

-- ---- books: create one, list all

pub returns-in_err-id-in-CreateBook-clause-step : goal.returns-in_err-id-in-CreateBook-clause-step
returns-in_err-id-in-CreateBook-clause-step g c = λ premise.
    let limits = g.S.BookStore.model.limits c.args.store.now in
    let old = g.S.BookStore.model.books c.args.store.now in
    let new = g.S.BookStore.model.books c.create_book.new.self in
    let p = err_from_is_err_and c.from_residual.result c.from_residual.ensures.1 in
    denied limits old new c.args.command.now (CreateBook c.in-CreateBook.book)
    c.from_residual.result c.in_err-id-in-CreateBook.field-0.0 c.in-CreateBook.is (p.1
    ∙ ap (λ (d : Denied). Err d) p.2)
    (creates limits old new c.calls_follow_histories.ensures.creating
    (subst IsInRange c.create_book.ensures.terms.limits c.create_book.ensures.terms.range)
    c.in-CreateBook.book (Err c.in_err-id-in-CreateBook.field-0.0)
    (subst (λ (name : List ℕ). MatchesStep (Err c.in_err-id-in-CreateBook.field-0.0)
    (create_step limits old name) old new) c.as_str.ensures
    (c.in_err-id-in-CreateBook.ensures.step premise)))

pub returns-in_ok-id-in-CreateBook-clause-step : goal.returns-in_ok-id-in-CreateBook-clause-step
returns-in_ok-id-in-CreateBook-clause-step g c = λ premise.
    let limits = g.S.BookStore.model.limits c.args.store.now in
    let old = g.S.BookStore.model.books c.args.store.now in
    let new = g.S.BookStore.model.books c.create_book.new.self in
    done limits old new c.args.command.now (CreateBook c.in-CreateBook.book)
    (reply.Created c.in_ok-id-in-CreateBook.id) c.in-CreateBook.is
    (creates limits old new c.calls_follow_histories.ensures.creating
    (subst IsInRange c.create_book.ensures.terms.limits c.create_book.ensures.terms.range)
    c.in-CreateBook.book (Ok c.in_ok-id-in-CreateBook.id)
    (subst (λ (name : List ℕ). MatchesStep (Ok c.in_ok-id-in-CreateBook.id)
    (create_step limits old name) old new) c.as_str.ensures
    (c.in_ok-id-in-CreateBook.ensures.step premise)))

pub returns-in_err-lines-in-Books-clause-step : goal.returns-in_err-lines-in-Books-clause-step
returns-in_err-lines-in-Books-clause-step g c = λ premise.
    let limits = g.S.BookStore.model.limits c.args.store.now in
    let old = g.S.BookStore.model.books c.args.store.now in
    let new = g.S.BookStore.model.books c.books.new.self in
    let p = err_from_is_err_and c.from_residual-in_err-lines-in-Books.result
    c.from_residual-in_err-lines-in-Books.ensures.1 in
    denied limits old new c.args.command.now ListBooks c.from_residual-in_err-lines-in-Books.result
    c.in_err-lines-in-Books.field-0.0 c.in-Books.is (p.1 ∙ ap (λ (d : Denied). Err d) p.2)
    (lists_not limits old new _ c.books.result c.in_err-lines-in-Books.field-0.0
    c.in_err-lines-in-Books.was (c.books.ensures.step premise))

pub returns-in_ok-lines-in-Books-clause-step : goal.returns-in_ok-lines-in-Books-clause-step
returns-in_ok-lines-in-Books-clause-step g c = λ premise.
    let limits = g.S.BookStore.model.limits c.args.store.now in
    let old = g.S.BookStore.model.books c.args.store.now in
    let new = g.S.BookStore.model.books c.books.new.self in
    done limits old new c.args.command.now ListBooks (reply.Books c.from_vec.result) c.in-Books.is
    (let received = c.in_ok-lines-in-Books.ensures.step premise in
    lists limits old new c.calls_follow_histories.ensures.books c.from_vec.result
    (c.from_vec.ensures ∙ received.0, received.1))

-- ---- one card: get, put, remove, move

pub returns-in_err-version-in-Get-clause-step : goal.returns-in_err-version-in-Get-clause-step
returns-in_err-version-in-Get-clause-step g c = λ premise.
    let limits = g.S.BookStore.model.limits c.args.store.now in
    let old = g.S.BookStore.model.books c.args.store.now in
    let new = g.S.BookStore.model.books c.get.new.self in
    let p = err_from_is_err_and c.from_residual-in_err-version-in-Get.result
    c.from_residual-in_err-version-in-Get.ensures.1 in
    denied limits old new c.args.command.now (Get c.in-Get.book c.in-Get.uid)
    c.from_residual-in_err-version-in-Get.result c.in_err-version-in-Get.field-0.0 c.in-Get.is
    (p.1 ∙ ap (λ (d : Denied). Err d) p.2)
    (gets limits old new c.calls_follow_histories.ensures.getting c.in-Get.book c.in-Get.uid
    (Err c.in_err-version-in-Get.field-0.0)
    (subst (λ (book : List ℕ). ReturnsExactly (Err c.in_err-version-in-Get.field-0.0)
    (get_step old book c.in-Get.uid) old new) c.as_str-in-Get.ensures
    (subst (λ (uid : List ℕ). ReturnsExactly (Err c.in_err-version-in-Get.field-0.0)
    (get_step old c.as_str-in-Get.result.now uid) old new) c.as_str-in-Get-2.ensures
    (c.in_err-version-in-Get.ensures.step premise))))

pub returns-in_err-uid-in-Get-clause-step : goal.returns-in_err-uid-in-Get-clause-step
returns-in_err-uid-in-Get-clause-step g c = λ premise.
    let limits = g.S.BookStore.model.limits c.args.store.now in
    let old = g.S.BookStore.model.books c.args.store.now in
    let new = g.S.BookStore.model.books c.get.new.self in
    let p = err_from_is_err_and c.from_residual-in_err-uid-in-Get.result
    c.from_residual-in_err-uid-in-Get.ensures.1 in
    let received : ReturnsExactly (Ok c.in_ok-version-in-Get.field-0)
    (get_step old c.as_str-in-Get.result.now c.as_str-in-Get-2.result.now) old new =
    c.in_ok-version-in-Get.ensures.step premise in
    denied limits old new c.args.command.now (Get c.in-Get.book c.in-Get.uid)
    c.from_residual-in_err-uid-in-Get.result (Fault Memory) c.in-Get.is (p.1
    ∙ ap (λ (d : Denied). Err d) p.2)
    (gets_not limits old new c.in-Get.book c.in-Get.uid Memory (read_keeps (λ (t a : Stored). a ≡ t)
    old new (Ok c.in_ok-version-in-Get.field-0) (get_step old c.as_str-in-Get.result.now
    c.as_str-in-Get-2.result.now) received))

pub returns-in_ok-uid-in-Get-clause-step : goal.returns-in_ok-uid-in-Get-clause-step
returns-in_ok-uid-in-Get-clause-step g c = λ premise.
    let limits = g.S.BookStore.model.limits c.args.store.now in
    let old = g.S.BookStore.model.books c.args.store.now in
    let new = g.S.BookStore.model.books c.get.new.self in
    let stored : Stored = c.in_ok-version-in-Get.field-0 in
    done limits old new c.args.command.now (Get c.in-Get.book c.in-Get.uid)
    (reply.Card c.in_ok-uid-in-Get.uid stored.version stored.card) c.in-Get.is
    (subst (λ (uid : List ℕ). CommandOnRows limits old (Get c.in-Get.book c.in-Get.uid)
    (reply.Card uid stored.version stored.card) new) (sym c.in_ok-uid-in-Get.ensures)
    (gets limits old new c.calls_follow_histories.ensures.getting c.in-Get.book c.in-Get.uid
    (Ok stored)
    (subst (λ (book : List ℕ). ReturnsExactly (Ok stored) (get_step old book c.in-Get.uid) old new)
    c.as_str-in-Get.ensures
    (subst (λ (uid : List ℕ). ReturnsExactly (Ok stored) (get_step old c.as_str-in-Get.result.now
    uid) old new) c.as_str-in-Get-2.ensures (c.in_ok-version-in-Get.ensures.step premise)))))

pub returns-in_ok-answer-in-Put-clause-step : goal.returns-in_ok-answer-in-Put-clause-step
returns-in_ok-answer-in-Put-clause-step g c = λ premise.
    let limits = g.S.BookStore.model.limits c.args.store.now in
    let old = g.S.BookStore.model.books c.args.store.now in
    let new = g.S.BookStore.model.books c.put.new.store in
    done limits old new c.args.command.now (Put c.in-Put.book c.in-Put.uid c.in-Put.expect
    c.in-Put.text) (reply.Put c.in_ok-answer-in-Put.answer) c.in-Put.is
    (c.in_ok-answer-in-Put.ensures.step premise)

pub returns-in_err-number-in-Remove-clause-step : goal.returns-in_err-number-in-Remove-clause-step
returns-in_err-number-in-Remove-clause-step g c = λ premise.
    let limits = g.S.BookStore.model.limits c.args.store.now in
    let old = g.S.BookStore.model.books c.args.store.now in
    let new = g.S.BookStore.model.books c.remove.new.self in
    let p = err_from_is_err_and c.from_residual-in_err-number-in-Remove.result
    c.from_residual-in_err-number-in-Remove.ensures.1 in
    denied limits old new c.args.command.now (Remove c.in-Remove.book c.in-Remove.uid
    c.in-Remove.expect) c.from_residual-in_err-number-in-Remove.result
    c.in_err-number-in-Remove.field-0.0 c.in-Remove.is (p.1 ∙ ap (λ (d : Denied). Err d) p.2)
    (removes limits old new c.calls_follow_histories.ensures.removing c.in-Remove.book
    c.in-Remove.uid c.in-Remove.expect (Err c.in_err-number-in-Remove.field-0.0)
    (subst (λ (book : List ℕ). MatchesStep (Err c.in_err-number-in-Remove.field-0.0)
    (remove_step limits old book c.in-Remove.uid c.in-Remove.expect) old new)
    c.as_str-in-Remove.ensures
    (subst (λ (uid : List ℕ). MatchesStep (Err c.in_err-number-in-Remove.field-0.0)
    (remove_step limits old c.as_str-in-Remove.result.now uid c.in-Remove.expect) old new)
    c.as_str-in-Remove-2.ensures (c.in_err-number-in-Remove.ensures.step premise))))

pub returns-in_ok-number-in-Remove-clause-step : goal.returns-in_ok-number-in-Remove-clause-step
returns-in_ok-number-in-Remove-clause-step g c = λ premise.
    let limits = g.S.BookStore.model.limits c.args.store.now in
    let old = g.S.BookStore.model.books c.args.store.now in
    let new = g.S.BookStore.model.books c.remove.new.self in
    done limits old new c.args.command.now (Remove c.in-Remove.book c.in-Remove.uid
    c.in-Remove.expect) (reply.Gone c.in_ok-number-in-Remove.number) c.in-Remove.is
    (removes limits old new c.calls_follow_histories.ensures.removing c.in-Remove.book
    c.in-Remove.uid c.in-Remove.expect (Ok c.in_ok-number-in-Remove.number)
    (subst (λ (book : List ℕ). MatchesStep (Ok c.in_ok-number-in-Remove.number)
    (remove_step limits old book c.in-Remove.uid c.in-Remove.expect) old new)
    c.as_str-in-Remove.ensures
    (subst (λ (uid : List ℕ). MatchesStep (Ok c.in_ok-number-in-Remove.number)
    (remove_step limits old c.as_str-in-Remove.result.now uid c.in-Remove.expect) old new)
    c.as_str-in-Remove-2.ensures (c.in_ok-number-in-Remove.ensures.step premise))))

pub returns-in_err-numbers-in-MoveCard-clause-step :
    goal.returns-in_err-numbers-in-MoveCard-clause-step
returns-in_err-numbers-in-MoveCard-clause-step g c = λ premise.
    let limits = g.S.BookStore.model.limits c.args.store.now in
    let old = g.S.BookStore.model.books c.args.store.now in
    let new = g.S.BookStore.model.books c.move_card.new.self in
    let p = err_from_is_err_and c.from_residual-in_err-numbers-in-MoveCard.result
    c.from_residual-in_err-numbers-in-MoveCard.ensures.1 in
    denied limits old new c.args.command.now (MoveCard c.in-MoveCard.book c.in-MoveCard.uid
    c.in-MoveCard.to c.in-MoveCard.expect) c.from_residual-in_err-numbers-in-MoveCard.result
    c.in_err-numbers-in-MoveCard.field-0.0 c.in-MoveCard.is (p.1
    ∙ ap (λ (d : Denied). Err d) p.2)
    (moves limits old new c.calls_follow_histories.ensures.moving c.in-MoveCard.book
    c.in-MoveCard.to c.in-MoveCard.uid c.in-MoveCard.expect
    (Err c.in_err-numbers-in-MoveCard.field-0.0)
    (subst (λ (book : List ℕ). MatchesStep (Err c.in_err-numbers-in-MoveCard.field-0.0)
    (move_step limits old book c.in-MoveCard.to c.in-MoveCard.uid c.in-MoveCard.expect) old new)
    c.as_str-in-MoveCard.ensures
    (subst (λ (to : List ℕ). MatchesStep (Err c.in_err-numbers-in-MoveCard.field-0.0)
    (move_step limits old c.as_str-in-MoveCard.result.now to c.in-MoveCard.uid
    c.in-MoveCard.expect) old new) c.as_str-in-MoveCard-2.ensures
    (subst (λ (uid : List ℕ). MatchesStep (Err c.in_err-numbers-in-MoveCard.field-0.0)
    (move_step limits old c.as_str-in-MoveCard.result.now c.as_str-in-MoveCard-2.result.now uid
    c.in-MoveCard.expect) old new) c.as_str-in-MoveCard-3.ensures
    (c.in_err-numbers-in-MoveCard.ensures.step premise)))))

pub returns-in_ok-numbers-in-MoveCard-clause-step :
    goal.returns-in_ok-numbers-in-MoveCard-clause-step
returns-in_ok-numbers-in-MoveCard-clause-step g c = λ premise.
    let limits = g.S.BookStore.model.limits c.args.store.now in
    let old = g.S.BookStore.model.books c.args.store.now in
    let new = g.S.BookStore.model.books c.move_card.new.self in
    done limits old new c.args.command.now (MoveCard c.in-MoveCard.book c.in-MoveCard.uid
    c.in-MoveCard.to c.in-MoveCard.expect) (reply.Moved c.in_ok-numbers-in-MoveCard.numbers)
    c.in-MoveCard.is
    (moves limits old new c.calls_follow_histories.ensures.moving c.in-MoveCard.book
    c.in-MoveCard.to c.in-MoveCard.uid c.in-MoveCard.expect
    (Ok c.in_ok-numbers-in-MoveCard.numbers)
    (subst (λ (book : List ℕ). MatchesStep (Ok c.in_ok-numbers-in-MoveCard.numbers)
    (move_step limits old book c.in-MoveCard.to c.in-MoveCard.uid c.in-MoveCard.expect) old new)
    c.as_str-in-MoveCard.ensures
    (subst (λ (to : List ℕ). MatchesStep (Ok c.in_ok-numbers-in-MoveCard.numbers)
    (move_step limits old c.as_str-in-MoveCard.result.now to c.in-MoveCard.uid
    c.in-MoveCard.expect) old new) c.as_str-in-MoveCard-2.ensures
    (subst (λ (uid : List ℕ). MatchesStep (Ok c.in_ok-numbers-in-MoveCard.numbers)
    (move_step limits old c.as_str-in-MoveCard.result.now c.as_str-in-MoveCard-2.result.now uid
    c.in-MoveCard.expect) old new) c.as_str-in-MoveCard-3.ensures
    (c.in_ok-numbers-in-MoveCard.ensures.step premise)))))

-- ---- imports and forgetting

pub returns-in_ok-tally-in-Import-clause-step : goal.returns-in_ok-tally-in-Import-clause-step
returns-in_ok-tally-in-Import-clause-step g c = λ premise.
    let limits = g.S.BookStore.model.limits c.args.store.now in
    let old = g.S.BookStore.model.books c.args.store.now in
    let new = g.S.BookStore.model.books c.import_body.new.store in
    done limits old new c.args.command.now (Import c.in-Import.book c.in-Import.key
    c.in-Import.body) (reply.Imported c.in_ok-tally-in-Import.tally) c.in-Import.is
    (c.in_ok-tally-in-Import.ensures.step premise)

pub returns-in_err-dropped-in-Forget-clause-step : goal.returns-in_err-dropped-in-Forget-clause-step
returns-in_err-dropped-in-Forget-clause-step g c = λ premise.
    let limits = g.S.BookStore.model.limits c.args.store.now in
    let old = g.S.BookStore.model.books c.args.store.now in
    let new = g.S.BookStore.model.books c.forget.new.self in
    let p = err_from_is_err_and c.from_residual-in_err-dropped-in-Forget.result
    c.from_residual-in_err-dropped-in-Forget.ensures.1 in
    denied limits old new c.args.command.now (Forget c.in-Forget.book c.in-Forget.upto)
    c.from_residual-in_err-dropped-in-Forget.result c.in_err-dropped-in-Forget.field-0.0
    c.in-Forget.is (p.1 ∙ ap (λ (d : Denied). Err d) p.2)
    (forgets limits old new c.calls_follow_histories.ensures.forgetting c.in-Forget.book
    c.in-Forget.upto (Err c.in_err-dropped-in-Forget.field-0.0)
    (subst (λ (book : List ℕ). MatchesStep (Err c.in_err-dropped-in-Forget.field-0.0)
    (forget_step old book c.in-Forget.upto) old new) c.as_str-in-Forget.ensures
    (c.in_err-dropped-in-Forget.ensures.step premise)))

pub returns-in_ok-dropped-in-Forget-clause-step : goal.returns-in_ok-dropped-in-Forget-clause-step
returns-in_ok-dropped-in-Forget-clause-step g c = λ premise.
    let limits = g.S.BookStore.model.limits c.args.store.now in
    let old = g.S.BookStore.model.books c.args.store.now in
    let new = g.S.BookStore.model.books c.forget.new.self in
    done limits old new c.args.command.now (Forget c.in-Forget.book c.in-Forget.upto)
    (reply.Forgot c.in_ok-dropped-in-Forget.dropped c.in-Forget.upto) c.in-Forget.is
    (forgets limits old new c.calls_follow_histories.ensures.forgetting c.in-Forget.book
    c.in-Forget.upto (Ok c.in_ok-dropped-in-Forget.dropped)
    (subst (λ (book : List ℕ). MatchesStep (Ok c.in_ok-dropped-in-Forget.dropped)
    (forget_step old book c.in-Forget.upto) old new) c.as_str-in-Forget.ensures
    (c.in_ok-dropped-in-Forget.ensures.step premise)))

-- ---- what a whole book gives: tally, export, people

pub returns-in_err-tally-in-TallyOf-clause-step : goal.returns-in_err-tally-in-TallyOf-clause-step
returns-in_err-tally-in-TallyOf-clause-step g c = λ premise.
    let limits = g.S.BookStore.model.limits c.args.store.now in
    let old = g.S.BookStore.model.books c.args.store.now in
    let new = g.S.BookStore.model.books c.tally.new.self in
    let p = err_from_is_err_and c.from_residual-in_err-tally-in-TallyOf.result
    c.from_residual-in_err-tally-in-TallyOf.ensures.1 in
    denied limits old new c.args.command.now (TallyOf c.in-TallyOf.book)
    c.from_residual-in_err-tally-in-TallyOf.result c.in_err-tally-in-TallyOf.field-0.0
    c.in-TallyOf.is (p.1 ∙ ap (λ (d : Denied). Err d) p.2)
    (tallies limits old new c.calls_follow_histories.ensures.tallies c.in-TallyOf.book
    (Err c.in_err-tally-in-TallyOf.field-0.0)
    (subst (λ (book : List ℕ). ReturnsExactly (Err c.in_err-tally-in-TallyOf.field-0.0)
    (tally_step old book) old new) c.as_str-in-TallyOf.ensures
    (c.in_err-tally-in-TallyOf.ensures.step premise)))

pub returns-in_ok-tally-in-TallyOf-clause-step : goal.returns-in_ok-tally-in-TallyOf-clause-step
returns-in_ok-tally-in-TallyOf-clause-step g c = λ premise.
    let limits = g.S.BookStore.model.limits c.args.store.now in
    let old = g.S.BookStore.model.books c.args.store.now in
    let new = g.S.BookStore.model.books c.tally.new.self in
    done limits old new c.args.command.now (TallyOf c.in-TallyOf.book)
    (reply.Tally c.in_ok-tally-in-TallyOf.tally) c.in-TallyOf.is
    (tallies limits old new c.calls_follow_histories.ensures.tallies c.in-TallyOf.book
    (Ok c.in_ok-tally-in-TallyOf.tally)
    (subst (λ (book : List ℕ). ReturnsExactly (Ok c.in_ok-tally-in-TallyOf.tally)
    (tally_step old book) old new) c.as_str-in-TallyOf.ensures
    (c.in_ok-tally-in-TallyOf.ensures.step premise)))

pub returns-in_ok-text-in-Export-clause-step : goal.returns-in_ok-text-in-Export-clause-step
returns-in_ok-text-in-Export-clause-step g c = λ premise.
    let limits = g.S.BookStore.model.limits c.args.store.now in
    let old = g.S.BookStore.model.books c.args.store.now in
    let new = g.S.BookStore.model.books c.export.new.store in
    done limits old new c.args.command.now (Export c.in-Export.book c.in-Export.form)
    (reply.Csv c.in_ok-text-in-Export.text) c.in-Export.is
    (c.in_ok-text-in-Export.ensures.step premise)

pub returns-in_ok-expansion-in-People-clause-step :
    goal.returns-in_ok-expansion-in-People-clause-step
returns-in_ok-expansion-in-People-clause-step g c = λ premise.
    let limits = g.S.BookStore.model.limits c.args.store.now in
    let old = g.S.BookStore.model.books c.args.store.now in
    let new = g.S.BookStore.model.books c.people.new.store in
    done limits old new c.args.command.now (People c.in-People.book c.in-People.uid)
    (reply.People c.in_ok-expansion-in-People.expansion) c.in-People.is
    (c.in_ok-expansion-in-People.ensures.step premise)

pub returns-in_err-id-in-CreateBook-clause-crash : goal.returns-in_err-id-in-CreateBook-clause-crash
returns-in_err-id-in-CreateBook-clause-crash g c =
    let p = err_from_is_err_and c.from_residual.result c.from_residual.ensures.1 in
    let answers = denial_answers ℕ c.from_residual.result c.in_err-id-in-CreateBook.field-0.0
    (g.S.BookStore.model.premise c.create_book.new.self) (p.1
    ∙ ap (λ (d : Denied). Err d) p.2) in
    create_leaves g.S.BookStore.model c.args.store.now c.create_book.new.self c.from_residual.result
    c.args.command.now c.calls_follow_histories.ensures.creating
    (subst IsInRange c.create_book.ensures.terms.limits c.create_book.ensures.terms.range)
    c.in-CreateBook.book c.as_str.result.now (Err c.in_err-id-in-CreateBook.field-0.0)
    c.in-CreateBook.is c.as_str.ensures answers c.in_err-id-in-CreateBook.ensures.crash

pub returns-in_ok-id-in-CreateBook-clause-crash : goal.returns-in_ok-id-in-CreateBook-clause-crash
returns-in_ok-id-in-CreateBook-clause-crash g c =
    create_leaves g.S.BookStore.model c.args.store.now c.create_book.new.self
    (Ok (reply.Created c.in_ok-id-in-CreateBook.id)) c.args.command.now
    c.calls_follow_histories.ensures.creating
    (subst IsInRange c.create_book.ensures.terms.limits c.create_book.ensures.terms.range)
    c.in-CreateBook.book c.as_str.result.now (Ok c.in_ok-id-in-CreateBook.id) c.in-CreateBook.is
    c.as_str.ensures (λ holds. holds) c.in_ok-id-in-CreateBook.ensures.crash

pub returns-in_err-number-in-Remove-clause-crash : goal.returns-in_err-number-in-Remove-clause-crash
returns-in_err-number-in-Remove-clause-crash g c =
    let p = err_from_is_err_and c.from_residual-in_err-number-in-Remove.result
    c.from_residual-in_err-number-in-Remove.ensures.1 in
    let answers = denial_answers ℕ c.from_residual-in_err-number-in-Remove.result
    c.in_err-number-in-Remove.field-0.0 (g.S.BookStore.model.premise c.remove.new.self) (p.1
    ∙ ap (λ (d : Denied). Err d) p.2) in
    remove_leaves g.S.BookStore.model c.args.store.now c.remove.new.self
    c.from_residual-in_err-number-in-Remove.result c.args.command.now
    c.calls_follow_histories.ensures.removing
    c.in-Remove.book c.in-Remove.uid c.as_str-in-Remove.result.now c.as_str-in-Remove-2.result.now
    c.in-Remove.expect (Err c.in_err-number-in-Remove.field-0.0) c.in-Remove.is
    c.as_str-in-Remove.ensures c.as_str-in-Remove-2.ensures answers
    c.in_err-number-in-Remove.ensures.crash

pub returns-in_ok-number-in-Remove-clause-crash : goal.returns-in_ok-number-in-Remove-clause-crash
returns-in_ok-number-in-Remove-clause-crash g c =
    remove_leaves g.S.BookStore.model c.args.store.now c.remove.new.self
    (Ok (reply.Gone c.in_ok-number-in-Remove.number)) c.args.command.now
    c.calls_follow_histories.ensures.removing
    c.in-Remove.book c.in-Remove.uid c.as_str-in-Remove.result.now c.as_str-in-Remove-2.result.now
    c.in-Remove.expect (Ok c.in_ok-number-in-Remove.number) c.in-Remove.is
    c.as_str-in-Remove.ensures c.as_str-in-Remove-2.ensures (λ holds. holds)
    c.in_ok-number-in-Remove.ensures.crash

pub returns-in_err-numbers-in-MoveCard-clause-crash :
    goal.returns-in_err-numbers-in-MoveCard-clause-crash
returns-in_err-numbers-in-MoveCard-clause-crash g c =
    let p = err_from_is_err_and c.from_residual-in_err-numbers-in-MoveCard.result
    c.from_residual-in_err-numbers-in-MoveCard.ensures.1 in
    let answers = denial_answers Moved c.from_residual-in_err-numbers-in-MoveCard.result
    c.in_err-numbers-in-MoveCard.field-0.0 (g.S.BookStore.model.premise c.move_card.new.self)
    (p.1 ∙ ap (λ (d : Denied). Err d) p.2) in
    move_leaves g.S.BookStore.model c.args.store.now c.move_card.new.self
    c.from_residual-in_err-numbers-in-MoveCard.result c.args.command.now
    c.calls_follow_histories.ensures.moving
    c.in-MoveCard.book c.in-MoveCard.to c.in-MoveCard.uid c.as_str-in-MoveCard.result.now
    c.as_str-in-MoveCard-2.result.now c.as_str-in-MoveCard-3.result.now c.in-MoveCard.expect
    (Err c.in_err-numbers-in-MoveCard.field-0.0)
    c.in-MoveCard.is c.as_str-in-MoveCard.ensures c.as_str-in-MoveCard-2.ensures
    c.as_str-in-MoveCard-3.ensures answers c.in_err-numbers-in-MoveCard.ensures.crash

pub returns-in_ok-numbers-in-MoveCard-clause-crash :
    goal.returns-in_ok-numbers-in-MoveCard-clause-crash
returns-in_ok-numbers-in-MoveCard-clause-crash g c =
    move_leaves g.S.BookStore.model c.args.store.now c.move_card.new.self
    (Ok (reply.Moved c.in_ok-numbers-in-MoveCard.numbers)) c.args.command.now
    c.calls_follow_histories.ensures.moving
    c.in-MoveCard.book c.in-MoveCard.to c.in-MoveCard.uid c.as_str-in-MoveCard.result.now
    c.as_str-in-MoveCard-2.result.now c.as_str-in-MoveCard-3.result.now c.in-MoveCard.expect
    (Ok c.in_ok-numbers-in-MoveCard.numbers)
    c.in-MoveCard.is c.as_str-in-MoveCard.ensures c.as_str-in-MoveCard-2.ensures
    c.as_str-in-MoveCard-3.ensures (λ holds. holds) c.in_ok-numbers-in-MoveCard.ensures.crash

pub returns-in_err-dropped-in-Forget-clause-crash :
    goal.returns-in_err-dropped-in-Forget-clause-crash
returns-in_err-dropped-in-Forget-clause-crash g c =
    let p = err_from_is_err_and c.from_residual-in_err-dropped-in-Forget.result
    c.from_residual-in_err-dropped-in-Forget.ensures.1 in
    let answers = denial_answers ℕ c.from_residual-in_err-dropped-in-Forget.result
    c.in_err-dropped-in-Forget.field-0.0 (g.S.BookStore.model.premise c.forget.new.self) (p.1
    ∙ ap (λ (d : Denied). Err d) p.2) in
    forget_leaves g.S.BookStore.model c.args.store.now c.forget.new.self
    c.from_residual-in_err-dropped-in-Forget.result c.args.command.now
    c.calls_follow_histories.ensures.forgetting
    c.in-Forget.book c.as_str-in-Forget.result.now c.in-Forget.upto
    (Err c.in_err-dropped-in-Forget.field-0.0) c.in-Forget.is c.as_str-in-Forget.ensures answers
    c.in_err-dropped-in-Forget.ensures.crash

pub returns-in_ok-dropped-in-Forget-clause-crash : goal.returns-in_ok-dropped-in-Forget-clause-crash
returns-in_ok-dropped-in-Forget-clause-crash g c =
    forget_leaves g.S.BookStore.model c.args.store.now c.forget.new.self
    (Ok (reply.Forgot c.in_ok-dropped-in-Forget.dropped c.in-Forget.upto)) c.args.command.now
    c.calls_follow_histories.ensures.forgetting
    c.in-Forget.book c.as_str-in-Forget.result.now c.in-Forget.upto
    (Ok c.in_ok-dropped-in-Forget.dropped) c.in-Forget.is c.as_str-in-Forget.ensures
    (λ holds. holds) c.in_ok-dropped-in-Forget.ensures.crash

pub returns-in_err-lines-in-Books-clause-crash : goal.returns-in_err-lines-in-Books-clause-crash
returns-in_err-lines-in-Books-clause-crash g c =
    let p = err_from_is_err_and c.from_residual-in_err-lines-in-Books.result
    c.from_residual-in_err-lines-in-Books.ensures.1 in
    let answers = denial_answers (Vec BookLine Global) c.from_residual-in_err-lines-in-Books.result
    c.in_err-lines-in-Books.field-0.0 (g.S.BookStore.model.premise c.books.new.self) (p.1
    ∙ ap (λ (d : Denied). Err d) p.2) in
    read_leaves g.S.BookStore.model c.args.store.now c.books.new.self
    (Err c.in_err-lines-in-Books.field-0.0) c.from_residual-in_err-lines-in-Books.result
    c.args.command.now answers c.in_err-lines-in-Books.ensures.crash

pub returns-in_ok-lines-in-Books-clause-crash : goal.returns-in_ok-lines-in-Books-clause-crash
returns-in_ok-lines-in-Books-clause-crash g c =
    read_leaves g.S.BookStore.model c.args.store.now c.books.new.self
    (Ok c.in_ok-lines-in-Books.lines) (Ok (reply.Books c.from_vec.result)) c.args.command.now
    (λ holds. holds) c.in_ok-lines-in-Books.ensures.crash

pub returns-in_err-version-in-Get-clause-crash : goal.returns-in_err-version-in-Get-clause-crash
returns-in_err-version-in-Get-clause-crash g c =
    let p = err_from_is_err_and c.from_residual-in_err-version-in-Get.result
    c.from_residual-in_err-version-in-Get.ensures.1 in
    let answers = denial_answers Stored c.from_residual-in_err-version-in-Get.result
    c.in_err-version-in-Get.field-0.0 (g.S.BookStore.model.premise c.get.new.self) (p.1
    ∙ ap (λ (d : Denied). Err d) p.2) in
    read_leaves g.S.BookStore.model c.args.store.now c.get.new.self
    (Err c.in_err-version-in-Get.field-0.0) c.from_residual-in_err-version-in-Get.result
    c.args.command.now answers c.in_err-version-in-Get.ensures.crash

pub returns-in_err-uid-in-Get-clause-crash : goal.returns-in_err-uid-in-Get-clause-crash
returns-in_err-uid-in-Get-clause-crash g c =
    let p = err_from_is_err_and c.from_residual-in_err-uid-in-Get.result
    c.from_residual-in_err-uid-in-Get.ensures.1 in
    read_leaves g.S.BookStore.model c.args.store.now c.get.new.self
    (Ok c.in_ok-version-in-Get.field-0) c.from_residual-in_err-uid-in-Get.result
    c.args.command.now
    (λ holds. denial_answers Stored c.from_residual-in_err-uid-in-Get.result (Fault Memory)
    (g.S.BookStore.model.premise c.get.new.self) (p.1 ∙ ap (λ (d : Denied). Err d) p.2) tt)
    c.in_ok-version-in-Get.ensures.crash

pub returns-in_ok-uid-in-Get-clause-crash : goal.returns-in_ok-uid-in-Get-clause-crash
returns-in_ok-uid-in-Get-clause-crash g c =
    let stored : Stored = c.in_ok-version-in-Get.field-0 in
    read_leaves g.S.BookStore.model c.args.store.now c.get.new.self (Ok stored)
    (Ok (reply.Card c.in_ok-uid-in-Get.uid stored.version stored.card)) c.args.command.now
    (λ holds. holds) c.in_ok-version-in-Get.ensures.crash

pub returns-in_err-tally-in-TallyOf-clause-crash : goal.returns-in_err-tally-in-TallyOf-clause-crash
returns-in_err-tally-in-TallyOf-clause-crash g c =
    let p = err_from_is_err_and c.from_residual-in_err-tally-in-TallyOf.result
    c.from_residual-in_err-tally-in-TallyOf.ensures.1 in
    let answers = denial_answers Tally c.from_residual-in_err-tally-in-TallyOf.result
    c.in_err-tally-in-TallyOf.field-0.0 (g.S.BookStore.model.premise c.tally.new.self) (p.1
    ∙ ap (λ (d : Denied). Err d) p.2) in
    read_leaves g.S.BookStore.model c.args.store.now c.tally.new.self
    (Err c.in_err-tally-in-TallyOf.field-0.0) c.from_residual-in_err-tally-in-TallyOf.result
    c.args.command.now answers c.in_err-tally-in-TallyOf.ensures.crash

pub returns-in_ok-tally-in-TallyOf-clause-crash : goal.returns-in_ok-tally-in-TallyOf-clause-crash
returns-in_ok-tally-in-TallyOf-clause-crash g c =
    read_leaves g.S.BookStore.model c.args.store.now c.tally.new.self
    (Ok c.in_ok-tally-in-TallyOf.tally) (Ok (reply.Tally c.in_ok-tally-in-TallyOf.tally))
    c.args.command.now (λ holds. holds) c.in_ok-tally-in-TallyOf.ensures.crash

pub returns-in_ok-text-in-Export-clause-crash : goal.returns-in_ok-text-in-Export-clause-crash
returns-in_ok-text-in-Export-clause-crash g c =
    read_leaves g.S.BookStore.model c.args.store.now c.export.new.store
    (Ok c.in_ok-text-in-Export.text) (Ok (reply.Csv c.in_ok-text-in-Export.text))
    c.args.command.now (λ holds. holds) c.in_ok-text-in-Export.ensures.crash

pub returns-in_ok-expansion-in-People-clause-crash :
    goal.returns-in_ok-expansion-in-People-clause-crash
returns-in_ok-expansion-in-People-clause-crash g c =
    read_leaves g.S.BookStore.model c.args.store.now c.people.new.store
    (Ok c.in_ok-expansion-in-People.expansion)
    (Ok (reply.People c.in_ok-expansion-in-People.expansion)) c.args.command.now
    (λ holds. holds) c.in_ok-expansion-in-People.ensures.crash

pub returns-in_ok-answer-in-Put-clause-crash : goal.returns-in_ok-answer-in-Put-clause-crash
returns-in_ok-answer-in-Put-clause-crash g c =
    passes_on g.S.BookStore.model c.args.store.now c.put.new.store (Ok c.in_ok-answer-in-Put.answer)
    (Ok (reply.Put c.in_ok-answer-in-Put.answer)) c.args.command.now
    (Put c.in-Put.book c.in-Put.uid c.in-Put.expect c.in-Put.text) c.in-Put.is (λ holds. holds)
    c.in_ok-answer-in-Put.ensures.crash

pub returns-in_ok-tally-in-Import-clause-crash : goal.returns-in_ok-tally-in-Import-clause-crash
returns-in_ok-tally-in-Import-clause-crash g c =
    passes_on g.S.BookStore.model c.args.store.now c.import_body.new.store
    (Ok c.in_ok-tally-in-Import.tally) (Ok (reply.Imported c.in_ok-tally-in-Import.tally))
    c.args.command.now (Import c.in-Import.book c.in-Import.key c.in-Import.body) c.in-Import.is
    (λ holds. holds) c.in_ok-tally-in-Import.ensures.crash

pub returns-in_err-answer-in-Put-clause-crash : goal.returns-in_err-answer-in-Put-clause-crash
returns-in_err-answer-in-Put-clause-crash g c =
    let p = err_from_is_err_and c.from_residual-in_err-answer-in-Put.result
    c.from_residual-in_err-answer-in-Put.ensures.1 in
    let answers = denial_answers PutAnswer c.from_residual-in_err-answer-in-Put.result
    c.in_err-answer-in-Put.field-0.0 (g.S.BookStore.model.premise c.put.new.store) (p.1
    ∙ ap (λ (d : Denied). Err d) p.2) in
    passes_on g.S.BookStore.model c.args.store.now c.put.new.store
    (Err c.in_err-answer-in-Put.field-0.0) c.from_residual-in_err-answer-in-Put.result
    c.args.command.now (Put c.in-Put.book c.in-Put.uid c.in-Put.expect c.in-Put.text)
    c.in-Put.is answers c.in_err-answer-in-Put.ensures.crash

pub returns-in_err-tally-in-Import-clause-crash : goal.returns-in_err-tally-in-Import-clause-crash
returns-in_err-tally-in-Import-clause-crash g c =
    let p = err_from_is_err_and c.from_residual-in_err-tally-in-Import.result
    c.from_residual-in_err-tally-in-Import.ensures.1 in
    let answers = denial_answers ImportTally c.from_residual-in_err-tally-in-Import.result
    c.in_err-tally-in-Import.field-0.0 (g.S.BookStore.model.premise c.import_body.new.store)
    (p.1 ∙ ap (λ (d : Denied). Err d) p.2) in
    passes_on g.S.BookStore.model c.args.store.now c.import_body.new.store
    (Err c.in_err-tally-in-Import.field-0.0) c.from_residual-in_err-tally-in-Import.result
    c.args.command.now (Import c.in-Import.book c.in-Import.key c.in-Import.body) c.in-Import.is
    answers c.in_err-tally-in-Import.ensures.crash

pub returns-in_ok-page-in-Report-clause-crash : goal.returns-in_ok-page-in-Report-clause-crash
returns-in_ok-page-in-Report-clause-crash g c =
    read_leaves g.S.BookStore.model c.args.store.now c.report.new.store
    (Ok c.in_ok-page-in-Report.page) (Ok (reply.Page c.in_ok-page-in-Report.page))
    c.args.command.now (λ holds. holds) c.in_ok-page-in-Report.ensures.crash

pub returns-in_err-page-in-Report-clause-crash : goal.returns-in_err-page-in-Report-clause-crash
returns-in_err-page-in-Report-clause-crash g c =
    let p = err_from_is_err_and c.from_residual-in_err-page-in-Report.result
    c.from_residual-in_err-page-in-Report.ensures.1 in
    let answers = denial_answers Page c.from_residual-in_err-page-in-Report.result
    c.in_err-page-in-Report.field-0.0 (g.S.BookStore.model.premise c.report.new.store) (p.1
    ∙ ap (λ (d : Denied). Err d) p.2) in
    read_leaves g.S.BookStore.model c.args.store.now c.report.new.store
    (Err c.in_err-page-in-Report.field-0.0) c.from_residual-in_err-page-in-Report.result
    c.args.command.now answers c.in_err-page-in-Report.ensures.crash

pub returns-in_err-text-in-Export-clause-crash : goal.returns-in_err-text-in-Export-clause-crash
returns-in_err-text-in-Export-clause-crash g c =
    let p = err_from_is_err_and c.from_residual-in_err-text-in-Export.result
    c.from_residual-in_err-text-in-Export.ensures.1 in
    let answers = denial_answers (List ℕ) c.from_residual-in_err-text-in-Export.result
    c.in_err-text-in-Export.field-0.0 (g.S.BookStore.model.premise c.export.new.store) (p.1
    ∙ ap (λ (d : Denied). Err d) p.2) in
    read_leaves g.S.BookStore.model c.args.store.now c.export.new.store
    (Err c.in_err-text-in-Export.field-0.0) c.from_residual-in_err-text-in-Export.result
    c.args.command.now answers c.in_err-text-in-Export.ensures.crash

pub returns-in_err-expansion-in-People-clause-crash :
    goal.returns-in_err-expansion-in-People-clause-crash
returns-in_err-expansion-in-People-clause-crash g c =
    let p = err_from_is_err_and c.from_residual-in_err-expansion-in-People.result
    c.from_residual-in_err-expansion-in-People.ensures.1 in
    let answers = denial_answers Expansion c.from_residual-in_err-expansion-in-People.result
    c.in_err-expansion-in-People.field-0.0 (g.S.BookStore.model.premise c.people.new.store) (p.1
    ∙ ap (λ (d : Denied). Err d) p.2) in
    read_leaves g.S.BookStore.model c.args.store.now c.people.new.store
    (Err c.in_err-expansion-in-People.field-0.0)
    c.from_residual-in_err-expansion-in-People.result c.args.command.now answers
    c.in_err-expansion-in-People.ensures.crash
