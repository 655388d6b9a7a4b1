use Rattle.std.proofs.Common.{◌≡◌, ℕ, List, Result, Ok, Err, BTreeMap, String, Global, sym, ap, ◌∙◌}
use Rattle.std.proofs.Common.{subst}
use Rattle.std.proofs.lemmas.Result.{err_from_is_err_and}
use Rattle.base_types.specs.TextMaps.{octet_map}
use Rattle.book_model.specs.declared.answers.Stored.{Stored}
use Rattle.book_model.specs.declared.denied.Denied.{Denied}
use Rattle.book_model.specs.declared.denied.Fault.TheVariants.{Memory}
use Rattle.book_model.specs.Books.{LiveCards}
use Rattle.book_model.specs.CallOutcomes.{MatchesQuery}
use Rattle.book_model.specs.BookQueries.{cards_step}
use Rattle.book_commands.specs.declared.command.Command.TheVariants.{Export}
use Rattle.book_commands.specs.declared.reply.Reply.TheVariants as reply
use Rattle.book_service.specs.internal.RowSteps.{CommandOnRows}
use Rattle.book_service.specs.Replies.{reply_to}
use Rattle.book_service.proofs.CrashLemmas.{denial_answers, holds_anyway, no_more}
use Rattle.book_service.proofs.WholeBookLemmas.{other_answer, exports, fails, cards_keep}
use Rattle.book_service.proofs.whole_books.export.Goals as goal

pub returns-in_err-stored-clause-step : goal.returns-in_err-stored-clause-step
returns-in_err-stored-clause-step g c = λ premise.
    let limits = g.S.BookStore.model.limits c.args.store.now in
    let old = g.S.BookStore.model.books c.args.store.now in
    let new = g.S.BookStore.model.books c.cards.new.self in
    let p = err_from_is_err_and c.from_residual.result c.from_residual.ensures.1 in
    subst (λ (o : Result (List ℕ) Denied). CommandOnRows limits old
    (Export c.args.book.now c.args.form) (reply_to (λ (text : List ℕ). reply.Csv text) o) new)
    (sym (p.1 ∙ ap (λ (d : Denied). Err d) p.2))
    (exports limits old new c.cards_refine_histories.ensures.all c.args.book.now c.args.form
    (Err c.in_err-stored.field-0.0)
    (other_answer {A = BTreeMap (String Global) Stored} {B = LiveCards} (λ received cards. octet_map
    cards ≡ received) (λ received cards. cards ≡ received) c.in_err-stored.field-0.0
    (cards_step old c.args.book.now) old new
    (subst (λ (book : List ℕ). MatchesQuery {A = BTreeMap (String Global) Stored}
    (λ received cards. octet_map cards ≡ received) (Err c.in_err-stored.field-0.0)
    (cards_step old book) old new) c.as_str.ensures (c.in_err-stored.ensures.step premise))))

pub returns-in_err-text-clause-step : goal.returns-in_err-text-clause-step
returns-in_err-text-clause-step g c = λ premise.
    let limits = g.S.BookStore.model.limits c.args.store.now in
    let old = g.S.BookStore.model.books c.args.store.now in
    let new = g.S.BookStore.model.books c.cards.new.self in
    let p = err_from_is_err_and c.from_residual-in_err-text.result
    c.from_residual-in_err-text.ensures.1 in
    subst (λ (o : Result (List ℕ) Denied). CommandOnRows limits old
    (Export c.args.book.now c.args.form) (reply_to (λ (text : List ℕ). reply.Csv text) o) new)
    (sym (p.1 ∙ ap (λ (d : Denied). Err d) p.2))
    (fails limits old new (Export c.args.book.now c.args.form) Memory
    (cards_keep limits old new (λ received cards. octet_map cards ≡ received)
    (Ok c.in_ok-stored.stored) c.as_str.result.now (c.in_ok-stored.ensures.step premise)))

pub returns-clause-step : goal.returns-clause-step
returns-clause-step g c = λ premise.
    let limits = g.S.BookStore.model.limits c.args.store.now in
    let old = g.S.BookStore.model.books c.args.store.now in
    let new = g.S.BookStore.model.books c.cards.new.self in
    subst (λ (text : List ℕ). CommandOnRows limits old (Export c.args.book.now c.args.form)
    (reply.Csv text) new) (sym (c.from_vec.ensures ∙ c.in_ok-text.ensures.text))
    (exports limits old new c.cards_refine_histories.ensures.all c.args.book.now c.args.form
    (Ok (octet_map c.in_ok-stored.stored))
    (subst (λ (book : List ℕ). MatchesQuery {A = BTreeMap (String Global) Stored}
    (λ received cards. octet_map cards ≡ received) (Ok c.in_ok-stored.stored)
    (cards_step old book) old new) c.as_str.ensures (c.in_ok-stored.ensures.step premise)))

pub returns-in_err-stored-clause-crash : goal.returns-in_err-stored-clause-crash
returns-in_err-stored-clause-crash g c =
    let p = err_from_is_err_and c.from_residual.result c.from_residual.ensures.1 in
    no_more g.S.BookStore.model c.args.store.now c.cards.new.self (Err c.in_err-stored.field-0.0)
    c.from_residual.result
    (denial_answers (BTreeMap (String Global) Stored) c.from_residual.result
    c.in_err-stored.field-0.0 (g.S.BookStore.model.premise c.cards.new.self) (p.1
    ∙ ap (λ (d : Denied). Err d) p.2)) c.in_err-stored.ensures.crash

pub returns-in_err-text-clause-crash : goal.returns-in_err-text-clause-crash
returns-in_err-text-clause-crash g c =
    no_more g.S.BookStore.model c.args.store.now c.cards.new.self (Ok c.in_ok-stored.stored)
    c.from_residual-in_err-text.result
    (holds_anyway c.from_residual-in_err-text.result (g.S.BookStore.model.premise c.cards.new.self))
    c.in_ok-stored.ensures.crash

pub returns-clause-crash : goal.returns-clause-crash
returns-clause-crash g c = no_more g.S.BookStore.model c.args.store.now c.cards.new.self
    (Ok c.in_ok-stored.stored) (Ok c.from_vec.result) (λ holds. holds) c.in_ok-stored.ensures.crash
