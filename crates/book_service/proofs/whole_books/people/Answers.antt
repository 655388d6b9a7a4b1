-- The reply is the expansion of the group among the live cards of its book, or why there is none.
-- Given here: a case split on the answer of `expand`, whose clauses say in both directions when it
-- fails: so an expansion also shows that the card is there and is a group. If memory runs out, the
-- books are kept (`fails`). `as_named` puts the command's fields in place of the borrowed texts.
-- A new `GroupFault` has no answer here.
use Rattle.std.proofs.Common.{◌≡◌, ℕ, List, Result, Ok, Err, BTreeMap, String, Global, refl, sym}
use Rattle.std.proofs.Common.{ap, ◌∙◌, subst}
use Rattle.std.proofs.lemmas.Result.{err_from_is_err_and}
use Rattle.base_types.specs.TextMaps.{octet_map}
use Rattle.card_core.specs.declared.expansion.Expansion.{Expansion}
use Rattle.card_core.specs.declared.fault.GroupFault.{GroupFault}
use Rattle.card_core.specs.declared.fault.GroupFault.TheVariants as group_fault
use Rattle.book_model.specs.declared.answers.Stored.{Stored}
use Rattle.book_model.specs.declared.denied.Denied.{Denied}
use Rattle.book_model.specs.declared.denied.Denied.TheVariants.{Refused, Fault}
use Rattle.book_model.specs.declared.denied.Fault.TheVariants.{Memory}
use Rattle.book_model.specs.declared.refusal.Refusal.TheVariants.{NoSuchCard, NotGroup}
use Rattle.book_model.specs.Bounds.{Bounds}
use Rattle.book_model.specs.Books.{Books, LiveCards}
use Rattle.book_model.specs.BookQueries.{cards_step}
use Rattle.book_commands.specs.declared.command.Command.TheVariants.{People}
use Rattle.book_commands.specs.declared.reply.Reply.{Reply}
use Rattle.book_commands.specs.declared.reply.Reply.TheVariants as reply
use Rattle.book_service.specs.internal.RowSteps.{CommandOnRows}
use Rattle.book_service.specs.Replies.{denied_reply, reply_to}
use Rattle.book_service.proofs.CrashLemmas.{denial_answers, no_more}
use Rattle.book_service.proofs.WholeBookLemmas.{other_answer, fails, cards_keep, people_not}
use Rattle.book_service.proofs.WholeBookLemmas.{reply_has_no_people, reply_is_not_group}
use Rattle.book_service.proofs.WholeBookLemmas.{reply_has_people}
use Rattle.book_service.proofs.whole_books.people.Goals as goal

-- the same command, by the texts that its fields borrow
as_named : (limits : Bounds) (old new : Books) (r : Reply) (book named uid of_uid : List ℕ)
    → book ≡ named → uid ≡ of_uid → CommandOnRows limits old (People book uid) r new
    → CommandOnRows limits old (People named of_uid) r new
as_named limits old new r book named uid of_uid same_book same_uid does =
    subst (λ (name : List ℕ). CommandOnRows limits old (People name of_uid) r new) same_book
    (subst (λ (u : List ℕ). CommandOnRows limits old (People book u) r new) same_uid does)

pub returns-in_err-stored-clause-step : goal.returns-in_err-stored-clause-step
returns-in_err-stored-clause-step g c = λ premise.
    let limits = g.S.BookStore.model.limits c.args.store.now in
    let old = g.S.BookStore.model.books c.args.store.now in
    let new = g.S.BookStore.model.books c.cards.new.self in
    let p = err_from_is_err_and c.from_residual.result c.from_residual.ensures.1 in
    subst (λ (o : Result Expansion Denied). CommandOnRows limits old
    (People c.args.book.now c.args.uid.now)
    (reply_to (λ (expansion : Expansion). reply.People expansion) o) new) (sym (p.1
    ∙ ap (λ (d : Denied). Err d) p.2))
    (as_named limits old new (denied_reply c.in_err-stored.field-0.0) c.as_str.result.now
    c.args.book.now c.args.uid.now c.args.uid.now c.as_str.ensures refl
    (people_not limits old new c.cards_refine_histories.ensures.all c.as_str.result.now
    c.args.uid.now c.in_err-stored.field-0.0
    (other_answer {A = BTreeMap (String Global) Stored} {B = LiveCards} (λ received cards. octet_map
    cards ≡ received) (λ received cards. cards ≡ received) c.in_err-stored.field-0.0
    (cards_step old c.as_str.result.now) old new (c.in_err-stored.ensures.step premise))))

pub returns-in-Ok-clause-step : goal.returns-in-Ok-clause-step
returns-in-Ok-clause-step g c = λ premise.
    let limits = g.S.BookStore.model.limits c.args.store.now in
    let old = g.S.BookStore.model.books c.args.store.now in
    let new = g.S.BookStore.model.books c.cards.new.self in
    as_named limits old new (reply.People c.in-Ok.expansion) c.as_str.result.now c.args.book.now
    c.as_str-2.result.now c.args.uid.now c.as_str.ensures c.as_str-2.ensures
    (reply_has_people limits old new c.cards_refine_histories.ensures.all c.as_str.result.now
    c.as_str-2.result.now (octet_map c.in_ok-stored.stored) (c.in_ok-stored.ensures.step
    premise) c.in-Ok.expansion c.in-Ok.ensures.expansion
    (λ none. absurd (let no : Ok c.in-Ok.expansion ≡ Err group_fault.NoSuchCard = sym c.in-Ok.is
    ∙ c.expand.ensures.no_such_card.1 none in cc))
    (λ other. absurd (let no : Ok c.in-Ok.expansion ≡ Err group_fault.NotGroup = sym c.in-Ok.is
    ∙ c.expand.ensures.not_group.1 other in cc)))

pub returns-in-Err-NoSuchCard-clause-step : goal.returns-in-Err-NoSuchCard-clause-step
returns-in-Err-NoSuchCard-clause-step g c = λ premise.
    let limits = g.S.BookStore.model.limits c.args.store.now in
    let old = g.S.BookStore.model.books c.args.store.now in
    let new = g.S.BookStore.model.books c.cards.new.self in
    as_named limits old new (reply.Refused NoSuchCard) c.as_str.result.now c.args.book.now
    c.as_str-2.result.now c.args.uid.now c.as_str.ensures c.as_str-2.ensures
    (reply_has_no_people limits old new c.cards_refine_histories.ensures.all c.as_str.result.now
    c.as_str-2.result.now (octet_map c.in_ok-stored.stored) (c.in_ok-stored.ensures.step
    premise)
    (c.expand.ensures.no_such_card.0 (c.in-Err-NoSuchCard.is
    ∙ ap (λ (f : GroupFault). Err f) c.in-Err-NoSuchCard.field-0-is)))

pub returns-in-Err-NotGroup-clause-step : goal.returns-in-Err-NotGroup-clause-step
returns-in-Err-NotGroup-clause-step g c = λ premise.
    let limits = g.S.BookStore.model.limits c.args.store.now in
    let old = g.S.BookStore.model.books c.args.store.now in
    let new = g.S.BookStore.model.books c.cards.new.self in
    as_named limits old new (reply.Refused NotGroup) c.as_str.result.now c.args.book.now
    c.as_str-2.result.now c.args.uid.now c.as_str.ensures c.as_str-2.ensures
    (reply_is_not_group limits old new c.cards_refine_histories.ensures.all c.as_str.result.now
    c.as_str-2.result.now (octet_map c.in_ok-stored.stored) (c.in_ok-stored.ensures.step
    premise)
    (c.expand.ensures.not_group.0 (c.in-Err-NotGroup.is
    ∙ ap (λ (f : GroupFault). Err f) c.in-Err-NotGroup.field-0-is)))

pub returns-clause-step : goal.returns-clause-step
returns-clause-step g c = λ premise.
    let limits = g.S.BookStore.model.limits c.args.store.now in
    let old = g.S.BookStore.model.books c.args.store.now in
    let new = g.S.BookStore.model.books c.cards.new.self in
    fails limits old new (People c.args.book.now c.args.uid.now) Memory
    (cards_keep limits old new (λ received cards. octet_map cards ≡ received)
    (Ok c.in_ok-stored.stored) c.as_str.result.now (c.in_ok-stored.ensures.step premise))

pub returns-in_err-stored-clause-crash : goal.returns-in_err-stored-clause-crash
returns-in_err-stored-clause-crash g c =
    let p = err_from_is_err_and c.from_residual.result c.from_residual.ensures.1 in
    no_more g.S.BookStore.model c.args.store.now c.cards.new.self (Err c.in_err-stored.field-0.0)
    c.from_residual.result
    (denial_answers (BTreeMap (String Global) Stored) c.from_residual.result
    c.in_err-stored.field-0.0 (g.S.BookStore.model.premise c.cards.new.self) (p.1
    ∙ ap (λ (d : Denied). Err d) p.2)) c.in_err-stored.ensures.crash

pub returns-in-Ok-clause-crash : goal.returns-in-Ok-clause-crash
returns-in-Ok-clause-crash g c = no_more g.S.BookStore.model c.args.store.now c.cards.new.self
    (Ok c.in_ok-stored.stored) (Ok c.in-Ok.expansion) (λ holds. holds) c.in_ok-stored.ensures.crash

pub returns-in-Err-NoSuchCard-clause-crash : goal.returns-in-Err-NoSuchCard-clause-crash
returns-in-Err-NoSuchCard-clause-crash g c =
    no_more g.S.BookStore.model c.args.store.now c.cards.new.self (Ok c.in_ok-stored.stored)
    (Err (Refused NoSuchCard)) (λ holds. holds) c.in_ok-stored.ensures.crash

pub returns-in-Err-NotGroup-clause-crash : goal.returns-in-Err-NotGroup-clause-crash
returns-in-Err-NotGroup-clause-crash g c =
    no_more g.S.BookStore.model c.args.store.now c.cards.new.self (Ok c.in_ok-stored.stored)
    (Err (Refused NotGroup)) (λ holds. holds) c.in_ok-stored.ensures.crash

pub returns-clause-crash : goal.returns-clause-crash
returns-clause-crash g c = no_more g.S.BookStore.model c.args.store.now c.cards.new.self
    (Ok c.in_ok-stored.stored) (Err (Fault Memory)) (λ holds. tt) c.in_ok-stored.ensures.crash
