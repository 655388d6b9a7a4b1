-- An import command replies with the kept answer, the denial of its body, or the store's answer.
-- Given here: a lemma for each case, by two laws: kept answers and imports refine histories. After
-- `if let` no answer is kept (`none_is`), so the body counts. Its cards have distinct UIDs
-- (`are_distinct`), which `import` requires.
-- If the body is read before the look-up, `body_not` breaks first.
use Rattle.std.proofs.Common.{◌≡◌, ℕ, List, Option, Some, None, Result, Ok, Err, refl, sym, ap, ◌∙◌}
use Rattle.std.proofs.Common.{subst}
use Rattle.std.proofs.lemmas.Result.{err_from_is_err_and}
use Rattle.vcard_lines.specs.declared.line.Line.{Line}
use Rattle.csv_cards.specs.Reading.{TextHasCards}
use Rattle.book_model.specs.declared.answers.ImportTally.{ImportTally}
use Rattle.book_model.specs.declared.denied.Denied.{Denied}
use Rattle.book_model.specs.Bounds.{Bounds}
use Rattle.book_model.specs.Books.{Books}
use Rattle.book_model.specs.Importing.{import_step, kept_import_step}
use Rattle.book_model.specs.ImportLaws.{HaveDistinctUids}
use Rattle.book_model.specs.CallOutcomes.{MatchesStep, ReturnsExactly}
use Rattle.book_commands.specs.declared.command.Command.TheVariants.{Import}
use Rattle.book_commands.specs.declared.reply.Reply.TheVariants as reply
use Rattle.book_service.specs.internal.RowSteps.{CommandOnRows}
use Rattle.book_service.specs.Replies.{reply_to}
use Rattle.book_service.specs.internal.TextParsers.{DeniesBody}
use Rattle.book_service.proofs.CrashLemmas.{denial_answers, holds_anyway, leaves_after_read}
use Rattle.book_service.proofs.CrashLemmas.{matched, read_leaves}
use Rattle.book_service.proofs.ImportLemmas.{are_distinct, kept_not, returns_stored, body_not}
use Rattle.book_service.proofs.ImportLemmas.{imports_cards}
use Rattle.book_service.proofs.importing.import_body.Goals as goal

-- the store's result, by the fields of the command
received_as : (old new : Books) (call_result : Result (Option ImportTally) Denied)
    (book named key of_key : List ℕ) → book ≡ named → key ≡ of_key
    → ReturnsExactly call_result (kept_import_step old book key) old new
    → ReturnsExactly call_result (kept_import_step old named of_key) old new
received_as old new call_result book named key of_key same_book same_key d =
    subst (λ (b : List ℕ). ReturnsExactly call_result (kept_import_step old b of_key) old new)
    same_book (subst (λ (k : List ℕ). ReturnsExactly call_result (kept_import_step old book k)
    old new) same_key d)

-- no result is stored if none is returned
none_is : (kept : Option ImportTally) → ((tally : ImportTally) → kept ≡ Some tally → ⊥)
    → kept ≡ None
none_is None none = refl
none_is (Some tally) none = absurd (none tally refl)

pub returns-in_err-kept-clause-step : goal.returns-in_err-kept-clause-step
returns-in_err-kept-clause-step g c = λ premise.
    let limits = g.S.BookStore.model.limits c.args.store.now in
    let old = g.S.BookStore.model.books c.args.store.now in
    let new = g.S.BookStore.model.books c.kept_import.new.self in
    let p = err_from_is_err_and c.from_residual.result c.from_residual.ensures.1 in
    subst (λ (o : Result ImportTally Denied). CommandOnRows limits old
    (Import c.args.book.now c.args.key.now c.args.body.now) (reply_to reply.Imported o) new)
    (sym (p.1 ∙ ap (λ (d : Denied). Err d) p.2))
    (kept_not limits old new c.args.book.now c.args.key.now c.args.body.now
    c.kept_imports_refine_histories.ensures c.in_err-kept.field-0.0
    (received_as old new (Err c.in_err-kept.field-0.0) c.as_str.result.now c.args.book.now
    c.as_str-2.result.now c.args.key.now c.as_str.ensures c.as_str-2.ensures
    (c.in_err-kept.ensures.step premise)))

pub returns-in-Some-clause-step : goal.returns-in-Some-clause-step
returns-in-Some-clause-step g c = λ premise.
    let limits = g.S.BookStore.model.limits c.args.store.now in
    let old = g.S.BookStore.model.books c.args.store.now in
    let new = g.S.BookStore.model.books c.kept_import.new.self in
    returns_stored limits old new c.args.book.now c.args.key.now c.args.body.now
    c.kept_imports_refine_histories.ensures c.in-Some.kept
    (subst (λ (k : Option ImportTally). ReturnsExactly (Ok k) (kept_import_step old c.args.book.now
    c.args.key.now) old new) c.in-Some.is
    (received_as old new (Ok c.in_ok-kept.field-0) c.as_str.result.now c.args.book.now
    c.as_str-2.result.now c.args.key.now c.as_str.ensures c.as_str-2.ensures
    (c.in_ok-kept.ensures.step premise)))

pub returns-in_err-cards-clause-step : goal.returns-in_err-cards-clause-step
returns-in_err-cards-clause-step g c = λ premise.
    let limits = g.S.BookStore.model.limits c.args.store.now in
    let old = g.S.BookStore.model.books c.args.store.now in
    let new = g.S.BookStore.model.books c.kept_import.new.self in
    let p = err_from_is_err_and c.from_residual-in_err-cards.result
    c.from_residual-in_err-cards.ensures.1 in
    subst (λ (o : Result ImportTally Denied). CommandOnRows limits old
    (Import c.args.book.now c.args.key.now c.args.body.now) (reply_to reply.Imported o) new)
    (sym (p.1 ∙ ap (λ (d : Denied). Err d) p.2))
    (body_not limits old new c.args.book.now c.args.key.now c.args.body.now
    c.kept_imports_refine_histories.ensures c.in_err-cards.field-0.0
    (subst (λ (k : Option ImportTally). ReturnsExactly (Ok k) (kept_import_step old c.args.book.now
    c.args.key.now) old new) (none_is c.in_ok-kept.field-0 (λ tally is. c.in_default.not-Some
    tally is))
    (received_as old new (Ok c.in_ok-kept.field-0) c.as_str.result.now c.args.book.now
    c.as_str-2.result.now c.args.key.now c.as_str.ensures c.as_str-2.ensures
    (c.in_ok-kept.ensures.step premise)))
    (subst (λ (body : List ℕ). DeniesBody body c.in_err-cards.field-0.0) c.as_slice.ensures
    c.in_err-cards.ensures.denied))

pub import-requires : goal.import-requires
import-requires g c = record {
  distinct = subst HaveDistinctUids (sym c.as_slice-2.ensures.value)
      (are_distinct c.as_slice.result.now c.in_ok-cards.cards.items c.in_ok-cards.ensures.cards);
}

pub returns-clause-step : goal.returns-clause-step
returns-clause-step g c = λ premise.
    let limits = g.S.BookStore.model.limits c.args.store.now in
    let old = g.S.BookStore.model.books c.args.store.now in
    let mid = g.S.BookStore.model.books c.kept_import.new.self in
    let new = g.S.BookStore.model.books c.import.new.self in
    imports_cards limits old mid new c.args.book.now c.args.key.now c.args.body.now
    c.kept_imports_refine_histories.ensures c.import_refines_histories.ensures
    c.in_ok-cards.cards.items
    (subst (λ (body : List ℕ). TextHasCards body c.in_ok-cards.cards.items) c.as_slice.ensures
    c.in_ok-cards.ensures.cards)
    (subst (λ (k : Option ImportTally). ReturnsExactly (Ok k) (kept_import_step old c.args.book.now
    c.args.key.now) old mid) (none_is c.in_ok-kept.field-0 (λ tally is. c.in_default.not-Some
    tally is))
    (received_as old mid (Ok c.in_ok-kept.field-0) c.as_str.result.now c.args.book.now
    c.as_str-2.result.now c.args.key.now c.as_str.ensures c.as_str-2.ensures
    (c.in_ok-kept.ensures.step (c.import.ensures.terms.premise premise))))
    c.import.result
    (subst (λ (l : Bounds). MatchesStep c.import.result (import_step l mid c.args.book.now
    c.args.key.now c.in_ok-cards.cards.items) mid new) c.kept_import.ensures.terms.limits
    (subst (λ (book : List ℕ). MatchesStep c.import.result
    (import_step (g.S.BookStore.model.limits c.kept_import.new.self) mid book c.args.key.now
    c.in_ok-cards.cards.items) mid new) c.as_str-3.ensures
    (subst (λ (key : List ℕ). MatchesStep c.import.result
    (import_step (g.S.BookStore.model.limits c.kept_import.new.self) mid c.as_str-3.result.now
    key c.in_ok-cards.cards.items) mid new) c.as_str-4.ensures
    (subst (λ (cards : List (List Line)). MatchesStep c.import.result
    (import_step (g.S.BookStore.model.limits c.kept_import.new.self) mid c.as_str-3.result.now
    c.as_str-4.result.now cards) mid new) c.as_slice-2.ensures.value
    (c.import.ensures.step premise)))))

pub returns-in_err-kept-clause-crash : goal.returns-in_err-kept-clause-crash
returns-in_err-kept-clause-crash g c =
    let p = err_from_is_err_and c.from_residual.result c.from_residual.ensures.1 in
    read_leaves g.S.BookStore.model c.args.store.now c.kept_import.new.self
    (Err c.in_err-kept.field-0.0) c.from_residual.result (Import c.args.book.now c.args.key.now
    c.args.body.now)
    (denial_answers (Option ImportTally) c.from_residual.result c.in_err-kept.field-0.0
    (g.S.BookStore.model.premise c.kept_import.new.self) (p.1 ∙ ap (λ (d : Denied). Err d) p.2))
    c.in_err-kept.ensures.crash

pub returns-in-Some-clause-crash : goal.returns-in-Some-clause-crash
returns-in-Some-clause-crash g c =
    read_leaves g.S.BookStore.model c.args.store.now c.kept_import.new.self
    (Ok c.in_ok-kept.field-0) (Ok c.in-Some.kept) (Import c.args.book.now c.args.key.now
    c.args.body.now) (λ holds. holds) c.in_ok-kept.ensures.crash

pub returns-in_err-cards-clause-crash : goal.returns-in_err-cards-clause-crash
returns-in_err-cards-clause-crash g c =
    read_leaves g.S.BookStore.model c.args.store.now c.kept_import.new.self
    (Ok c.in_ok-kept.field-0) c.from_residual-in_err-cards.result
    (Import c.args.book.now c.args.key.now c.args.body.now)
    (holds_anyway c.from_residual-in_err-cards.result (g.S.BookStore.model.premise
    c.kept_import.new.self)) c.in_ok-kept.ensures.crash

pub returns-clause-crash : goal.returns-clause-crash
returns-clause-crash g c =
    let limits = g.S.BookStore.model.limits c.args.store.now in
    let old = g.S.BookStore.model.books c.args.store.now in
    let mid = g.S.BookStore.model.books c.kept_import.new.self in
    let their = g.S.BookStore.model.limits c.kept_import.new.self in
    let cards = c.in_ok-cards.cards.items in
    leaves_after_read g.S.BookStore.model c.args.store.now c.import.new.self c.kept_import.new.self
    (λ l b. import_step l b c.as_str-3.result.now c.as_str-4.result.now c.as_slice-2.result.now)
    (Ok c.in_ok-kept.field-0) c.import.result (Import c.args.book.now c.args.key.now
    c.args.body.now)
    c.kept_import.ensures.terms.premise
    (λ premise done e. (
      reply.Imported done.0,
      imports_cards limits old mid done.1 c.args.book.now c.args.key.now c.args.body.now
          c.kept_imports_refine_histories.ensures c.import_refines_histories.ensures cards
          (subst (λ (body : List ℕ). TextHasCards body cards) c.as_slice.ensures
          c.in_ok-cards.ensures.cards)
          (subst (λ (k : Option ImportTally). ReturnsExactly (Ok k)
          (kept_import_step old c.args.book.now c.args.key.now) old mid)
          (none_is c.in_ok-kept.field-0 (λ tally is. c.in_default.not-Some tally is))
          (received_as old mid (Ok c.in_ok-kept.field-0) c.as_str.result.now c.args.book.now
          c.as_str-2.result.now c.args.key.now c.as_str.ensures c.as_str-2.ensures
          (c.in_ok-kept.ensures.step premise)))
          (Ok done.0)
          (subst (λ (l : Bounds). MatchesStep (Ok done.0) (import_step l mid c.args.book.now
          c.args.key.now cards) mid done.1) c.kept_import.ensures.terms.limits
          (subst (λ (book : List ℕ). MatchesStep (Ok done.0) (import_step their mid book
          c.args.key.now cards) mid done.1) c.as_str-3.ensures
          (subst (λ (key : List ℕ). MatchesStep (Ok done.0)
          (import_step their mid c.as_str-3.result.now key cards) mid done.1) c.as_str-4.ensures
          (subst (λ (cards : List (List Line)). MatchesStep (Ok done.0)
          (import_step their mid c.as_str-3.result.now c.as_str-4.result.now cards) mid done.1)
          c.as_slice-2.ensures.value (matched _ mid done e))))),
    ))
    c.in_ok-kept.ensures.crash c.import.ensures.crash
