use Rattle.std.proofs.Common.{rules, ◌≡◌, Err, sym, ap, subst, ◌∙◌, arith}
use Rattle.store_lookups.proofs.StoreFaultLemmas.{passed_cause}
use Rattle.store_writes.proofs.TransactionFaults.{refused_cause}
use Rattle.store_removals.proofs.FaultLemmas.{removal_room}
use Rattle.book_model.specs.declared.denied.Denied.TheVariants.{Refused}
use Rattle.book_model.specs.Books.{live_at, as_stored}
use Rattle.book_model.specs.Counting.{live_count}
use Rattle.book_model.specs.Putting.{FoundMember, found_in_book}
use Rattle.book_model.specs.Removing.{remove_number}
use Rattle.store_lookups.specs.CallResults.{FollowsStep, IsExactly}
use Rattle.store_rows.specs.TableBooks.{row_book, line_row}
use Rattle.store_removals.specs.internal.Removals.{removal_number_in}
use Rattle.store_writes.proofs.PlanLemmas.{lookup_is, lookup_of, ok_is_exact, refusal_is_exact}
use Rattle.store_removals.proofs.remove_call.decide_removal.Goals as goal

pub returns-in_err-number-clause-answers : goal.returns-in_err-number-clause-answers
returns-in_err-number-clause-answers g c rows clean holds sound name =
    let book = row_book rows (line_row name c.args.header) in
    let live : live_at book c.args.uid.now ≡ c.in_ok-live.live =
    c.in_ok-live.ensures.live rows clean holds sound name in
    let cards : c.live.result ≡ live_count c.args.header.counts = search rules in
    let same : lookup_of (as_stored c.as_version_and_card.result) c.live.result c.number.result
    ≡ found_in_book book c.args.uid.now = lookup_is _ _ _ _ _ _ (c.as_version_and_card.ensures
    ∙ sym live) cards c.number.ensures in
    let due = removal_number_in c.args.limits c.args.uid.now c.args.expect book in
    let said : c.from_residual-in_err-number.result ≡ Err (Refused c.in_err-number.field-0.0) =
    search rules in
    subst (λ r. FollowsStep IsExactly r due) (sym said)
    (refusal_is_exact due c.in_err-number.field-0.0
    (ap (λ (f : FoundMember). remove_number c.args.limits f c.args.expect) (sym same)
    ∙ sym c.in_err-number.ensures.number))

pub returns-clause-answers : goal.returns-clause-answers
returns-clause-answers g c rows clean holds sound name =
    let book = row_book rows (line_row name c.args.header) in
    let live : live_at book c.args.uid.now ≡ c.in_ok-live.live =
    c.in_ok-live.ensures.live rows clean holds sound name in
    let cards : c.live.result ≡ live_count c.args.header.counts = search rules in
    let same : lookup_of (as_stored c.as_version_and_card.result) c.live.result c.number.result
    ≡ found_in_book book c.args.uid.now = lookup_is _ _ _ _ _ _ (c.as_version_and_card.ensures
    ∙ sym live) cards c.number.ensures in
    let due = removal_number_in c.args.limits c.args.uid.now c.args.expect book in
    ok_is_exact due c.in_ok-number.number
    (ap (λ (f : FoundMember). remove_number c.args.limits f c.args.expect) (sym same)
    ∙ sym c.in_ok-number.ensures.number)

pub returns-clause-number_fits : goal.returns-clause-number_fits
returns-clause-number_fits g c =
    let number : c.number.result ≡ c.args.header.number = c.number.ensures in
    let room = removal_room c.args.limits (lookup_of (as_stored c.as_version_and_card.result)
    c.live.result c.number.result) c.args.expect c.in_ok-number.number
    (sym c.in_ok-number.ensures.number) in
    let value = c.changes_max-most.ensures.value in
    let most = c.changes_max-most.ensures.most in
    omega (arith, number, room, value, most)

pub returns-in_err-live-clause-store_fault : goal.returns-in_err-live-clause-store_fault
returns-in_err-live-clause-store_fault g c fits rows clean holds faultless =
    passed_cause c.from_residual.result c.in_err-live.field-0.0 _ c.from_residual.ensures.1
    (c.in_err-live.ensures.store_fault fits rows clean holds faultless)

pub returns-in_err-number-clause-store_fault : goal.returns-in_err-number-clause-store_fault
returns-in_err-number-clause-store_fault g c fits rows clean holds faultless =
    refused_cause c.from_residual-in_err-number.result c.in_err-number.field-0.0 _ (search rules)
