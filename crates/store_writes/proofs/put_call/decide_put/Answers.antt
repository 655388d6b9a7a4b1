-- The decision about a put is the model's, on what the book has under the card's UID.
-- Given here: the look-up that the code fills in is `found_in_book`. Its live card, and whether
-- there is a tombstone, come from the state of the member (`live_state`, `tombstone_state`), its
-- number of cards from the header's counts. A put that stores is below the limit of changes
-- (`put_room`). A new field of `MemberLookup` breaks `lookup_is` first.
use Rattle.std.proofs.Common.{rules, ◌≡◌, Bool, Ok, Err, sym, ap, subst, ◌∙◌, arith}
use Rattle.store_lookups.proofs.FindLemmas.{live_state, tombstone_state}
use Rattle.store_lookups.proofs.StoreFaultLemmas.{passed_cause}
use Rattle.store_lookups.specs.MemberStates.{is_tombstone_state, live_card, member_state}
use Rattle.store_writes.proofs.NumberLemmas.{put_room}
use Rattle.store_writes.proofs.TransactionFaults.{refused_cause}
use Rattle.book_model.specs.declared.answers.PutAnswer.{PutAnswer}
use Rattle.book_model.specs.declared.denied.Denied.TheVariants.{Refused}
use Rattle.book_model.specs.Books.{live_at, as_stored}
use Rattle.book_model.specs.Counting.{live_count}
use Rattle.book_model.specs.Putting.{found_in_book, put_answer}
use Rattle.store_lookups.specs.CallResults.{FollowsStep, IsExactly}
use Rattle.store_rows.specs.TableBooks.{row_book, line_row}
use Rattle.vcard_text.specs.Cards.{uid_of}
use Rattle.store_writes.proofs.PlanLemmas.{answer_is, denied_follows, lookup_is, lookup_of}
use Rattle.store_writes.proofs.PlanLemmas.{ok_is_first, refusal_is_exact}
use Rattle.store_writes.proofs.put_call.decide_put.Goals as goal

pub returns-in_err-answer-clause-answers : goal.returns-in_err-answer-clause-answers
returns-in_err-answer-clause-answers g c rows clean holds sound name =
    let book = row_book rows (line_row name c.args.header) in
    let uid = uid_of c.args.card.now in
    let state : member_state book uid ≡ c.in_ok-state.state =
    rw c.uid.ensures at (c.in_ok-state.ensures.state rows clean holds sound name) in
    let live : live_at book uid ≡ live_card c.in_ok-state.state = sym (live_state book uid)
    ∙ ap live_card state in
    let cards : c.live-2.result ≡ live_count c.args.header.counts = search rules in
    let same : lookup_of (as_stored c.live.result) c.live-2.result c.number.result
    ≡ found_in_book book uid = lookup_is _ _ _ _ _ _ (c.live.ensures
    ∙ sym live) cards c.number.ensures in
    let due = put_answer c.args.limits (found_in_book book uid) c.args.card.now c.args.expect in
    let said : c.from_residual-in_err-answer.result ≡ Err (Refused c.in_err-answer.field-0.0) =
    search rules in
    let refused = refusal_is_exact due c.in_err-answer.field-0.0
    (answer_is c.args.limits c.args.card.now c.args.expect _ _ (Err c.in_err-answer.field-0.0)
    same c.in_err-answer.ensures.answer) in
    subst (λ r. FollowsStep (λ answer decided. decided.0 ≡ answer) r due) (sym said)
    (denied_follows {A = PutAnswer} {B = PutAnswer × Bool} IsExactly
    (λ answer decided. decided.0 ≡ answer) due (Refused c.in_err-answer.field-0.0) refused)

pub returns-clause-answers : goal.returns-clause-answers
returns-clause-answers g c rows clean holds sound name =
    let book = row_book rows (line_row name c.args.header) in
    let uid = uid_of c.args.card.now in
    let state : member_state book uid ≡ c.in_ok-state.state =
    rw c.uid.ensures at (c.in_ok-state.ensures.state rows clean holds sound name) in
    let live : live_at book uid ≡ live_card c.in_ok-state.state = sym (live_state book uid)
    ∙ ap live_card state in
    let cards : c.live-2.result ≡ live_count c.args.header.counts = search rules in
    let same : lookup_of (as_stored c.live.result) c.live-2.result c.number.result
    ≡ found_in_book book uid = lookup_is _ _ _ _ _ _ (c.live.ensures
    ∙ sym live) cards c.number.ensures in
    ok_is_first _ (c.in_ok-answer.answer, c.is_tombstone.result)
    (answer_is c.args.limits c.args.card.now c.args.expect _ _ (Ok c.in_ok-answer.answer) same
    c.in_ok-answer.ensures.answer)

pub returns-clause-tombstone : goal.returns-clause-tombstone
returns-clause-tombstone g c rows clean holds sound name =
    let book = row_book rows (line_row name c.args.header) in
    let uid = uid_of c.args.card.now in
    let state : member_state book uid ≡ c.in_ok-state.state =
    rw c.uid.ensures at (c.in_ok-state.ensures.state rows clean holds sound name) in
    sym (tombstone_state book uid) ∙ ap is_tombstone_state state ∙ sym c.is_tombstone.ensures

pub returns-clause-number_fits : goal.returns-clause-number_fits
returns-clause-number_fits g c some =
    let number : c.number.result ≡ c.args.header.number = c.number.ensures in
    let room = put_room c.args.limits (lookup_of (as_stored c.live.result) c.live-2.result
    c.number.result) c.args.card.now c.args.expect c.in_ok-answer.answer
    (sym c.in_ok-answer.ensures.answer) some in
    let value = c.changes_max-most.ensures.value in
    let most = c.changes_max-most.ensures.most in
    omega (arith, number, room, value, most)

pub returns-in_err-state-clause-store_fault : goal.returns-in_err-state-clause-store_fault
returns-in_err-state-clause-store_fault g c fits rows clean holds faultless =
    passed_cause c.from_residual.result c.in_err-state.field-0.0 _ c.from_residual.ensures.1
    (c.in_err-state.ensures.store_fault fits rows clean holds faultless)

pub returns-in_err-answer-clause-store_fault : goal.returns-in_err-answer-clause-store_fault
returns-in_err-answer-clause-store_fault g c fits rows clean holds faultless =
    refused_cause c.from_residual-in_err-answer.result c.in_err-answer.field-0.0 _ (search rules)
