-- The decision about a move is the model's, on what both books have under the UID.
-- Given here: each look-up that the code fills in is `found_in_book` of its book (`lookup_is`), so
-- the answer is the model's `move_answer`. It moves the card of the source's look-up, which is the
-- one that the last `match` finds (`some`). An accepted move is below the limit of changes in both
-- books (`move_rooms`), so both next numbers fit.
use Rattle.std.proofs.Common.{rules, ◌≡◌, Some, IfSome, Ok, Err, refl, sym, ap, ap₂, subst, ◌∙◌}
use Rattle.std.proofs.Common.{arith}
use Rattle.store_lookups.specs.MemberStates.{is_tombstone_state, live_card}
use Rattle.store_lookups.proofs.FindLemmas.{live_state, tombstone_state}
use Rattle.store_lookups.proofs.StoreFaultLemmas.{passed_cause}
use Rattle.store_writes.proofs.TransactionFaults.{refused_cause}
use Rattle.store_removals.proofs.FaultLemmas.{move_rooms}
use Rattle.book_model.specs.declared.denied.Denied.TheVariants.{Refused}
use Rattle.book_model.specs.Moving.{move_answer, moving_of}
use Rattle.book_model.specs.Putting.{FoundMember, as_found_member, found_in_book}
use Rattle.store_rows.specs.TableBooks.{row_book, line_row}
use Rattle.store_lookups.specs.CallResults.{FollowsStep}
use Rattle.store_removals.specs.internal.Moves.{moving_between_books}
use Rattle.store_removals.proofs.MoveLemmas.{IsMoving, refused_moving, moving_is_exact}
use Rattle.store_writes.proofs.PlanLemmas.{lookup_is}
use Rattle.store_removals.proofs.move_call.decide_move.Goals as goal

pub returns-in_err-moved-clause-answers : goal.returns-in_err-moved-clause-answers
returns-in_err-moved-clause-answers g c rows clean holds sound from to =
    let book = row_book rows (line_row from c.args.source) in
    let other = row_book rows (line_row to c.args.target) in
    let found = c.in_ok-here.ensures.found rows clean holds sound from to in
    let same : as_found_member c.lookup_in-found.result ≡ found_in_book book c.args.uid.now =
    c.lookup_in-found.ensures ∙ lookup_is _ _ _ _ _ _ (c.as_version_and_card.ensures
    ∙ sym found.0) refl refl in
    let alike : as_found_member c.lookup_in-other.result ≡ found_in_book other c.args.uid.now =
    c.lookup_in-other.ensures ∙ lookup_is _ _ _ _ _ _ (c.live.ensures
    ∙ sym (ap live_card found.1) ∙ live_state other c.args.uid.now) refl refl in
    let is : moving_between_books c.args.limits c.args.uid.now c.args.expect book other
    ≡ Err c.in_err-moved.field-0.0 =
    ap₂ (λ (a b : FoundMember). move_answer c.args.limits a b c.args.expect) (sym same)
    (sym alike) ∙ c.in_err-moved.ensures.refusal in
    let said : c.from_residual-in_err-moved.result ≡ Err (Refused c.in_err-moved.field-0.0) =
    search rules in
    subst (λ r. FollowsStep IsMoving r (moving_between_books c.args.limits c.args.uid.now
    c.args.expect book other)) (sym said) (refused_moving _ c.in_err-moved.field-0.0 is)

pub returns-in-Some-clause-answers : goal.returns-in-Some-clause-answers
returns-in-Some-clause-answers g c rows clean holds sound from to =
    let book = row_book rows (line_row from c.args.source) in
    let other = row_book rows (line_row to c.args.target) in
    let found = c.in_ok-here.ensures.found rows clean holds sound from to in
    let same : as_found_member c.lookup_in-found.result ≡ found_in_book book c.args.uid.now =
    c.lookup_in-found.ensures ∙ lookup_is _ _ _ _ _ _ (c.as_version_and_card.ensures
    ∙ sym found.0) refl refl in
    let alike : as_found_member c.lookup_in-other.result ≡ found_in_book other c.args.uid.now =
    c.lookup_in-other.ensures ∙ lookup_is _ _ _ _ _ _ (c.live.ensures
    ∙ sym (ap live_card found.1) ∙ live_state other c.args.uid.now) refl refl in
    let stored = c.in-Some.stored in
    let some : (as_found_member c.lookup_in-found.result).live ≡ Some stored =
    ap (λ (f : FoundMember). f.live) c.lookup_in-found.ensures ∙ c.as_version_and_card.ensures
    ∙ c.in-Some.is in
    let asked : move_answer c.args.limits (as_found_member c.lookup_in-found.result)
    (as_found_member c.lookup_in-other.result) c.args.expect
    ≡ Ok (moving_of stored.card c.in_ok-moved.moved) =
    subst (λ o. IfSome o (λ s. move_answer c.args.limits (as_found_member c.lookup_in-found.result)
    (as_found_member c.lookup_in-other.result) c.args.expect
    ≡ Ok (moving_of s.card c.in_ok-moved.moved))) some c.in_ok-moved.ensures.answer in
    let is : moving_between_books c.args.limits c.args.uid.now c.args.expect book other
    ≡ Ok (moving_of stored.card c.in_ok-moved.moved) =
    ap₂ (λ (a b : FoundMember). move_answer c.args.limits a b c.args.expect) (sym same)
    (sym alike) ∙ asked in
    moving_is_exact _ (stored.card, c.in_ok-moved.moved, c.is_tombstone.result) is

pub returns-in-Some-clause-tombstone : goal.returns-in-Some-clause-tombstone
returns-in-Some-clause-tombstone g c rows clean holds sound to =
    let other = row_book rows (line_row to c.args.target) in
    let found = c.in_ok-here.ensures.found rows clean holds sound to to in
    sym (tombstone_state other c.args.uid.now) ∙ ap is_tombstone_state found.1
    ∙ sym c.is_tombstone.ensures

pub returns-in-Some-clause-source_number_fits : goal.returns-in-Some-clause-source_number_fits
returns-in-Some-clause-source_number_fits g c =
    let stored = c.in-Some.stored in
    let source = as_found_member c.lookup_in-found.result in
    let target = as_found_member c.lookup_in-other.result in
    let some : source.live ≡ Some stored =
    ap (λ (f : FoundMember). f.live) c.lookup_in-found.ensures ∙ c.as_version_and_card.ensures
    ∙ c.in-Some.is in
    let asked : move_answer c.args.limits source target c.args.expect
    ≡ Ok (moving_of stored.card c.in_ok-moved.moved) =
    subst (λ o. IfSome o (λ s. move_answer c.args.limits source target c.args.expect
    ≡ Ok (moving_of s.card c.in_ok-moved.moved))) some c.in_ok-moved.ensures.answer in
    let rooms = move_rooms c.args.limits source target c.args.expect
    (moving_of stored.card c.in_ok-moved.moved) asked in
    let value = c.changes_max-most.ensures.value in
    let most = c.changes_max-most.ensures.most in
    let number : source.number ≡ c.args.source.number =
    ap (λ (f : FoundMember). f.number) c.lookup_in-found.ensures in
    let room = rooms.0 in
    omega (arith, number, room, value, most)

pub returns-in-Some-clause-target_number_fits : goal.returns-in-Some-clause-target_number_fits
returns-in-Some-clause-target_number_fits g c =
    let stored = c.in-Some.stored in
    let source = as_found_member c.lookup_in-found.result in
    let target = as_found_member c.lookup_in-other.result in
    let some : source.live ≡ Some stored =
    ap (λ (f : FoundMember). f.live) c.lookup_in-found.ensures ∙ c.as_version_and_card.ensures
    ∙ c.in-Some.is in
    let asked : move_answer c.args.limits source target c.args.expect
    ≡ Ok (moving_of stored.card c.in_ok-moved.moved) =
    subst (λ o. IfSome o (λ s. move_answer c.args.limits source target c.args.expect
    ≡ Ok (moving_of s.card c.in_ok-moved.moved))) some c.in_ok-moved.ensures.answer in
    let rooms = move_rooms c.args.limits source target c.args.expect
    (moving_of stored.card c.in_ok-moved.moved) asked in
    let value = c.changes_max-most.ensures.value in
    let most = c.changes_max-most.ensures.most in
    let number : target.number ≡ c.args.target.number =
    ap (λ (f : FoundMember). f.number) c.lookup_in-other.ensures in
    let room = rooms.1 in
    omega (arith, number, room, value, most)

pub returns-in_err-here-clause-store_fault : goal.returns-in_err-here-clause-store_fault
returns-in_err-here-clause-store_fault g c target source rows clean holds faultless =
    passed_cause c.from_residual.result c.in_err-here.field-0.0 _ c.from_residual.ensures.1
    (c.in_err-here.ensures.store_fault target source rows clean holds faultless)

pub returns-in_err-moved-clause-store_fault : goal.returns-in_err-moved-clause-store_fault
returns-in_err-moved-clause-store_fault g c target source rows clean holds faultless =
    refused_cause c.from_residual-in_err-moved.result c.in_err-moved.field-0.0 _ (search rules)
