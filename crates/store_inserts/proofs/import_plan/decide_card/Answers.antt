use Rattle.std.proofs.Common.{◌≡◌, sym, ap, ◌∙◌}
use Rattle.store_lookups.proofs.FindLemmas.{live_state, tombstone_state}
use Rattle.store_lookups.proofs.StoreFaultLemmas.{passed_cause}
use Rattle.store_lookups.specs.MemberStates.{is_tombstone_state, live_card, member_state}
use Rattle.vcard_text.specs.Cards.{uid_of}
use Rattle.book_model.specs.Books.{live_at}
use Rattle.book_model.specs.Importing.{import_reason}
use Rattle.store_rows.specs.TableBooks.{row_book, line_row}
use Rattle.store_inserts.proofs.import_plan.decide_card.Goals as goal

pub returns-clause-reason : goal.returns-clause-reason
returns-clause-reason g c rows clean holds sound name =
    let book = row_book rows (line_row name c.args.header) in
    let uid = uid_of c.args.card.now in
    let state : member_state book uid ≡ c.in_ok-state.state =
    rw c.uid.ensures at (c.in_ok-state.ensures.state rows clean holds sound name) in
    let live : live_at book uid ≡ live_card c.in_ok-state.state = sym (live_state book uid)
    ∙ ap live_card state in
    c.reason_to_import.ensures ∙ ap (import_reason c.args.card.now) (c.live.ensures ∙ sym live)

pub returns-clause-tombstone : goal.returns-clause-tombstone
returns-clause-tombstone g c rows clean holds sound name =
    let book = row_book rows (line_row name c.args.header) in
    let uid = uid_of c.args.card.now in
    let state : member_state book uid ≡ c.in_ok-state.state =
    rw c.uid.ensures at (c.in_ok-state.ensures.state rows clean holds sound name) in
    sym (tombstone_state book uid) ∙ ap is_tombstone_state state ∙ sym c.is_tombstone.ensures

pub returns-in_err-state-clause-store_fault : goal.returns-in_err-state-clause-store_fault
returns-in_err-state-clause-store_fault g c fits rows clean holds faultless =
    passed_cause c.from_residual.result c.in_err-state.field-0.0 _ c.from_residual.ensures.1
    (c.in_err-state.ensures.store_fault fits rows clean holds faultless)
