-- One card of an import is written under the book's next number, but not the book's own row.
-- Given here: the columns are the numbers of the header (`back_of`), and the member is one change
-- more in the book that is being written (`put_wrote`). `likely_new` only chooses which statement
-- is tried first, so nothing here depends on it. For faults: the table accepts the card, as its
-- number is unused and its rules keep its texts short (`accepts_card`).
use Rattle.std.proofs.Common.{rules, ◌≡◌, ◌+◌, Some, option_copied, option_map, string_bytes, pos}
use Rattle.std.proofs.Common.{to_z, of_z, w64, sym, ap, subst, arith, IsUtf8}
use Rattle.vcard_text.specs.Cards.{canonical_text}
use Rattle.store_tables.specs.Acceptance.{AcceptsMember}
use Rattle.store_writes.proofs.AcceptLemmas.{card_text_short, card_uid_short}
use Rattle.store_writes.proofs.TransactionFaults.{error_faults, memory_cause}
use Rattle.store_inserts.proofs.ImportFaults.{accepts_card, spares_imports}
use Rattle.sqlite.specs.Held.{state}
use Rattle.book_model.specs.declared.change.Change.TheVariants.{Stores}
use Rattle.store_tables.specs.SchemaCreation.{HoldsInTx}
use Rattle.store_tables.specs.Members.{PutsRow}
use Rattle.vcard_text.specs.Cards.{uid_of}
use Rattle.book_model.specs.BookChanges.{card_after}
use Rattle.store_rows.specs.ChangeLaws.{IsRowOfChange}
use Rattle.store_rows.specs.Values.{IsCanonical, IsLegalUid, text_card}
use Rattle.store_rows.proofs.UidLemmas.{card_uid_legal}
use Rattle.store_lookups.proofs.FindLemmas.{back_of}
use Rattle.store_inserts.specs.internal.Importing.{WritesBook, planned_pair, book_with_pair}
use Rattle.store_inserts.proofs.WroteLemmas.{put_wrote}
use Rattle.store_inserts.proofs.importing.write_next_card.Goals as goal

pub returns-in-Ok-clause-next_header : goal.returns-in-Ok-clause-next_header
returns-in-Ok-clause-next_header g c = c.after_storing.ensures c.args.stored.card.now

pub returns-in-Ok-clause-book_after : goal.returns-in-Ok-clause-book_after
returns-in-Ok-clause-book_after g c rows name book clean inside wrote =
    let old = state g.S.Store c.args.tx.now.conn.now in
    let new = state g.S.Store c.put_planned.new.tx.conn.now in
    let header = c.args.header in
    let change = Stores c.args.stored.card.now c.args.stored.why in
    let text = option_copied (Some c.as_str.result) in
    let id : to_z w64 (of_z w64 c.in_ok-id.id) ≡ pos header.id =
    back_of c.in_ok-id.id c.id.result header.id c.in_ok-id.ensures.ok c.in_ok-id.ensures.fits
    c.id.ensures in
    let at : to_z w64 (of_z w64 c.in_ok-changed.changed) ≡ pos (header.number + 1) =
    back_of c.in_ok-changed.changed (c.number.result + 1) (header.number + 1)
    c.in_ok-changed.ensures.ok c.in_ok-changed.ensures.fits
    (ap (λ k. k + 1) c.number.ensures) in
    let octets : c.as_str.result.now ≡ string_bytes c.in_ok-text.text = search rules in
    let card : option_map text_card (Some c.as_str.result.now) ≡ card_after change = search rules in
    let legal : IsLegalUid (uid_of c.args.stored.card.now) =
    record {
      utf8 = subst IsUtf8 c.uid.ensures c.uid.utf8;
      legal = card_uid_legal c.args.stored.card.now c.lines-lines.ensures.rules;
    } in
    let is : IsRowOfChange (uid_of c.args.stored.card.now) text change =
    record {
      legal = legal;
      canonical = subst IsCanonical (sym octets)
          c.in_ok-text.ensures.is_canonical;
      card = card;
    } in
    let put = rw c.uid.ensures at ((c.in-Ok.ensures.changes wrote.now.members clean inside
    wrote.holds.schema wrote.within.sound.members wrote.holds.members).puts) in
    let there = subst (λ z. PutsRow new.now.trees (pos header.id) (uid_of c.args.stored.card.now) z
    text wrote.now.members) at (subst (λ z. PutsRow new.now.trees z
    (uid_of c.args.stored.card.now) (to_z w64 (of_z w64 c.in_ok-changed.changed)) text
    wrote.now.members) id put) in
    subst (λ next. HoldsInTx new (λ db. WritesBook db rows name next
    (book_with_pair book (planned_pair c.args.stored))))
    (sym (c.after_storing.ensures c.args.stored.card.now))
    (put_wrote old new rows name header book (uid_of c.args.stored.card.now) text change wrote is
    there (c.in-Ok.ensures.writes wrote.now.members clean inside wrote.holds.schema
    wrote.within.sound.members wrote.holds.members))

pub returns-in-Ok-clause-obeys : goal.returns-in-Ok-clause-obeys
returns-in-Ok-clause-obeys g c rows name book clean inside wrote obeys =
    (c.in-Ok.ensures.writes wrote.now.members clean inside wrote.holds.schema
    wrote.within.sound.members wrote.holds.members).obeys

pub returns-in-Ok-clause-takes_ids : goal.returns-in-Ok-clause-takes_ids
returns-in-Ok-clause-takes_ids g c rows name book clean inside wrote =
    let old = state g.S.Store c.args.tx.now.conn.now in
    let new = state g.S.Store c.put_planned.new.tx.conn.now in (
      (c.in-Ok.ensures.changes wrote.now.members clean inside wrote.holds.schema
          wrote.within.sound.members wrote.holds.members).takes_one_id,
      spares_imports old.now.trees new.now.trees (c.in-Ok.ensures.writes wrote.now.members clean
          inside wrote.holds.schema wrote.within.sound.members wrote.holds.members).other_tables,
    )

-- ---- faults

pub returns-in_err-text-clause-store_fault : goal.returns-in_err-text-clause-store_fault
returns-in_err-text-clause-store_fault g c rows name book accepts clean inside obeys =
    memory_cause c.from_residual.result c.in_err-text.field-0.0 _ c.from_residual.ensures.1
    c.in_err-text.ensures.memory

pub returns-in_err-id-clause-store_fault : goal.returns-in_err-id-clause-store_fault
returns-in_err-id-clause-store_fault g c rows name book accepts clean inside obeys =
    let fits = accepts.id in
    let great = c.in_err-id.ensures.too_great in
    let is = c.id.ensures in
    absurd (omega (arith, fits, great, is))

pub returns-in_err-changed-clause-store_fault : goal.returns-in_err-changed-clause-store_fault
returns-in_err-changed-clause-store_fault g c rows name book accepts clean inside obeys =
    let fits = c.requires in
    let great = c.in_err-changed.ensures.too_great in
    let is = c.number.ensures in
    absurd (omega (arith, fits, great, is))

pub returns-clause-store_fault : goal.returns-clause-store_fault
returns-clause-store_fault g c rows name book accepts clean inside obeys =
    let old = state g.S.Store c.args.tx.now.conn.now in
    let wrote = accepts.wrote in
    let card = c.args.stored.card.now in
    let rules_of = c.lines-lines.ensures.rules in
    let id : to_z w64 (of_z w64 c.in_ok-id.id) ≡ pos c.args.header.id =
    back_of c.in_ok-id.id c.id.result c.args.header.id c.in_ok-id.ensures.ok
    c.in_ok-id.ensures.fits c.id.ensures in
    let at : to_z w64 (of_z w64 c.in_ok-changed.changed) ≡ pos (c.args.header.number + 1) =
    back_of c.in_ok-changed.changed (c.number.result + 1) (c.args.header.number + 1)
    c.in_ok-changed.ensures.ok c.in_ok-changed.ensures.fits
    (ap (λ k. k + 1) c.number.ensures) in
    let text : c.as_str.result.now ≡ canonical_text card = search rules in
    let member = accepts_card old.now rows name c.args.header book wrote accepts.known (uid_of card)
    c.as_str.result.now (card_uid_short card rules_of) (card_text_short card c.as_str.result.now
    rules_of text) in
    let ready = subst (λ z. AcceptsMember wrote.now.books wrote.now.members
    (to_z w64 (of_z w64 c.in_ok-id.id)) (uid_of card) z (Some c.as_str.result.now)) (sym at)
    (subst (λ z. AcceptsMember wrote.now.books wrote.now.members z (uid_of card)
    (pos (c.args.header.number + 1)) (Some c.as_str.result.now)) (sym id) member) in
    error_faults c.in-Err.error c.fault_of.result _ c.fault_of.ensures.value
    (c.in-Err.ensures.fails_from_outside wrote.now.members clean inside wrote.holds.schema
    wrote.within.sound.members wrote.holds.members wrote.now.books wrote.holds.books
    accepts.free_ids (rw c.uid.ensures ready) clean inside wrote.holds.schema obeys)
