-- A card is written as the next change of its book, in one transaction.
-- Given here: the columns are the numbers of the header after the change, since `column_of` loses
-- nothing of a number that fits (`back_of`). For faults: numbers of rows that can be changed fit
-- (`header_fits`), and the table accepts the member, as its number is unused and the rules of a
-- card keep its UID and its text short (`accepts_member`).
use Rattle.std.proofs.Common.{rules, ◌≡◌, ◌+◌, Some, option_copied, option_map, pos, string_bytes}
use Rattle.std.proofs.Common.{to_z, of_z, w64, ap, arith, subst, sym}
use Rattle.vcard_text.specs.Cards.{canonical_text, uid_of}
use Rattle.store_lookups.proofs.ChangeFaultLemmas.{header_fits}
use Rattle.store_writes.specs.AcceptedChanges.{AcceptsMemberOf}
use Rattle.store_writes.proofs.AcceptLemmas.{accepts_member, card_text_short, card_uid_short}
use Rattle.store_writes.proofs.TransactionFaults.{mapped_faults, memory_cause}
use Rattle.book_model.specs.declared.change.Change.{Change}
use Rattle.book_model.specs.declared.change.Change.TheVariants.{Stores}
use Rattle.sqlite.specs.Held.{state}
use Rattle.book_model.specs.BookChanges.{card_after}
use Rattle.store_rows.specs.ChangeLaws.{IsRowOfChange, header_after}
use Rattle.store_rows.specs.Values.{IsCanonical, text_card}
use Rattle.store_rows.proofs.UidLemmas.{card_uid_legal}
use Rattle.store_lookups.proofs.FindLemmas.{back_of}
use Rattle.store_writes.specs.TableChanges.{AreHeaderColumns}
use Rattle.store_writes.proofs.ChangeLemmas.{mapped_atomic}
use Rattle.store_writes.proofs.putting.write_put.Given as given
use Rattle.store_writes.proofs.putting.write_put.Goals as goal
use Rattle.store_writes.proofs.putting.write_put.Goals.{After-commit_member}

-- what the clauses share: the change, and its columns
module _ (g : given.Over) (c : After-commit_member g) where
  abbrev change : Change
  change = Stores c.args.card.now c.args.why

  text_is : IsRowOfChange c.uid.result.now (option_copied (Some c.as_str.result)) change
  text_is =
      let octets : c.as_str.result.now ≡ string_bytes c.in_ok-text.text = search rules in
      let card : option_map text_card (Some c.as_str.result.now) ≡ card_after change =
      search rules in
      record {
        legal = record {
          utf8 = c.uid.utf8;
          legal = rw c.uid.ensures (card_uid_legal c.args.card.now c.lines-lines.ensures.rules);
        };
        canonical = subst IsCanonical (sym octets) c.in_ok-text.ensures.is_canonical;
        card = card;
      }

  changed_is : to_z w64 (of_z w64 c.in_ok-changed.changed) ≡ pos (c.args.header.number + 1)
  changed_is = back_of c.in_ok-changed.changed (c.number.result + 1) (c.args.header.number + 1)
      c.in_ok-changed.ensures.ok c.in_ok-changed.ensures.fits (ap (λ k. k + 1) c.number.ensures)

  columns : AreHeaderColumns (header_after change c.args.header) (to_z w64 (of_z w64 c.in_ok-id.id))
      c.in_ok-numbers.numbers
  columns = record {
    id_is = back_of c.in_ok-id.id c.id.result c.args.header.id
        c.in_ok-id.ensures.ok c.in_ok-id.ensures.fits c.id.ensures;
    numbers = search rules;
  }

pub returns-clause-atomic : goal.returns-clause-atomic
returns-clause-atomic g c rows name clean line =
    let p = (goal.at.returns-clause-atomic g c).After-commit_member in
    mapped_atomic (state g.S.Store c.args.conn.now) (state g.S.Store c.commit_member.new.conn)
    c.commit_member.result c.map_err.result _ _ c.map_err.ensures.cases
    (rw c.uid.ensures at (c.commit_member.ensures.atomic c.args.header (change g p) (changed_is g p)
    (text_is g p) (columns g p) rows name clean line))

pub returns-clause-crash : goal.returns-clause-crash
returns-clause-crash g c rows name line =
    let p = (goal.at.returns-clause-crash g c).After-commit_member in
    rw c.uid.ensures at (c.commit_member.ensures.crash c.args.header (change g p) (changed_is g p)
    (text_is g p) (columns g p) rows name line)

-- ---- faults

pub returns-in_err-text-clause-store_fault : goal.returns-in_err-text-clause-store_fault
returns-in_err-text-clause-store_fault g c fits rows name clean holds accept free there =
    memory_cause c.from_residual.result c.in_err-text.field-0.0 _ c.from_residual.ensures.1
    c.in_err-text.ensures.memory

pub returns-in_err-numbers-clause-store_fault : goal.returns-in_err-numbers-clause-store_fault
returns-in_err-numbers-clause-store_fault g c fits rows name clean holds accept free there =
    memory_cause c.from_residual-in_err-numbers.result c.in_err-numbers.field-0.0 _
    c.from_residual-in_err-numbers.ensures.1 (c.in_err-numbers.ensures.memory fits)

pub returns-in_err-id-clause-store_fault : goal.returns-in_err-id-clause-store_fault
returns-in_err-id-clause-store_fault g c fits rows name clean holds accept free there =
    let low = (header_fits rows name c.args.header accept there).id in
    let great = c.in_err-id.ensures.too_great in
    let is = c.id.ensures in
    absurd (omega (arith, low, great, is))

pub returns-in_err-changed-clause-store_fault : goal.returns-in_err-changed-clause-store_fault
returns-in_err-changed-clause-store_fault g c fits rows name clean holds accept free there =
    let great = c.in_err-changed.ensures.too_great in
    let is = c.number.ensures in
    absurd (omega (arith, fits, great, is))

pub returns-clause-store_fault : goal.returns-clause-store_fault
returns-clause-store_fault g c fits rows name clean holds accept free there =
    let p = (goal.at.returns-clause-store_fault g c).After-commit_member in
    let db = (state g.S.Store c.args.conn.now).now in
    let card = c.lines-lines.ensures.rules in
    let text : c.as_str.result.now ≡ canonical_text c.args.card.now = search rules in
    let member = accepts_member db rows name c.args.header (uid_of c.args.card.now)
    (Some c.as_str.result.now) holds accept free there (card_uid_short c.args.card.now card)
    (card_text_short c.args.card.now c.as_str.result.now card text) in
    let ready = subst (λ z. AcceptsMemberOf db rows name c.args.header (uid_of c.args.card.now) z
    (Some c.as_str.result.now)) (sym (changed_is g p)) member in
    mapped_faults c.commit_member.result c.map_err.result _ _ (λ e d h. search (rules, h))
    c.map_err.ensures.cases
    (c.commit_member.ensures.fails_from_outside c.args.header (change g p) (changed_is g p)
    (text_is g p) (columns g p) rows name (rw c.uid.ensures ready) clean holds.schema)
