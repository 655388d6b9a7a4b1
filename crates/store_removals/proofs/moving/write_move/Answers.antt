use Rattle.std.proofs.Common.{rules, ◌≡◌, string_bytes, subst, sym}
use Rattle.vcard_text.specs.Cards.{canonical_text}
use Rattle.store_writes.proofs.AcceptLemmas.{card_text_short}
use Rattle.store_writes.proofs.TransactionFaults.{memory_cause}
use Rattle.store_rows.specs.Values.{IsTextOf}
use Rattle.store_removals.proofs.moving.write_move.Goals as goal

pub returns-clause-atomic : goal.returns-clause-atomic
returns-clause-atomic g c legal rows from to clean lines =
    let octets : c.as_str.result.now ≡ string_bytes c.in_ok-text.text = search rules in
    let is : IsTextOf c.as_str.result.now c.args.card.now =
    subst (λ t. IsTextOf t c.args.card.now) (sym octets)
    (record {
      canonical = c.in_ok-text.ensures.is_canonical;
      reads_back = c.in_ok-text.ensures.reads_back;
    }) in
    c.commit_move.ensures.atomic legal is rows from to clean lines

pub returns-clause-crash : goal.returns-clause-crash
returns-clause-crash g c legal rows from to lines =
    let octets : c.as_str.result.now ≡ string_bytes c.in_ok-text.text = search rules in
    let is : IsTextOf c.as_str.result.now c.args.card.now =
    subst (λ t. IsTextOf t c.args.card.now) (sym octets)
    (record {
      canonical = c.in_ok-text.ensures.is_canonical;
      reads_back = c.in_ok-text.ensures.reads_back;
    }) in
    c.commit_move.ensures.crash legal is rows from to lines

pub returns-in_err-text-clause-store_fault : goal.returns-in_err-text-clause-store_fault
returns-in_err-text-clause-store_fault g c from_fits to_fits drop_fits legal rows from to clean
    lines accept free =
    memory_cause c.from_residual.result c.in_err-text.field-0.0 _ c.from_residual.ensures.1
    c.in_err-text.ensures.memory

pub returns-clause-store_fault : goal.returns-clause-store_fault
returns-clause-store_fault g c from_fits to_fits drop_fits legal =
    let octets : c.as_str.result.now ≡ string_bytes c.in_ok-text.text = search rules in
    let is : IsTextOf c.as_str.result.now c.args.card.now =
    subst (λ t. IsTextOf t c.args.card.now) (sym octets)
    (record {
      canonical = c.in_ok-text.ensures.is_canonical;
      reads_back = c.in_ok-text.ensures.reads_back;
    }) in
    let text : c.as_str.result.now ≡ canonical_text c.args.card.now = search rules in
    c.commit_move.ensures.store_fault from_fits to_fits drop_fits legal
    (card_text_short c.args.card.now c.as_str.result.now c.lines-lines.ensures.rules text) is
