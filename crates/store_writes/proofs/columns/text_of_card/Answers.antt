use Rattle.std.proofs.Common.{rules, ◌≡◌, Ok, string_bytes, sym, ap, subst, IsUtf8}
use Rattle.store_lookups.proofs.StoreFaultLemmas.{canonical_utf8}
use Rattle.vcard_text.specs.CardOfText.{card_of_text}
use Rattle.store_rows.specs.Values.{lines_or_none, IsCanonical}
use Rattle.store_writes.proofs.columns.text_of_card.Goals as goal

pub returns-in-Ok-clause-reads_back : goal.returns-in-Ok-clause-reads_back
returns-in-Ok-clause-reads_back c =
    let octets : string_bytes c.in-Ok.text ≡ c.in_ok-write_card.field-0.items = search rules in
    ap lines_or_none (subst (λ text. card_of_text text ≡ Ok c.args.card.now) (sym octets)
    ((c.card_is_computed.ensures _ _).0 c.in_ok-write_card.ensures.read_back))

pub returns-in-Ok-clause-is_canonical : goal.returns-in-Ok-clause-is_canonical
returns-in-Ok-clause-is_canonical c =
    let octets : string_bytes c.in-Ok.text ≡ c.in_ok-write_card.field-0.items = search rules in
    subst IsCanonical (sym octets) (record {
      lines = c.args.card.now;
      spelled = (c.card_is_computed.ensures _ _).0 c.in_ok-write_card.ensures.read_back;
      canonical = c.in_ok-write_card.ensures.text;
    })

pub returns-clause-memory : goal.returns-clause-memory
returns-clause-memory c =
    let octets = c.in_ok-write_card.ensures.text in
    let spelled = (c.card_is_computed.ensures _ _).0 c.in_ok-write_card.ensures.read_back in
    let utf8 : IsUtf8 c.in_ok-write_card.field-0.items =
    canonical_utf8 c.in_ok-write_card.field-0.items (record {
      lines = c.args.card.now;
      spelled = spelled;
      canonical = octets;
    }) in
    absurd (search rules)
