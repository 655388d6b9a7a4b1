use Rattle.store_rows.proofs.StripLemmas.{not_whole}
use Rattle.vcard_text.specs.Cards.{canonical_text}
use Rattle.store_rows.proofs.canonical.is_canonical_text.Goals as goal

pub returns-in-None : goal.returns-in-None
returns-in-None c =
    not_whole c.as_bytes.result.now c.args.text.now (canonical_text c.args.card.now)
    c.in_ok-rest.field-0 c.as_bytes.ensures.value c.in_ok-rest.ensures c.in-None.is
