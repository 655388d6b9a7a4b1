use Rattle.vcard_text.proofs.TextLemmas.{card_is_computed}
use Rattle.vcard_text.proofs.laws.card_is_computed.Goals as goal

pub returns : goal.returns
returns c = card_is_computed
